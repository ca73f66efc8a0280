use Rattle.std.proofs.Common.{Err, sym, refl, ap, ◌∙◌, arith}
use Rattle.std.proofs.lemmas.Bool.{eqb-true, eqb-false}
use Rattle.table_file.specs.Progress.{view}
use Rattle.table_file.proofs.Placed.{task_full, task_refused}
use Rattle.table_file.proofs.reader.Reader.take_task.Goals as goal

pub returns-then-is_full : goal.returns-then-is_full
returns-then-is_full c =
    let full = eqb-true _ _ (sym c.if-is_full.ensures.value) in
    (task_full (view c.args.self.now) c.args.fields.digits.now c.args.fields.line (omega arith) ∙ ap Err (sym c.of_line.ensures), refl)

pub returns-then-not-is_within_limits : goal.returns-then-not-is_within_limits
returns-then-not-is_within_limits c =
    let room = eqb-false _ _ (sym c.if-is_full.ensures.value) in (
      task_refused (view c.args.self.now) c.args.fields.digits.now c.args.fields.line (omega (arith, c.if-is_full.ensures.fits)) c.from-task.result c.from-task.ensures
          c.if-not-is_within_limits.ensures
          ∙ ap Err (sym c.of_line-then-not-is_within_limits.ensures),
      refl,
    )
