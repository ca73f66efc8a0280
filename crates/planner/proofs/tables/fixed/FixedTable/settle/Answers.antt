use Rattle.std.proofs.Common.{◌≡◌, length, take, replicate, vec_len, refl, ap, ◌∙◌, arith}
use Rattle.std.proofs.lemmas.List.{length-map}
use Rattle.planner.specs.Rows.{tasks}
use Rattle.planner.proofs.OnTables.{fixed_as}
use Rattle.planner.proofs.OnWrites.{take_replicate}
use Rattle.planner.proofs.tables.fixed.FixedTable.settle.Goals as goal

pub returns-clause-holds : goal.returns-clause-holds
returns-clause-holds g c =
    let s = c.args.self.now in
    let ts = tasks s.rows.items.items in
    let w = c.set.ensures in
    let n : vec_len s.rows.items ≡ length ts = omega (arith, length-map s.rows.items.items (λ r. r.task), s.rows.items.ok.0) in
    fixed_as c.args.marks.passed c.args.marks.bounded w.cores w.tasks
    refl
    (w.lengths ∙ ap (λ k. take k c.args.lengths.now) n)
    (w.bounds ∙ take_replicate (vec_len s.rows.items) 32 0 s.rows.few ∙ ap (λ k. replicate k 0) n)
