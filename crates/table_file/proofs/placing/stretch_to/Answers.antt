use Rattle.std.proofs.Common.{ℕ, ◌+◌, ◌-◌, List, length, get_or, sym, ap, ◌∙◌, subst}
use Rattle.std.proofs.lemmas.List.{length-set}
use Rattle.analysis.specs.declared.task.Task.{Task}
use Rattle.planner.specs.Tables.{holds}
use Rattle.table_file.specs.Stored.{no_place, EachFits, StretchedTo}
use Rattle.table_file.proofs.Settled.{stretched, stretched_more}
use Rattle.table_file.proofs.placing.stretch_to.Goals as goal

pub loop-p-preserved : goal.loop-p-preserved
loop-p-preserved c =
    let m = holds c.loop-p.table in
    let ps = c.args.places.now in
    let i = c.loop-p.p-index in
    let v = c.loop-p.invariant in
    let l = c.loop-p-test.true in
    let fits : EachFits m.tasks ps = subst (λ (ts : List Task). EachFits ts ps) (sym v.1) c.requires.each in
    let e = stretched c.stretch.result m (holds c.stretch.new.self) ps i l fits c.stretch.ensures.call in (
      ap (λ x. x.cores) e ∙ v.0,
      ap (λ x. x.tasks) e ∙ v.1,
      ap (λ x. x.order) e ∙ v.2,
      ap (λ x. length x.lengths) e ∙ length-set m.lengths ((get_or ps i no_place).task - 1) (get_or ps i no_place).length ∙ v.3 ∙ sym (ap (λ x. length x.tasks) e),
      subst (λ (ls : List ℕ). StretchedTo ps (i + 1) ls) (sym (ap (λ x. x.lengths) e)) (stretched_more c.stretch.result m (holds c.stretch.new.self) ps i l fits v.3 v.4),
    )
