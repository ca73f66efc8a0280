use Rattle.std.proofs.Common.{get_or, ap, ◌∙◌}
use Rattle.analysis.specs.Rivals.{no_task, finish_limit, uppers, lowers}
use Rattle.analysis.specs.Bounds.{next_bound}
use Rattle.analysis.specs.Steps.{FirstKept}
use Rattle.analysis.proofs.Stood.{carried_over}
use Rattle.analysis.proofs.bounds.place_bound.Goals as goal

pub returns : goal.returns
returns g c =
    let a = c.args in
    let k = get_or a.tasks.now.ordered.order.now a.p 0 in
    let bs = a.bounds.now in
    let l = c.level.ensures in
    let e = c.place-place.ensures in
    carried_over (λ m t us ls. FirstKept (next_bound (g.R.Rule.meaning a.rule.now) m t.cost (get_or a.tasks.now.lengths.now k 0) us ls) t.cost (finish_limit t) c.own_bound.result)
    (e.cores ∙ ap (λ s. s.cores) l.set) (e.task ∙ ap (λ s. get_or s.tasks.now k no_task) l.set)
    (e.upper ∙ (λ i. uppers (l.set i).tasks.now bs (l.low i) k)) (e.lower ∙ (λ i. lowers (l.set i).tasks.now bs (l.lengths i) (l.low i) k)) c.own_bound.ensures
