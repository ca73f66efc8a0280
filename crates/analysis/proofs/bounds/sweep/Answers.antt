use Rattle.std.proofs.Common.{◌≡◌, length, get_or, arith, rules}
use Rattle.analysis.specs.Steps.{total}
use Rattle.analysis.specs.Words.{KeepsIn, LeastSolutionIn, Grows}
use Rattle.analysis.proofs.Fixpoint.{sweep_more, sweep_all}
use Rattle.analysis.proofs.BoundLaws.{rising_least}
use Rattle.analysis.proofs.bounds.sweep.Goals as goal

pub places-preserved : goal.places-preserved
places-preserved g c =
    let a = c.args in
    let t = a.tasks.now in
    let q = t.ordered.order.now in
    let v = c.places.invariant in
    let h = c.in_ok-raised.ensures in
    let sum = g.R.Rule.meaning a.rule.now in
    let s = sweep_more (λ bs. total (λ k. get_or bs k 0) (length t.ordered.set.tasks.now)) (λ bs i. KeepsIn sum t bs (get_or q i 0))
    (length q) a.bounds.now c.places.bounds c.raise.new.bounds c.places.p (omega arith) v.so_far c.places.changed c.in_ok-raised.raised v.changed h.1 in
    record { wide = search rules; rising = h.0; so_far = s.0; changed = s.1 }

pub returns : goal.returns
returns g c =
    let a = c.args in
    let t = a.tasks.now in
    let o = t.ordered in
    let s = o.set in
    let q = o.order.now in
    let v = c.places.invariant in
    let sum = g.R.Rule.meaning a.rule.now in
    let bs = c.places.bounds in (
      v.rising,
      sweep_all c.places.changed (Grows s a.bounds.now bs) (bs ≡ a.bounds.now) (LeastSolutionIn sum t bs) (λ i. KeepsIn sum t bs (get_or q i 0)) (length q) c.places.p (omega arith) v.changed
          (rising_least sum (g.met.R.Rule.laws a.rule.now) s.cores s.some s.most s.tasks.now s.limits s.few q t.lengths.now t.choice (o.whole, o.named) bs v.rising.0),
    )
