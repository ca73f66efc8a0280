use Rattle.std.proofs.Common.{◌+◌, ◌<◌, length, get_or, take, set, replicate, sym, refl, subst, arith}
use Rattle.std.proofs.lemmas.List.{take_more, take_all, length-set}
use Rattle.analysis.specs.Rivals.{cost_of}
use Rattle.analysis.specs.Steps.{FirstIs, InfeasibleByPlace, LeastByPlace, Greedy}
use Rattle.analysis.specs.Words.{test_of}
use Rattle.analysis.proofs.RivalLaws.{set_falls, ones_choice, part}
use Rattle.analysis.proofs.Greedy.{greedy_start, greedy_least, greedy_more, greedy_none, infeasible_more}
use Rattle.analysis.proofs.Fixpoint.{when_none}
use Rattle.analysis.proofs.ByTask.{least_all, infeasible_all}
use Rattle.analysis.proofs.Padding.{padded_new, padded_set}
use Rattle.analysis.proofs.lengths.lengths_by.Goals as goal

pub places-init : goal.places-init
places-init g c =
    let s = c.args.tasks.now.set in
    let ts = s.tasks.now in
    record {
      wide = refl;
      greedy = greedy_start (cost_of ts) (length ts) (test_of (g.R.Rule.meaning c.args.rule.now) s) (replicate 32 1) (ones_choice s);
      padded = padded_new (length ts) 32 1;
    }

pub returns-in_err-f : goal.returns-in_err-f
returns-in_err-f g c =
    let o = c.args.tasks.now in
    let s = o.set in
    let ts = s.tasks.now in
    let q = o.order.now in
    let p = c.places.p in
    let sum = g.R.Rule.meaning c.args.rule.now in
    let ok = test_of sum s in
    let k = get_or q p 0 in
    let lens = c.places.lengths in
    let named = o.named p c.places-test.true in
    when_none _ _ c.from_residual.ensures
    (infeasible_all (cost_of ts) (length ts) ok q (o.whole, o.named)
    (infeasible_more (cost_of ts) (length ts) ok q (p + 1) (omega (arith, c.places-test.true))
    (subst (λ l. InfeasibleByPlace (cost_of ts) (length ts) ok l) (sym (take_more q p 0 c.places-test.true))
    (greedy_none (cost_of ts) (length ts) ok (set_falls sum (g.met.R.Rule.laws c.args.rule.now) s) (take p q) lens c.places.invariant.greedy k named.0
    (λ f l h x. c.in_err-f.ensures f l h (subst (λ low. ok low k lens f) (sym (part p q refl)) x))))))

pub places-preserved : goal.places-preserved
places-preserved g c =
    let o = c.args.tasks.now in
    let s = o.set in
    let ts = s.tasks.now in
    let q = o.order.now in
    let p = c.places.p in
    let v = c.places.invariant in
    let sum = g.R.Rule.meaning c.args.rule.now in
    let ok = test_of sum s in
    let k = get_or q p 0 in
    let f = c.in_ok-f.f in
    let lens = c.places.lengths in
    let named = o.named p c.places-test.true in
    let room : k < length lens = omega (arith, named.0, s.few, v.wide) in
    let h : FirstIs (ok (take p q) k lens) (cost_of ts k) f = subst (λ low. FirstIs (ok low k lens) (cost_of ts k) f) (part p q refl) c.in_ok-f.ensures in
    record {
      wide = simp length-set v.wide;
      greedy = subst (λ l. Greedy (cost_of ts) (length ts) ok l (set lens k f)) (sym (take_more q p 0 c.places-test.true))
          (greedy_more (cost_of ts) (length ts) ok (set_falls sum (g.met.R.Rule.laws c.args.rule.now) s) (take p q) lens v.greedy k named.0 named.1 room f h.0 h.1 h.2 h.3);
      padded = padded_set (length ts) 1 lens k f named.0 v.padded;
    }

pub returns : goal.returns
returns g c =
    let o = c.args.tasks.now in
    let ts = o.set.tasks.now in
    let q = o.order.now in
    let ok = test_of (g.R.Rule.meaning c.args.rule.now) o.set in
    let v = c.places.invariant in (
      least_all (cost_of ts) (length ts) ok q (o.whole, o.named) c.places.lengths
          (subst (λ l. LeastByPlace (cost_of ts) (length ts) ok l c.places.lengths) (take_all c.places.p q (omega arith)) (greedy_least (cost_of ts) (length ts) ok v.greedy)),
      v.padded,
    )
