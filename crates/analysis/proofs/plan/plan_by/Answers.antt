use Rattle.std.proofs.Common.{◌≡◌, ◌+◌, ◌<◌, [], ◌∷◌, ◌++◌, length, take, set, replicate, sym, refl, ap, ◌∙◌, subst, ⊎_elim, arith}
use Rattle.std.proofs.lemmas.List.{length-set, length_push}
use Rattle.std.proofs.lemmas.Bool.{cases_lt, false≢true}
use Rattle.analysis.specs.Rivals.{cost_of}
use Rattle.analysis.specs.Plans.{Named}
use Rattle.analysis.specs.Steps.{InfeasibleByPlace, FirstByPlace, Padded}
use Rattle.analysis.specs.Words.{test_of}
use Rattle.analysis.proofs.RivalLaws.{set_falls, ones_choice}
use Rattle.analysis.proofs.Greedy.{greedy_start}
use Rattle.analysis.proofs.Search.{searched_start, last_below}
use Rattle.analysis.proofs.Rank.{rank, placed_falls, back_falls}
use Rattle.analysis.proofs.Levels.{At, place, back, none, done}
use Rattle.analysis.proofs.ByTask.{first_all, infeasible_all}
use Rattle.analysis.proofs.Fixpoint.{when_none}
use Rattle.analysis.proofs.Padding.{padded_new, padded_set}
use Rattle.analysis.proofs.plan.plan_by.Given as given
use Rattle.analysis.proofs.plan.plan_by.Goals as goal

pub levels-init : goal.levels-init
levels-init g c =
    let s = c.args.tasks.now.set in
    let ts = s.tasks.now in
    let ok = test_of (g.R.Rule.meaning c.args.rule.now) s in
    let e = c.new-placed.ensures in
    record {
      wide = refl;
      few = omega (arith, ap length e);
      next = omega arith;
      at = subst (λ l. At (cost_of ts) (length ts) ok l 0 (replicate 32 1)) (sym e)
          (searched_start (length ts) (InfeasibleByPlace (cost_of ts) (length ts) ok), greedy_start (cost_of ts) (length ts) ok (replicate 32 1) (ones_choice s));
      padded = padded_new (length ts) 32 1;
    }

pub levels-smaller-in-Some : goal.levels-smaller-in-Some
levels-smaller-in-Some g c =
    let t = c.args.tasks.now in
    let pre = c.levels.placed.items in
    let h = c.in-Some.ensures in
    subst (λ l. rank 8 l 0 < rank 8 pre c.levels.next) (sym c.push.ensures.items)
    (placed_falls 8 pre c.in-Some.x c.levels.next (omega (arith, c.levels-test.true, c.len.ensures.value, t.small)) (omega (arith, h.1, t.small)) h.0)

pub levels-preserved-in-Some : goal.levels-preserved-in-Some
levels-preserved-in-Some g c =
    let t = c.args.tasks.now in
    let s = t.set in
    let ts = s.tasks.now in
    let sum = g.R.Rule.meaning c.args.rule.now in
    let ok = test_of sum s in
    let v = c.levels.invariant in
    let lens = c.levels.lengths in
    let x = c.in-Some.x in
    let f = c.in-Some.f in
    let h = c.in-Some.ensures in
    let low = c.as_slice.result.now in
    let e = c.as_slice.ensures.value in
    let at = subst (λ l. At (cost_of ts) (length ts) ok l c.levels.next lens) (sym e) v.at in
    record {
      wide = simp length-set v.wide;
      few = omega (arith, c.push.ensures.len, c.levels-test.true, c.len.ensures.value);
      next = omega arith;
      at = subst (λ l. At (cost_of ts) (length ts) ok l 0 (set lens x f)) (ap (λ l. l ++ x ∷ []) e ∙ sym c.push.ensures.items)
          (place (cost_of ts) (length ts) ok (set_falls sum (g.met.R.Rule.laws c.args.rule.now) s) low lens (omega (arith, v.wide, s.few)) c.levels.next at x f h.1 h.2 h.3 h.4);
      padded = padded_set (length ts) 1 lens x f h.1 v.padded;
    }

pub returns-in_err-last-in-None : goal.returns-in_err-last-in-None
returns-in_err-last-in-None g c =
    let t = c.args.tasks.now in
    let s = t.set in
    let ts = s.tasks.now in
    let sum = g.R.Rule.meaning c.args.rule.now in
    let ok = test_of sum s in
    let v = c.levels.invariant in
    let low = c.as_slice.result.now in
    let e = c.as_slice.ensures.value in
    let at = subst (λ l. At (cost_of ts) (length ts) ok l c.levels.next c.levels.lengths) (sym e) v.at in
    let empty : length low ≡ 0 =
    ⊎_elim (λ lt. absurd (false≢true (c.in_err-last-in-None.ensures.variant.1 (omega (arith, lt, ap length e))))) (λ le. omega arith) (cases_lt 0 (length low)) in
    when_none _ _ c.from_residual.ensures
    (λ q order. infeasible_all (cost_of ts) (length ts) ok q order
    (none (cost_of ts) (length ts) ok (set_falls sum (g.met.R.Rule.laws c.args.rule.now) s) low c.levels.lengths (omega (arith, v.wide, s.few)) c.levels.next at c.in-None.ensures empty (omega (arith, c.levels-test.true)) q order))

-- the task taken back
last : (g : given.Over) (c : goal.In_ok-last-in-None g) → c.in_ok-last-in-None.last < length c.args.tasks.now.set.tasks.now
last g c =
    let n = length c.args.tasks.now.set.tasks.now in
    last_below n c.pop.new.self.items c.in_ok-last-in-None.last (subst (λ q. Named n q) c.in_ok-last-in-None.ensures.items c.levels.invariant.at.1.named)

pub levels-smaller : goal.levels-smaller
levels-smaller g c =
    let t = c.args.tasks.now in
    let rest = c.pop.new.self.items in
    let y = c.in_ok-last-in-None.last in
    let e = c.in_ok-last-in-None.ensures.items in
    subst (λ l. rank 8 rest (y + 1) < rank 8 l c.levels.next) (sym e)
    (back_falls 8 rest y c.levels.next (omega (arith, ap length e, length_push rest y, c.levels-test.true, c.len.ensures.value, t.small)) (omega (arith, last g c, t.small)) c.levels.invariant.next)

pub levels-preserved : goal.levels-preserved
levels-preserved g c =
    let t = c.args.tasks.now in
    let s = t.set in
    let ts = s.tasks.now in
    let sum = g.R.Rule.meaning c.args.rule.now in
    let ok = test_of sum s in
    let v = c.levels.invariant in
    let low = c.as_slice.result.now in
    let e = c.as_slice.ensures.value in
    let rest = c.pop.new.self.items in
    let y = c.in_ok-last-in-None.last in
    let cut = c.in_ok-last-in-None.ensures.items in
    let at = subst (λ l. At (cost_of ts) (length ts) ok l c.levels.next c.levels.lengths) (sym e) v.at in
    record {
      wide = v.wide;
      few = omega (arith, ap length cut, length_push rest y, v.few);
      next = omega (arith, last g c, t.small);
      at = back (cost_of ts) (length ts) ok (set_falls sum (g.met.R.Rule.laws c.args.rule.now) s) low c.levels.lengths (omega (arith, v.wide, s.few)) c.levels.next at c.in-None.ensures
          rest y (e ∙ cut) (omega (arith, ap length e, c.levels-test.true, c.len.ensures.value));
      padded = v.padded;
    }

pub returns : goal.returns
returns g c =
    let s = c.args.tasks.now.set in
    let ts = s.tasks.now in
    let n = length ts in
    let ok = test_of (g.R.Rule.meaning c.args.rule.now) s in
    let v = c.levels.invariant in
    let e = c.as_slice-2.ensures.value in
    let whole : length c.as_slice-2.result.now ≡ n = omega (arith, ap length e, v.few, c.levels-test.false, c.len.ensures.value) in
    let order = c.spread-order.result in
    let same : take n order ≡ c.levels.placed.items = ap (λ k. take k order) (sym whole) ∙ c.spread-order.ensures.order ∙ e in (
      first_all (cost_of ts) n ok (take n order) c.levels.lengths
          (subst (λ q. FirstByPlace (cost_of ts) n ok q c.levels.lengths) (sym same) (done (cost_of ts) n ok c.levels.placed.items c.levels.lengths c.levels.next v.at (omega (arith, ap length e, whole)))),
      subst (λ k. Padded k 0 order) whole c.spread-order.ensures.padded,
      v.padded,
    )
