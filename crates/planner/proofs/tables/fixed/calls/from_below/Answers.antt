use Rattle.std.proofs.Common.{◌≡◌, ℕ, ◌+◌, ◌-◌, ◌≤◌, List, [], ◌∷◌, ◌++◌, length, get_or, drop, sym, ap, ◌∙◌, subst, ⊎_elim, arith, length-drop}
use Rattle.std.proofs.lemmas.List.{drop_all}
use Rattle.std.proofs.lemmas.Bool.{cases_eq}
use Rattle.analysis.specs.Plans.{IsOrder}
use Rattle.planner.specs.Calls.{upward}
use Rattle.planner.proofs.Upward.{length_upward, upward_more}
use Rattle.planner.proofs.tables.fixed.calls.from_below.Goals as goal

pub returns-then-places-count : goal.returns-then-places-count
returns-then-places-count c h = omega (arith, h.1.0, length_upward c.args.places.now)

pub loop-p-init : goal.loop-p-init
loop-p-init c =
    let xs = c.args.places.now in
    let n = c.args.count in
    (c.new-fresh.ensures ∙ sym (ap upward (drop_all (n - 0) xs (omega arith))), λ j a b. absurd (omega arith))

pub push-requires : goal.push-requires
push-requires c =
    let left = drop (c.args.count - c.loop-p.p) c.args.places.now in
    omega (arith, ap length c.loop-p.invariant.0, length_upward left, length-drop (c.args.count - c.loop-p.p) c.args.places.now, c.requires)

pub loop-p-preserved : goal.loop-p-preserved
loop-p-preserved c =
    let xs = c.args.places.now in
    let n = c.args.count in
    let p = c.loop-p.p in
    let v = c.loop-p.invariant in
    let i = n - 1 - p in
    let sub = c.in_ok-checked_sub.ensures in
    let e : n - (p + 1) ≡ i = omega arith in (
      c.push.ensures.items ∙ (λ j. v.0 j ++ sub.1 j ∷ []) ∙ sym (upward_more xs i (n - p) (omega arith) (omega arith)) ∙ ap (λ k. upward (drop k xs)) (sym e),
      λ j a b. ⊎_elim (λ same. subst (λ k. 1 ≤ get_or xs k 0) (sym same) sub.0) (λ other. v.1 j (omega arith) b) (cases_eq j i),
    )

pub returns-then-is_order : goal.returns-then-is_order
returns-then-is_order c =
    let v = c.loop-p.invariant in
    let done : c.args.count - c.loop-p.p ≡ 0 = omega (arith, c.loop-p-test.false) in
    let e = v.0 ∙ ap (λ k. upward (drop k c.args.places.now)) done in
    ((λ j l. v.1 j (omega (arith, done)) (omega (arith, c.if-places-count.false)), subst (λ (q : List ℕ). IsOrder c.args.count q) (c.deref.ensures.0 ∙ e) c.if-is_order.ensures), e)

pub returns-else-is_order : goal.returns-else-is_order
returns-else-is_order c h =
    let done : c.args.count - c.loop-p.p ≡ 0 = omega (arith, c.loop-p-test.false) in
    let e = c.loop-p.invariant.0 ∙ ap (λ k. upward (drop k c.args.places.now)) done in
    c.if-is_order.ensures (subst (λ (q : List ℕ). IsOrder c.args.count q) (sym (c.deref.ensures.0 ∙ e)) h.1)
