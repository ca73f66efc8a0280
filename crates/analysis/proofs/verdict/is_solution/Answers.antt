use Rattle.std.proofs.Common.{◌≡◌, ℕ, ◌<◌, ◌≤◌, Bool, true, false, length, get_or, subst, refl, arith, rules, MatchBool}
use Rattle.std.specs.List.{AllWithin, HoldsAt, range_with_len}
use Rattle.std.proofs.lemmas.Iterator.{cases_from_all, YieldsList-from_range}
use Rattle.std.proofs.lemmas.List.FromFn.{get_or-range_with_len, length-range_with_len}
use borrow.Author.Tests.{tests}
use Rattle.analysis.specs.Rivals.{cost_of, limit_of}
use Rattle.analysis.specs.Bounds.{BoundsWithin}
use Rattle.analysis.specs.Words.{KeepsIn, SolutionIn}
use Rattle.analysis.proofs.Among.{everyone}
use Rattle.analysis.proofs.Fixpoint.{when_yes, when_map}
use Rattle.analysis.proofs.BoundLaws.{solution_keeps, keeps_solution}
use Rattle.analysis.proofs.verdict.is_solution.Goals as goal

number_at : (n i : ℕ) → i < n → get_or (range_with_len 0 n) i 0 ≡ i
number_at n i lt = omega (arith, get_or-range_with_len 0 n i 0 lt)

-- each number below n, or one of them
by_number : (b : Bool) (n : ℕ) (P : ℕ → Type 0)
    → MatchBool b (AllWithin P (range_with_len 0 n) 0 (length (range_with_len 0 n))) ((k : ℕ) × (k < length (range_with_len 0 n)) × HoldsAt (λ x. P x → ⊥) (range_with_len 0 n) k)
    → MatchBool b ((i : ℕ) → i < n → P i) ((i : ℕ) × (i < n) × (P i → ⊥))
by_number true n P h = λ i lt. subst P (number_at n i lt) (h i 0 (omega arith) (omega (arith, lt, length-range_with_len 0 n)))
by_number false n P h =
    let lt : h.0 < n = omega (arith, h.1, length-range_with_len 0 n) in
    (h.0, lt, subst (λ x. P x → ⊥) (number_at n h.0 lt) (h.2 0))

pub returns-then-are_within : goal.returns-then-are_within
returns-then-are_within g c =
    let a = c.args in
    let o = a.tasks.now.ordered in
    let s = o.set in
    let ts = s.tasks.now in
    let q = o.order.now in
    let lens = a.tasks.now.lengths.now in
    let bs = a.bounds.now in
    let sum = g.R.Rule.meaning a.rule.now in
    let fits = (length ts ≤ length bs) × BoundsWithin (length ts) (cost_of ts) (limit_of ts) bs in
    let w = when_yes c.are_within.result fits (fits → ⊥) c.if-are_within.true c.are_within.ensures in
    let keep : ℕ → Type 0 = λ p. KeepsIn sum a.tasks.now bs (get_or q p 0) in
    let whole = (length ts ≤ length bs) × SolutionIn sum a.tasks.now bs in
    when_map ((i : ℕ) → i < length q → keep i) ((i : ℕ) × (i < length q) × (keep i → ⊥)) whole (whole → ⊥) c.all.result
    (λ each. (
      w.0,
      keeps_solution sum (g.met.R.Rule.laws a.rule.now) s.cores s.some s.most ts s.limits s.few q lens a.tasks.now.choice bs w.1
          (λ k l.
          let e = everyone (length ts) q (o.whole, o.named) k l in
          subst (λ j. KeepsIn sum a.tasks.now bs j) e.2 (each e.0 e.1)),
    ))
    (λ no h. no.2 (solution_keeps sum (g.met.R.Rule.laws a.rule.now) s.cores s.some s.most ts s.limits s.few q lens a.tasks.now.choice bs h.1 (get_or q no.0 0) (o.named no.0 no.1).0))
    (by_number c.all.result (length q) keep
    (cases_from_all _ _ _ keep (λ p. keep p → ⊥) c.all.ensures.ran (YieldsList-from_range 0 (length q) (length q) refl (omega arith)) (λ x q k. search (rules, tests)) (λ x q k. search (rules, tests))))
