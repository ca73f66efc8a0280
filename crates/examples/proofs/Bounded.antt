-- Tests of all numbers up to some number, and the first that passes a test.
use Rattle.std.proofs.Common.{◌≡◌, ℕ, zero, suc, ◌+◌, ◌<◌, ◌≤◌, Bool, true, false, cond, ◌&&◌, sym, refl, subst, ⊎_elim, arith}
use Rattle.std.proofs.lemmas.Bool.{and_parts, cases_eq, cases_Bool, cond-true, cond-false}

-- every number below n passes
abbrev pub all_below : ℕ → (ℕ → Bool) → Bool
all_below zero test = true
all_below (suc n) test = test n && all_below n test

pub all_below_at : (n : ℕ) (test : ℕ → Bool) → all_below n test ≡ true → (k : ℕ) → k < n → test k ≡ true
all_below_at zero test h k l = absurd (omega arith)
all_below_at (suc n) test h k l =
    let p = and_parts (test n) (all_below n test) h in
    ⊎_elim (λ e. subst (λ j. test j ≡ true) (sym e) p.0) (λ d. all_below_at n test p.1 k (omega arith)) (cases_eq k n)

-- the first of n numbers from i on that passes, or 0
abbrev pub first : (ℕ → Bool) → ℕ → ℕ → ℕ
first test zero i = 0
first test (suc n) i = cond (test i) i (first test n (i + 1))

-- goes on with a number that was found, where 0 says that none was
abbrev pub on : {X : Type 0} → ℕ → X → (ℕ → X) → X
on zero fail found = fail
on (suc f) fail found = found (suc f)

pub on_both : {X : Type 0} (r : ℕ) (fail : X) (found : ℕ → X) (P : X → Type 0) → (r ≡ 0 → P fail) → ((f : ℕ) → r ≡ f → 1 ≤ f → P (found f)) → P (on r fail found)
on_both zero fail found P a b = a refl
on_both (suc f) fail found P a b = b (suc f) refl (omega arith)

pub first_none : (test : ℕ → Bool) (n i : ℕ) → 1 ≤ i → first test n i ≡ 0 → (f : ℕ) → i ≤ f → f < i + n → test f ≡ false
first_none test zero i pos e f l h = absurd (omega arith)
first_none test (suc n) i pos e f l h =
    ⊎_elim
    (λ t. let z = cond-true (test i) i (first test n (i + 1)) t in absurd (omega arith))
    (λ n'. let z = cond-false (test i) i (first test n (i + 1)) n' in
    ⊎_elim (λ s. subst (λ j. test j ≡ false) (sym s) n') (λ d. first_none test n (i + 1) (omega arith) (omega arith) f (omega arith) (omega arith)) (cases_eq f i))
    (cases_Bool (test i))

pub first_some : (test : ℕ → Bool) (n i f : ℕ) → 1 ≤ f → first test n i ≡ f → (i ≤ f) × (f < i + n) × (test f ≡ true) × ((e : ℕ) → i ≤ e → e < f → test e ≡ false)
first_some test zero i f pos e = absurd (omega arith)
first_some test (suc n) i f pos e =
    ⊎_elim
    (λ t.
    let z = cond-true (test i) i (first test n (i + 1)) t in
    let s : i ≡ f = omega arith in
    (omega arith, omega arith, subst (λ j. test j ≡ true) s t, λ j a b. absurd (omega arith)))
    (λ n'.
    let z = cond-false (test i) i (first test n (i + 1)) n' in
    let r = first_some test n (i + 1) f pos (omega arith) in (
      omega (arith, r.0),
      omega (arith, r.1),
      r.2,
      λ j a b. ⊎_elim (λ s. subst (λ j. test j ≡ false) (sym s) n') (λ d. r.3 j (omega arith) b) (cases_eq j i),
    ))
    (cases_Bool (test i))
