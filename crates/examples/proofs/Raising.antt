-- Bounds raised one at a time to what their equations give.
use Rattle.std.proofs.Common.{◌≡◌, ℕ, zero, suc, ◌%◌, ◌<◌, ◌≤◌, cond, leb, List, length, get_or, set, Some, None, Option, sym, ◌∙◌, subst, ⊎_elim, mod-lt, arith, MatchOption}
use Rattle.std.proofs.lemmas.List.{get_or-set_same, get_or-set_other, length-set}
use Rattle.std.proofs.lemmas.Bool.{cases_eq, cond_both, leb-true, leb-false}
use Rattle.analysis.specs.Bounds.{BoundsWithin}
use Rattle.examples.proofs.Bounded.{on, on_both}

module _ (n : ℕ) (high : ℕ → ℕ) (g : ℕ → List ℕ → ℕ → ℕ) where
  -- the bounds after some steps, in turn one for each task, or one exceeds its limit
  abbrev pub raised : ℕ → List ℕ → Option (List ℕ)
  raised zero bs = Some bs
  raised (suc r) bs =
      on (g (r % n) bs (get_or bs (r % n) 0)) (Some bs)
      (λ w. cond (leb w (high (r % n))) (raised r (set bs (r % n) w)) None)

-- bounds that are at least what their equations give
abbrev pub Held : ℕ → (ℕ → List ℕ → ℕ → ℕ) → List ℕ → Type 0
Held n g o = (k : ℕ) → k < n → g k o (get_or o k 0) ≤ get_or o k 0

-- bounds within the limits that exceed no such bounds
pub record Under (n : ℕ) (low high : ℕ → ℕ) (g : ℕ → List ℕ → ℕ → ℕ) (bs : List ℕ) : Type 0 where
  pub within : BoundsWithin n low high bs
  pub below : (o : List ℕ) → BoundsWithin n low high o → Held n g o → (k : ℕ) → k < n → get_or bs k 0 ≤ get_or o k 0

module _ (n : ℕ) (any : 1 ≤ n) (low high : ℕ → ℕ) (g : ℕ → List ℕ → ℕ → ℕ) (floor : (k : ℕ) (bs : List ℕ) (v : ℕ) → low k ≤ g k bs v)
    (up : (k : ℕ) (xs bs : List ℕ) → k < n → BoundsWithin n low high xs → BoundsWithin n low high bs → ((j : ℕ) → j < n → (j ≡ k → ⊥) → get_or xs j 0 ≤ get_or bs j 0)
    → (v w : ℕ) → low k ≤ v → v ≤ w → w ≤ high k → g k xs v ≤ g k bs w) where
  step_below : (bs : List ℕ) → Under n low high g bs → (k : ℕ) → k < n → (o : List ℕ) → BoundsWithin n low high o → Held n g o → g k bs (get_or bs k 0) ≤ get_or o k 0
  step_below bs u k l o w s =
      let h = up k bs o l u.within w (λ j i e. u.below o w s j i) (get_or bs k 0) (get_or o k 0) (u.within k l).0 (u.below o w s k l) (w k l).1 in
      let t = s k l in omega arith

  step_under : (bs : List ℕ) → Under n low high g bs → length bs ≡ n → (k : ℕ) → k < n → (w : ℕ) → g k bs (get_or bs k 0) ≡ w → w ≤ high k → Under n low high g (set bs k w)
  step_under bs u long k here w e le =
      let new : get_or (set bs k w) k 0 ≡ w = get_or-set_same bs k w 0 (omega arith) in
      let f = floor k bs (get_or bs k 0) in
      record {
        within = λ j l.
            ⊎_elim
            (λ i. subst (λ i. (low i ≤ get_or (set bs k w) i 0) × (get_or (set bs k w) i 0 ≤ high i)) (sym i) (omega arith, omega arith))
            (λ d. let s = get_or-set_other bs k j w 0 d in let h = u.within j l in (omega arith, omega arith))
            (cases_eq j k);
        below = λ o wo so j l.
            ⊎_elim
            (λ i. subst (λ i. get_or (set bs k w) i 0 ≤ get_or o i 0) (sym i) (let h = step_below bs u k here o wo so in omega arith))
            (λ d. let s = get_or-set_other bs k j w 0 d in let h = u.below o wo so j l in omega arith)
            (cases_eq j k);
      }

  pub raised_is : (r : ℕ) (bs : List ℕ) → Under n low high g bs → length bs ≡ n
      → MatchOption (raised n high g r bs) ((o : List ℕ) → BoundsWithin n low high o → Held n g o → ⊥) (Under n low high g)
  raised_is zero bs u long = u
  raised_is (suc r) bs u long =
      let k = r % n in
      let here : k < n = mod-lt r any in
      let Answer : Option (List ℕ) → Type 0 = λ a. MatchOption a ((o : List ℕ) → BoundsWithin n low high o → Held n g o → ⊥) (Under n low high g) in
      on_both (g k bs (get_or bs k 0)) (Some bs) (λ w. cond (leb w (high k)) (raised n high g r (set bs k w)) None) Answer
      (λ e. u)
      (λ w e pos.
      cond_both (leb w (high k)) (raised n high g r (set bs k w)) None Answer
      (λ t. raised_is r (set bs k w) (step_under bs u long k here w e (leb-true w (high k) t)) (length-set bs k w ∙ long))
      (λ f o wo so. let h = step_below bs u k here o wo so in let t = wo k here in omega (arith, leb-false w (high k) f)))
