-- What a search gave.
use Rattle.std.proofs.Common.{◌≡◌, ℕ, Bool, true, false, ◌&&◌, eqb, List, [], ◌∷◌, Some, None, Option, refl, subst, MatchOption}
use Rattle.std.proofs.lemmas.Bool.{and_parts, eqb-true, false≢true}

abbrev same : List ℕ → List ℕ → Bool
same [] [] = true
same [] (y ∷ ys) = false
same (x ∷ xs) [] = false
same (x ∷ xs) (y ∷ ys) = eqb x y && same xs ys

same_is : (xs ys : List ℕ) → same xs ys ≡ true → xs ≡ ys
same_is [] [] h = refl
same_is [] (y ∷ ys) h = absurd (false≢true h)
same_is (x ∷ xs) [] h = absurd (false≢true h)
same_is (x ∷ xs) (y ∷ ys) h = let p = and_parts (eqb x y) (same xs ys) h in (λ i. eqb-true x y p.0 i ∷ same_is xs ys p.1 i)

-- nothing, or this list
abbrev pub nothing : Option (List ℕ) → Bool
nothing None = true
nothing (Some xs) = false

abbrev pub gave : Option (List ℕ) → List ℕ → Bool
gave None ys = false
gave (Some xs) ys = same xs ys

module _ (r : Option (List ℕ)) (P : Type 0) (Q : List ℕ → Type 0) where
  pub nothing_is : MatchOption r P Q → nothing r ≡ true → P
  nothing_is = elim r as (λ r. MatchOption r P Q → nothing r ≡ true → P) [ None ↦ λ c h. c | Some xs ↦ λ c h. absurd (false≢true h) ]

  pub gave_is : MatchOption r P Q → (ys : List ℕ) → gave r ys ≡ true → Q ys
  gave_is = elim r as (λ r. MatchOption r P Q → (ys : List ℕ) → gave r ys ≡ true → Q ys) [ None ↦ λ c ys h. absurd (false≢true h) | Some xs ↦ λ c ys h. subst Q (same_is xs ys h) c ]
