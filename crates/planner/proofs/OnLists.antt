-- Lists that are written from the front, as the places stand.
use Rattle.std.proofs.Common.{◌≡◌, ℕ, suc, ◌+◌, ◌-◌, ◌<◌, ◌≤◌, List, [], ◌∷◌, ◌++◌, map, reverse, length, get_or, take, drop, set, sym, refl, ap, ◌∙◌, arith, length-take-le}
use Rattle.std.proofs.lemmas.List.{take_more, drop_more, append_assoc, set_at, length-map, length-reverse, get_or-map, get_or-reverse, reverse-append}
use Rattle.planner.specs.Calls.{upward}
use Rattle.planner.specs.Reading.{standing}

-- the first i of xs over old
abbrev pub partly : List ℕ → ℕ → List ℕ → List ℕ
partly xs i old = take i xs ++ drop i old

partly_more : (xs old : List ℕ) (i x : ℕ) → i < length xs → i < length old → x ≡ get_or xs i 0 → set (partly xs i old) i x ≡ partly xs (i + 1) old
partly_more xs old i x h k e =
    ap (λ l. set (take i xs ++ l) i x) (drop_more old i 0 k)
    ∙ set_at (take i xs) (get_or old i 0) (drop (i + 1) old) x i (length-take-le i xs (omega arith))
    ∙ sym (ap (λ l. l ++ drop (i + 1) old) (take_more xs i 0 h ∙ ap (λ y. take i xs ++ y ∷ []) (sym e)) ∙ append_assoc (take i xs) (x ∷ []) (drop (i + 1) old))

-- what f gives of the tasks as they stand, over a list that was old
module _ (f : ℕ → ℕ) (q old was : List ℕ) where
  column_length : length (map f (reverse q)) ≡ length q
  column_length = length-map (reverse q) f ∙ length-reverse q

  pub column_more : (p x : ℕ) → p < length q → length q ≤ length old → was ≡ partly (map f (reverse q)) p old → x ≡ f (get_or q (length q - 1 - p) 0)
      → set was p x ≡ partly (map f (reverse q)) (p + 1) old
  column_more p x h k e g =
      ap (λ l. set l p x) e
      ∙ partly_more (map f (reverse q)) old p x (omega (arith, column_length)) (omega arith)
      (g ∙ ap f (sym (get_or-reverse q p 0 h)) ∙ sym (get_or-map f (reverse q) p 0 0 (omega (arith, length-reverse q))))

-- an order as it was given, if it names no task by 0
pub standing_upward : (xs : List ℕ) → ((p : ℕ) → p < length xs → 1 ≤ get_or xs p 0) → standing (upward xs) ≡ xs
standing_upward [] h = refl
standing_upward (x ∷ xs) h =
    ap (map (λ k. k + 1)) (reverse-append (upward xs) ((x - 1) ∷ []))
    ∙ (λ i. first i ∷ standing_upward xs (λ p l. h (suc p) (omega arith)) i)
  where
    first : x - 1 + 1 ≡ x
    first = omega (arith, h 0 (omega arith))
