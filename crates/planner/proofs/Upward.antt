-- Orders as they are given, and as they are kept.
use Rattle.std.proofs.Common.{◌≡◌, ℕ, suc, ◌-◌, ◌<◌, List, [], ◌∷◌, ◌++◌, length, get_or, drop, sym, refl, ap, ◌∙◌, arith, length-append, drop-cons}
use Rattle.planner.specs.Calls.{upward}

pub length_upward : (xs : List ℕ) → length (upward xs) ≡ length xs
length_upward [] = refl
length_upward (x ∷ xs) = omega (arith, length-append (upward xs) ((x - 1) ∷ []), length_upward xs)

pub upward_more : (xs : List ℕ) (i j : ℕ) → i < length xs → j ≡ suc i → upward (drop i xs) ≡ upward (drop j xs) ++ (get_or xs i 0 - 1) ∷ []
upward_more xs i j l e = ap upward (drop-cons xs i 0 l) ∙ ap (λ k. upward (drop k xs) ++ (get_or xs i 0 - 1) ∷ []) (sym e)
