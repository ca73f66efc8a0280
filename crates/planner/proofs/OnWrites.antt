-- Rows that are written one after the other.
use Rattle.std.proofs.Common.{◌≡◌, ℕ, zero, suc, ◌+◌, ◌<◌, ◌≤◌, List, [], ◌∷◌, ◌++◌, map, length, get_or, take, set, replicate, sym, refl, ap, ◌∙◌, arith}
use Rattle.std.proofs.lemmas.List.{take_more, take_more_set, map_push, map-set, set-get_or, get_or-map}
use Rattle.analysis.specs.Rivals.{no_task}
use Rattle.planner.specs.declared.tables.rows.Row.{Row}

abbrev pub blank : Row
blank = record { task = no_task; length = 0; bound = 0 }

-- a part of the rows that a write leaves
pub part_kept : {X : Type 0} (p : Row → X) (xs : List Row) (i : ℕ) (r : Row) → i < length xs → p r ≡ p (get_or xs i blank) → map p (set xs i r) ≡ map p xs
part_kept p xs i r l e = map-set p xs i r ∙ ap (set (map p xs) i) (e ∙ sym (get_or-map p xs i blank (p blank) l)) ∙ set-get_or (map p xs) i (p blank)

-- a part that is written from the front
pub part_more : {X : Type 0} (p : Row → X) (xs : List Row) (found : List X) (i : ℕ) (r : Row) (d : X) → i < length xs → i < length found → p r ≡ get_or found i d
    → map p (take i xs) ≡ take i found → map p (take (i + 1) (set xs i r)) ≡ take (i + 1) found
part_more p xs found i r d l k e h =
    ap (map p) (take_more_set xs i r l) ∙ map_push p (take i xs) r ∙ (λ j. h j ++ e j ∷ []) ∙ sym (take_more found i d k)

pub take_replicate : {X : Type 0} (n m : ℕ) (x : X) → n ≤ m → take n (replicate m x) ≡ replicate n x
take_replicate zero m x h = refl
take_replicate (suc n) zero x h = absurd (omega arith)
take_replicate (suc n) (suc m) x h = ap (λ l. x ∷ l) (take_replicate n m x (omega arith))

pub take_set_in : {X : Type 0} (n : ℕ) (xs : List X) (i : ℕ) (x : X) → take n (set xs i x) ≡ set (take n xs) i x
take_set_in zero xs i x = refl
take_set_in (suc n) [] i x = refl
take_set_in (suc n) (y ∷ ys) zero x = refl
take_set_in (suc n) (y ∷ ys) (suc i) x = ap (λ l. y ∷ l) (take_set_in n ys i x)
