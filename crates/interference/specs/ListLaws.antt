-- Lists that are compared place by place, and lists that are changed one element after the other.
use Rattle.std.specs.Prelude.{◌≡◌, ℕ, zero, suc, ◌<◌, ◌≤◌, List, [], ◌∷◌, ◌++◌, length, sum_by, slice_index_or, slice_set}
use Rattle.std.proofs.Common.{append_assoc, arith, length-append}
use Rattle.std.specs.List.{AllZip, AllByRecursion}
use Rattle.std.proofs.lemmas.List.Sums.{sum_by-cons}
use Rattle.std.proofs.ByRecursion.{All-append}

-- one list, two functions
pub sum_by_mono : {X : Type 0} (P : X → Type 0) (f g : X → ℕ) → ((x : X) → P x → f x ≤ g x) → (xs : List X) → AllByRecursion P xs → sum_by f xs ≤ sum_by g xs
sum_by_mono P f g le [] a = omega arith
sum_by_mono P f g le (x ∷ xs) a = omega (arith, sum_by-cons f x xs, sum_by-cons g x xs, le x a.0, sum_by_mono P f g le xs a.1)

-- a list compared with itself
pub each_all : {X : Type 0} (P : X → Type 0) (R : X → X → Type 0) → ((x : X) → P x → R x x) → (xs : List X) → AllByRecursion P xs → AllZip R xs xs
each_all P R h [] a = tt
each_all P R h (x ∷ xs) a = (h x a.0, each_all P R h xs a.1)

-- a list compared with itself after one change
pub each_set : {X : Type 0} (P : X → Type 0) (R : X → X → Type 0) → ((x : X) → P x → R x x) → (xs : List X) → AllByRecursion P xs
    → (i : ℕ) (d v : X) → i < length xs → R (slice_index_or xs i d) v → AllZip R xs (slice_set xs i v)
each_set P R r [] a i d v h e = absurd (omega arith)
each_set P R r (x ∷ xs) a zero d v h e = (e, each_all P R r xs a.1)
each_set P R r (x ∷ xs) a (suc i) d v h e = (r x a.0, each_set P R r xs a.1 i d v (omega arith) e)

all_split : {X : Type 0} (P : X → Type 0) (pre rest : List X) → AllByRecursion P (pre ++ rest) → AllByRecursion P pre × AllByRecursion P rest
all_split P [] rest a = (tt, a)
all_split P (p ∷ pre) rest a = let r = all_split P pre rest a.1 in ((a.0, r.0), r.1)

-- What does not fall when one element changes does not fall when several do.
module _ {X : Type 0} (P : X → Type 0) (R : X → X → Type 0) (n : ℕ) (f : List X → ℕ)
    (step : (pre rest : List X) (x y : X) → length (pre ++ (x ∷ rest)) ≡ n → AllByRecursion P (pre ++ (x ∷ rest)) → AllByRecursion P (pre ++ (y ∷ rest)) → R x y
    → f (pre ++ (x ∷ rest)) ≤ f (pre ++ (y ∷ rest))) where
  pub one_by_one : (pre xs ys : List X) → length (pre ++ xs) ≡ n → AllByRecursion P (pre ++ xs) → AllByRecursion P (pre ++ ys) → AllZip R xs ys → f (pre ++ xs) ≤ f (pre ++ ys)
  one_by_one pre [] [] k a b h = omega arith
  one_by_one pre [] (y ∷ ys) k a b h = absurd h
  one_by_one pre (x ∷ xs) [] k a b h = absurd h
  one_by_one pre (x ∷ xs) (y ∷ ys) k a b h =
      let pa = all_split P pre (x ∷ xs) a in
      let pb = all_split P pre (y ∷ ys) b in
      let mid : AllByRecursion P (pre ++ (y ∷ xs)) = All-append P pre (y ∷ xs) pa.0 (pb.1.0, pa.1.1) in
      let first = step pre xs x y k a mid h.0 in
      let k' : length ((pre ++ (y ∷ [])) ++ xs) ≡ n = rw append_assoc (omega (arith, length-append pre (x ∷ xs), length-append pre (y ∷ xs))) in
      let rest : f ((pre ++ (y ∷ [])) ++ xs) ≤ f ((pre ++ (y ∷ [])) ++ ys) =
      one_by_one (pre ++ (y ∷ [])) xs ys k' (rw append_assoc mid) (rw append_assoc b) h.1 in
      let rest' : f (pre ++ (y ∷ xs)) ≤ f (pre ++ (y ∷ ys)) = simp append_assoc at rest in
      omega (arith, first, rest')
