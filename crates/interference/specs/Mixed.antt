-- The greatest total over n or fewer elements, one element at a time.
use Rattle.std.specs.Prelude.{◌≡◌, ℕ, zero, suc, ◌+◌, ◌-◌, ◌*◌, ◌<◌, ◌≤◌, max, List, [], ◌∷◌, ◌++◌, length, take, sum_by, slice_index_or, refl}
use Rattle.std.proofs.Common.{ap, ◌∙◌, arith, mul-suc}
use Rattle.std.specs.List.{AllZip, AllByRecursion}
use Rattle.std.proofs.lemmas.List.{take_more}
use Rattle.std.proofs.lemmas.List.Sums.{sum_by-cons}

-- by the first element: take it and one fewer of the rest, or leave it
abbrev pub top : {X : Type 0} → (X → ℕ) → ℕ → List X → ℕ
top f n [] = 0
top f zero (x ∷ xs) = 0
top f (suc n) (x ∷ xs) = max (f x + top f n xs) (top f (suc n) xs)

pub top_zero : {X : Type 0} (f : X → ℕ) (xs : List X) → top f 0 xs ≡ 0
top_zero f [] = refl
top_zero f (x ∷ xs) = refl

-- one element more at the end
top_push : {X : Type 0} (f : X → ℕ) (n : ℕ) (xs : List X) (y : X)
    → top f (suc n) (xs ++ (y ∷ [])) ≡ max (f y + top f n xs) (top f (suc n) xs)
top_push f n [] y = refl
top_push f zero (x ∷ xs) y = omega (arith, top_push f zero xs y, top_zero f (xs ++ (y ∷ [])), top_zero f xs)
top_push f (suc n) (x ∷ xs) y = omega (arith, top_push f n xs y, top_push f (suc n) xs y)

pub top_more : {X : Type 0} (f : X → ℕ) (n : ℕ) (xs : List X) (i : ℕ) (d : X) → i < length xs
    → top f (suc n) (take (i + 1) xs) ≡ max (f (slice_index_or xs i d) + top f n (take i xs)) (top f (suc n) (take i xs))
top_more f n xs i d h = ap (top f (suc n)) (take_more xs i d h) ∙ top_push f n (take i xs) (slice_index_or xs i d)

pub top_le : {X : Type 0} (f : X → ℕ) (m : ℕ) → ((x : X) → f x ≤ m) → (n : ℕ) (xs : List X) → top f n xs ≤ m * length xs
top_le f m le n [] = omega arith
top_le f m le zero (x ∷ xs) = omega arith
top_le f m le (suc n) (x ∷ xs) = omega (arith, le x, top_le f m le n xs, top_le f m le (suc n) xs, mul-suc m (length xs))

-- At most n elements count by c, the others by p: the greatest total. Unlike a difference of shares, which can fall as
-- the window grows, this plainly grows with c and p.
abbrev pub mixed : {X : Type 0} → (X → ℕ) → (X → ℕ) → ℕ → List X → ℕ
mixed p c n [] = 0
mixed p c zero (x ∷ xs) = p x + mixed p c zero xs
mixed p c (suc n) (x ∷ xs) = max (c x + mixed p c n xs) (p x + mixed p c (suc n) xs)

pub mixed_top : {X : Type 0} (P : X → Type 0) (p c : X → ℕ) → ((x : X) → P x → p x ≤ c x)
    → (n : ℕ) (xs : List X) → AllByRecursion P xs → sum_by p xs + top (λ x. c x - p x) n xs ≡ mixed p c n xs
mixed_top P p c le n [] h = omega arith
mixed_top P p c le zero (x ∷ xs) h = omega (arith, sum_by-cons p x xs, mixed_top P p c le zero xs h.1, top_zero (λ y. c y - p y) xs)
mixed_top P p c le (suc n) (x ∷ xs) h =
    omega (arith, sum_by-cons p x xs, le x h.0, mixed_top P p c le n xs h.1, mixed_top P p c le (suc n) xs h.1)

pub mixed_each : {X : Type 0} (p p' c c' : X → ℕ) (n : ℕ) (xs ys : List X) → AllZip (λ x y. (p x ≤ p' y) × (c x ≤ c' y)) xs ys
    → mixed p c n xs ≤ mixed p' c' n ys
mixed_each p p' c c' n [] [] h = omega arith
mixed_each p p' c c' n [] (y ∷ ys) h = absurd h
mixed_each p p' c c' n (x ∷ xs) [] h = absurd h
mixed_each p p' c c' zero (x ∷ xs) (y ∷ ys) h = omega (arith, h.0, mixed_each p p' c c' zero xs ys h.1)
mixed_each p p' c c' (suc n) (x ∷ xs) (y ∷ ys) h =
    omega (arith, h.0, mixed_each p p' c c' n xs ys h.1, mixed_each p p' c c' (suc n) xs ys h.1)

pub mixed_le : {X : Type 0} (p c : X → ℕ) (m : ℕ) → ((x : X) → (p x ≤ m) × (c x ≤ m)) → (n : ℕ) (xs : List X) → mixed p c n xs ≤ m * length xs
mixed_le p c m le n [] = omega arith
mixed_le p c m le zero (x ∷ xs) = omega (arith, le x, mixed_le p c m le zero xs, mul-suc m (length xs))
mixed_le p c m le (suc n) (x ∷ xs) = omega (arith, le x, mixed_le p c m le n xs, mixed_le p c m le (suc n) xs, mul-suc m (length xs))
