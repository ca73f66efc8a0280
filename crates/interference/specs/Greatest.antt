-- The greatest total over all choices is the one that is found element by element, and is what its name says.
use Rattle.std.specs.Prelude.{◌≡◌, ℕ, zero, suc, ◌+◌, ◌<◌, ◌≤◌, max, Bool, true, false, cond, leb, List, [], ◌∷◌, ◌++◌, map, length, sum_by, filter, nat_le, refl}
use Rattle.std.proofs.Common.{◌∙◌, arith, length-append}
use Rattle.std.proofs.Math.Decide.{dec_le}
use Rattle.std.proofs.Math.Dec.{leb-zero, leb-suc-zero, leb-suc-suc}
use Rattle.std.proofs.lemmas.List.Elements.{filter-append}
use Rattle.std.proofs.lemmas.List.{map-append}
use Rattle.std.proofs.lemmas.List.Sums.{sum_by-cons}
use Rattle.interference.specs.Sums.{choices, greatest, greatest_total, Chosen, nothing, taken, left, GreatestTotal}
use Rattle.interference.specs.Mixed.{top, top_zero}

greatest-++ : (xs ys : List ℕ) → greatest (xs ++ ys) ≡ max (greatest xs) (greatest ys)
greatest-++ [] ys = omega arith
greatest-++ (x ∷ xs) ys = omega (arith, greatest-++ xs ys)

map_cond : {X Y : Type 0} (g : X → Y) (b : Bool) (d : X) (ds : List X) → cond b (g d ∷ map g ds) (map g ds) ≡ map g (cond b (d ∷ ds) ds)
map_cond g true d ds = refl
map_cond g false d ds = refl

-- a choice with x has one more than the choice without it
kept_taken : {X : Type 0} (n : ℕ) (x : X) (ds : List (List X))
    → filter (λ ys. leb (length ys) (suc n)) (map (λ ys. x ∷ ys) ds) ≡ map (λ ys. x ∷ ys) (filter (λ ys. leb (length ys) n) ds)
kept_taken n x [] = refl
kept_taken n x (d ∷ ds) =
    rw (leb-suc-suc (length d) n, kept_taken n x ds) (map_cond (λ ys. x ∷ ys) (nat_le (length d) n) d (filter (λ ys. leb (length ys) n) ds))

kept_none : {X : Type 0} (x : X) (ds : List (List X)) → filter (λ ys. leb (length ys) 0) (map (λ ys. x ∷ ys) ds) ≡ []
kept_none x [] = refl
kept_none x (d ∷ ds) = rw (leb-suc-zero (length d)) (kept_none x ds)

greatest_shift : {X : Type 0} (f : X → ℕ) (x : X) (ds : List (List X)) → 0 < length ds
    → greatest (map (sum_by f) (map (λ ys. x ∷ ys) ds)) ≡ f x + greatest (map (sum_by f) ds)
greatest_shift f x [] h = absurd (omega arith)
greatest_shift f x (d ∷ []) h = omega (arith, sum_by-cons f x d)
greatest_shift f x (d ∷ (e ∷ ds)) h = omega (arith, sum_by-cons f x d, greatest_shift f x (e ∷ ds) (omega arith))

some_kept : {X : Type 0} (n : ℕ) (xs : List X) → 0 < length (filter (λ ys. leb (length ys) n) (choices xs))
some_kept n [] = rw (leb-zero n) (omega arith)
some_kept n (x ∷ xs) = rw (filter-append, length-append) (omega (arith, some_kept n xs))

pub greatest_top : {X : Type 0} (f : X → ℕ) (n : ℕ) (xs : List X) → greatest_total f n xs ≡ top f n xs
greatest_top f n [] = rw (leb-zero n) (omega arith)
greatest_top f zero (x ∷ xs) = rw (filter-append, kept_none x (choices xs)) (greatest_top f zero xs ∙ top_zero f xs)
greatest_top f (suc n) (x ∷ xs) =
    rw (filter-append, map-append, greatest-++, kept_taken n x (choices xs), greatest_shift f x (filter (λ ys. leb (length ys) n) (choices xs)) (some_kept n xs))
    (omega (arith, greatest_top f n xs, greatest_top f (suc n) xs))

unsurpassed : {X : Type 0} (f : X → ℕ) (n : ℕ) {ys xs : List X} → Chosen ys xs → length ys ≤ n → sum_by f ys ≤ top f n xs
unsurpassed f n nothing h = omega arith
unsurpassed f zero (taken c) h = absurd (omega arith)
unsurpassed f (suc n) (taken {x} {ys} {xs} c) h = omega (arith, sum_by-cons f x ys, unsurpassed f n c (omega arith))
unsurpassed f zero (left {x} {ys} {xs} c) h = omega (arith, unsurpassed f zero c h, top_zero f xs)
unsurpassed f (suc n) (left {x} {ys} {xs} c) h = omega (arith, unsurpassed f (suc n) c h)

none : {X : Type 0} (xs : List X) → Chosen [] xs
none [] = nothing
none (x ∷ xs) = left (none xs)

reached : {X : Type 0} (f : X → ℕ) (n : ℕ) (xs : List X) → (ys : List X) × Chosen ys xs × (length ys ≤ n) × (sum_by f ys ≡ top f n xs)
reached f n [] = ([], nothing, omega arith, refl)
reached f zero (x ∷ xs) = ([], none (x ∷ xs), omega arith, refl)
reached f (suc n) (x ∷ xs) =
    let with_x = reached f n xs in
    let without = reached f (suc n) xs in
    elim (dec_le (top f (suc n) xs) (f x + top f n xs)) [
      | yes le ↦ (x ∷ with_x.0, taken with_x.1, omega (arith, with_x.2), omega (arith, sum_by-cons f x with_x.0, with_x.3))
      | no gt ↦ (without.0, left without.1, without.2, omega (arith, without.3))
    ]

pub greatest_is : {X : Type 0} (f : X → ℕ) (n : ℕ) (xs : List X) → GreatestTotal f n xs (greatest_total f n xs)
greatest_is f n xs =
    let e = greatest_top f n xs in
    let r = reached f n xs in
    record {
      reached = (r.0, r.1, r.2, omega (arith, r.3, e));
      unsurpassed = λ ys c h. omega (arith, unsurpassed f n c h, e);
    }
