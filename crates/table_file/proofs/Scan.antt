-- A scan for the first byte that meets a test.
use Rattle.std.proofs.Common.{Option, Some, None, unwrap_or, ltb, ◌≡◌, ℕ, zero, suc, ◌+◌, ◌<◌, ◌≤◌, Bool, true, false, cond, not, List, [], ◌∷◌, length, get_or, sym, refl, ap, ◌∙◌, ⊎_elim, arith}
use Rattle.std.specs.List.{position, position_or_len}
use Rattle.std.proofs.lemmas.List.Recursion.{is_position_or_len}
use Rattle.std.proofs.lemmas.Bool.{cond-true, cond-false, cases_Bool, ltb-true, ltb-false, lt-ltb, not-true, not-false}
use Rattle.std.proofs.lemmas.List.Quantifiers.{position-Some}
use Rattle.table_file.specs.Digits.{is_digit, AllDigits}
use Rattle.table_file.specs.Lines.{first_at, wrong, wrong_at}

pub first_within : (p : ℕ → Bool) (xs : List ℕ) → first_at p xs ≤ length xs
first_within p [] = omega arith
first_within p (x ∷ xs) =
    let r = first_within p xs in
    elim (p x) as (λ b. cond b 0 (suc (first_at p xs)) ≤ suc (length xs)) [ true ↦ omega arith | false ↦ omega arith ]

-- the first such byte, by the library's word
first_is : (p : ℕ → Bool) (xs : List ℕ) → first_at p xs ≡ position_or_len p xs
first_is p = is_position_or_len (first_at p) p refl (λ x xs. ap (cond (p x) 0) (sym (one_add (first_at p xs))))
  where
    one_add : (n : ℕ) → 1 + n ≡ suc n
    one_add n = omega arith

position_first : (p : ℕ → Bool) (xs : List ℕ) → position p xs ≡ cond (ltb (first_at p xs) (length xs)) (Some (first_at p xs)) None
position_first p xs = ap (λ n. cond (ltb n (length xs)) (Some n) None) (sym (first_is p xs))

-- where it is, or the length
pub unwrap_position : (p : ℕ → Bool) (xs : List ℕ) → unwrap_or (position p xs) (length xs) ≡ first_at p xs
unwrap_position p xs =
    ap (λ o. unwrap_or o (length xs)) (position_first p xs)
    ∙ ⊎_elim
    (λ t. ap (λ o. unwrap_or o (length xs)) (cond-true (ltb (first_at p xs) (length xs)) _ _ t))
    (λ f. ap (λ o. unwrap_or o (length xs)) (cond-false (ltb (first_at p xs) (length xs)) (Some (first_at p xs)) None f) ∙ omega (arith, first_within p xs, ltb-false _ _ f))
    (cases_Bool (ltb (first_at p xs) (length xs)))

-- where it is, if anywhere
pub some_position : (p : ℕ → Bool) (xs : List ℕ) (i : ℕ) → position p xs ≡ Some i → (i ≡ first_at p xs) × (i < length xs)
some_position p xs i e =
    ⊎_elim
    (λ t.
    let s : ◌≡◌ {A = Option ℕ} (Some (first_at p xs)) (Some i) = sym (position_first p xs ∙ cond-true (ltb (first_at p xs) (length xs)) _ _ t) ∙ e in
    let n : first_at p xs ≡ i = cc in
    (sym n, omega (arith, ltb-true _ _ t)))
    (λ f.
    let s : ◌≡◌ {A = Option ℕ} None (Some i) = sym (position_first p xs ∙ cond-false (ltb (first_at p xs) (length xs)) (Some (first_at p xs)) None f) ∙ e in
    absurd (cc))
    (cases_Bool (ltb (first_at p xs) (length xs)))

pub no_position : (p : ℕ → Bool) (xs : List ℕ) → position p xs ≡ None → length xs ≤ first_at p xs
no_position p xs e =
    ⊎_elim
    (λ t.
    let s : ◌≡◌ {A = Option ℕ} (Some (first_at p xs)) None = sym (position_first p xs ∙ cond-true (ltb (first_at p xs) (length xs)) _ _ t) ∙ e in
    absurd (cc))
    (λ f. ltb-false _ _ f)
    (cases_Bool (ltb (first_at p xs) (length xs)))

-- digits to the end
pub all_hex : (xs : List ℕ) → length xs ≤ first_at wrong xs → AllDigits xs
all_hex [] h i l = absurd (omega arith)
all_hex (x ∷ xs) h i l =
    ⊎_elim
    (λ t.
    let m : first_at wrong (x ∷ xs) ≡ suc (first_at wrong xs) = cond-false (wrong x) 0 (suc (first_at wrong xs)) (ap not t) in
    at i t l (all_hex xs (omega (arith, m))))
    (λ t.
    let m : first_at wrong (x ∷ xs) ≡ 0 = cond-true (wrong x) 0 (suc (first_at wrong xs)) (ap not t) in
    absurd (omega (arith, m)))
    (cases_Bool (is_digit x))
  where
    at : (j : ℕ) → is_digit x ≡ true → j < suc (length xs) → AllDigits xs → is_digit (get_or (x ∷ xs) j 0) ≡ true
    at zero t l r = t
    at (suc j) t l r = r j (omega arith)

-- the first wrong byte
pub first_here : (xs : List ℕ) → wrong_at xs < length xs → (is_digit (get_or xs (wrong_at xs) 0) ≡ false) × ((i : ℕ) → i < wrong_at xs → is_digit (get_or xs i 0) ≡ true)
first_here xs h =
    let found : position wrong xs ≡ Some (wrong_at xs) = position_first wrong xs ∙ cond-true (ltb (wrong_at xs) (length xs)) _ _ (lt-ltb _ _ h) in
    let f = position-Some wrong xs (wrong_at xs) 0 found in
    (not-true _ f.1, λ i l. not-false _ (f.2 i l))
