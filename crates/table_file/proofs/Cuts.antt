-- The first line of a file: what the check of it says, and what the rest is.
use Rattle.std.proofs.Common.{◌≡◌, ℕ, suc, ◌+◌, ◌-◌, ◌%◌, ◌<◌, ◌≤◌, Bool, true, false, cond, not, ◌&&◌, eqb, ltb, ◌⊎◌, List, [], ◌∷◌, length, take, drop, Some, None, Ok, Err, Result, sym, refl, ap, ◌∙◌, add-one, ⊎_elim, arith, length-take-le}
use Rattle.std.specs.List.{position}
use Rattle.std.proofs.Math.Bool.{and-false}
use Rattle.std.proofs.lemmas.Bool.{cond-true, cond-false, lt-ltb, le-ltb, and_from, ne_eqb, eq-eqb}
use Rattle.std.proofs.lemmas.Bool.Decides.{nat_tests}
use Rattle.table_file.specs.declared.fault.Number.TheVariants.{Digit, Line}
use Rattle.table_file.specs.declared.fault.Fault.{Fault}
use Rattle.table_file.specs.Numbers.{fault_at}
use Rattle.table_file.specs.Digits.{AllDigits}
use Rattle.table_file.specs.Lines.{TextLine, feed, line_length, wrong, wrong_at, head_line, after_line, check_line, lines_of, text_line, longer}
use Rattle.table_file.proofs.Scan.{first_within, some_position, no_position, all_hex}

and_left : (a b : Bool) → a ≡ false → (a && b) ≡ false
and_left a b e = ap (λ x. x && b) e

and_right : (a b : Bool) → b ≡ false → (a && b) ≡ false
and_right a b e = ap (λ x. a && x) e ∙ and-false a

-- a line of digits is closed and has pairs of them
abbrev check_pairs : TextLine → ℕ → Result (List ℕ) Fault
check_pairs t ln = cond (t.closed && (not (eqb (length t.digits) 0) && eqb (length t.digits % 2) 0)) (Ok t.digits) (Err (fault_at Line ln 1))

module _ (bs : List ℕ) (ln n : ℕ) (is_n : n ≡ line_length bs) where
  part : take (n - 0) bs ≡ take (line_length bs) bs
  part = ap (λ k. take k bs) (omega arith)

  long : length (take (line_length bs) bs) ≡ n
  long = length-take-le (line_length bs) bs (first_within feed bs) ∙ sym is_n

  pub part_length : length (take (n - 0) bs) ≡ n
  part_length = ap length part ∙ long

  pub check_digit : (w : ℕ) → position wrong (take (n - 0) bs) ≡ Some w → Err (fault_at Digit ln (w + 1)) ≡ check_line (head_line bs) ln
  check_digit w e =
      let t : List ℕ = take (line_length bs) bs in
      let f = some_position wrong t w (ap (position wrong) (sym part) ∙ e) in
      ap (λ x. Err (fault_at Digit ln (x + 1))) f.0
      ∙ sym (cond-true (ltb (wrong_at t) (length t)) _ _ (lt-ltb _ _ (omega (arith, f.0, f.1))))

  module _ (none : position wrong (take (n - 0) bs) ≡ None) where
    past : check_line (head_line bs) ln ≡ check_pairs (head_line bs) ln
    past =
        let t : List ℕ = take (line_length bs) bs in
        cond-false _ (Err (fault_at Digit ln (wrong_at t + 1))) _ (le-ltb _ _ (no_position wrong t (ap (position wrong) (sym part) ∙ none)))

    pub part_hex : AllDigits (take (n - 0) bs)
    part_hex = all_hex _ (no_position wrong _ none)

    pub check_ok : n < length bs → (n ≡ 0 → ⊥) → n % 2 ≡ 0 → Ok (take (n - 0) bs) ≡ check_line (head_line bs) ln
    check_ok l some even =
        let t : List ℕ = take (line_length bs) bs in
        let closed : ltb (line_length bs) (length bs) ≡ true = lt-ltb (line_length bs) (length bs) (omega (arith, is_n)) in
        let filled : not (eqb (length t) 0) ≡ true = ap not (ne_eqb (length t) 0 (λ z. some (sym long ∙ z))) in
        let pairs : eqb (length t % 2) 0 ≡ true = eq-eqb (length t % 2) 0 (ap (λ k. k % 2) long ∙ even) in
        ap Ok part ∙ sym (past ∙ cond-true _ _ _ (and_from _ _ closed (and_from _ _ filled pairs)))

    pub check_broken : (length bs ≤ n) ⊎ ((n ≡ 0) ⊎ (n % 2 ≡ 0 → ⊥)) → Err (fault_at Line ln 1) ≡ check_line (head_line bs) ln
    check_broken h =
        let t : List ℕ = take (line_length bs) bs in
        let b : (ltb (line_length bs) (length bs) && (not (eqb (length t) 0) && eqb (length t % 2) 0)) ≡ false =
        ⊎_elim
        (λ l. and_left _ _ (le-ltb (line_length bs) (length bs) (omega (arith, is_n))))
        (λ r. and_right (ltb (line_length bs) (length bs)) _ (⊎_elim
        (λ z. and_left _ _ (ap not (eq-eqb (length t) 0 (long ∙ z))))
        (λ o. and_right (not (eqb (length t) 0)) _ (ne_eqb (length t % 2) 0 (λ z. o (ap (λ k. k % 2) (sym long) ∙ z))))
        r)) h in
        sym (past ∙ cond-false _ _ _ b)

suc_ltb : (a b : ℕ) → ltb (suc a) (suc b) ≡ ltb a b
suc_ltb a b = grind (arith, nat_tests)

module _ (b : ℕ) (cs : List ℕ) where
  abbrev Goes : Type 0
  Goes = longer b (lines_of cs) ≡ text_line (b ∷ take (line_length cs) cs) (ltb (suc (line_length cs)) (suc (length cs))) ∷ lines_of (drop (suc (line_length cs) + 1) (b ∷ cs))

  cut_by : Goes → lines_of (b ∷ cs) ≡ head_line (b ∷ cs) ∷ lines_of (after_line (b ∷ cs))
  cut_by goes =
      elim (eqb b 10) as (λ t. cond t (text_line ([]) (true) ∷ lines_of cs) (longer b (lines_of cs))
      ≡ text_line (take (cond t 0 (suc (line_length cs))) (b ∷ cs)) (ltb (cond t 0 (suc (line_length cs))) (suc (length cs))) ∷ lines_of (drop (cond t 0 (suc (line_length cs)) + 1) (b ∷ cs)))
      [ true ↦ (λ i. text_line ([]) (sym (lt-ltb 0 (suc (length cs)) (omega arith)) i) ∷ lines_of cs) | false ↦ goes ]

-- the lines of a file are its first and those of the rest
pub lines_cut : (b : ℕ) (bs : List ℕ) → lines_of (b ∷ bs) ≡ head_line (b ∷ bs) ∷ lines_of (after_line (b ∷ bs))
lines_cut b [] = cut_by b [] refl
lines_cut b (x ∷ xs) =
    let n : ℕ = line_length (x ∷ xs) in
    let e : drop (suc n + 1) (b ∷ x ∷ xs) ≡ after_line (x ∷ xs) = ap (λ k. drop k (b ∷ x ∷ xs)) (add-one (suc n)) ∙ ap (λ k. drop k (x ∷ xs)) (sym (add-one n)) in
    cut_by b (x ∷ xs)
    (ap (longer b) (lines_cut x xs) ∙ (λ i. text_line (b ∷ take n (x ∷ xs)) (sym (suc_ltb n (length (x ∷ xs))) i) ∷ lines_of (sym e i)))
