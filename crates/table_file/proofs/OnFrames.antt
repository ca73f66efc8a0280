-- The digits of a frame's fields.
use Rattle.std.proofs.Common.{◌≡◌, ℕ, ◌+◌, ◌-◌, ◌<◌, true, List, length, get_or, take, drop, sym, ap, ◌∙◌, subst, arith}
use Rattle.std.proofs.lemmas.List.{take_rest, get_or-drop, length-drop}
use Rattle.table_file.specs.Digits.{AllDigits, is_digit}

-- the digits past the kind, as the code has them
pub parts_hex : (ds : List ℕ) → AllDigits ds → AllDigits (take (length ds - 2) (drop 2 ds))
parts_hex ds h i l =
    let e = take_rest ds 2 in
    let n : i < length ds - 2 = omega (arith, ap length e, length-drop 2 ds) in
    subst (λ xs. is_digit (get_or xs i 0) ≡ true) (sym e) (ap is_digit (get_or-drop 2 ds i 0) ∙ h (2 + i) (omega arith))
