-- Each rule is tested at a turn of its own.
use Rattle.std.proofs.Common.{◌≡◌, ℕ, ◌<◌, cond, eqb, sym, refl, ap, ◌∙◌, arith}
use Rattle.table_file.specs.declared.fault.Number.{Number}
use Rattle.table_file.specs.declared.fault.Number.TheVariants.{CoreCount, TableFull, Limits, NoSuchTask, NamedAgain, Length, Digit, Line, Kind, Size, NotDue, TooLong}
use Rattle.table_file.specs.Faults.{turn}

at_turn : ℕ → Number
at_turn n =
    cond (eqb n 1) Digit (cond (eqb n 2) Line (cond (eqb n 3) Kind (cond (eqb n 4) Size (cond (eqb n 5) NotDue
    (cond (eqb n 6) CoreCount (cond (eqb n 7) TableFull (cond (eqb n 8) Limits (cond (eqb n 9) NoSuchTask (cond (eqb n 10) NamedAgain (cond (eqb n 11) Length TooLong))))))))))

at_its_turn : (k : Number) → at_turn (turn k) ≡ k
unfolding at_turn
at_its_turn TooLong = refl
at_its_turn Digit = refl
at_its_turn Line = refl
at_its_turn Kind = refl
at_its_turn Size = refl
at_its_turn NotDue = refl
at_its_turn CoreCount = refl
at_its_turn TableFull = refl
at_its_turn Limits = refl
at_its_turn NoSuchTask = refl
at_its_turn NamedAgain = refl
at_its_turn Length = refl

pub same_turn : (k m : Number) → turn k ≡ turn m → k ≡ m
same_turn k m e = sym (at_its_turn k) ∙ ap at_turn e ∙ at_its_turn m

pub turns : (k : Number) → turn k < 12
turns TooLong = omega arith
turns Digit = omega arith
turns Line = omega arith
turns Kind = omega arith
turns Size = omega arith
turns NotDue = omega arith
turns CoreCount = omega arith
turns TableFull = omega arith
turns Limits = omega arith
turns NoSuchTask = omega arith
turns NamedAgain = omega arith
turns Length = omega arith
