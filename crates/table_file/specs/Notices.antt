-- A refusal as a frame of its own, and bytes that are written into a lent text.
use Rattle.std.specs.Prelude.{◌≡◌, ℕ, ◌<◌, ◌≤◌, List, [], ◌∷◌, ◌++◌, length, Ok, Err, Result}
use Rattle.planner.specs.declared.refusal.Refusal.{Refusal}
use Rattle.planner.specs.Refusals.{number}
use Rattle.planner.specs.Reading.{over}
use Rattle.table_file.specs.declared.fault.Fault.{Fault}
use Rattle.table_file.specs.declared.notice.Notice.{Notice}
use Rattle.table_file.specs.Numbers.{number_of}
use Rattle.table_file.specs.Digits.{byte_text, word_text}

abbrev pub notice : ℕ → ℕ → ℕ → ℕ → Notice
notice n y l c = record { number = n; layer = y; line = l; column = c }

abbrev pub of_fault : Fault → Notice
of_fault f = notice (number_of f.number) f.layer f.line f.column

-- kind 7F, then number, layer, line and column in 1, 1, 2 and 2 bytes
abbrev pub notice_line : Notice → List ℕ
notice_line n = byte_text 127 ++ (byte_text n.number ++ (byte_text n.layer ++ (word_text n.line ++ (word_text n.column ++ 10 ∷ []))))

-- Bytes over the front of a lent text, with the rest kept; or refused by 11 where it is too short, and then it is as it was.
abbrev pub WritesBytes : List ℕ → Result ℕ Refusal → List ℕ → List ℕ → Type 0
WritesBytes bs (Ok n) old new = (length bs ≤ length old) × (n ≡ length bs) × (new ≡ over bs old)
WritesBytes bs (Err e) old new = (length old < length bs) × (number e ≡ 11) × (new ≡ old)
