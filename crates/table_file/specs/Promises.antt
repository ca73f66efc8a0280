-- What reading and writing promise.
use Rattle.std.specs.Prelude.{◌≡◌, ℕ, ◌<◌, ◌≤◌, List, length, take, Ok, Err, Result}
use Rattle.planner.specs.declared.refusal.Refusal.{Refusal}
use Rattle.planner.specs.Refusals.{number}
use Rattle.planner.specs.Reading.{over}
use Rattle.table_file.specs.declared.fault.Fault.{Fault}
use Rattle.table_file.specs.declared.sheet.Sheet.{Sheet}
use Rattle.table_file.specs.Stored.{Stored}
use Rattle.table_file.specs.Reading.{read_file}
use Rattle.table_file.specs.FileText.{file_text}
use Rattle.table_file.specs.Faults.{FirstFault}
use Rattle.table_file.specs.Sheets.{kept}

-- A file that was read: the sheet holds what it carries, and the file is, byte for byte, the text of the sheet. No rule
-- is broken.
pub record Accepted (bs : List ℕ) (new : Sheet) : Type 0 where
  pub holds : read_file bs ≡ Ok (kept new)
  pub text : bs ≡ file_text (kept new)
  pub faultless : (f : Fault) → FirstFault bs f → ⊥

-- A file that was refused for the first line that breaks a rule, by the first rule that it breaks, and there is only this
-- fault; the sheet is as it was.
pub record Refused (bs : List ℕ) (f : Fault) (old new : Sheet) : Type 0 where
  pub fault : read_file bs ≡ Err f
  pub first : FirstFault bs f
  pub only : (g : Fault) → FirstFault bs g → g ≡ f
  pub unchanged : new ≡ old

abbrev pub Reads : List ℕ → Result (Unit {0}) Fault → Sheet → Sheet → Type 0
Reads bs (Ok x) old new = Accepted bs new
Reads bs (Err f) old new = Refused bs f old new

-- n bytes of a lent text now are the text of what a file carries, and read back as that; the bytes past them stay.
pub record Written (s : Stored) (n : ℕ) (old new : List ℕ) : Type 0 where
  pub room : length (file_text s) ≤ length old
  pub count : n ≡ length (file_text s)
  pub text : new ≡ over (file_text s) old
  pub back : read_file (take n new) ≡ Ok s

-- Refused by 11 where the lent text is too short, and then it is as it was.
pub record NoRoom (s : Stored) (e : Refusal) (old new : List ℕ) : Type 0 where
  pub short : length old < length (file_text s)
  pub refusal : number e ≡ 11
  pub unchanged : new ≡ old

abbrev pub Writes : Stored → Result ℕ Refusal → List ℕ → List ℕ → Type 0
Writes s (Ok n) old new = Written s n old new
Writes s (Err e) old new = NoRoom s e old new
