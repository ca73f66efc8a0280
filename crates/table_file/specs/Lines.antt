-- The lines of a file, and what is wrong with one as a line of digits.
use Rattle.std.specs.Prelude.{ℕ, suc, ◌+◌, ◌%◌, Bool, true, false, cond, not, ◌&&◌, List, [], ◌∷◌, length, take, drop, Ok, Err, Result, ◌==◌, nat_lt}
use Rattle.table_file.specs.declared.fault.Number.TheVariants.{Digit, Line}
use Rattle.table_file.specs.declared.fault.Fault.{Fault}
use Rattle.table_file.specs.declared.stretch.Stretch.{Stretch}
use Rattle.table_file.specs.Numbers.{fault_at}
use Rattle.table_file.specs.Digits.{is_digit}

-- the index of the first byte that meets a test, or the length
abbrev pub first_at : (ℕ → Bool) → List ℕ → ℕ
first_at p [] = 0
first_at p (b ∷ bs) = cond (p b) 0 (suc (first_at p bs))

abbrev pub wrong : ℕ → Bool
wrong b = not (is_digit b)

abbrev pub feed : ℕ → Bool
feed b = b == 10

abbrev pub wrong_at : List ℕ → ℕ
wrong_at = first_at wrong

abbrev pub line_length : List ℕ → ℕ
line_length = first_at feed

-- a line without its line feed, and whether it has one
pub record TextLine : Type 0 where
  pub digits : List ℕ
  pub closed : Bool

abbrev pub text_line : List ℕ → Bool → TextLine
text_line ds c = record { digits = ds; closed = c }

abbrev pub longer : ℕ → List TextLine → List TextLine
longer b [] = text_line (b ∷ []) false ∷ []
longer b (t ∷ ts) = text_line (b ∷ t.digits) t.closed ∷ ts

-- the lines of a file
abbrev pub lines_of : List ℕ → List TextLine
lines_of [] = []
lines_of (b ∷ bs) = cond (b == 10) (text_line [] true ∷ lines_of bs) (longer b (lines_of bs))

-- the first line, and what follows it
abbrev pub head_line : List ℕ → TextLine
head_line bs = text_line (take (line_length bs) bs) (nat_lt (line_length bs) (length bs))

abbrev pub after_line : List ℕ → List ℕ
after_line bs = drop (line_length bs + 1) bs

-- the digits of a line, or why it is none
abbrev pub check_line : TextLine → ℕ → Result (List ℕ) Fault
check_line t ln =
    cond (nat_lt (wrong_at t.digits) (length t.digits))
    (Err (fault_at Digit ln (wrong_at t.digits + 1)))
    (cond (t.closed && (not (length t.digits == 0) && length t.digits % 2 == 0))
    (Ok t.digits)
    (Err (fault_at Line ln 1)))

-- the code's answer by what it means
abbrev pub seen_line : Result Stretch Fault → Result (List ℕ) Fault
seen_line (Ok s) = Ok s.digits.now
seen_line (Err f) = Err f
