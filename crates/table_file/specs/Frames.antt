-- Frames: the kind byte of each, and the frame that a line of digits is.
use Rattle.std.specs.Prelude.{ℕ, ◌*◌, cond, List, length, drop, Ok, Err, Result, ◌==◌}
use Rattle.analysis.specs.declared.task.Task.{Task}
use Rattle.table_file.specs.declared.fault.Number.TheVariants.{Kind, Size}
use Rattle.table_file.specs.declared.fault.Fault.{Fault}
use Rattle.table_file.specs.declared.place.Place.{Place}
use Rattle.table_file.specs.declared.frames.Frame.{Frame}
use Rattle.table_file.specs.declared.frames.Frame.TheVariants as variant
use Rattle.table_file.specs.Numbers.{fault_at}
use Rattle.table_file.specs.Digits.{byte_at, word_at}

-- a frame by its kind, with the digits of its fields and its line
pub data Form : Type 0 where
  cores : List ℕ → ℕ → Form
  task : List ℕ → ℕ → Form
  place : List ℕ → ℕ → Form

abbrev pub meaning : Frame → Form
meaning (variant.Cores f) = cores f.digits.now f.line
meaning (variant.Task f) = task f.digits.now f.line
meaning (variant.Place f) = place f.digits.now f.line

-- the digits of the fields, two for each byte
abbrev pub fields : List ℕ → List ℕ
fields ds = drop 2 ds

abbrev sized : ℕ → List ℕ → ℕ → Form → Result Form Fault
sized n ds ln form = cond (length (fields ds) == 2 * n) (Ok form) (Err (fault_at Size ln 1))

abbrev pub form_of : List ℕ → ℕ → Result Form Fault
form_of ds ln =
    cond (byte_at ds 0 == 1) (sized 1 ds ln (cores (fields ds) ln))
    (cond (byte_at ds 0 == 2) (sized 6 ds ln (task (fields ds) ln))
    (cond (byte_at ds 0 == 3) (sized 3 ds ln (place (fields ds) ln))
    (Err (fault_at Kind ln 1))))

-- what the fields say
abbrev pub task_of : List ℕ → Task
task_of ds = record { cost = word_at ds 0; deadline = word_at ds 4; period = word_at ds 8 }

abbrev pub place_of : List ℕ → Place
place_of ds = record { task = byte_at ds 0; length = word_at ds 2 }

-- the code's answer by what it means
abbrev pub seen_frame : Result Frame Fault → Result Form Fault
seen_frame (Ok f) = Ok (meaning f)
seen_frame (Err f) = Err f
