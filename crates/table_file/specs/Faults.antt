-- Which rules a line breaks, and which fault is a file's first.
use Rattle.std.specs.Prelude.{◌≡◌, ℕ, ◌+◌, ◌-◌, ◌%◌, ◌<◌, ◌≤◌, true, false, cond, ◌⊎◌, List, [], ◌∷◌, ◌++◌, length, ◌==◌, ◌≢◌, slice_index, slice_index_or}
use Rattle.analysis.specs.declared.task.Task.{Task}
use Rattle.analysis.specs.Rivals.{TaskWithinLimits}
use Rattle.planner.specs.Calls.{CoresWithinLimits, HasTask, task_numbered}
use Rattle.table_file.specs.declared.fault.Number.{Number}
use Rattle.table_file.specs.declared.fault.Number.TheVariants.{CoreCount, TableFull, Limits, NoSuchTask, NamedAgain, Length, Digit, Line, Kind, Size, NotDue, TooLong}
use Rattle.table_file.specs.declared.fault.Fault.{Fault}
use Rattle.table_file.specs.declared.place.Place.{Place}
use Rattle.table_file.specs.declared.reader.Phase.TheVariants.{Start, Tasks, Places}
use Rattle.table_file.specs.Numbers.{layer_number, layer_of, fault_at}
use Rattle.table_file.specs.Digits.{is_digit, byte_at}
use Rattle.table_file.specs.Lines.{TextLine, lines_of}
use Rattle.table_file.specs.Frames.{fields, task_of, place_of}
use Rattle.table_file.specs.Stored.{no_place}
use Rattle.table_file.specs.Progress.{Progress, so_far, begin}

-- when each rule is tested: 17 for the whole file, then 12 to 16 and 1 to 6 for each line
abbrev pub turn : Number → ℕ
turn TooLong = 0
turn Digit = 1
turn Line = 2
turn Kind = 3
turn Size = 4
turn NotDue = 5
turn CoreCount = 6
turn TableFull = 7
turn Limits = 8
turn NoSuchTask = 9
turn NamedAgain = 10
turn Length = 11

-- A line after what was read so far.
module _ (s : Progress) (t : TextLine) where
  abbrev pub kind : ℕ
  kind = byte_at t.digits 0

  abbrev pub line_task : Task
  line_task = task_of (fields t.digits)

  abbrev pub line_place : Place
  line_place = place_of (fields t.digits)

  abbrev pub line_cores : ℕ
  line_cores = byte_at (fields t.digits) 0

  -- the rule of each number
  abbrev pub Breaks : Number → Type 0
  Breaks TooLong = ⊥
  Breaks Digit = (i : ℕ) × (i < length t.digits) × (is_digit (slice_index t.digits i) ≡ false)
  Breaks Line = (t.closed ≡ false) ⊎ ((length t.digits ≡ 0) ⊎ (length t.digits % 2 ≡ 1))
  Breaks Kind = (kind ≢ 1) × (kind ≢ 2) × (kind ≢ 3)
  Breaks Size =
      ((kind ≡ 1) × (length (fields t.digits) ≢ 2))
      ⊎ (((kind ≡ 2) × (length (fields t.digits) ≢ 12)) ⊎ ((kind ≡ 3) × (length (fields t.digits) ≢ 6)))
  Breaks NotDue =
      ((kind ≡ 1) × (s.phase ≢ Start))
      ⊎ (((kind ≡ 2) × (s.phase ≢ Tasks)) ⊎ ((kind ≡ 3) × ((s.phase ≡ Start) ⊎ (length s.tasks ≤ length s.places))))
  Breaks CoreCount = (kind ≡ 1) × (CoresWithinLimits line_cores → ⊥)
  Breaks TableFull = (kind ≡ 2) × (32 ≤ length s.tasks)
  Breaks Limits = (kind ≡ 2) × (TaskWithinLimits line_task → ⊥)
  Breaks NoSuchTask = (kind ≡ 3) × (HasTask s.tasks line_place.task → ⊥)
  Breaks NamedAgain = (kind ≡ 3) × ((p : ℕ) × (p < length s.places) × ((slice_index_or s.places p no_place).task ≡ line_place.task))
  Breaks Length = (kind ≡ 3) × ((1 ≤ line_place.length) × (line_place.length ≤ (task_numbered s.tasks line_place.task).cost) → ⊥)

  abbrev pub Unbroken : Type 0
  Unbroken = (n : Number) → Breaks n → ⊥

  -- what a line that breaks no rule adds
  abbrev pub next : Progress
  next =
      cond (kind == 1) (so_far Tasks line_cores s.tasks s.places)
      (cond (kind == 2) (so_far Tasks s.cores (s.tasks ++ line_task ∷ []) s.places)
      (so_far Places s.cores s.tasks (s.places ++ line_place ∷ [])))

  -- the column of the first wrong byte
  abbrev pub FirstWrong : ℕ → Type 0
  FirstWrong c = (1 ≤ c) × (c ≤ length t.digits) × (is_digit (slice_index t.digits (c - 1)) ≡ false) × ((i : ℕ) → i + 1 < c → is_digit (slice_index t.digits i) ≡ true)

  -- A fault at a line: the line breaks its rule, and none that is tested before it.
  pub record Broken (ln : ℕ) (f : Fault) : Type 0 where
    pub rule : Breaks f.number
    pub first : (k : Number) → turn k < turn f.number → Breaks k → ⊥
    pub layer : f.layer ≡ layer_number (layer_of f.number)
    pub line : f.line ≡ ln
    pub column : f.number ≡ Digit → FirstWrong f.column
    pub whole : (f.number ≢ Digit) → f.column ≡ 1

-- Lines that break no rule, each after those before it, and what was read then.
abbrev pub ReadOn : Progress → List TextLine → Progress → Type 0
ReadOn s [] end = s ≡ end
ReadOn s (t ∷ ts) end = Unbroken s t × ReadOn (next s t) ts end

-- what a file that ends here lacks: the core frame, or places
abbrev pub Lacking : Progress → Type 0
Lacking s = (s.phase ≡ Start) ⊎ ((s.phase ≡ Places) × (length s.places < length s.tasks))

-- The fault of a file: it is too long, or a line breaks a rule while none before it does, or no line does and it ends too early.
pub data FirstFault (bs : List ℕ) (f : Fault) : Type 0 where
  too_long : 65535 < length bs → f ≡ fault_at TooLong 1 1 → FirstFault bs f
  in_line : length bs ≤ 65535 → (before : List TextLine) (t : TextLine) (after : List TextLine) → lines_of bs ≡ before ++ t ∷ after → (s : Progress) → ReadOn begin before s → Broken s t (length before + 1) f → FirstFault bs f
  at_end : length bs ≤ 65535 → (s : Progress) → ReadOn begin (lines_of bs) s → Lacking s → f ≡ fault_at NotDue (length (lines_of bs) + 1) 1 → FirstFault bs f
