-- Which bytes answer which file.
use Rattle.std.specs.Prelude.{◌≡◌, ℕ, ◌<◌, ◌≤◌, ◌⊎◌, List, length, Ok, Err, Result}
use Rattle.interference.specs.Sums.{full_sum}
use Rattle.analysis.specs.declared.task.Task.{Task}
use Rattle.analysis.specs.Plans.{FirstPlan, NoPlan}
use Rattle.interference.specs.declared.full.Full.{Full}
use Rattle.planner.specs.declared.refusal.Refusal.{Refusal}
use Rattle.planner.specs.declared.tables.fixed.FixedTable.{FixedTable}
use Rattle.planner.specs.Refusals.{number}
use Rattle.planner.specs.Tables.{Open, holds}
use Rattle.planner.specs.Reading.{standing, over}
use Rattle.table_file.specs.declared.fault.Fault.{Fault}
use Rattle.table_file.specs.declared.notice.Notice.{Notice}
use Rattle.table_file.specs.Stored.{Stored, stored, placed, of_fixed}
use Rattle.table_file.specs.Reading.{read_file}
use Rattle.table_file.specs.FileText.{file_text}
use Rattle.table_file.specs.Notices.{notice, of_fault, notice_line}

-- a search that was refused: layer 4, with no line and column
abbrev pub refusal_notice : ℕ → Notice
refusal_notice k = notice k 4 0 0

abbrev pub seek_notice : ℕ → List ℕ
seek_notice k = notice_line (refusal_notice k)

-- The answer for a table: refusal 8 for more than eight tasks; refusal 9 where no order passes with any lengths under
-- the full rule; else the file of the table with the first plan, and its least lengths.
pub data PlanAnswer (m : ℕ) (ts : List Task) (out : List ℕ) : Type 0 where
  too_many : 8 < length ts → out ≡ seek_notice 8 → PlanAnswer m ts out
  none : length ts ≤ 8 → NoPlan full_sum m ts → out ≡ seek_notice 9 → PlanAnswer m ts out
  planned : length ts ≤ 8 → (q lens : List ℕ) → length lens ≡ length ts → FirstPlan full_sum m ts q lens
      → out ≡ file_text (stored m ts (placed (standing q) lens)) → PlanAnswer m ts out

-- The answer for what was read: the notice of the fault, or that for the table; places in the file are not used.
abbrev pub FileAnswer : Result Stored Fault → List ℕ → Type 0
FileAnswer (Ok s) out = PlanAnswer s.cores s.tasks out
FileAnswer (Err f) out = out ≡ notice_line (of_fault f)

-- n bytes of a text now are the one answer to a file; the rest stays
pub record Answered (file : List ℕ) (n : ℕ) (old new : List ℕ) : Type 0 where
  pub bytes : List ℕ
  pub answer : FileAnswer (read_file file) bytes
  pub only : (other : List ℕ) → FileAnswer (read_file file) other → other ≡ bytes
  pub count : n ≡ length bytes
  pub text : new ≡ over bytes old

-- What planning a file gives: the table whose file is the answer, and small enough to be written, or the notice that is the answer.
abbrev pub FilePlanned : Result Stored Fault → Result (FixedTable Full) Notice → Type 0
FilePlanned r (Ok t) = (length (file_text (of_fixed (holds t))) ≤ 1024) × FileAnswer r (file_text (of_fixed (holds t)))
FilePlanned r (Err n) = FileAnswer r (notice_line n)

-- what planning a table gives: the table with its first plan, or the refusal
abbrev pub Planned : Open → Result (FixedTable Full) Refusal → Type 0
Planned m (Ok t) =
    (length m.tasks ≤ 8)
    × ((q : List ℕ) × (lens : List ℕ) × (length lens ≡ length m.tasks) × FirstPlan full_sum m.cores m.tasks q lens
    × (of_fixed (holds t) ≡ stored m.cores m.tasks (placed (standing q) lens)) × ((holds t).tasks ≡ m.tasks))
Planned m (Err e) = ((number e ≡ 8) × (8 < length m.tasks)) ⊎ ((number e ≡ 9) × (length m.tasks ≤ 8) × NoPlan full_sum m.cores m.tasks)
