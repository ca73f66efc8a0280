-- What was read so far, and what one frame more makes of it.
use Rattle.std.specs.Prelude.{◌≡◌, ℕ, Bool, cond, ◌&&◌, ◌||◌, List, [], ◌∷◌, ◌++◌, length, Ok, Err, Result, ◌==◌, nat_le, nat_lt}
use Rattle.analysis.specs.declared.task.Task.{Task}
use Rattle.analysis.specs.Rivals.{among}
use Rattle.planner.specs.Calls.{task_numbered}
use Rattle.table_file.specs.declared.fault.Number.TheVariants.{CoreCount, TableFull, Limits, NoSuchTask, NamedAgain, Length, NotDue}
use Rattle.table_file.specs.declared.fault.Fault.{Fault}
use Rattle.table_file.specs.declared.place.Place.{Place}
use Rattle.table_file.specs.declared.reader.Phase.{Phase}
use Rattle.table_file.specs.declared.reader.Phase.TheVariants.{Start, Tasks, Places}
use Rattle.table_file.specs.declared.reader.Reader.{Reader}
use Rattle.table_file.specs.Numbers.{fault_at}
use Rattle.table_file.specs.Digits.{byte_at}
use Rattle.table_file.specs.Frames.{Form, cores, task, place, task_of, place_of}
use Rattle.table_file.specs.Stored.{Stored, stored, numbers}

pub record Progress : Type 0 where
  pub phase : Phase
  pub cores : ℕ
  pub tasks : List Task
  pub places : List Place

abbrev pub so_far : Phase → ℕ → List Task → List Place → Progress
so_far f m ts ps = record { phase = f; cores = m; tasks = ts; places = ps }

abbrev pub begin : Progress
begin = so_far Start 1 [] []

-- a fault ends the reading
abbrev pub bind : {X Y : Type 0} → Result X Fault → (X → Result Y Fault) → Result Y Fault
bind (Ok x) f = f x
bind (Err e) f = Err e

-- 1 ≤ cost ≤ deadline ≤ period ≤ 65,535
abbrev pub within_limits : Task → Bool
within_limits t = nat_le 1 t.cost && (nat_le t.cost t.deadline && (nat_le t.deadline t.period && nat_le t.period 65535))

module _ (s : Progress) where
  abbrev pub step_cores : List ℕ → ℕ → Result Progress Fault
  step_cores ds ln =
      cond (nat_le 1 (byte_at ds 0) && nat_le (byte_at ds 0) 16)
      (Ok (so_far Tasks (byte_at ds 0) s.tasks s.places))
      (Err (fault_at CoreCount ln 1))

  abbrev pub step_task : List ℕ → ℕ → Result Progress Fault
  step_task ds ln =
      cond (nat_le 32 (length s.tasks)) (Err (fault_at TableFull ln 1))
      (cond (within_limits (task_of ds))
      (Ok (so_far Tasks s.cores (s.tasks ++ task_of ds ∷ []) s.places))
      (Err (fault_at Limits ln 1)))

  abbrev pub check_place : Place → ℕ → Result (Unit {0}) Fault
  check_place p ln =
      cond (p.task == 0 || nat_lt (length s.tasks) p.task) (Err (fault_at NoSuchTask ln 1))
      (cond (among (numbers s.places) p.task) (Err (fault_at NamedAgain ln 1))
      (cond (p.length == 0 || nat_lt (task_numbered s.tasks p.task).cost p.length) (Err (fault_at Length ln 1)) (Ok tt)))

  abbrev pub step_place : List ℕ → ℕ → Result Progress Fault
  step_place ds ln =
      cond (nat_le (length s.tasks) (length s.places)) (Err (fault_at NotDue ln 1))
      (bind (check_place (place_of ds) ln) (λ _. Ok (so_far Places s.cores s.tasks (s.places ++ place_of ds ∷ []))))

  -- one frame more, by the phase and the frame's kind
  abbrev pub step : Form → Result Progress Fault
  step (cores ds ln) = elim s.phase [ Start ↦ step_cores ds ln | Tasks ↦ Err (fault_at NotDue ln 1) | Places ↦ Err (fault_at NotDue ln 1) ]
  step (task ds ln) = elim s.phase [ Start ↦ Err (fault_at NotDue ln 1) | Tasks ↦ step_task ds ln | Places ↦ Err (fault_at NotDue ln 1) ]
  step (place ds ln) = elim s.phase [ Start ↦ Err (fault_at NotDue ln 1) | Tasks ↦ step_place ds ln | Places ↦ step_place ds ln ]

  -- at the end of the file: nothing is missing
  abbrev pub finish : ℕ → Result (Unit {0}) Fault
  finish ln = elim s.phase [
    | Start ↦ Err (fault_at NotDue ln 1)
    | Tasks ↦ Ok tt
    | Places ↦ cond (nat_lt (length s.places) (length s.tasks)) (Err (fault_at NotDue ln 1)) (Ok tt)
  ]

  abbrev pub carried : Stored
  carried = stored s.cores s.tasks s.places

-- what the reader holds
abbrev pub view : Reader → Progress
view r = so_far r.phase r.cores r.tasks.items r.places.items

-- what a step makes of the reader, or the fault, and then it is as it was
abbrev pub Steps : Result Progress Fault → Result (Unit {0}) Fault → Reader → Reader → Type 0
Steps step (Ok x) old new = step ≡ Ok (view new)
Steps step (Err f) old new = (step ≡ Err f) × (new ≡ old)
