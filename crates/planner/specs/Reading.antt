-- What a reader of a table can count on, and what is read out of a fixed one by place, the highest first.
use Rattle.std.specs.Prelude.{◌≡◌, ℕ, ◌+◌, ◌≤◌, List, ◌++◌, map, reverse, length, drop, Ok, Err, Result, slice_index}
use Rattle.planner.specs.declared.marks.Marks.{Marks}
use Rattle.planner.specs.declared.refusal.Refusal.{Refusal}
use Rattle.planner.specs.Refusals.{number}
use Rattle.analysis.specs.Rivals.{TasksWithinLimits, cost_of}
use Rattle.analysis.specs.Plans.{IsOrder, IsChoice}
use Rattle.planner.specs.Tables.{Open, Fixed}

-- what every open table keeps
pub record OpenWithinLimits (m : Open) : Type 0 where
  pub some : 1 ≤ m.cores
  pub most : m.cores ≤ 16
  pub few : length m.tasks ≤ 32
  pub tasks : TasksWithinLimits m.tasks

-- what every fixed table keeps
pub record FixedWithinLimits (m : Fixed) : Type 0 where
  pub some : 1 ≤ m.cores
  pub most : m.cores ≤ 16
  pub few : length m.tasks ≤ 32
  pub tasks : TasksWithinLimits m.tasks
  pub order : IsOrder (length m.tasks) m.order
  pub lengths : length m.lengths ≡ length m.tasks
  pub choice : IsChoice (cost_of m.tasks) (length m.tasks) m.lengths
  pub bounds : length m.bounds ≡ length m.tasks

-- the task numbers, from 1, of an order that is kept from the lowest place up
abbrev pub standing : List ℕ → List ℕ
standing q = map (λ k. k + 1) (reverse q)

-- a list by task number, as the tasks stand
abbrev pub as_standing : List ℕ → List ℕ → List ℕ
as_standing q xs = map (λ k. slice_index xs k) (reverse q)

-- items over the front of a list; the entries past them stay
abbrev pub over : List ℕ → List ℕ → List ℕ
over items old = items ++ drop (length items) old

-- three lists that are lent
pub record Lent : Type 0 where
  pub tasks : List ℕ
  pub lengths : List ℕ
  pub bounds : List ℕ

abbrev pub lent : List ℕ → List ℕ → List ℕ → Lent
lent a b c = record { tasks = a; lengths = b; bounds = c }

module _ (m : Fixed) where
  -- each list has an entry for each place
  abbrev pub Room : Lent → Type 0
  Room l = (length m.tasks ≤ length l.tasks) × (length m.tasks ≤ length l.lengths) × (length m.tasks ≤ length l.bounds)

  abbrev pub filled : Lent → Lent
  filled l = lent (over (standing m.order) l.tasks) (over (as_standing m.order m.lengths) l.lengths) (over (as_standing m.order m.bounds) l.bounds)

  -- Refused by 11 where a list is too short, and then the lists are as before; or both marks are answered.
  abbrev pub ReadsOut : Result Marks Refusal → Lent → Lent → Type 0
  ReadsOut (Ok marks) old new = Room old × (marks.passed ≡ m.passed) × (marks.bounded ≡ m.bounded) × (new ≡ filled old)
  ReadsOut (Err e) old new = (number e ≡ 11) × (Room old → ⊥) × (new ≡ old)
