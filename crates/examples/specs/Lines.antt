-- What a line of the worked figures can say, by the definitions of the contracts.
-- A line is written as a user writes it: a task is its row, tasks have numbers from 1, an order starts at the highest
-- place. Lengths and bounds are by task number.
use Rattle.std.specs.Prelude.{◌≡◌, ℕ, ◌-◌, ◌≤◌, List, map, reverse, length}
use Rattle.interference.specs.Questions.{Query}
use Rattle.interference.specs.Shares.{workload}
use Rattle.interference.specs.Sums.{full_sum, limited_sum, layered}
use Rattle.interference.specs.Laws.{Lawful}
use Rattle.analysis.specs.declared.task.Task.{Task}
use Rattle.analysis.specs.Passing.{Passes}
use Rattle.analysis.specs.Rivals.{TasksWithinLimits, cost_of}
use Rattle.analysis.specs.Plans.{IsOrder, IsChoice, NoLengths, FirstPlan}
use Rattle.analysis.specs.Bounds.{LeastSolution, NoSolution}

-- cost, deadline and period
abbrev pub row : ℕ → ℕ → ℕ → Task
row c d p = record { cost = c; deadline = d; period = p }

-- the same order from the lowest place up, with numbers from 0
abbrev pub upward : List ℕ → List ℕ
upward order = reverse (map (λ k. k - 1) order)

-- the last one is a handler of some cost and gap over the full rule
pub data Rules : Type 0 where
  full : Rules
  limited : Rules
  handled : ℕ → ℕ → Rules

abbrev pub sum_of : Rules → Query → ℕ
sum_of full = full_sum
sum_of limited = limited_sum
sum_of (handled c g) = λ q. layered c g q (full_sum q)

-- tasks in an order on some cores under a rule
pub record Setting : Type 0 where
  pub rule : Rules
  pub cores : ℕ
  pub tasks : List Task
  pub order : List ℕ

-- how many tasks there are, and the longest lengths that they can have
abbrev pub count : Setting → ℕ
count s = length s.tasks

abbrev pub sizes : Setting → ℕ → ℕ
sizes s = cost_of s.tasks

-- rule, cores and tasks are within the limits, and the order names each task once
pub record Fitting (s : Setting) : Type 0 where
  pub laws : Lawful (sum_of s.rule)
  pub some : 1 ≤ s.cores
  pub most : s.cores ≤ 16
  pub any : 1 ≤ count s
  pub few : count s ≤ 32
  pub sound : TasksWithinLimits s.tasks
  pub ordered : IsOrder (count s) (upward s.order)

pub data Line : Type 0 where
  -- the workload of a cost and a period in a window
  work : ℕ → ℕ → ℕ → ℕ → Line
  -- with these lengths a task passes, or it fails
  passes : Setting → List ℕ → ℕ → Line
  fails : Setting → List ℕ → ℕ → Line
  no_lengths : Setting → Line
  -- the order is that of the first plan, with these lengths
  first_plan : Setting → List ℕ → Line
  -- with these lengths, the least bounds are the others
  least_bounds : Setting → List ℕ → List ℕ → Line
  no_bounds : Setting → List ℕ → Line

-- a relation of a rule, cores, tasks and an order, at a setting
abbrev pub at {ℓ} : {X : Type ℓ} → ((Query → ℕ) → ℕ → List Task → List ℕ → X) → Setting → X
at R s = R (sum_of s.rule) s.cores s.tasks (upward s.order)

-- a setting within the limits whose tasks can have these lengths
abbrev pub Arranged : Setting → List ℕ → Type 0
Arranged s lens = Fitting s × IsChoice (sizes s) (count s) lens

-- and that has a task of this number
abbrev pub Numbered : Setting → List ℕ → ℕ → Type 0
Numbered s lens k = Arranged s lens × ((1 ≤ k) × (k ≤ count s))

abbrev pub Means : Line → Type 0
Means (work c p x w) = workload c p x ≡ w
Means (passes s lens k) = Numbered s lens k × at Passes s lens (k - 1)
Means (fails s lens k) = Numbered s lens k × (at Passes s lens (k - 1) → ⊥)
Means (no_lengths s) = Fitting s × at NoLengths s
Means (first_plan s lens) = Fitting s × at FirstPlan s lens
Means (least_bounds s lens bounds) = Arranged s lens × at LeastSolution s lens bounds
Means (no_bounds s lens) = Arranged s lens × at NoSolution s lens
