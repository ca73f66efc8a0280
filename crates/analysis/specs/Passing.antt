-- When a task passes. The sum of a rule is a function of the question alone.
use Rattle.std.specs.Prelude.{ℕ, ◌+◌, ◌-◌, ◌/◌, ◌≤◌, List, slice_index, slice_index_or}
use Rattle.interference.specs.declared.rival.Rival.{Rival}
use Rattle.interference.specs.Questions.{Query, posed}
use Rattle.analysis.specs.declared.task.Task.{Task}
use Rattle.analysis.specs.Rivals.{no_task, finish_limit, finish_limits, under, uppers, lowers}

-- with a region of length f: what a job executes before the last tick of its region can begin
abbrev pub own_demand : Task → ℕ → ℕ
own_demand t f = t.cost - (f - 1)

-- and when that must be done at the latest
abbrev pub latest_start : Task → ℕ → ℕ
latest_start t f = finish_limit t - (f - 1)

-- the question that is asked of a task between its rivals
abbrev pub asked : ℕ → Task → ℕ → List Rival → List Rival → Query
asked m t f us ls = posed m (latest_start t f) (own_demand t f) f us ls

-- own demand and an equal part of the sum for each core, rounded down, fit before the latest start
abbrev pub Meets : (Query → ℕ) → ℕ → Task → List Rival → List Rival → ℕ → Type 0
Meets sum m t us ls f = own_demand t f + sum (asked m t f us ls) / m ≤ latest_start t f

-- task k passes on m cores with a region of length f, where the tasks of `low` stand below it with their lengths and
-- all others above, and each rival finishes by its limit
abbrev pub PassesOver : (Query → ℕ) → ℕ → List Task → List ℕ → ℕ → List ℕ → ℕ → Type 0
PassesOver sum m ts low k lens f = Meets sum m (slice_index_or ts k no_task) (uppers ts (finish_limits ts) low k) (lowers ts (finish_limits ts) lens low k) f

-- task k passes in an order with a choice of lengths
abbrev pub Passes : (Query → ℕ) → ℕ → List Task → List ℕ → List ℕ → ℕ → Type 0
Passes sum m ts q lens k = PassesOver sum m ts (under q k) k lens (slice_index lens k)
