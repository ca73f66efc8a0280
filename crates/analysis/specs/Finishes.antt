-- Latest finishes, as the code has them.
use Rattle.std.specs.Prelude.{ℕ, ◌≤◌, List, length}
use Rattle.analysis.specs.declared.task.Task.{Task}
use Rattle.analysis.specs.declared.level.Finishes.{Finishes}
use Rattle.analysis.specs.declared.level.Finishes.TheVariants.{Limits, Bounds}
use Rattle.analysis.specs.Rivals.{cost_of, limit_of, finish_limits}
use Rattle.analysis.specs.Bounds.{BoundsWithin}

-- of all tasks, by number
abbrev pub latest : List Task → Finishes → List ℕ
latest ts Limits = finish_limits ts
latest ts (Bounds bs) = bs.now

-- there is one for each task, from its cost to its limit
abbrev pub Fit : List Task → Finishes → Type 0
Fit ts Limits = Unit {0}
Fit ts (Bounds bs) = (length ts ≤ length bs.now) × BoundsWithin (length ts) (cost_of ts) (limit_of ts) bs.now
