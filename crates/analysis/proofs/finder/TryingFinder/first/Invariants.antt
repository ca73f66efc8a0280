use Rattle.std.proofs.Common.{ℕ, ◌+◌, ◌-◌, ◌<◌, ◌≤◌}
use Rattle.analysis.specs.Words.{MeetsAt}
use Rattle.analysis.proofs.finder.TryingFinder.first.Given as goal

abbrev pub invariant-lengths : goal.invariant-lengths
invariant-lengths g l = (1 ≤ l.f) × ((f : ℕ) → 1 ≤ f → f < l.f → MeetsAt (g.R.Rule.meaning l.rule) l.place f → ⊥)

abbrev pub decreases-lengths : goal.decreases-lengths
decreases-lengths g l = l.place.task.cost + 1 - l.f
