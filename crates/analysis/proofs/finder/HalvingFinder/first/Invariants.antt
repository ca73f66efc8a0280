use Rattle.std.proofs.Common.{ℕ, ◌-◌, ◌<◌, ◌≤◌}
use Rattle.analysis.specs.Words.{MeetsAt}
use Rattle.analysis.proofs.finder.HalvingFinder.first.Given as goal

abbrev pub invariant-halving : goal.invariant-halving
invariant-halving g l = record {
  some : 1 ≤ l.least;
  order : l.least ≤ l.most;
  room : l.most ≤ l.place.task.cost;
  passes : MeetsAt (g.R.Rule.meaning l.rule) l.place l.most;
  fails : (f : ℕ) → 1 ≤ f → f < l.least → MeetsAt (g.R.Rule.meaning l.rule) l.place f → ⊥;
}

abbrev pub decreases-halving : goal.decreases-halving
decreases-halving g l = l.most - l.least
