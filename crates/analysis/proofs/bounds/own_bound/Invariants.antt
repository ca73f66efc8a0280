use Rattle.std.proofs.Common.{ℕ, ◌-◌, ◌≤◌}
use Rattle.analysis.specs.Words.{next_at}
use Rattle.analysis.proofs.bounds.own_bound.Given as goal

abbrev pub invariant-climbing : goal.invariant-climbing
invariant-climbing g l = record {
  low : l.place.task.cost ≤ l.b;
  high : l.b ≤ l.place.task.deadline;
  rises : l.b ≤ next_at (g.R.Rule.meaning l.rule) l.place l.f l.b;
  lowest : (v : ℕ) → l.place.task.cost ≤ v → v ≤ l.place.task.deadline → next_at (g.R.Rule.meaning l.rule) l.place l.f v ≤ v → l.b ≤ v;
}

abbrev pub decreases-climbing : goal.decreases-climbing
decreases-climbing g l = l.place.task.deadline - l.b
