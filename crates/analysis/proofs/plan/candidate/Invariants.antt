use Rattle.std.proofs.Common.{ℕ, ◌<◌, ◌≤◌}
use Rattle.analysis.specs.Words.{StuckAt}
use Rattle.analysis.proofs.plan.candidate.Given as goal

abbrev pub invariant-tasks : goal.invariant-tasks
invariant-tasks g l = (y : ℕ) → l.from ≤ y → y < l.x → StuckAt (g.R.Rule.meaning l.rule) l.level y
