use Rattle.std.proofs.Common.{◌≡◌, ℕ, ◌<◌, get_or, take}
use Rattle.interference.specs.Sums.{carried}
use Rattle.interference.specs.View.{query}
use Rattle.interference.specs.Mixed.{top}
use Rattle.interference.proofs.limited.carried_work.Given as goal

abbrev pub invariant-loop-r : goal.invariant-loop-r
invariant-loop-r l = (k : ℕ) → k < 16 → get_or l.best k 0 ≡ top (carried (query l.q)) k (take l.r-index l.q.upper.now)
