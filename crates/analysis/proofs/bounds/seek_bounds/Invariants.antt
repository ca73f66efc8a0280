use Rattle.std.proofs.Common.{◌≡◌, ◌-◌, length, get_or}
use Rattle.analysis.specs.Rivals.{limit_of}
use Rattle.analysis.specs.Steps.{total}
use Rattle.analysis.specs.Words.{RisingIn}
use Rattle.analysis.proofs.bounds.seek_bounds.Given as goal

abbrev pub invariant-sweeping : goal.invariant-sweeping
invariant-sweeping g l = record { wide : length l.bounds ≡ 32; rising : RisingIn (g.R.Rule.meaning l.rule) l.tasks l.bounds }

abbrev pub decreases-sweeping : goal.decreases-sweeping
decreases-sweeping g l =
    let ts = l.tasks.ordered.set.tasks.now in total (limit_of ts) (length ts) - total (λ k. get_or l.bounds k 0) (length ts)
