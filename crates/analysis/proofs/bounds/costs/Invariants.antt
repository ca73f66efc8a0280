use Rattle.std.proofs.Common.{◌≡◌, ℕ, ◌<◌, length, get_or}
use Rattle.analysis.specs.Rivals.{cost_of}
use Rattle.analysis.specs.Steps.{Padded}
use Rattle.analysis.proofs.bounds.costs.Given as goal

abbrev pub invariant-loop-i : goal.invariant-loop-i
invariant-loop-i l = record {
  wide : length l.bounds ≡ 32;
  costs : (k : ℕ) → k < l.i → get_or l.bounds k 0 ≡ cost_of l.tasks k;
  padded : Padded (length l.tasks) 0 l.bounds;
}
