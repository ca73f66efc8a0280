use Rattle.std.proofs.Common.{◌≡◌, ◌≤◌, length}
use Rattle.analysis.specs.Rivals.{cost_of}
use Rattle.analysis.specs.Steps.{Padded}
use Rattle.analysis.specs.Words.{test_of}
use Rattle.analysis.proofs.Rank.{rank}
use Rattle.analysis.proofs.Levels.{At}
use Rattle.analysis.proofs.plan.plan_by.Given as goal

abbrev pub invariant-levels : goal.invariant-levels
invariant-levels g l =
    let s = l.tasks.set in
    record {
      wide : length l.lengths ≡ 32;
      few : length l.placed.items ≤ length s.tasks.now;
      next : l.next ≤ 8;
      at : At (cost_of s.tasks.now) (length s.tasks.now) (test_of (g.R.Rule.meaning l.rule) s) l.placed.items l.next l.lengths;
      padded : Padded (length s.tasks.now) 1 l.lengths;
    }

abbrev pub decreases-levels : goal.decreases-levels
decreases-levels g l = rank 8 l.placed.items l.next
