use Rattle.std.proofs.Common.{◌≡◌, length, take}
use Rattle.analysis.specs.Rivals.{cost_of}
use Rattle.analysis.specs.Steps.{Padded, Greedy}
use Rattle.analysis.specs.Words.{test_of}
use Rattle.analysis.proofs.lengths.lengths_by.Given as goal

abbrev pub invariant-places : goal.invariant-places
invariant-places g l = record {
  wide : length l.lengths ≡ 32;
  greedy : Greedy (cost_of l.tasks.set.tasks.now) (length l.tasks.set.tasks.now) (test_of (g.R.Rule.meaning l.rule) l.tasks.set) (take l.p l.tasks.order.now) l.lengths;
  padded : Padded (length l.tasks.set.tasks.now) 1 l.lengths;
}
