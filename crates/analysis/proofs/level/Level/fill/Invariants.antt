use Rattle.std.proofs.Common.{◌≡◌, ◌+◌, ◌≤◌, length}
use Rattle.analysis.specs.Rivals.{picked, above, below, upper_rival, lower_rival}
use Rattle.analysis.specs.Finishes.{latest}
use Rattle.analysis.proofs.level.Level.fill.Given as goal

abbrev pub invariant-loop-j : goal.invariant-loop-j
invariant-loop-j l = record {
  few : length l.upper.items + length l.lower.items ≤ l.j;
  upper : l.upper.items ≡ picked (above l.self.low.now l.k) (upper_rival l.self.set.tasks.now (latest l.self.set.tasks.now l.late)) l.j;
  lower : l.lower.items ≡ picked (below l.self.low.now l.k) (lower_rival l.self.set.tasks.now (latest l.self.set.tasks.now l.late) l.self.lengths.now) l.j;
}
