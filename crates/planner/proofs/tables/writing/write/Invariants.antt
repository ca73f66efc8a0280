use Rattle.std.proofs.Common.{◌≡◌, take}
use Rattle.planner.specs.Rows.{tasks, lengths, bounds}
use Rattle.planner.proofs.tables.writing.write.Given as goal

abbrev pub invariant-loop-i : goal.invariant-loop-i
invariant-loop-i l = (tasks l.rows ≡ tasks l.initial.rows) × (lengths (take l.i l.rows) ≡ take l.i l.found) × (bounds (take l.i l.rows) ≡ take l.i l.solved)
