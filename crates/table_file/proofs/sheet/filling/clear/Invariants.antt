use Rattle.std.proofs.Common.{◌≡◌, length}
use Rattle.planner.specs.Tables.{held}
use Rattle.table_file.proofs.sheet.filling.clear.Given as goal

abbrev pub invariant-loop : goal.invariant-loop
invariant-loop l = (held l.table).cores ≡ (held l.initial.table).cores

abbrev pub decreases-loop : goal.decreases-loop
decreases-loop l = length (held l.table).tasks
