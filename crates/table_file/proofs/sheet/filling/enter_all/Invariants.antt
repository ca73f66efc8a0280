use Rattle.std.proofs.Common.{◌≡◌, ◌++◌, take}
use Rattle.planner.specs.Tables.{held, opened}
use Rattle.table_file.proofs.sheet.filling.enter_all.Given as goal

abbrev pub invariant-loop-t : goal.invariant-loop-t
invariant-loop-t l = held l.table ≡ opened (held l.initial.table).cores ((held l.initial.table).tasks ++ take l.t-index l.tasks)
