use Rattle.std.proofs.Common.{◌≡◌, length}
use Rattle.planner.specs.Tables.{holds}
use Rattle.table_file.specs.Stored.{StretchedTo}
use Rattle.table_file.proofs.placing.stretch_to.Given as goal

abbrev pub invariant-loop-p : goal.invariant-loop-p
invariant-loop-p l =
    ((holds l.table).cores ≡ (holds l.initial.table).cores)
    × ((holds l.table).tasks ≡ (holds l.initial.table).tasks)
    × ((holds l.table).order ≡ (holds l.initial.table).order)
    × (length (holds l.table).lengths ≡ length (holds l.table).tasks)
    × StretchedTo l.places l.p-index (holds l.table).lengths
