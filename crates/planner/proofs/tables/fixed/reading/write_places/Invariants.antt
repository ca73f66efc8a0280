use Rattle.std.proofs.Common.{◌≡◌}
use Rattle.planner.specs.Rows.{lengths, bounds}
use Rattle.planner.specs.Reading.{standing, as_standing}
use Rattle.planner.proofs.OnLists.{partly}
use Rattle.planner.proofs.tables.fixed.reading.write_places.Given as goal

abbrev pub invariant-loop-p : goal.invariant-loop-p
invariant-loop-p l =
    (l.tasks ≡ partly (standing l.order) l.p l.initial.tasks)
    × (l.lengths ≡ partly (as_standing l.order (lengths l.rows)) l.p l.initial.lengths)
    × (l.bounds ≡ partly (as_standing l.order (bounds l.rows)) l.p l.initial.bounds)
