use Rattle.std.proofs.Common.{refl, add-one, arith}
use Rattle.std.specs.Fn.{FnReturnsAt}
use Rattle.planner.specs.Rows.{no_row}
use Rattle.planner.proofs.OnColumns.{one_more}
use Rattle.planner.proofs.columns.column.Goals as goal

pub loop-i-preserved : goal.loop-i-preserved
loop-i-preserved g c =
    let i = c.loop-i.i in
    rw add-one (one_more (FnReturnsAt g.F.Fn c.args.entry) c.args.rows.now c.loop-i.found i no_row c.entry.result (omega arith) (omega arith) c.loop-i.invariant
    (record { shown = _; shows = refl; says = record { met = c.entry.ensures } }))
