use Rattle.std.specs.Vec.Iter.{into_iter_items}
use Rattle.planner.specs.Replaying.{sum_under, Steadily, request, state}
use Rattle.planner.proofs.OnRuns.{Reached}
use Rattle.planner.proofs.replay.turns.replay.Given as goal

abbrev pub invariant-calls : goal.invariant-calls
invariant-calls g l =
    Reached (sum_under g.R.Rule.meaning g.S.Rule.meaning) Steadily request (state l.initial.table) (into_iter_items l.initial.rest) l.initial.reports
    l.report-index (state l.table) (into_iter_items l.rest) l.reports
