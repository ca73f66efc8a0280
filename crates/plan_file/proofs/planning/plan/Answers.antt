use Rattle.std.proofs.Common.{vec_items, subst, rules}
use Rattle.planner.specs.declared.replay.Outcome.{Outcome}
use Rattle.planner.specs.Tables.{held}
use Rattle.plan_file.proofs.OnTables.{Came, replayed, steady_only, planned_is}
use Rattle.plan_file.proofs.planning.plan.Goals as goal

pub returns-in-Refused : goal.returns-in-Refused
returns-in-Refused c =
    let r = c.replay-table in
    let m = held c.args.table in
    let h = replayed m (vec_items c.args.calls) r.result.0 r.new.reports _ r.result.1 c.requires (search rules) r.ensures.count r.ensures.promises in
    subst (λ (o : Outcome). Came m o r.result.1) c.in-Refused.is h

pub unreachable-requires : goal.unreachable-requires
unreachable-requires c =
    let r = c.replay-table in
    let m = held c.args.table in
    let h = replayed m (vec_items c.args.calls) r.result.0 r.new.reports _ r.result.1 c.requires (search rules) r.ensures.count r.ensures.promises in
    steady_only m _ r.result.1 h c.in_default.not-Refused c.in_default-table.not-Steady

pub returns : goal.returns
returns c =
    let r = c.replay-table in
    let m = held c.args.table in
    let h = replayed m (vec_items c.args.calls) r.result.0 r.new.reports _ r.result.1 c.requires (search rules) r.ensures.count r.ensures.promises in
    planned_is m _ r.result.1 c.in-Steady.planned c.in-Steady.is h c.in_default.not-Refused
