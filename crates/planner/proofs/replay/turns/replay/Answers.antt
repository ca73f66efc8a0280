use Rattle.std.proofs.Common.{◌≡◌, ℕ, List, map, length, take, drop, vec_items, sym, refl, ap, ◌∙◌, subst, arith, length-drop}
use Rattle.std.proofs.lemmas.List.{set-get_or}
use Rattle.std.specs.Vec.Iter.{into_iter_items}
use Rattle.planner.specs.declared.replay.Call.{Call}
use Rattle.planner.specs.Tables.{held}
use Rattle.planner.specs.History.{still}
use Rattle.planner.specs.Replaying.{sum_under, Steadily, request, state}
use Rattle.planner.specs.declared.replay.Report.{Report}
use Rattle.planner.specs.Promises.{Promises}
use Rattle.planner.specs.Reporting.{Run}
use Rattle.planner.proofs.OnRuns.{onward, ended}
use Rattle.planner.proofs.OnPromises.{keeps}
use Rattle.planner.proofs.replay.turns.replay.Goals.{else-calls-test, then-calls-test+in_default}
use Rattle.planner.proofs.replay.turns.replay.Goals as goal

pub calls-preserved : goal.calls-preserved
calls-preserved g c =
    let k = c.carry_out-table in
    let r = k.new.slot in
    let sum = sum_under g.R.Rule.meaning g.S.Rule.meaning in
    let all = into_iter_items c.into_iter-rest.result in
    onward sum Steadily request (still (held c.args.table)) all c.args.reports.now
    c.calls.report-index (state c.calls.table) c.in-Some.call r.outcome (state k.result) r
    (into_iter_items c.calls.rest) (into_iter_items c.next.new.self) c.calls.reports
    c.calls.invariant (omega (arith, c.calls.auto.reports)) c.in-Some.ensures.items k.ensures.turned refl k.ensures.shows

pub returns-clause-promises : goal.returns-clause-promises
returns-clause-promises g c =
    let n = c.calls.report-index in
    let v = c.calls.invariant in
    let all = into_iter_items c.into_iter-rest.result in
    let e : all ≡ vec_items c.args.calls = c.into_iter-rest.ensures.rest in
    let cut = ap length v.left_is ∙ length-drop n all in
    let same = ap length e in
    let all_of : c.min-count.result ≡ n = elim c.calls-test.branch [
      | else-calls-test w ↦ omega (arith, w.calls-test.false, v.within, v.room, same, c.len.ensures, c.min-count.ensures, c.args.calls.ok.0, c.calls.auto.reports)
      | then-calls-test+in_default w ↦ omega (arith, w.calls-test.true, w.in_default.ensures.cases.0, v.within, v.room, cut, same, c.len.ensures, c.min-count.ensures, c.args.calls.ok.0)
    ] in
    let told : c.calls-test.reports ≡ c.calls.reports = elim c.calls-test.branch [
      | else-calls-test w ↦ w.reports-is
      | then-calls-test+in_default w ↦ w.reports-is ∙ set-get_or c.calls.reports n _
    ] in
    let sum = sum_under g.R.Rule.meaning g.S.Rule.meaning in
    subst (λ (k : ℕ). Promises sum Steadily (still (held c.args.table)) (map request (take k (vec_items c.args.calls))) (take k c.calls-test.reports) (state c.calls.table)) (sym all_of)
    (subst (λ (rs : List Report). Promises sum Steadily (still (held c.args.table)) (map request (take n (vec_items c.args.calls))) (take n rs) (state c.calls.table)) (sym told)
    (keeps sum Steadily (held c.args.table) (map request (take n (vec_items c.args.calls))) (take n c.calls.reports) (state c.calls.table)
    (subst (λ (cs : List (Call g.row.R.Denot g.row.S.Denot)). Run sum Steadily (still (held c.args.table)) (map request (take n cs)) (take n c.calls.reports) (state c.calls.table)) e
    (ended sum Steadily request (still (held c.args.table)) all c.args.reports.now n (state c.calls.table) (into_iter_items c.calls.rest) c.calls.reports v))))

pub returns-clause-rest : goal.returns-clause-rest
returns-clause-rest g c =
    let n = c.calls.report-index in
    let v = c.calls.invariant in
    let all = into_iter_items c.into_iter-rest.result in
    let e : all ≡ vec_items c.args.calls = c.into_iter-rest.ensures.rest in
    let cut = ap length v.left_is ∙ length-drop n all in
    let same = ap length e in
    let all_of : c.min-count.result ≡ n = elim c.calls-test.branch [
      | else-calls-test w ↦ omega (arith, w.calls-test.false, v.within, v.room, same, c.len.ensures, c.min-count.ensures, c.args.calls.ok.0, c.calls.auto.reports)
      | then-calls-test+in_default w ↦ omega (arith, w.calls-test.true, w.in_default.ensures.cases.0, v.within, v.room, cut, same, c.len.ensures, c.min-count.ensures, c.args.calls.ok.0)
    ] in
    let told : c.calls-test.reports ≡ c.calls.reports = elim c.calls-test.branch [
      | else-calls-test w ↦ w.reports-is
      | then-calls-test+in_default w ↦ w.reports-is ∙ set-get_or c.calls.reports n _
    ] in
    subst (λ (k : ℕ). drop k c.calls-test.reports ≡ drop k c.args.reports.now) (sym all_of) (ap (drop n) told ∙ v.kept)
