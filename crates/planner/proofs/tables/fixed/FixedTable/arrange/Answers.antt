use Rattle.std.proofs.Common.{◌≡◌, length, take, vec_len, ap, ◌∙◌, arith}
use Rattle.std.proofs.lemmas.List.{length-map}
use Rattle.planner.specs.Rows.{tasks}
use Rattle.planner.specs.Tables.{Fixed, fixed}
use Rattle.planner.proofs.tables.fixed.FixedTable.arrange.Goals as goal

pub returns-clause-holds : goal.returns-clause-holds
returns-clause-holds g c =
    let s = c.args.self.now in
    let ts = tasks s.rows.items.items in
    let n : vec_len s.rows.items ≡ length ts = omega (arith, length-map s.rows.items.items (λ r. r.task), s.rows.items.ok.0) in
    let kept = c.settle.ensures.holds in
    let mid = c.settle.new.self in
    let old : vec_len mid.order ≡ length ts = omega (arith, ap (λ (m : Fixed). length m.order) kept, mid.order.ok.0, s.order.ok.0, s.whole, n) in
    let order = c.set_order.ensures.items ∙ ap (λ k. take k c.args.order.now) old in
    λ j. fixed (kept j).cores (kept j).tasks (order j) (kept j).lengths (kept j).bounds (kept j).passed (kept j).bounded
