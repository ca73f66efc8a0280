use Rattle.std.proofs.Common.{◌≡◌, ◌-◌, false, length, take, set, vec_len, ap, ◌∙◌, arith, rules}
use Rattle.std.proofs.lemmas.List.{length-map}
use Rattle.planner.specs.Rows.{tasks}
use Rattle.planner.specs.Tables.{fixed, holds}
use Rattle.planner.specs.Calls.{no_bounds}
use Rattle.planner.proofs.OnWrites.{take_set_in}
use Rattle.planner.proofs.tables.fixed.FixedTable.set_region.Goals as goal

pub returns-clause-holds : goal.returns-clause-holds
returns-clause-holds g c =
    let s = c.args.self.now in
    let m = holds s in
    let xs = s.rows.items.items in
    let i = c.args.number - 1 in
    let read = c.read_lengths-lengths in
    let n : length (tasks xs) ≡ vec_len s.rows.items = omega (arith, length-map xs (λ r. r.task), s.rows.items.ok.0) in
    let lens : take (length m.tasks) (set read.result i c.args.region) ≡ set m.lengths i c.args.region =
    take_set_in (length m.tasks) read.result i c.args.region ∙ ap (λ l. set l i c.args.region) (ap (λ k. take k read.result) n ∙ read.ensures) in
    let p : c.default.result.passed ≡ false = search rules in
    let b : c.default.result.bounded ≡ false = search rules in
    c.settle.ensures.holds ∙ (λ j. fixed m.cores m.tasks m.order (lens j) (no_bounds m) (p j) (b j))
