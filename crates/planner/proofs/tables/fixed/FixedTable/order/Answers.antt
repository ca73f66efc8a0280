use Rattle.std.proofs.Common.{◌≡◌, ◌≤◌, length, take, ap, ◌∙◌, rules, arith}
use Rattle.std.proofs.lemmas.List.{take_all}
use Rattle.planner.specs.Tables.{Fixed, holds}
use Rattle.planner.specs.Calls.{upward}
use Rattle.planner.specs.Reading.{standing}
use Rattle.planner.proofs.OnLists.{standing_upward}
use Rattle.planner.proofs.tables.fixed.FixedTable.order.Goals as goal

pub returns-clause-stands : goal.returns-clause-stands
returns-clause-stands g c =
    let n = length (holds c.args.self.now).tasks in
    let xs = c.args.places.now in
    let given : c.deref.result.now ≡ upward xs = search rules in
    let all : length (upward xs) ≤ n = omega (arith, c.in-Some.ensures.0.1.0) in
    let e : take n c.deref.result.now ≡ upward xs = ap (take n) given ∙ take_all n (upward xs) all in
    ap (λ (m : Fixed). standing m.order) c.arrange.ensures.holds ∙ ap standing e ∙ standing_upward xs c.in-Some.ensures.0.0
