use Rattle.std.proofs.Common.{◌≡◌, ◌≤◌, length, take, sym, inr, refl, arith, length-take, rules}
use Rattle.std.proofs.lemmas.List.{get_or-take}
use Rattle.analysis.specs.Plans.{FirstPlan, NoPlan}
use Rattle.planner.specs.Tables.{holds}
use Rattle.planner.proofs.OnTables.{ordered_as}
use Rattle.planner.proofs.Entries.{first_same}
use Rattle.planner.proofs.tables.fixed.FixedTable.plan_by.Goals as goal

pub returns-in_default-clause-call : goal.returns-in_default-clause-call
returns-in_default-clause-call g c =
    let m = holds c.args.self.now in
    let sum = g.R.Rule.meaning c.args.self.now.rule in
    let set = c.task_set-set.ensures in
    let small : length m.tasks ≤ 8 = omega (arith, c.if-count-gt-MOST_PLANNED.false, c.count.ensures.value) in
    (inr (refl, small, ordered_as (λ k ts q. NoPlan sum k ts) set.cores set.tasks (λ i. m.order) c.in_default.ensures), refl)

pub returns-clause-call : goal.returns-clause-call
returns-clause-call g c =
    let s = c.args.self.now in
    let m = holds s in
    let n = length m.tasks in
    let plan = c.in-Some.plan in
    let sum = g.R.Rule.meaning s.rule in
    let set = c.task_set-set.ensures in
    let small : n ≤ 8 = omega (arith, c.if-count-gt-MOST_PLANNED.false, c.count.ensures.value) in
    let h = ordered_as (λ k ts q. FirstPlan sum k ts (take (length ts) plan.order) plan.lengths) set.cores set.tasks (λ i. m.order) c.in-Some.ensures.0 in
    let wide : length plan.lengths ≡ 32 = search rules in (
      small,
      (
        take n plan.order,
        take n plan.lengths,
        omega (arith, length-take n plan.lengths),
        first_same sum m.cores m.tasks plan.lengths (take n plan.lengths) (λ j l. sym (get_or-take n plan.lengths j 0 l)) (take n plan.order) h,
        c.arrange.ensures.holds,
      ),
    )
