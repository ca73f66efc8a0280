use Rattle.std.proofs.Common.{◌≡◌, length, take, sym, arith, length-take, rules}
use Rattle.std.proofs.lemmas.List.{length-map, get_or-take}
use Rattle.analysis.specs.Plans.{LeastLengths}
use Rattle.planner.specs.Tables.{holds}
use Rattle.planner.proofs.OnTables.{ordered_as}
use Rattle.planner.proofs.Entries.{least_same}
use Rattle.planner.proofs.tables.fixed.FixedTable.lengths_by.Goals as goal

pub returns-clause-call : goal.returns-clause-call
returns-clause-call g c =
    let s = c.args.self.now in
    let m = holds s in
    let n = length m.tasks in
    let lens = c.in-Some.lengths in
    let sum = g.R.Rule.meaning s.rule in
    let o = c.ordered.ensures in
    let h = ordered_as (λ k ts q. LeastLengths sum k ts q lens) o.cores o.tasks o.order c.in-Some.ensures.0 in
    let wide : length lens ≡ 32 = search rules in (
      take n lens,
      omega (arith, length-take n lens, length-map s.rows.items.items (λ r. r.task), s.rows.few, s.rows.items.ok.0),
      least_same sum m.cores m.tasks lens (take n lens) (λ j l. sym (get_or-take n lens j 0 l)) m.order h,
      c.settle.ensures.holds,
    )
