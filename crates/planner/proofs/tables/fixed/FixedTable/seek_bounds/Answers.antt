use Rattle.std.proofs.Common.{◌≡◌, ℕ, true, List, length, take, vec_len, sym, refl, ap, ◌∙◌, subst, arith, length-take, rules}
use Rattle.std.proofs.lemmas.List.{length-map, get_or-take}
use Rattle.analysis.specs.Bounds.{LeastSolution, NoSolution}
use Rattle.planner.specs.Tables.{holds}
use Rattle.planner.proofs.OnTables.{ordered_as, fixed_as}
use Rattle.planner.proofs.Entries.{solved_same}
use Rattle.planner.proofs.tables.fixed.FixedTable.seek_bounds.Goals as goal

pub returns-in_default-clause-call : goal.returns-in_default-clause-call
returns-in_default-clause-call g c =
    let m = holds c.args.self.now in
    let sum = g.R.Rule.meaning c.args.self.now.rule in
    let o = c.ordered.ensures in
    let t = c.args.self.now.rows.items in
    let count : c.count.result ≡ vec_len t = omega (arith, length-map t.items (λ r. r.task), t.ok.0, c.count.ensures.value) in
    let read = ap (λ k. take k c.read_lengths-lengths.result) count ∙ c.read_lengths-lengths.ensures in
    ((refl, ordered_as (λ k ts q. NoSolution sum k ts q m.lengths) o.cores o.tasks o.order (subst (λ (ls : List ℕ). NoSolution sum c.ordered.result.set.cores c.ordered.result.set.tasks.now c.ordered.result.order.now ls) read c.in_default.ensures)), refl)

pub returns-clause-call : goal.returns-clause-call
returns-clause-call g c =
    let s = c.args.self.now in
    let m = holds s in
    let n = length m.tasks in
    let bs = c.in-Some.bounds in
    let sum = g.R.Rule.meaning s.rule in
    let o = c.ordered.ensures in
    let t = s.rows.items in
    let count : c.count.result ≡ vec_len t = omega (arith, length-map t.items (λ r. r.task), t.ok.0, c.count.ensures.value) in
    let read = ap (λ k. take k c.read_lengths-lengths.result) count ∙ c.read_lengths-lengths.ensures in
    let given = subst (λ (ls : List ℕ). LeastSolution sum c.ordered.result.set.cores c.ordered.result.set.tasks.now c.ordered.result.order.now ls bs) read c.in-Some.ensures.0 in
    let h = ordered_as (λ k ts q. LeastSolution sum k ts q m.lengths bs) o.cores o.tasks o.order given in
    let w = c.set.ensures in
    let n' : vec_len t ≡ n = omega (arith, length-map t.items (λ r. r.task), t.ok.0) in
    let wide : length bs ≡ 32 = search rules in (
      take n bs,
      omega (arith, length-take n bs, length-map s.rows.items.items (λ r. r.task), s.rows.few, s.rows.items.ok.0),
      solved_same sum m.cores m.tasks m.order m.lengths bs (take n bs) (λ j l. sym (get_or-take n bs j 0 l)) h,
      fixed_as s.marks.passed true w.cores w.tasks refl (w.lengths ∙ c.read_lengths-lengths.ensures) (w.bounds ∙ ap (λ k. take k bs) n'),
    )
