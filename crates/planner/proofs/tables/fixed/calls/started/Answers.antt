use Rattle.std.proofs.Common.{◌≡◌, false, length, take, replicate, vec_len, ap, ◌∙◌, arith}
use Rattle.std.proofs.lemmas.List.{length-map}
use Rattle.planner.specs.Rows.{tasks}
use Rattle.planner.specs.Tables.{downward}
use Rattle.planner.proofs.OnTables.{choice_as, named_as, fixed_as}
use Rattle.planner.proofs.OnWrites.{take_replicate}
use Rattle.planner.proofs.Downward.{downward_named, ones_choice}
use Rattle.planner.proofs.tables.fixed.calls.started.Goals as goal

pub returns-clause-holds : goal.returns-clause-holds
returns-clause-holds c =
    let t = c.args.rows in
    let ts = tasks t.items.items in
    let s = c.set.ensures in
    let o = c.number.ensures in
    let n : vec_len t.items ≡ length ts = omega (arith, length-map t.items.items (λ r. r.task), t.items.ok.0) in
    fixed_as false false s.cores s.tasks (o.items ∙ ap downward (c.len.ensures ∙ n))
    (s.lengths ∙ take_replicate (vec_len t.items) 32 1 t.few ∙ ap (λ k. replicate k 1) n)
    (s.bounds ∙ take_replicate (vec_len t.items) 32 0 t.few ∙ ap (λ k. replicate k 0) n)

pub returns-clause-named : goal.returns-clause-named
returns-clause-named c =
    let n = vec_len c.args.rows.items in
    let o = c.number.ensures in
    named_as (downward n) _ n _ (o.items ∙ ap downward c.len.ensures) c.set.ensures.len (downward_named n)

pub returns-clause-choice : goal.returns-clause-choice
returns-clause-choice c =
    let t = c.args.rows in
    let ts = tasks t.items.items in
    let s = c.set.ensures in
    let n : vec_len t.items ≡ length ts = omega (arith, length-map t.items.items (λ r. r.task), t.items.ok.0) in
    choice_as ts _ (take (length ts) (replicate 32 1)) _ (length ts) _ s.tasks (s.lengths ∙ ap (λ k. take k (replicate 32 1)) n) (s.len ∙ n) (ones_choice ts t.limits (omega (arith, t.few)))
