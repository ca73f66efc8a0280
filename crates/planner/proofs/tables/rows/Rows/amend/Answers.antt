use Rattle.std.proofs.Common.{◌-◌, ◌<◌, length, set, sym, refl, ap, ◌∙◌, subst, arith}
use Rattle.std.proofs.lemmas.List.{length-map, map-set}
use Rattle.analysis.specs.declared.task.Task.{Task}
use Rattle.analysis.specs.Rivals.{TaskWithinLimits}
use Rattle.planner.specs.Rows.{tasks}
use Rattle.planner.specs.Tables.{opened}
use Rattle.planner.proofs.OnRows.{within_set, within_as, amended_task}
use Rattle.planner.proofs.tables.rows.Rows.amend.Goals as goal

pub invariant_of-self : goal.invariant_of-self
invariant_of-self c =
    let s = c.args.self.now in
    let xs = s.items.items in
    let n = c.args.number in
    let new = c.change.new.row in
    let inside : n - 1 < length xs = omega (arith, c.requires.has, length-map xs (λ r. r.task), s.items.ok.0) in
    let k = amended_task xs (n - 1) n c.args.cost c.index_mut.result.now new refl inside c.index_mut.ensures.value c.change.ensures.task in
    record {
      some = s.some;
      most = s.most;
      few = s.few;
      room = s.room;
      limits = within_as _ _ (map-set (λ r. r.task) xs (n - 1) new) (within_set (tasks xs) (n - 1) new.task s.limits (subst (λ (t : Task). TaskWithinLimits t) (sym k) c.requires.limits));
    }

pub returns-clause-keeps : goal.returns-clause-keeps
returns-clause-keeps c =
    let s = c.args.self.now in
    let xs = s.items.items in
    let n = c.args.number in
    let new = c.change.new.row in
    let inside : n - 1 < length xs = omega (arith, c.requires.has, length-map xs (λ r. r.task), s.items.ok.0) in
    let k = amended_task xs (n - 1) n c.args.cost c.index_mut.result.now new refl inside c.index_mut.ensures.value c.change.ensures.task in
    ap (opened s.cores) (map-set (λ r. r.task) xs (n - 1) new ∙ ap (set (tasks xs) (n - 1)) k)
