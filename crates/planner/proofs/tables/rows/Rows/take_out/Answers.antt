use Rattle.std.proofs.Common.{◌≡◌, suc, ◌-◌, ◌++◌, take, drop, ap, ◌∙◌, arith}
use Rattle.planner.specs.Rows.{tasks}
use Rattle.planner.specs.Tables.{opened}
use Rattle.planner.proofs.OnRows.{within_removed, within_as, tasks_removed}
use Rattle.planner.proofs.tables.rows.Rows.take_out.Goals as goal

pub invariant_of-self : goal.invariant_of-self
invariant_of-self c =
    let s = c.args.self.now in
    let xs = s.items.items in
    let i = c.args.number - 1 in
    let w = c.remove.ensures in
    record {
      some = s.some;
      most = s.most;
      few = omega (arith, w.len);
      room = omega (arith, w.capacity);
      limits = within_as _ _ (ap tasks w.items ∙ tasks_removed xs i (suc i)) (within_removed (tasks xs) i (suc i) s.limits);
    }

pub returns-clause-keeps : goal.returns-clause-keeps
returns-clause-keeps c =
    let s = c.args.self.now in
    let xs = s.items.items in
    let n = c.args.number in
    let high : suc (n - 1) ≡ n = omega (arith, c.requires.0) in
    ap (opened s.cores) (ap tasks c.remove.ensures.items ∙ tasks_removed xs (n - 1) (suc (n - 1)) ∙ ap (λ m. take (n - 1) (tasks xs) ++ drop m (tasks xs)) high)
