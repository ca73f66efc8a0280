use Rattle.std.proofs.Common.{rules}
use Rattle.planner.proofs.OnColumns.{column_is}
use Rattle.planner.proofs.columns.tasks_of.Goals as goal

pub returns : goal.returns
returns c = column_is _ _ (λ r. r.task) _ _ (λ p y h. search rules) c.column.ensures
