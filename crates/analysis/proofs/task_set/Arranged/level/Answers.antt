use Rattle.std.proofs.Common.{length}
use Rattle.analysis.proofs.Stood.{lower_part}
use Rattle.analysis.proofs.task_set.Arranged.level.Goals as goal

pub returns-clause-low : goal.returns-clause-low
returns-clause-low c = let o = c.args.self.now.ordered in lower_part (length o.set.tasks.now) o.order.now c.args.p o.named c.requires
