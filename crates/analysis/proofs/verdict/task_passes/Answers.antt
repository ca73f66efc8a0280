use Rattle.std.proofs.Common.{length}
use Rattle.analysis.proofs.Among.{everyone}
use Rattle.analysis.proofs.verdict.task_passes.Goals as goal

pub returns-in-None : goal.returns-in-None
returns-in-None g c h =
    let o = c.args.tasks.now.ordered in
    let e = everyone (length o.set.tasks.now) o.order.now (o.whole, o.named) c.args.k h.0 in
    c.in-None.ensures e.0 e.1 e.2
