use Rattle.std.proofs.Common.{length, get_or, arith}
use Rattle.analysis.specs.Rivals.{limit_of}
use Rattle.analysis.specs.Words.{LeastSolutionIn, Grows}
use Rattle.analysis.proofs.Fixpoint.{total_le, when_yes, when_none}
use Rattle.analysis.proofs.BoundLaws.{overrun_unsolved}
use Rattle.analysis.proofs.bounds.seek_bounds.Goals as goal

pub returns-in_err-sweep : goal.returns-in_err-sweep
returns-in_err-sweep g c =
    let t = c.args.tasks.now in
    let s = t.ordered.set in
    when_none _ _ c.from_residual.ensures
    (overrun_unsolved (g.R.Rule.meaning c.args.rule.now) (g.met.R.Rule.laws c.args.rule.now) s.cores s.some s.most s.tasks.now s.limits s.few t.ordered.order.now t.lengths.now t.choice c.in_err-sweep.ensures)

pub sweeping-smaller : goal.sweeping-smaller
sweeping-smaller g c =
    let t = c.args.tasks.now in
    let ts = t.ordered.set.tasks.now in
    let h = c.in_ok-sweep.ensures in
    let old = c.sweeping.bounds in
    let new = c.sweep.new.bounds in
    let up = when_yes c.in_ok-sweep.field-0 (Grows t.ordered.set old new) (LeastSolutionIn (g.R.Rule.meaning c.args.rule.now) t new) c.if-branch.true h.1 in
    omega (arith, up, total_le (λ k. get_or new k 0) (limit_of ts) (length ts) (λ k l. (h.0.0.within k l).1))
