use Rattle.std.proofs.Common.{arith}
use Rattle.analysis.specs.Rivals.{finish_limit}
use Rattle.analysis.specs.Words.{next_at}
use Rattle.analysis.proofs.BoundLaws.{next_grows}
use Rattle.analysis.proofs.Fixpoint.{kept_more, kept_none}
use Rattle.analysis.proofs.bounds.own_bound.Goals as goal

pub climbing-preserved : goal.climbing-preserved
climbing-preserved g c =
    let p = c.args.place.now in
    let v = c.climbing.invariant in
    let sum = g.R.Rule.meaning c.args.rule.now in
    let r = kept_more p.task.cost (finish_limit p.task) (next_at sum p c.args.f) (next_grows sum (g.met.R.Rule.laws c.args.rule.now) p c.args.f c.requires.region)
    c.climbing.b v.low v.high v.rises v.lowest c.next-asked.result c.next-asked.ensures (omega arith) in
    record { low = r.0; high = r.1; rises = r.2; lowest = r.3 }

pub returns-then-asked-most : goal.returns-then-asked-most
returns-then-asked-most g c =
    let p = c.args.place.now in
    let v = c.climbing.invariant in
    let sum = g.R.Rule.meaning c.args.rule.now in
    kept_none p.task.cost (finish_limit p.task) (next_at sum p c.args.f) (next_grows sum (g.met.R.Rule.laws c.args.rule.now) p c.args.f c.requires.region)
    c.climbing.b v.low v.high v.rises v.lowest (omega (arith, c.next-asked.ensures))
