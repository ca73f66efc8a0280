use Rattle.std.proofs.Common.{◌+◌, ◌-◌, ◌/◌, arith}
use Rattle.analysis.proofs.Steadiness.{longer_passes}
use Rattle.analysis.proofs.finder.HalvingFinder.first.Goals as goal

pub returns-then-not-passes : goal.returns-then-not-passes
returns-then-not-passes g c f a b h =
    let p = c.args.place.now in
    c.if-not-passes.ensures (longer_passes (g.R.Rule.meaning c.args.rule.now) c.steadies.ensures p f p.task.cost a b (omega arith) h)

pub halving-preserved : goal.halving-preserved
halving-preserved g c =
    let v = c.halving.invariant in
    let half = c.halving.least + (c.halving.most - c.halving.least) / 2 in
    record {
      some = omega arith;
      order = omega arith;
      room = v.room;
      passes = v.passes;
      fails = λ f a b h. c.if-passes.ensures (longer_passes (g.R.Rule.meaning c.args.rule.now) c.steadies.ensures c.args.place.now f half a (omega arith) (omega arith) h);
    }
