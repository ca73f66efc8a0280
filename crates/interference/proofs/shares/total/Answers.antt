use Rattle.std.proofs.Common.{sum_by, ap, ◌∙◌, arith, take_all}
use Rattle.std.proofs.lemmas.List.Sums.{sum_by_more}
use Rattle.interference.specs.Questions.{nobody}
use Rattle.interference.specs.View.{query}
use Rattle.interference.proofs.shares.total.Goals as goal

pub loop-r-preserved : goal.loop-r-preserved
loop-r-preserved g c =
    let e = sum_by_more (g.S.Share.share (query c.args.q.now)) c.args.rivals.now c.loop-r.r-index nobody (omega arith) in
    (omega (arith, c.of-sum.ensures.fits), omega (arith, c.of-sum.ensures.value))

pub returns : goal.returns
returns g c = record {
  total = c.loop-r.invariant.1 ∙ ap (sum_by (g.S.Share.share (query c.args.q.now))) (take_all _ _ c.loop-r-test.false);
  fits = omega arith;
}
