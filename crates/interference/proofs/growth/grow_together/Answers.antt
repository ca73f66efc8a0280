use Rattle.interference.specs.View.{query, valid}
use Rattle.interference.proofs.GrowthLaws.{grows_together}
use Rattle.interference.proofs.growth.grow_together.Goals as goal

pub returns : goal.returns
returns g c =
    let first = c.args.first.now in
    let second = c.args.second.now in
    let always = grows_together (g.R.Rule.meaning c.args.rule.now) (g.met.R.Rule.laws c.args.rule.now) in
    record { here = always (query first) (query second) (valid first) (valid second); always = always }
