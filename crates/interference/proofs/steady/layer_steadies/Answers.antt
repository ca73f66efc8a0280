use Rattle.std.proofs.Common.{arith}
use Rattle.interference.specs.LayerLaws.{layered_steady}
use Rattle.interference.proofs.steady.layer_steadies.Goals as goal

pub returns : goal.returns
returns g c =
    let s = c.args.layer.now in
    layered_steady s.interrupt.cost s.interrupt.gap (omega arith) (g.R.Rule.meaning s.below) c.requires
