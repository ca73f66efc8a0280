use Rattle.examples.specs.TwiceLaws.{twice_steady}
use Rattle.examples.proofs.outsider.twice_steadies.Goals as goal

pub returns : goal.returns
returns c = twice_steady
