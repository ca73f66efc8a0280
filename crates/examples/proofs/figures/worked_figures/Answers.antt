use Rattle.std.proofs.Common.{refl}
use Rattle.examples.specs.Figures.{figures}
use Rattle.examples.proofs.Deciding.{every_decided}
use Rattle.examples.proofs.figures.worked_figures.Goals as goal

pub returns : goal.returns
returns c = record { hold = every_decided figures refl; count = refl }
