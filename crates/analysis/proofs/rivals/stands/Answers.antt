use Rattle.std.proofs.Common.{◌∙◌}
use Rattle.analysis.proofs.Among.{any_among}
use Rattle.analysis.proofs.rivals.stands.Goals as goal

pub returns : goal.returns
returns c = c.contains.ensures.value ∙ any_among c.args.low.now c.args.j
