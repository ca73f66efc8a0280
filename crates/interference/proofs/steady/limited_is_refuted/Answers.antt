use Rattle.std.proofs.Common.{arith, rules}
use Rattle.interference.specs.Laws.{alone}
use Rattle.interference.proofs.steady.limited_is_refuted.Goals as goal

pub returns-clause-refuted : goal.returns-clause-refuted
returns-clause-refuted c = λ steady. omega (arith, steady alone 1 (search rules) (search rules))
