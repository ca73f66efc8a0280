use Rattle.std.proofs.Common.{arith}
use Rattle.interference.specs.View.{query, valid}
use Rattle.interference.specs.FullLaws.{full_lawful}
use Rattle.examples.proofs.outsider.TwiceRule.sum.Goals as goal

pub overflow_mul-sum : goal.overflow_mul-sum
overflow_mul-sum c = let q = c.args.q.now in omega (arith, full_lawful.limited (query q) (valid q))
