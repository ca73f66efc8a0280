-- The laws of twice the full sum, from those of the full sum.
use Rattle.std.proofs.Common.{arith}
use Rattle.interference.specs.Laws.{Lawful, Steady}
use Rattle.interference.specs.FullLaws.{full_lawful, full_steady}
use Rattle.examples.specs.Outsider.{twice_sum}

pub twice_lawful : Lawful twice_sum
twice_lawful = record {
  limited = λ q v. omega arith;
  window_grows = λ q l v w h. omega (arith, full_lawful.window_grows q l v w h);
  upper_finish_grows = λ q i j v w lt h. omega (arith, full_lawful.upper_finish_grows q i j v w lt h);
  lower_finish_grows = λ q i j v w lt h. omega (arith, full_lawful.lower_finish_grows q i j v w lt h);
  lower_cost_grows = λ q i c v w lt h. omega (arith, full_lawful.lower_cost_grows q i c v w lt h);
}

pub twice_steady : Steady twice_sum
twice_steady q z v w = omega (arith, full_steady q z v w)
