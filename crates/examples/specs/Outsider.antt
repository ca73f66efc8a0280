-- The sums of a rule from outside: twice the full sum, alone and under a handler.
use Rattle.std.specs.Prelude.{ℕ, ◌*◌, min}
use Rattle.interference.specs.Questions.{Query}
use Rattle.interference.specs.Sums.{full_sum, layered}
use Rattle.interference.specs.declared.handler.Handler.{Handler}
use Rattle.examples.specs.declared.outsider.Twice.{Twice}

abbrev pub twice_sum : Query → ℕ
twice_sum q = min (2 * full_sum q) 1000000000

abbrev pub layered_twice : Handler Twice → Query → ℕ
layered_twice h q = layered h.interrupt.cost h.interrupt.gap q (twice_sum q)
