use Rattle.std.proofs.Common.{length, refl, arith}
use Rattle.analysis.proofs.Padding.{padded_new}
use Rattle.analysis.proofs.bounds.costs.Goals as goal

pub loop-i-init : goal.loop-i-init
loop-i-init c = record { wide = refl; costs = λ k l. absurd (omega arith); padded = padded_new (length c.args.tasks.now) 32 0 }
