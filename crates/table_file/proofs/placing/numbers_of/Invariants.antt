use Rattle.std.proofs.Common.{◌≡◌, take}
use Rattle.table_file.specs.Stored.{numbers}
use Rattle.table_file.proofs.placing.numbers_of.Given as goal

abbrev pub invariant-loop-p : goal.invariant-loop-p
invariant-loop-p l = l.named.items ≡ numbers (take l.p-index l.places)
