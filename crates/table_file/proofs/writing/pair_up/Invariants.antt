use Rattle.std.proofs.Common.{◌≡◌, ◌++◌}
use Rattle.table_file.specs.Puts.{paired}
use Rattle.table_file.proofs.writing.pair_up.Given as goal

abbrev pub invariant-loop-number : goal.invariant-loop-number
invariant-loop-number l = l.places.items ++ paired l.number-iterator.a.rest.now l.number-iterator.b.rest.now ≡ paired l.numbers l.lengths
