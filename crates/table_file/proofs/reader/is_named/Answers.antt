use Rattle.std.proofs.Common.{eqb, ◌∙◌, rules, tests}
use Rattle.std.proofs.lemmas.Iterator.{YieldsList-from_slice}
use Rattle.std.proofs.lemmas.Iterator.Search.{any_from_yields_List}
use Rattle.table_file.proofs.Named.{named_any}
use Rattle.table_file.proofs.reader.is_named.Goals as goal

pub returns : goal.returns
returns c =
    any_from_yields_List (λ p. eqb p.task c.args.task) _ _ _ c.any.ensures.ran (YieldsList-from_slice c.args.places.now cc) (λ x b q k. search (rules, tests))
    ∙ named_any c.args.task c.args.places.now
