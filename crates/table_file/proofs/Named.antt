-- Whether a task has a place already, as a test of each place.
use Rattle.std.proofs.Common.{◌≡◌, ℕ, Bool, true, false, cond, ◌||◌, eqb, List, [], ◌∷◌, refl, ap, ◌∙◌}
use Rattle.std.specs.List.{list_any}
use Rattle.analysis.specs.Rivals.{among}
use Rattle.table_file.specs.declared.place.Place.{Place}
use Rattle.table_file.specs.Stored.{numbers}

or_cond : (a b : Bool) → (a || b) ≡ cond a true b
or_cond a b = elim a as (λ x. (x || b) ≡ cond x true b) [ true ↦ refl | false ↦ refl ]

pub named_any : (n : ℕ) (ps : List Place) → list_any (λ p. eqb p.task n) ps ≡ among (numbers ps) n
named_any n [] = refl
named_any n (p ∷ ps) = or_cond (eqb p.task n) (list_any (λ q. eqb q.task n) ps) ∙ ap (cond (eqb p.task n) true) (named_any n ps)
