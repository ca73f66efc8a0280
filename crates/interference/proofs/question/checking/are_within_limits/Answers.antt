use Rattle.std.proofs.Common.{ℕ, ◌<◌, List, length, MatchBool, Bool, true, false, rules, arith}
use Rattle.std.specs.List.{AllWithin, HoldsAt}
use Rattle.std.proofs.lemmas.Iterator.{cases_from_all, YieldsList-from_slice}
use borrow.Author.Tests.{tests}
use Rattle.interference.specs.declared.rival.Rival.{Rival}
use Rattle.interference.specs.Questions.{RivalWithinLimits, RivalsWithinLimits, nobody}
use Rattle.interference.proofs.question.checking.are_within_limits.Goals as goal

by_element : (b : Bool) (rs : List Rival)
    → MatchBool b (AllWithin RivalWithinLimits rs 0 (length rs)) ((k : ℕ) × (k < length rs) × HoldsAt (λ r. RivalWithinLimits r → ⊥) rs k)
    → MatchBool b (RivalsWithinLimits rs) (RivalsWithinLimits rs → ⊥)
by_element true rs h = λ i lt. h i nobody (omega arith) lt
by_element false rs h = λ all. h.2 nobody (all h.0 h.1)

pub returns : goal.returns
returns c =
    by_element _ c.args.rivals.now
    (cases_from_all _ _ _ RivalWithinLimits (λ r. RivalWithinLimits r → ⊥) c.all.ensures.ran (YieldsList-from_slice c.args.rivals.now cc) (λ x q k. search (rules, tests)) (λ x q k. search (rules, tests)))
