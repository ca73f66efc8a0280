use Rattle.std.proofs.Common.{ℕ, ◌<◌, ◌≤◌, List, length, MatchBool, Bool, true, false, rules, arith}
use Rattle.std.specs.List.{AllWithin, HoldsAt}
use Rattle.std.proofs.lemmas.Iterator.{cases_from_all, YieldsList-from_slice}
use borrow.Author.Tests.{tests}
use Rattle.analysis.specs.declared.task.Task.{Task}
use Rattle.analysis.specs.Rivals.{TaskWithinLimits, MakesSet, no_task}
use Rattle.analysis.specs.Words.{Tells}
use Rattle.analysis.proofs.checks.is_task_set.Goals as goal

by_element : (b : Bool) (m : ℕ) (ts : List Task) → (1 ≤ m) → (m ≤ 16) → (length ts ≤ 32)
    → MatchBool b (AllWithin TaskWithinLimits ts 0 (length ts)) ((k : ℕ) × (k < length ts) × HoldsAt (λ t. TaskWithinLimits t → ⊥) ts k)
    → Tells b (MakesSet m ts)
by_element true m ts some most few h = (some, most, few, λ i lt. h i no_task (omega arith) lt)
by_element false m ts some most few h = λ all. h.2 no_task (all.3 h.0 h.1)

pub returns-then-cores-le-MOST_CORES : goal.returns-then-cores-le-MOST_CORES
returns-then-cores-le-MOST_CORES c =
    by_element _ c.args.cores c.args.tasks.now (search (rules, tests)) (search (rules, tests)) (search (rules, tests))
    (cases_from_all _ _ _ TaskWithinLimits (λ t. TaskWithinLimits t → ⊥) c.all.ensures.ran (YieldsList-from_slice c.args.tasks.now cc) (λ x q k. search (rules, tests)) (λ x q k. search (rules, tests)))
