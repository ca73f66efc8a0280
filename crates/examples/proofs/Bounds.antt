-- The least bounds of a setting with lengths, decided.
use Rattle.std.proofs.Common.{◌≡◌, ℕ, ◌*◌, ◌<◌, Bool, true, eqb, List, map, get_or, Option, arith, MatchOption}
use Rattle.std.proofs.lemmas.List.{get_or-map, length-map}
use Rattle.std.proofs.lemmas.Bool.{eqb-true}
use Rattle.analysis.specs.Rivals.{no_task, limit_of}
use Rattle.analysis.specs.Plans.{IsChoice}
use Rattle.analysis.specs.Bounds.{bound_of, Solution, LeastSolution, NoSolution}
use Rattle.analysis.specs.Steps.{Overrun}
use Rattle.analysis.proofs.BoundLaws.{bound_up, keeps_solution, solution_keeps}
use Rattle.examples.specs.Lines.{Setting, sum_of, upward, at, count, sizes, Fitting}
use Rattle.examples.proofs.Bounded.{all_below, all_below_at}
use Rattle.examples.proofs.Outcomes.{nothing, nothing_is, gave, gave_is}
use Rattle.examples.proofs.Raising.{Held, Under, raised, raised_is}

module _ (s : Setting) (lens : List ℕ) where
  abbrev costs : List ℕ
  costs = map (λ t. t.cost) s.tasks

  -- the bounds after 25 steps for each task
  abbrev pub risen : Option (List ℕ)
  risen = raised (count s) (limit_of s.tasks) (at bound_of s lens) (25 * count s) costs

  abbrev kept : List ℕ → ℕ → Bool
  kept bs k = eqb (at bound_of s lens k bs (get_or bs k 0)) (get_or bs k 0)

  -- every equation gives the bound back
  abbrev pub settled : List ℕ → Bool
  settled bs = all_below (count s) (kept bs)

  abbrev Low : List ℕ → Type 0
  Low = Under (count s) (sizes s) (limit_of s.tasks) (at bound_of s lens)

  module _ (fit : Fitting s) (choice : IsChoice (sizes s) (count s) lens) where
    cost_at : (k : ℕ) → k < count s → get_or costs k 0 ≡ sizes s k
    cost_at k l = get_or-map (λ t. t.cost) s.tasks k no_task 0 l

    costs_low : Low costs
    costs_low = record {
      within = λ k l. let e = cost_at k l in let h = fit.sound k l in (omega arith, omega arith);
      below = λ o w h k l. let e = cost_at k l in let b = w k l in omega arith;
    }

    risen_is : MatchOption risen (at Overrun s lens) Low
    risen_is =
        raised_is (count s) fit.any (sizes s) (limit_of s.tasks) (at bound_of s lens) (λ k bs v. omega arith)
        (bound_up (sum_of s.rule) fit.laws s.cores fit.some fit.most s.tasks fit.sound fit.few (upward s.order) lens choice)
        (25 * count s) costs costs_low (length-map s.tasks (λ t. t.cost))

    solution_held : (o : List ℕ) → at Solution s lens o → Held (count s) (at bound_of s lens) o
    solution_held o r k l =
        let e = solution_keeps (sum_of s.rule) fit.laws s.cores fit.some fit.most s.tasks fit.sound fit.few (upward s.order) lens choice o r k l in
        omega arith

    pub no_bounds_is : nothing risen ≡ true → at NoSolution s lens
    no_bounds_is h o r = nothing_is risen (at Overrun s lens) Low risen_is h o r.within (solution_held o r)

    pub least_bounds_is : (bs : List ℕ) → gave risen bs ≡ true → settled bs ≡ true → at LeastSolution s lens bs
    least_bounds_is bs h e =
        let u = gave_is risen (at Overrun s lens) Low risen_is bs h in
        record {
          solution = keeps_solution (sum_of s.rule) fit.laws s.cores fit.some fit.most s.tasks fit.sound fit.few (upward s.order) lens choice bs u.within
              (λ k l. eqb-true (at bound_of s lens k bs (get_or bs k 0)) (get_or bs k 0) (all_below_at (count s) (kept bs) e k l));
          least = λ o r. u.below o r.within (solution_held o r);
        }
