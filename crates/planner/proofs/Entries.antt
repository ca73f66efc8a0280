-- Lengths and bounds count by their entries for tasks alone.
use Rattle.std.proofs.Common.{◌≡◌, ℕ, zero, suc, ◌-◌, ◌<◌, Bool, cond, List, [], ◌∷◌, ◌++◌, length, get_or, sym, refl, ap, ◌∙◌, subst, arith}
use Rattle.interference.specs.declared.rival.Rival.{Rival}
use Rattle.interference.specs.Questions.{Query}
use Rattle.analysis.specs.declared.task.Task.{Task}
use Rattle.analysis.specs.Rivals.{no_task, cost_of, finish_limits, under, above, below, picked, rival_of, upper_rival, lower_rival, uppers}
use Rattle.analysis.specs.Passing.{Meets, PassesOver}
use Rattle.analysis.specs.Plans.{LeastLengths, FirstPlan}
use Rattle.analysis.specs.Bounds.{response, response_of, Solution, LeastSolution}

picked_same : {X : Type 0} (p : ℕ → Bool) (g h : ℕ → X) (n : ℕ) → ((j : ℕ) → j < n → g j ≡ h j) → picked p g n ≡ picked p h n
picked_same p g h zero e = refl
picked_same p g h (suc n) e = (λ i. picked_same p g h n (λ j l. e j (omega arith)) i ++ cond (p n) (e n (omega arith) i ∷ []) [])

-- two lists with the same entries for n tasks
abbrev pub Same : ℕ → List ℕ → List ℕ → Type 0
Same n xs ys = (j : ℕ) → j < n → get_or xs j 0 ≡ get_or ys j 0

module _ (sum : Query → ℕ) (m : ℕ) (ts : List Task) (lens other : List ℕ) (same : Same (length ts) lens other) where
  passes_same : (low : List ℕ) (k f : ℕ) → PassesOver sum m ts low k lens f → PassesOver sum m ts low k other f
  passes_same low k f h =
      subst (λ (ls : List Rival). Meets sum m (get_or ts k no_task) (uppers ts (finish_limits ts) low k) ls f)
      (picked_same (below low k) (lower_rival ts (finish_limits ts) lens) (lower_rival ts (finish_limits ts) other) (length ts) (λ j l. ap (λ v. rival_of (get_or ts j no_task) (v - 1) (get_or (finish_limits ts) j 0)) (same j l))) h

  pub least_same : (q : List ℕ) → LeastLengths sum m ts q lens → LeastLengths sum m ts q other
  least_same q h = record {
    choice = λ k l. let c = h.choice k l in let e = same k l in (omega arith, omega arith);
    pass = λ k l. subst (λ f. PassesOver sum m ts (under q k) k other f) (same k l) (passes_same (under q k) k (get_or lens k 0) (h.pass k l));
    least = λ o c p k l. let e = same k l in let r = h.least o c p k l in omega arith;
  }

  pub first_same : (q : List ℕ) → FirstPlan sum m ts q lens → FirstPlan sum m ts q other
  first_same q h = record { order = h.order; lengths = least_same q h.lengths; first = h.first }

-- the same of bounds
module _ (sum : Query → ℕ) (m : ℕ) (ts : List Task) (q lens bounds other : List ℕ) (same : Same (length ts) bounds other) where
  response_same : (k r : ℕ) → response_of sum m ts q lens k bounds r ≡ response_of sum m ts q lens k other r
  response_same k r =
      let us = picked_same (above (under q k) k) (upper_rival ts bounds) (upper_rival ts other) (length ts) (λ j l. ap (rival_of (get_or ts j no_task) (cost_of ts j)) (same j l)) in
      let ls = picked_same (below (under q k) k) (lower_rival ts bounds lens) (lower_rival ts other lens) (length ts) (λ j l. ap (rival_of (get_or ts j no_task) (get_or lens j 0 - 1)) (same j l)) in
      (λ i. response sum m (cost_of ts k) (get_or lens k 0) (us i) (ls i) r)

  solution_same : Solution sum m ts q lens bounds → Solution sum m ts q lens other
  solution_same h = record {
    within = λ k l. let w = h.within k l in let e = same k l in (omega arith, omega arith);
    solves = λ k l. let r = h.solves k l in (r.0, sym (same k l) ∙ r.1, r.2 ∙ response_same k r.0);
  }

  pub solved_same : LeastSolution sum m ts q lens bounds → LeastSolution sum m ts q lens other
  solved_same h = record { solution = solution_same h.solution; least = λ o s k l. let e = same k l in let r = h.least o s k l in omega arith }
