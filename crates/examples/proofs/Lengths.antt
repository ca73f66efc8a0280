-- The least lengths and the first plan of a setting, decided.
use Rattle.std.proofs.Common.{◌≡◌, ℕ, ◌+◌, ◌/◌, Bool, true, leb, List, [], length, get_or, replicate, Decides, Option, arith, MatchOption}
use Rattle.std.proofs.lemmas.List.{get_or-replicate, length-replicate}
use Rattle.std.proofs.lemmas.Bool.{leb-true, le-leb}
use Rattle.interference.specs.Questions.{Query}
use Rattle.analysis.specs.declared.task.Task.{Task}
use Rattle.analysis.specs.Rivals.{no_task, finish_limits, uppers, lowers, under}
use Rattle.analysis.specs.Passing.{own_demand, latest_start, asked, PassesOver, Passes}
use Rattle.analysis.specs.Plans.{IsChoice, Test, NoLengths, FirstPlan}
use Rattle.analysis.specs.Steps.{InfeasibleByPlace, Greedy}
use Rattle.analysis.proofs.Greedy.{greedy_start, greedy_least}
use Rattle.analysis.proofs.RivalLaws.{passes_falls}
use Rattle.analysis.proofs.ByTask.{infeasible_all, first_all}
use Rattle.examples.specs.Lines.{Setting, sum_of, upward, at, count, sizes, Fitting}
use Rattle.examples.proofs.Outcomes.{nothing, nothing_is, gave, gave_is}
use Rattle.examples.proofs.Placing.{Falls, placed, placed_is, clear, clear_is}

-- PassesOver compares two numbers
module _ (sum : Query → ℕ) (m : ℕ) (ts : List Task) (low : List ℕ) (k : ℕ) (lens : List ℕ) (f : ℕ) where
  abbrev wanted : ℕ
  wanted = own_demand (get_or ts k no_task) f + sum (asked m (get_or ts k no_task) f (uppers ts (finish_limits ts) low k) (lowers ts (finish_limits ts) lens low k)) / m

  abbrev over : Bool
  over = leb wanted (latest_start (get_or ts k no_task) f)

  over_decides : Decides over (PassesOver sum m ts low k lens f)
  over_decides = (leb-true wanted (latest_start (get_or ts k no_task) f), le-leb wanted (latest_start (get_or ts k no_task) f))

module _ (s : Setting) where
  abbrev ok : Test
  ok = PassesOver (sum_of s.rule) s.cores s.tasks

  abbrev test : List ℕ → ℕ → List ℕ → ℕ → Bool
  test = over (sum_of s.rule) s.cores s.tasks

  test_decides : (low : List ℕ) (k : ℕ) (lens : List ℕ) (f : ℕ) → Decides (test low k lens f) (ok low k lens f)
  test_decides = over_decides (sum_of s.rule) s.cores s.tasks

  -- whether a task passes in the order of the setting
  abbrev pub task_passes : List ℕ → ℕ → Bool
  task_passes lens k = test (under (upward s.order) k) k lens (get_or lens k 0)

  pub task_decides : (lens : List ℕ) (k : ℕ) → Decides (task_passes lens k) (at Passes s lens k)
  task_decides lens k = test_decides (under (upward s.order) k) k lens (get_or lens k 0)

  abbrev ones : List ℕ
  ones = replicate (count s) 1

  abbrev pub lengths : Option (List ℕ)
  lengths = placed (sizes s) (count s) test [] ones (upward s.order)

  abbrev pub none_before : Bool
  none_before = clear (sizes s) (count s) test [] ones (upward s.order)

  abbrev Infeasible : Type 0
  Infeasible = InfeasibleByPlace (sizes s) (count s) ok (upward s.order)

  abbrev Found : List ℕ → Type 0
  Found lens = Greedy (sizes s) (count s) ok (upward s.order) lens

  module _ (fit : Fitting s) where
    ones_choice : IsChoice (sizes s) (count s) ones
    ones_choice k l =
        let e : ◌≡◌ {A = ℕ} (get_or ones k 0) 1 = get_or-replicate (count s) k 1 0 l in
        let h = fit.sound k l in (omega arith, omega arith)

    start : Greedy (sizes s) (count s) ok [] ones × (length ones ≡ count s)
    start = (greedy_start (sizes s) (count s) ok ones ones_choice, length-replicate (count s) 1)

    falls : Falls (sizes s) (count s) ok
    falls = passes_falls s.tasks fit.sound fit.few s.cores fit.some fit.most (sum_of s.rule) fit.laws

    lengths_are : MatchOption lengths Infeasible Found
    lengths_are = placed_is (sizes s) (count s) ok test test_decides falls [] ones start (upward s.order) fit.ordered

    pub no_lengths_is : nothing lengths ≡ true → at NoLengths s
    no_lengths_is h = infeasible_all (sizes s) (count s) ok (upward s.order) fit.ordered (nothing_is lengths Infeasible Found lengths_are h)

    pub first_plan_is : (lens : List ℕ) → gave lengths lens ≡ true → none_before ≡ true → at FirstPlan s lens
    first_plan_is lens h b =
        first_all (sizes s) (count s) ok (upward s.order) lens
        (record {
          order = fit.ordered;
          lengths = greedy_least (sizes s) (count s) ok (gave_is lengths Infeasible Found lengths_are lens h);
          first = clear_is (sizes s) (count s) ok test test_decides falls [] ones start (upward s.order) b;
        })
