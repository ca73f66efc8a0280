-- When each call is refused, by number, and what it makes otherwise. Conditions are tested in the order in which they
-- stand; each later one says that the earlier did not hold.
use Rattle.std.specs.Prelude.{◌≡◌, ℕ, ◌-◌, ◌<◌, ◌≤◌, true, false, ◌⊎◌, List, [], ◌∷◌, ◌++◌, Result, length, take, drop, replicate, slice_index, slice_index_or, slice_set}
use Rattle.interference.specs.Questions.{Query}
use Rattle.analysis.specs.declared.task.Task.{Task}
use Rattle.analysis.specs.Rivals.{TaskWithinLimits, no_task}
use Rattle.analysis.specs.Plans.{IsOrder, LeastLengths, NoLengths, FirstPlan, NoPlan}
use Rattle.analysis.specs.Bounds.{LeastSolution, NoSolution}
use Rattle.planner.specs.declared.refusal.Refusal.{Refusal}
use Rattle.planner.specs.Refusals.{Called}
use Rattle.planner.specs.Tables.{Open, opened, Fixed, fixed}

abbrev pub CoresWithinLimits : ℕ → Type 0
CoresWithinLimits c = (1 ≤ c) × (c ≤ 16)

-- tasks have numbers from 1
abbrev pub HasTask : List Task → ℕ → Type 0
HasTask ts i = (1 ≤ i) × (i ≤ length ts)

abbrev pub task_numbered : List Task → ℕ → Task
task_numbered ts i = slice_index_or ts (i - 1) no_task

abbrev pub with_cost : Task → ℕ → Task
with_cost t c = record { cost = c; deadline = t.deadline; period = t.period }

module _ (m : Open) where
  abbrev pub CoresRefuses : ℕ → ℕ → Type 0
  CoresRefuses c k = (k ≡ 1) × (CoresWithinLimits c → ⊥)

  abbrev pub CoresMakes : ℕ → Open → Type 0
  CoresMakes c n = CoresWithinLimits c × (n ≡ opened c m.tasks)

  abbrev pub EnterRefuses : Task → ℕ → Type 0
  EnterRefuses t k = ((k ≡ 2) × (32 ≤ length m.tasks)) ⊎ ((k ≡ 3) × (length m.tasks < 32) × (TaskWithinLimits t → ⊥))

  abbrev pub EnterMakes : Task → Open → Type 0
  EnterMakes t n = (length m.tasks < 32) × TaskWithinLimits t × (n ≡ opened m.cores (m.tasks ++ t ∷ []))

  abbrev pub StrikeRefuses : ℕ → ℕ → Type 0
  StrikeRefuses i k = (k ≡ 4) × (HasTask m.tasks i → ⊥)

  abbrev pub StrikeMakes : ℕ → Open → Type 0
  StrikeMakes i n = HasTask m.tasks i × (n ≡ opened m.cores (take (i - 1) m.tasks ++ drop i m.tasks))

  abbrev pub AmendRefuses : ℕ → ℕ → ℕ → Type 0
  AmendRefuses i c k = ((k ≡ 4) × (HasTask m.tasks i → ⊥)) ⊎ ((k ≡ 3) × HasTask m.tasks i × (TaskWithinLimits (with_cost (task_numbered m.tasks i) c) → ⊥))

  abbrev pub AmendMakes : ℕ → ℕ → Open → Type 0
  AmendMakes i c n =
      HasTask m.tasks i × TaskWithinLimits (with_cost (task_numbered m.tasks i) c)
      × (n ≡ opened m.cores (slice_set m.tasks (i - 1) (with_cost (task_numbered m.tasks i) c)))

-- Task numbers from 1, the highest place first, as an order from the lowest place up by numbers from 0.
abbrev pub upward : List ℕ → List ℕ
upward [] = []
upward (x ∷ xs) = upward xs ++ (x - 1) ∷ []

-- a list that names each of n tasks once
abbrev pub NamesEach : ℕ → List ℕ → Type 0
NamesEach n xs = ((p : ℕ) → p < length xs → 1 ≤ slice_index xs p) × IsOrder n (upward xs)

module _ (m : Fixed) where
  abbrev pub no_bounds : List ℕ
  no_bounds = replicate (length m.tasks) 0

  -- a length from 1 to the cost of the task
  abbrev pub LengthFits : ℕ → ℕ → Type 0
  LengthFits i l = (1 ≤ l) × (l ≤ (task_numbered m.tasks i).cost)

  abbrev pub OrderRefuses : List ℕ → ℕ → Type 0
  OrderRefuses xs k = (k ≡ 5) × (NamesEach (length m.tasks) xs → ⊥)

  abbrev pub OrderMakes : List ℕ → Fixed → Type 0
  OrderMakes xs n = NamesEach (length m.tasks) xs × (n ≡ fixed m.cores m.tasks (upward xs) m.lengths no_bounds false false)

  abbrev pub StretchRefuses : ℕ → ℕ → ℕ → Type 0
  StretchRefuses i l k = ((k ≡ 4) × (HasTask m.tasks i → ⊥)) ⊎ ((k ≡ 6) × HasTask m.tasks i × (LengthFits i l → ⊥))

  abbrev pub StretchMakes : ℕ → ℕ → Fixed → Type 0
  StretchMakes i l n =
      HasTask m.tasks i × LengthFits i l
      × (n ≡ fixed m.cores m.tasks m.order (slice_set m.lengths (i - 1) l) no_bounds false false)

  -- Over the meaning of the table's rule.
  module _ (sum : Query → ℕ) where
    abbrev pub LengthsRefuses : ℕ → Type 0
    LengthsRefuses k = (k ≡ 7) × NoLengths sum m.cores m.tasks m.order

    abbrev pub LengthsMakes : Fixed → Type 0
    LengthsMakes n = (lens : List ℕ) × (length lens ≡ length m.tasks) × LeastLengths sum m.cores m.tasks m.order lens
        × (n ≡ fixed m.cores m.tasks m.order lens no_bounds true false)

    abbrev pub PlanRefuses : ℕ → Type 0
    PlanRefuses k = ((k ≡ 8) × (8 < length m.tasks)) ⊎ ((k ≡ 9) × (length m.tasks ≤ 8) × NoPlan sum m.cores m.tasks)

    abbrev pub PlanMakes : Fixed → Type 0
    PlanMakes n = (length m.tasks ≤ 8)
        × ((q : List ℕ) × (lens : List ℕ) × (length lens ≡ length m.tasks) × FirstPlan sum m.cores m.tasks q lens
        × (n ≡ fixed m.cores m.tasks q lens no_bounds true false))

    abbrev pub BoundsRefuses : ℕ → Type 0
    BoundsRefuses k = (k ≡ 10) × NoSolution sum m.cores m.tasks m.order m.lengths

    abbrev pub BoundsMakes : Fixed → Type 0
    BoundsMakes n = (bs : List ℕ) × (length bs ≡ length m.tasks) × LeastSolution sum m.cores m.tasks m.order m.lengths bs
        × (n ≡ fixed m.cores m.tasks m.order m.lengths bs m.passed true)

    -- what comes of a search, and what it leaves
    module _ {A : Type 0} (r : Result A Refusal) (n : Fixed) where
      abbrev pub LengthsSought : Type 0
      LengthsSought = Called r LengthsRefuses LengthsMakes m n

      abbrev pub PlanSought : Type 0
      PlanSought = Called r PlanRefuses PlanMakes m n

      abbrev pub BoundsSought : Type 0
      BoundsSought = Called r BoundsRefuses BoundsMakes m n
