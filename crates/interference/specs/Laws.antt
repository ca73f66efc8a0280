-- What every rule shows of its sum, what a steady rule shows besides, and what follows for several changes at once.
use Rattle.std.specs.Prelude.{◌≡◌, ℕ, ◌<◌, ◌≤◌, [], length}
use Rattle.std.specs.List.{AllZip}
use Rattle.interference.specs.declared.rival.Rival.{Rival}
use Rattle.interference.specs.Questions.{Query, Valid, rival_at, with_window, with_finish, with_cost, upper_finishing, lower_finishing, lower_costing, moved, posed}
use Rattle.interference.specs.Sums.{sum_limit}

-- Each law compares two valid questions that differ in one thing.
pub record Lawful (sum : Query → ℕ) : Type 0 where
  pub limited : (q : Query) → Valid q → sum q ≤ sum_limit
  -- 1. the sum does not fall when the window grows
  pub window_grows : (q : Query) (l : ℕ) → Valid q → Valid (with_window q l) → q.window ≤ l → sum q ≤ sum (with_window q l)
  -- 2. nor when a rival, of either list, may finish later
  pub upper_finish_grows : (q : Query) (i j : ℕ) → Valid q → Valid (upper_finishing q i j) → i < length q.upper
      → (rival_at q.upper i).finish ≤ j → sum q ≤ sum (upper_finishing q i j)
  pub lower_finish_grows : (q : Query) (i j : ℕ) → Valid q → Valid (lower_finishing q i j) → i < length q.lower
      → (rival_at q.lower i).finish ≤ j → sum q ≤ sum (lower_finishing q i j)
  -- 3. nor when a lower rival costs more
  pub lower_cost_grows : (q : Query) (i c : ℕ) → Valid q → Valid (lower_costing q i c) → i < length q.lower
      → (rival_at q.lower i).cost ≤ c → sum q ≤ sum (lower_costing q i c)

-- A steady rule: the sum does not rise when ticks are moved from the end of the demand into the region.
abbrev pub Steady : (Query → ℕ) → Type 0
Steady sum = (q : Query) (z : ℕ) → Valid q → Valid (moved q z) → sum (moved q z) ≤ sum q

-- the same rival, finishing no earlier
abbrev pub NoEarlier : Rival → Rival → Type 0
NoEarlier r s = (r.finish ≤ s.finish) × (s ≡ with_finish r s.finish)

-- the same rival, finishing no earlier and costing no less
abbrev pub NoSmaller : Rival → Rival → Type 0
NoSmaller r s = (r.finish ≤ s.finish) × (r.cost ≤ s.cost) × (s ≡ with_cost (with_finish r s.finish) s.cost)

-- the window, every finish and every lower cost may grow, all at once
pub record Grown (q q' : Query) : Type 0 where
  pub cores : q.cores ≡ q'.cores
  pub demand : q.demand ≡ q'.demand
  pub region : q.region ≡ q'.region
  pub window : q.window ≤ q'.window
  pub upper : AllZip NoEarlier q.upper q'.upper
  pub lower : AllZip NoSmaller q.lower q'.lower

abbrev pub GrowsTogether : (Query → ℕ) → Type 0
GrowsTogether sum = (q q' : Query) → Valid q → Valid q' → Grown q q' → sum q ≤ sum q'

-- a task of cost 5 alone on one core, with a window of 5 and the shortest region
abbrev pub alone : Query
alone = posed 1 5 5 1 [] []
