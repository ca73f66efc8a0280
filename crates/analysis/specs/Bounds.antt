-- The bound equations of tasks in an order with their lengths, and their least solution.
use Rattle.std.specs.Prelude.{◌≡◌, ℕ, ◌+◌, ◌-◌, ◌/◌, ◌<◌, ◌≤◌, List, length, slice_index}
use Rattle.interference.specs.declared.rival.Rival.{Rival}
use Rattle.interference.specs.Questions.{Query, posed}
use Rattle.analysis.specs.declared.task.Task.{Task}
use Rattle.analysis.specs.Rivals.{cost_of, limit_of, uppers, lowers, under}

-- what the equation of a task of cost c with a region of length f gives for the time r until the last tick of its
-- region can begin: own demand, and an equal part of the sum for each core, rounded down
abbrev pub response : (Query → ℕ) → ℕ → ℕ → ℕ → List Rival → List Rival → ℕ → ℕ
response sum m c f us ls r = c - (f - 1) + sum (posed m r (c - (f - 1)) f us ls) / m

-- the same for its bound, by which the region has ended too
abbrev pub next_bound : (Query → ℕ) → ℕ → ℕ → ℕ → List Rival → List Rival → ℕ → ℕ
next_bound sum m c f us ls b = f - 1 + response sum m c f us ls (b - (f - 1))

-- of task k in an order, where each rival's latest finish is its own bound
abbrev pub response_of : (Query → ℕ) → ℕ → List Task → List ℕ → List ℕ → ℕ → List ℕ → ℕ → ℕ
response_of sum m ts q lens k bounds r = response sum m (cost_of ts k) (slice_index lens k) (uppers ts bounds (under q k) k) (lowers ts bounds lens (under q k) k) r

abbrev pub bound_of : (Query → ℕ) → ℕ → List Task → List ℕ → List ℕ → ℕ → List ℕ → ℕ → ℕ
bound_of sum m ts q lens k bounds b = next_bound sum m (cost_of ts k) (slice_index lens k) (uppers ts bounds (under q k) k) (lowers ts bounds lens (under q k) k) b

-- each of n bounds lies between two numbers of its own
abbrev pub BoundsWithin : ℕ → (ℕ → ℕ) → (ℕ → ℕ) → List ℕ → Type 0
BoundsWithin n low high bs = (k : ℕ) → k < n → (low k ≤ slice_index bs k) × (slice_index bs k ≤ high k)

-- bounds from each cost to each limit that solve the equations: the bound of a task is r + (its length - 1), where r
-- is what its equation gives for r
pub record Solution (sum : Query → ℕ) (m : ℕ) (ts : List Task) (q lens bounds : List ℕ) : Type 0 where
  pub within : BoundsWithin (length ts) (cost_of ts) (limit_of ts) bounds
  pub solves : (k : ℕ) → k < length ts → (r : ℕ) × (slice_index bounds k ≡ r + (slice_index lens k - 1)) × (r ≡ response_of sum m ts q lens k bounds r)

-- a solution, and every other one gives each task at least this bound
pub record LeastSolution (sum : Query → ℕ) (m : ℕ) (ts : List Task) (q lens bounds : List ℕ) : Type 0 where
  pub solution : Solution sum m ts q lens bounds
  pub least : (other : List ℕ) → Solution sum m ts q lens other → (k : ℕ) → k < length ts → slice_index bounds k ≤ slice_index other k

abbrev pub NoSolution : (Query → ℕ) → ℕ → List Task → List ℕ → List ℕ → Type 0
NoSolution sum m ts q lens = (bounds : List ℕ) → Solution sum m ts q lens bounds → ⊥
