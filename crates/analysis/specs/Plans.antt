-- Orders, choices of lengths, the least choice, and the first order that passes.
use Rattle.std.specs.Prelude.{◌≡◌, ℕ, ◌<◌, ◌≤◌, false, ◌⊎◌, List, [], ◌∷◌, length, take, slice_index}
use Rattle.interference.specs.Questions.{Query}
use Rattle.analysis.specs.declared.task.Task.{Task}
use Rattle.analysis.specs.Rivals.{cost_of, among, under}
use Rattle.analysis.specs.Passing.{PassesOver}

-- numbers below n, none of them twice
abbrev pub Named : ℕ → List ℕ → Type 0
Named n q = (p : ℕ) → p < length q → (slice_index q p < n) × (among (take p q) (slice_index q p) ≡ false)

-- an order names each of n tasks once
abbrev pub IsOrder : ℕ → List ℕ → Type 0
IsOrder n q = (length q ≡ n) × Named n q

-- a choice of lengths gives every task a length from 1 to its size
abbrev pub IsChoice : (ℕ → ℕ) → ℕ → List ℕ → Type 0
IsChoice size n lens = (k : ℕ) → k < n → (1 ≤ slice_index lens k) × (slice_index lens k ≤ size k)

-- lengths are a choice for these tasks
abbrev pub Suits : List Task → List ℕ → Type 0
Suits ts lens = (length ts ≤ length lens) × IsChoice (cost_of ts) (length ts) lens

-- a test of task k with a length of its own over the tasks of a list with their lengths
abbrev pub Test : Type 1
Test = List ℕ → ℕ → List ℕ → ℕ → Type 0

-- every task passes the test in this order with its length
abbrev pub ChoicePasses : Test → ℕ → List ℕ → List ℕ → Type 0
ChoicePasses ok n q lens = (k : ℕ) → k < n → ok (under q k) k lens (slice_index lens k)

-- a choice that passes, and every other one that passes gives each task at least this length
pub record LeastChoice (size : ℕ → ℕ) (n : ℕ) (ok : Test) (q lens : List ℕ) : Type 0 where
  pub choice : IsChoice size n lens
  pub pass : ChoicePasses ok n q lens
  pub least : (other : List ℕ) → IsChoice size n other → ChoicePasses ok n q other → (k : ℕ) → k < n → slice_index lens k ≤ slice_index other k

abbrev pub NoChoicePasses : (ℕ → ℕ) → ℕ → Test → List ℕ → Type 0
NoChoicePasses size n ok q = (lens : List ℕ) → IsChoice size n lens → ChoicePasses ok n q lens → ⊥

-- one order is before another: read from the lowest place up, it has the lower task number where they first differ
abbrev pub Before : List ℕ → List ℕ → Type 0
Before [] xs = ⊥
Before (q ∷ qs) [] = ⊥
Before (q ∷ qs) (x ∷ xs) = (q < x) ⊎ ((q ≡ x) × Before qs xs)

-- an order that passes with some lengths, the least of these, and no choice passes in any order before it
pub record FirstOrder (size : ℕ → ℕ) (n : ℕ) (ok : Test) (q lens : List ℕ) : Type 0 where
  pub order : IsOrder n q
  pub lengths : LeastChoice size n ok q lens
  pub first : (other : List ℕ) → IsOrder n other → Before other q → NoChoicePasses size n ok other

-- The same of the tasks ts on m cores, under a rule with this sum.
abbrev pub LeastLengths : (Query → ℕ) → ℕ → List Task → List ℕ → List ℕ → Type 0
LeastLengths sum m ts q lens = LeastChoice (cost_of ts) (length ts) (PassesOver sum m ts) q lens

abbrev pub NoLengths : (Query → ℕ) → ℕ → List Task → List ℕ → Type 0
NoLengths sum m ts q = NoChoicePasses (cost_of ts) (length ts) (PassesOver sum m ts) q

abbrev pub FirstPlan : (Query → ℕ) → ℕ → List Task → List ℕ → List ℕ → Type 0
FirstPlan sum m ts q lens = FirstOrder (cost_of ts) (length ts) (PassesOver sum m ts) q lens

abbrev pub NoPlan : (Query → ℕ) → ℕ → List Task → Type 0
NoPlan sum m ts = (q : List ℕ) → IsOrder (length ts) q → NoLengths sum m ts q
