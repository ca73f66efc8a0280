-- What single steps of the searches promise. The public promises are in Plans and Bounds.
use Rattle.std.specs.Prelude.{◌≡◌, ℕ, zero, suc, ◌+◌, ◌<◌, ◌≤◌, false, List, length, take, Option, MatchOption, slice_index}
use Rattle.interference.specs.Questions.{Query}
use Rattle.analysis.specs.declared.task.Task.{Task}
use Rattle.analysis.specs.Rivals.{cost_of, limit_of, among}
use Rattle.analysis.specs.Plans.{Named, IsOrder, IsChoice, Test, Before}
use Rattle.analysis.specs.Bounds.{bound_of, BoundsWithin}

-- the first number from 1 to top that passes, or none does
abbrev pub FirstIs : (ℕ → Type 0) → ℕ → ℕ → Type 0
FirstIs P top f = (1 ≤ f) × (f ≤ top) × P f × ((g : ℕ) → 1 ≤ g → g < f → P g → ⊥)

abbrev pub FirstTo : (ℕ → Type 0) → ℕ → Option ℕ → Type 0
FirstTo P top r = MatchOption r ((f : ℕ) → 1 ≤ f → f ≤ top → P f → ⊥) (FirstIs P top)

-- the tasks of q pass, in the lowest places, the first lowest
abbrev pub PlacesPass : Test → List ℕ → List ℕ → Type 0
PlacesPass ok q lens = (p : ℕ) → p < length q → ok (take p q) (slice_index q p) lens (slice_index lens (slice_index q p))

pub record LeastByPlace (size : ℕ → ℕ) (n : ℕ) (ok : Test) (q lens : List ℕ) : Type 0 where
  pub choice : IsChoice size n lens
  pub pass : PlacesPass ok q lens
  pub least : (other : List ℕ) → IsChoice size n other → PlacesPass ok q other → (p : ℕ) → p < length q → slice_index lens (slice_index q p) ≤ slice_index other (slice_index q p)

-- the tasks of q stand lowest, and at each place the length is the least of any choice that passes up to there
pub record Greedy (size : ℕ → ℕ) (n : ℕ) (ok : Test) (q lens : List ℕ) : Type 0 where
  pub named : Named n q
  pub choice : IsChoice size n lens
  pub pass : PlacesPass ok q lens
  pub least : (other : List ℕ) → IsChoice size n other → (p : ℕ) → p < length q → PlacesPass ok (take (p + 1) q) other
      → slice_index lens (slice_index q p) ≤ slice_index other (slice_index q p)

abbrev pub InfeasibleByPlace : (ℕ → ℕ) → ℕ → Test → List ℕ → Type 0
InfeasibleByPlace size n ok q = (lens : List ℕ) → IsChoice size n lens → PlacesPass ok q lens → ⊥

-- task y cannot stand above those of the list with these lengths
abbrev pub Stuck : (ℕ → ℕ) → Test → List ℕ → List ℕ → ℕ → Type 0
Stuck size ok low lens y = among low y ≡ false → (f : ℕ) → 1 ≤ f → f ≤ size y → ok low y lens f → ⊥

pub record FirstByPlace (size : ℕ → ℕ) (n : ℕ) (ok : Test) (q lens : List ℕ) : Type 0 where
  pub order : IsOrder n q
  pub lengths : LeastByPlace size n ok q lens
  pub first : (other : List ℕ) → IsOrder n other → Before other q → InfeasibleByPlace size n ok other

-- f(0) + .. + f(n - 1)
abbrev pub total : (ℕ → ℕ) → ℕ → ℕ
total f zero = 0
total f (suc n) = total f n + f n

-- w is the least number of a range that h does not raise, and h keeps it; or no number of the range is such
abbrev pub LeastKept : (ℕ → ℕ) → ℕ → ℕ → ℕ → Type 0
LeastKept h low high w = (low ≤ w) × (w ≤ high) × (h w ≡ w) × ((v : ℕ) → low ≤ v → v ≤ high → h v ≤ v → w ≤ v)

abbrev pub FirstKept : (ℕ → ℕ) → ℕ → ℕ → Option ℕ → Type 0
FirstKept h low high r = MatchOption r ((v : ℕ) → low ≤ v → v ≤ high → h v ≤ v → ⊥) (LeastKept h low high)

-- bounds that only rise, and stay below all that are at least what their equations give
pub record Rising (n : ℕ) (low high : ℕ → ℕ) (g : ℕ → List ℕ → ℕ → ℕ) (bs : List ℕ) : Type 0 where
  pub within : BoundsWithin n low high bs
  pub rises : (k : ℕ) → k < n → slice_index bs k ≤ g k bs (slice_index bs k)
  pub lowest : (k : ℕ) → k < n → (v : ℕ) → low k ≤ v → v ≤ high k → g k bs v ≤ v → slice_index bs k ≤ v
  pub below : (o : List ℕ) → BoundsWithin n low high o → ((k : ℕ) → k < n → g k o (slice_index o k) ≤ slice_index o k) → (k : ℕ) → k < n → slice_index bs k ≤ slice_index o k

-- no bounds within the limits are at least what their equations give
abbrev pub Overrun : (Query → ℕ) → ℕ → List Task → List ℕ → List ℕ → Type 0
Overrun sum m ts q lens = (bounds : List ℕ) → BoundsWithin (length ts) (cost_of ts) (limit_of ts) bounds
    → ((k : ℕ) → k < length ts → bound_of sum m ts q lens k bounds (slice_index bounds k) ≤ slice_index bounds k) → ⊥

-- the entries of an array past the first n are v
abbrev pub Padded : ℕ → ℕ → List ℕ → Type 0
Padded n v xs = (k : ℕ) → n ≤ k → k < length xs → slice_index xs k ≡ v
