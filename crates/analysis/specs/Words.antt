-- Short words of the contracts, on the types of src/.
use Rattle.std.specs.Prelude.{◌≡◌, ℕ, ◌<◌, ◌≤◌, Bool, List, length, MatchBool, slice_index}
use Rattle.interference.specs.Questions.{Query}
use Rattle.analysis.specs.declared.task.Task.{Task}
use Rattle.analysis.specs.declared.task_set.Arranged.{Arranged}
use Rattle.analysis.specs.declared.task_set.Ordered.{Ordered}
use Rattle.analysis.specs.declared.task_set.TaskSet.{TaskSet}
use Rattle.analysis.specs.declared.place.Place.{Place}
use Rattle.analysis.specs.declared.level.Level.{Level}
use Rattle.analysis.specs.Rivals.{cost_of, limit_of}
use Rattle.analysis.specs.Passing.{Meets, Passes, PassesOver}
use Rattle.analysis.specs.Plans.{Test, LeastLengths, NoLengths}
use Rattle.analysis.specs.Bounds.{next_bound, bound_of, BoundsWithin, Solution, LeastSolution, NoSolution}
use Rattle.analysis.specs.Steps.{FirstIs, Stuck, Rising, Overrun, total, Padded}

-- the answer is true where P holds, and false where it does not
abbrev pub Tells : Bool → Type 0 → Type 0
Tells b P = MatchBool b P (P → ⊥)

-- a task between its rivals: a region that it can have, whether it passes with it, and what its equation gives
abbrev pub RegionOf : Place → ℕ → Type 0
RegionOf p f = (1 ≤ f) × (f ≤ p.task.cost)

abbrev pub MeetsAt : (Query → ℕ) → Place → ℕ → Type 0
MeetsAt sum p f = Meets sum p.cores p.task p.upper.now p.lower.now f

abbrev pub next_at : (Query → ℕ) → Place → ℕ → ℕ → ℕ
next_at sum p f b = next_bound sum p.cores p.task.cost f p.upper.now p.lower.now b

-- of a set of tasks
abbrev pub test_of : (Query → ℕ) → TaskSet → Test
test_of sum s = PassesOver sum s.cores s.tasks.now

-- each of these bounds is at least the cost of its task and at most its limit
abbrev pub WithinLimits : TaskSet → List ℕ → Type 0
WithinLimits s bs = BoundsWithin (length s.tasks.now) (cost_of s.tasks.now) (limit_of s.tasks.now) bs

-- on a level: task k passes with a region of length f; f is its first that passes; it has none
abbrev pub PassesAt : (Query → ℕ) → Level → ℕ → ℕ → Type 0
PassesAt sum l k = test_of sum l.set l.low.now k l.lengths.now

abbrev pub FirstAt : (Query → ℕ) → Level → ℕ → ℕ → Type 0
FirstAt sum l k f = FirstIs (PassesAt sum l k) (cost_of l.set.tasks.now k) f

abbrev pub StuckAt : (Query → ℕ) → Level → ℕ → Type 0
StuckAt sum l k = Stuck (cost_of l.set.tasks.now) (test_of sum l.set) l.low.now l.lengths.now k

-- of tasks in an order
abbrev pub OrderedLengths : (Query → ℕ) → Ordered → List ℕ → Type 0
OrderedLengths sum o lens = LeastLengths sum o.set.cores o.set.tasks.now o.order.now lens × Padded (length o.set.tasks.now) 1 lens

abbrev pub NoOrderedLengths : (Query → ℕ) → Ordered → Type 0
NoOrderedLengths sum o = NoLengths sum o.set.cores o.set.tasks.now o.order.now

-- of tasks in an order with their lengths
abbrev pub In : {X : Type 0} → (ℕ → List Task → List ℕ → List ℕ → X → Type 0) → Arranged → X → Type 0
In P a x = P a.ordered.set.cores a.ordered.set.tasks.now a.ordered.order.now a.lengths.now x

abbrev pub PassesIn : (Query → ℕ) → Arranged → ℕ → Type 0
PassesIn sum a k = In (Passes sum) a k

abbrev pub bound_in : (Query → ℕ) → Arranged → ℕ → List ℕ → ℕ → ℕ
bound_in sum a = bound_of sum a.ordered.set.cores a.ordered.set.tasks.now a.ordered.order.now a.lengths.now

-- the bound of task k is what its equation gives
abbrev pub KeepsIn : (Query → ℕ) → Arranged → List ℕ → ℕ → Type 0
KeepsIn sum a bs k = bound_in sum a k bs (slice_index bs k) ≡ slice_index bs k

abbrev pub SolutionIn : (Query → ℕ) → Arranged → List ℕ → Type 0
SolutionIn sum a bs = In (Solution sum) a bs

abbrev pub LeastSolutionIn : (Query → ℕ) → Arranged → List ℕ → Type 0
LeastSolutionIn sum a bs = In (LeastSolution sum) a bs

abbrev pub NoSolutionIn : (Query → ℕ) → Arranged → Type 0
NoSolutionIn sum a = NoSolution sum a.ordered.set.cores a.ordered.set.tasks.now a.ordered.order.now a.lengths.now

abbrev pub OverrunIn : (Query → ℕ) → Arranged → Type 0
OverrunIn sum a = Overrun sum a.ordered.set.cores a.ordered.set.tasks.now a.ordered.order.now a.lengths.now

-- bounds that rise to the least solution, 0 past the last task
abbrev pub RisingIn : (Query → ℕ) → Arranged → List ℕ → Type 0
RisingIn sum a bs =
    Rising (length a.ordered.set.tasks.now) (cost_of a.ordered.set.tasks.now) (limit_of a.ordered.set.tasks.now) (bound_in sum a) bs
    × Padded (length a.ordered.set.tasks.now) 0 bs

-- the sum of the bounds of all tasks is greater in the second list
abbrev pub Grows : TaskSet → List ℕ → List ℕ → Type 0
Grows s old new = total (λ k. slice_index old k) (length s.tasks.now) < total (λ k. slice_index new k) (length s.tasks.now)
