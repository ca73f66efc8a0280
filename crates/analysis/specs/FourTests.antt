-- The four tests written out, by sums over the tasks in higher and in lower places: deadline analysis and response time
-- analysis, each with carry-in of all rivals and with limited carry-in.
use Rattle.std.specs.Prelude.{◌≡◌, ℕ, zero, suc, ◌+◌, ◌-◌, ◌/◌, ◌<◌, ◌≤◌, min, Bool, cond, List, length, slice_index, slice_index_or}
use Rattle.interference.specs.Shares.{workload}
use Rattle.interference.specs.Sums.{greatest_total}
use Rattle.analysis.specs.declared.task.Task.{Task}
use Rattle.analysis.specs.Rivals.{no_task, cost_of, limit_of, under, above, below, picked}

abbrev pub period_of : List Task → ℕ → ℕ
period_of ts j = (slice_index_or ts j no_task).period

-- in an order from the lowest place up: task j stands higher than task k, or lower
abbrev pub higher : List ℕ → ℕ → ℕ → Bool
higher q k j = above (under q k) k j

abbrev pub lower : List ℕ → ℕ → ℕ → Bool
lower q k j = below (under q k) k j

-- the sum of f over the tasks below n that p picks
abbrev pub over : (ℕ → Bool) → (ℕ → ℕ) → ℕ → ℕ
over p f zero = 0
over p f (suc n) = over p f n + cond (p n) (f n) 0

-- what task j executes at most in a window of l, capped: in a higher place with work carried in, where its latest finish
-- is late j, and without; in a lower place by its region
abbrev pub higher_carried : List Task → (ℕ → ℕ) → ℕ → ℕ → ℕ → ℕ
higher_carried ts late l cap j = min (workload (cost_of ts j) (period_of ts j) (l + late j - cost_of ts j)) cap

abbrev pub higher_plain : List Task → ℕ → ℕ → ℕ → ℕ
higher_plain ts l cap j = min (workload (cost_of ts j) (period_of ts j) l) cap

abbrev pub lower_carried : List Task → List ℕ → (ℕ → ℕ) → ℕ → ℕ → ℕ → ℕ
lower_carried ts lens late l cap j = min (workload (slice_index lens j - 1) (period_of ts j) (l + late j - (slice_index lens j - 1))) cap

-- what the others take from task k in a window of l of which it wants e
abbrev pub full_interference : List Task → List ℕ → List ℕ → ℕ → (ℕ → ℕ) → ℕ → ℕ → ℕ
full_interference ts q lens k late l e =
    over (higher q k) (higher_carried ts late l (l - e + 1)) (length ts) + over (lower q k) (lower_carried ts lens late l (l - e + 1)) (length ts)

-- the same where at most m - 1 tasks in higher places carry work in, with the push-through of the task itself
abbrev pub limited_interference : ℕ → List Task → List ℕ → List ℕ → ℕ → (ℕ → ℕ) → ℕ → ℕ → ℕ
limited_interference m ts q lens k late l e =
    over (higher q k) (higher_plain ts l (l - e + 1)) (length ts) + over (lower q k) (lower_carried ts lens late l (l - e + 1)) (length ts) + (slice_index lens k - 1)
    + greatest_total (λ j. higher_carried ts late l (l - e + 1) j - higher_plain ts l (l - e + 1) j) (m - 1) (picked (higher q k) (λ j. j) (length ts))

-- what task k executes before the last tick of its region can begin, and when that must be done
abbrev pub before_region : List Task → List ℕ → ℕ → ℕ
before_region ts lens k = cost_of ts k - (slice_index lens k - 1)

abbrev pub start_limit : List Task → List ℕ → ℕ → ℕ
start_limit ts lens k = limit_of ts k - (slice_index lens k - 1)

-- Deadline analysis: every rival finishes by its deadline at the latest.
abbrev pub DeadlineAnalysis : ℕ → List Task → List ℕ → List ℕ → ℕ → Type 0
DeadlineAnalysis m ts q lens k =
    before_region ts lens k + full_interference ts q lens k (limit_of ts) (start_limit ts lens k) (before_region ts lens k) / m ≤ start_limit ts lens k

abbrev pub LimitedDeadlineAnalysis : ℕ → List Task → List ℕ → List ℕ → ℕ → Type 0
LimitedDeadlineAnalysis m ts q lens k =
    before_region ts lens k + limited_interference m ts q lens k (limit_of ts) (start_limit ts lens k) (before_region ts lens k) / m ≤ start_limit ts lens k

-- Response time analysis: every rival finishes by its own bound at the latest.
abbrev pub ResponseTime : ℕ → List Task → List ℕ → List ℕ → ((ℕ → ℕ) → ℕ → ℕ) → ℕ → Type 0
ResponseTime m ts lens bounds taken k =
    (cost_of ts k ≤ slice_index bounds k) × (slice_index bounds k ≤ limit_of ts k)
    × ((r : ℕ) × (slice_index bounds k ≡ r + (slice_index lens k - 1)) × (r ≡ before_region ts lens k + taken (λ j. slice_index bounds j) r / m))

abbrev pub ResponseTimeAnalysis : ℕ → List Task → List ℕ → List ℕ → List ℕ → Type 0
ResponseTimeAnalysis m ts q lens bounds = (k : ℕ) → k < length ts
    → ResponseTime m ts lens bounds (λ late r. full_interference ts q lens k late r (before_region ts lens k)) k

abbrev pub LimitedResponseTimeAnalysis : ℕ → List Task → List ℕ → List ℕ → List ℕ → Type 0
LimitedResponseTimeAnalysis m ts q lens bounds = (k : ℕ) → k < length ts
    → ResponseTime m ts lens bounds (λ late r. limited_interference m ts q lens k late r (before_region ts lens k)) k

-- each follows from the other
abbrev pub Equivalent : Type 0 → Type 0 → Type 0
Equivalent X Y = (X → Y) × (Y → X)
