-- Tasks, who stands below whom, and what the other tasks are to one of them.
-- Tasks are numbered from 0 here, by their place in the list of tasks. An order is a list of task numbers from the
-- lowest place up. Lengths, finishes and bounds are lists by task number.
use Rattle.std.specs.Prelude.{ℕ, zero, suc, ◌-◌, ◌<◌, ◌≤◌, Bool, true, false, cond, not, ◌&&◌, List, [], ◌∷◌, ◌++◌, map, length, decimal, codes, ◌==◌, slice_index, slice_index_or}
use Rattle.interference.specs.declared.rival.Rival.{Rival}
use Rattle.analysis.specs.declared.task.Task.{Task}

-- read past the end of a list
abbrev pub no_task : Task
no_task = record { cost = 0; deadline = 0; period = 0 }

-- what a task prints as
abbrev pub task_text : Task → List ℕ
task_text t = codes "cost " ++ (decimal t.cost ++ (codes ", deadline " ++ (decimal t.deadline ++ (codes ", period " ++ decimal t.period))))

abbrev pub cost_of : List Task → ℕ → ℕ
cost_of ts k = (slice_index_or ts k no_task).cost

abbrev pub TaskWithinLimits : Task → Type 0
TaskWithinLimits t = (1 ≤ t.cost) × (t.cost ≤ t.deadline) × (t.deadline ≤ t.period) × (t.period ≤ 65535)

abbrev pub TasksWithinLimits : List Task → Type 0
TasksWithinLimits ts = (k : ℕ) → k < length ts → TaskWithinLimits (slice_index_or ts k no_task)

-- these tasks on so many cores make a set
abbrev pub MakesSet : ℕ → List Task → Type 0
MakesSet m ts = (1 ≤ m) × (m ≤ 16) × (length ts ≤ 32) × TasksWithinLimits ts

-- when a job must be finished at the latest, after its release
abbrev pub finish_limit : Task → ℕ
finish_limit t = t.deadline

abbrev pub limit_of : List Task → ℕ → ℕ
limit_of ts k = finish_limit (slice_index_or ts k no_task)

abbrev pub finish_limits : List Task → List ℕ
finish_limits ts = map finish_limit ts

abbrev pub among : List ℕ → ℕ → Bool
among [] j = false
among (x ∷ xs) j = cond (x == j) true (among xs j)

-- the tasks in lower places than task k
abbrev pub under : List ℕ → ℕ → List ℕ
under [] k = []
under (x ∷ xs) k = cond (x == k) [] (x ∷ under xs k)

-- Where the tasks of `low` stand below task k and all others above it: does task j stand above, does it stand below?
abbrev pub above : List ℕ → ℕ → ℕ → Bool
above low k j = not (j == k) && not (among low j)

abbrev pub below : List ℕ → ℕ → ℕ → Bool
below low k j = not (j == k) && among low j

-- what g gives for the numbers below n that p picks, by rising number
abbrev pub picked : {X : Type 0} → (ℕ → Bool) → (ℕ → X) → ℕ → List X
picked p g zero = []
picked p g (suc n) = picked p g n ++ cond (p n) (g n ∷ []) []

-- what a task is to another one: it executes c, and finishes by j
abbrev pub rival_of : Task → ℕ → ℕ → Rival
rival_of t c j = record { cost = c; period = t.period; finish = j }

-- in a higher place all of its cost counts, in a lower one what its region can block for
abbrev pub upper_rival : List Task → List ℕ → ℕ → Rival
upper_rival ts late j = rival_of (slice_index_or ts j no_task) (cost_of ts j) (slice_index late j)

abbrev pub lower_rival : List Task → List ℕ → List ℕ → ℕ → Rival
lower_rival ts late lens j = rival_of (slice_index_or ts j no_task) (slice_index lens j - 1) (slice_index late j)

-- the rivals of task k, where the tasks of `low` stand below it, with the latest finishes and lengths of all tasks
abbrev pub uppers : List Task → List ℕ → List ℕ → ℕ → List Rival
uppers ts late low k = picked (above low k) (upper_rival ts late) (length ts)

abbrev pub lowers : List Task → List ℕ → List ℕ → List ℕ → ℕ → List Rival
lowers ts late lens low k = picked (below low k) (lower_rival ts late lens) (length ts)
