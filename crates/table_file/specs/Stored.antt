-- What of a table a file carries: cores, tasks, and the places with their lengths, the highest first, if any.
use Rattle.std.specs.Prelude.{◌≡◌, ℕ, ◌-◌, ◌<◌, ◌≤◌, false, List, [], map, length, get_or, take, slice_index, slice_index_or}
use Rattle.analysis.specs.declared.task.Task.{Task}
use Rattle.analysis.specs.Rivals.{among, TasksWithinLimits}
use Rattle.planner.specs.Tables.{Open, Fixed}
use Rattle.planner.specs.Calls.{HasTask, task_numbered}
use Rattle.planner.specs.Reading.{standing}
use Rattle.table_file.specs.declared.place.Place.{Place}

pub record Stored : Type 0 where
  pub cores : ℕ
  pub tasks : List Task
  pub places : List Place

abbrev pub stored : ℕ → List Task → List Place → Stored
stored m ts ps = record { cores = m; tasks = ts; places = ps }

-- read past the end of a list
abbrev pub no_place : Place
no_place = record { task = 0; length = 0 }

abbrev pub numbers : List Place → List ℕ
numbers ps = map (λ p. p.task) ps

-- places that name tasks by number, with the lengths of a list by task
abbrev pub placed : List ℕ → List ℕ → List Place
placed xs lens = map (λ n. record { task = n; length = slice_index lens (n - 1) }) xs

abbrev pub of_open : Open → Stored
of_open m = stored m.cores m.tasks []

abbrev pub of_fixed : Fixed → Stored
of_fixed m = stored m.cores m.tasks (placed (standing m.order) m.lengths)

-- a place for a task that has none among those before, with a length from 1 to its cost
abbrev pub PlaceFits : List Task → List Place → Place → Type 0
PlaceFits ts before p = HasTask ts p.task × (among (numbers before) p.task ≡ false) × (1 ≤ p.length) × (p.length ≤ (task_numbered ts p.task).cost)

abbrev pub EachFits : List Task → List Place → Type 0
EachFits ts ps = (p : ℕ) → p < length ps → PlaceFits ts (take p ps) (slice_index_or ps p no_place)

-- no places, or one for each task
abbrev pub AllOrNone : List Task → List Place → Type 0
AllOrNone ts ps = 0 < length ps → length ps ≡ length ts

-- what every file that is read carries
pub record Valid (s : Stored) : Type 0 where
  pub some : 1 ≤ s.cores
  pub most : s.cores ≤ 16
  pub few : length s.tasks ≤ 32
  pub tasks : TasksWithinLimits s.tasks
  pub whole : AllOrNone s.tasks s.places
  pub each : EachFits s.tasks s.places

-- the tasks of the first n places have the lengths that these say
abbrev pub StretchedTo : List Place → ℕ → List ℕ → Type 0
StretchedTo ps n lens = (j : ℕ) → j < n → slice_index lens ((get_or ps j no_place).task - 1) ≡ (get_or ps j no_place).length
