-- What the rows of a table hold, by list.
use Rattle.std.specs.Prelude.{◌≡◌, ℕ, ◌<◌, List, map, length, slice_index_or}
use Rattle.analysis.specs.declared.task.Task.{Task}
use Rattle.analysis.specs.Rivals.{no_task}
use Rattle.planner.specs.declared.tables.rows.Row.{Row}

abbrev pub tasks : List Row → List Task
tasks rs = map (λ r. r.task) rs

abbrev pub lengths : List Row → List ℕ
lengths rs = map (λ r. r.length) rs

abbrev pub bounds : List Row → List ℕ
bounds rs = map (λ r. r.bound) rs

-- records as they are in an open table: length 1 and bound 0
abbrev pub Unset : Row → Type 0
Unset r = (r.length ≡ 1) × (r.bound ≡ 0)

-- read past the end of a list
abbrev pub no_row : Row
no_row = record { task = no_task; length = 0; bound = 0 }

abbrev pub Fresh : List Row → Type 0
Fresh rs = (i : ℕ) → i < length rs → Unset (slice_index_or rs i no_row)
