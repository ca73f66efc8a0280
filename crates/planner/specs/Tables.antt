-- What an open table holds, and what a fixed one holds besides its rule.
use Rattle.std.specs.Prelude.{ℕ, zero, suc, Bool, false, List, [], ◌∷◌, length, replicate, vec_items}
use Rattle.analysis.specs.declared.task.Task.{Task}
use Rattle.planner.specs.declared.tables.rows.Rows.{Rows}
use Rattle.planner.specs.declared.tables.open.OpenTable.{OpenTable}
use Rattle.planner.specs.declared.tables.fixed.FixedTable.{FixedTable}
use Rattle.planner.specs.Rows.{tasks, lengths, bounds}

pub record Open : Type 0 where
  pub cores : ℕ
  pub tasks : List Task

abbrev pub opened : ℕ → List Task → Open
opened m ts = record { cores = m; tasks = ts }

-- what the rows of either kind of table keep
abbrev pub kept : Rows → Open
kept r = opened r.cores (tasks (vec_items r.items))

abbrev pub held : OpenTable → Open
held t = opened t.rows.cores (tasks (vec_items t.rows.items))

-- The order is from the lowest place up, by task number from 0; lengths and bounds are by task number.
pub record Fixed : Type 0 where
  pub cores : ℕ
  pub tasks : List Task
  pub order : List ℕ
  pub lengths : List ℕ
  pub bounds : List ℕ
  pub passed : Bool
  pub bounded : Bool

abbrev pub fixed : ℕ → List Task → List ℕ → List ℕ → List ℕ → Bool → Bool → Fixed
fixed m ts q ls bs p b = record { cores = m; tasks = ts; order = q; lengths = ls; bounds = bs; passed = p; bounded = b }

abbrev pub holds : {R : Type 0} → FixedTable R → Fixed
holds t = fixed t.rows.cores (tasks (vec_items t.rows.items)) (vec_items t.order) (lengths (vec_items t.rows.items)) (bounds (vec_items t.rows.items)) t.marks.passed t.marks.bounded

-- n - 1, .. 0: places in number order, seen from the lowest up
abbrev pub downward : ℕ → List ℕ
downward zero = []
downward (suc n) = n ∷ downward n

-- a table as it is fixed
abbrev pub new_fixed : Open → Fixed
new_fixed m = fixed m.cores m.tasks (downward (length m.tasks)) (replicate (length m.tasks) 1) (replicate (length m.tasks) 0) false false
