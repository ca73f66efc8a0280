-- Rows that are added, taken out or changed keep the limits of their tasks.
use Rattle.std.proofs.Common.{◌≡◌, ℕ, ◌-◌, ◌<◌, List, [], ◌∷◌, ◌++◌, length, get_or, take, drop, set, replicate, sym, ap, ◌∙◌, subst, arith}
use Rattle.std.specs.List.{AllByRecursion}
use Rattle.std.proofs.ByRecursion.{All-get_or, All-from_get_or, All-append, All-push, All-set, All-take, All-drop}
use Rattle.std.proofs.lemmas.List.{map-append, take-map, drop-map, get_or-map, get_or-replicate}
use Rattle.analysis.specs.declared.task.Task.{Task}
use Rattle.analysis.specs.Rivals.{TaskWithinLimits, TasksWithinLimits, no_task}
use Rattle.planner.specs.declared.tables.rows.Row.{Row}
use Rattle.planner.specs.Rows.{tasks, lengths, bounds, no_row, Fresh}
use Rattle.planner.specs.Calls.{with_cost, task_numbered}

each : (ts : List Task) → TasksWithinLimits ts → AllByRecursion TaskWithinLimits ts
each ts v = All-from_get_or TaskWithinLimits ts no_task v

places : (ts : List Task) → AllByRecursion TaskWithinLimits ts → TasksWithinLimits ts
places ts a k l = All-get_or TaskWithinLimits ts k no_task l a

pub within_push : (ts : List Task) (t : Task) → TasksWithinLimits ts → TaskWithinLimits t → TasksWithinLimits (ts ++ t ∷ [])
within_push ts t v w = places (ts ++ t ∷ []) (All-push TaskWithinLimits ts t (each ts v) w)

pub within_removed : (ts : List Task) (i j : ℕ) → TasksWithinLimits ts → TasksWithinLimits (take i ts ++ drop j ts)
within_removed ts i j v =
    places (take i ts ++ drop j ts) (All-append TaskWithinLimits (take i ts) (drop j ts) (All-take TaskWithinLimits i ts (each ts v)) (All-drop TaskWithinLimits j ts (each ts v)))

pub within_set : (ts : List Task) (i : ℕ) (t : Task) → TasksWithinLimits ts → TaskWithinLimits t → TasksWithinLimits (set ts i t)
within_set ts i t v w = places (set ts i t) (All-set TaskWithinLimits ts i t w (each ts v))

pub tasks_removed : (rs : List Row) (n m : ℕ) → tasks (take n rs ++ drop m rs) ≡ take n (tasks rs) ++ drop m (tasks rs)
tasks_removed rs n m =
    map-append (λ r. r.task) (take n rs) (drop m rs)
    ∙ ap (λ l. l ++ tasks (drop m rs)) (sym (take-map (λ r. r.task) n rs))
    ∙ ap (λ l. take n (tasks rs) ++ l) (sym (drop-map (λ r. r.task) m rs))

-- the limits of a list that is known by another name
pub within_as : (ts us : List Task) → us ≡ ts → TasksWithinLimits ts → TasksWithinLimits us
within_as ts us e v = subst (λ (l : List Task). TasksWithinLimits l) (sym e) v

pub task_at : (rs : List Row) (k : ℕ) (d : Row) → k < length rs → get_or (tasks rs) k no_task ≡ (get_or rs k d).task
task_at rs k d l = get_or-map (λ r. r.task) rs k d no_task l

-- a row that was read is that of the task with its number
pub numbered_task : (xs : List Row) (i n : ℕ) (r : Row) → i ≡ n - 1 → i < length xs → r ≡ get_or xs i r → get_or (tasks xs) (n - 1) no_task ≡ r.task
numbered_task xs i n r e l h = ap (λ k. get_or (tasks xs) k no_task) (sym e) ∙ task_at xs i r l ∙ ap (λ x. x.task) (sym h)

-- and one that was lent and changed is that task with another cost
pub amended_task : (xs : List Row) (i n c : ℕ) (lent new : Row) → i ≡ n - 1 → i < length xs → lent ≡ get_or xs i lent → new.task ≡ with_cost lent.task c
    → new.task ≡ with_cost (task_numbered (tasks xs) n) c
amended_task xs i n c lent new e l h k = k ∙ ap (λ t. with_cost t c) (sym (numbered_task xs i n lent e l h))

pub fresh_written : (rs : List Row) (n : ℕ) → length rs ≡ n → lengths rs ≡ replicate n 1 → bounds rs ≡ replicate n 0 → Fresh rs
fresh_written rs n k ls bs i h = (
  sym (get_or-map (λ r. r.length) rs i no_row 0 h) ∙ ap (λ l. get_or l i 0) ls ∙ get_or-replicate n i 1 0 (omega arith),
  sym (get_or-map (λ r. r.bound) rs i no_row 0 h) ∙ ap (λ l. get_or l i 0) bs ∙ get_or-replicate n i 0 0 (omega arith),
)
