-- A frame for a task or a place, as the reader takes it.
use Rattle.std.proofs.Common.{◌≡◌, ℕ, ◌<◌, ◌≤◌, true, false, leb, List, length, Err, sym, ap, ◌∙◌, ⊎_elim}
use Rattle.std.proofs.lemmas.Bool.{cond-true, cond-false, le-leb, lt-leb, and_from, and_parts, leb-true, cases_Bool}
use Rattle.analysis.specs.declared.task.Task.{Task}
use Rattle.analysis.specs.Rivals.{TaskWithinLimits}
use Rattle.table_file.specs.declared.fault.Number.TheVariants.{Limits, TableFull}
use Rattle.table_file.specs.Numbers.{fault_at}
use Rattle.table_file.specs.Frames.{task_of}
use Rattle.table_file.specs.Progress.{Progress, step_task, within_limits}

-- the test of the limits and what it says
pub within_yes : (t : Task) → within_limits t ≡ true → TaskWithinLimits t
within_yes t e =
    let a = and_parts _ _ e in
    let b = and_parts _ _ a.1 in
    let d = and_parts _ _ b.1 in
    (leb-true _ _ a.0, leb-true _ _ b.0, leb-true _ _ d.0, leb-true _ _ d.1)

pub within_from : (t : Task) → TaskWithinLimits t → within_limits t ≡ true
within_from t w = and_from _ _ (le-leb _ _ w.0) (and_from _ _ (le-leb _ _ w.1) (and_from _ _ (le-leb _ _ w.2) (le-leb _ _ w.3)))

pub within_no : (t : Task) → (TaskWithinLimits t → ⊥) → within_limits t ≡ false
within_no t n = ⊎_elim (λ e. absurd (n (within_yes t e))) (λ e. e) (cases_Bool (within_limits t))

-- a task too many, and one outside the limits
module _ (s : Progress) (ds : List ℕ) (ln : ℕ) where
  pub task_full : 32 ≤ length s.tasks → step_task s ds ln ≡ Err (fault_at TableFull ln 1)
  task_full h = cond-true (leb 32 (length s.tasks)) _ _ (le-leb 32 _ h)

  pub task_refused : length s.tasks < 32 → (t : Task) → t ≡ task_of ds → (TaskWithinLimits t → ⊥) → step_task s ds ln ≡ Err (fault_at Limits ln 1)
  task_refused room t is n =
      cond-false (leb 32 (length s.tasks)) _ _ (lt-leb 32 _ room)
      ∙ cond-false (within_limits (task_of ds)) _ _ (sym (ap within_limits is) ∙ within_no t n)
