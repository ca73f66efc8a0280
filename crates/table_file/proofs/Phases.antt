-- What a frame comes to, by the phase.
use Rattle.std.proofs.Common.{◌≡◌, ℕ, ◌⊎◌, List, Err, refl, inl, inr, arith}
use Rattle.table_file.specs.declared.fault.Number.TheVariants.{NotDue}
use Rattle.table_file.specs.declared.reader.Phase.{Phase}
use Rattle.table_file.specs.declared.reader.Phase.TheVariants.{Start, Tasks, Places}
use Rattle.table_file.specs.Numbers.{fault_at}
use Rattle.table_file.specs.Frames.{cores, task, place}
use Rattle.table_file.specs.Progress.{Progress, so_far, step, step_cores, step_task, step_place}

start_tasks : Tasks ≡ Start → ⊥
start_tasks e = let z : ◌≡◌ {A = ℕ} 0 1 = cc in omega arith

start_places : Places ≡ Start → ⊥
start_places e = let z : ◌≡◌ {A = ℕ} 0 1 = cc in omega arith

tasks_start : Start ≡ Tasks → ⊥
tasks_start e = let z : ◌≡◌ {A = ℕ} 0 1 = cc in omega arith

tasks_places : Places ≡ Tasks → ⊥
tasks_places e = let z : ◌≡◌ {A = ℕ} 0 1 = cc in omega arith

module _ (s : Progress) (fs : List ℕ) (ln : ℕ) where
  pub cores_step : ((s.phase ≡ Start) × (step s (cores fs ln) ≡ step_cores s fs ln)) ⊎ ((s.phase ≡ Start → ⊥) × (step s (cores fs ln) ≡ Err (fault_at NotDue ln 1)))
  cores_step = go s.phase
    where
      go : (p : Phase) → ((p ≡ Start) × (step (so_far p s.cores s.tasks s.places) (cores fs ln) ≡ step_cores s fs ln)) ⊎ ((p ≡ Start → ⊥) × (step (so_far p s.cores s.tasks s.places) (cores fs ln) ≡ Err (fault_at NotDue ln 1)))
      go Start = inl (refl, refl)
      go Tasks = inr (start_tasks, refl)
      go Places = inr (start_places, refl)

  pub task_step : ((s.phase ≡ Tasks) × (step s (task fs ln) ≡ step_task s fs ln)) ⊎ ((s.phase ≡ Tasks → ⊥) × (step s (task fs ln) ≡ Err (fault_at NotDue ln 1)))
  task_step = go s.phase
    where
      go : (p : Phase) → ((p ≡ Tasks) × (step (so_far p s.cores s.tasks s.places) (task fs ln) ≡ step_task s fs ln)) ⊎ ((p ≡ Tasks → ⊥) × (step (so_far p s.cores s.tasks s.places) (task fs ln) ≡ Err (fault_at NotDue ln 1)))
      go Start = inr (tasks_start, refl)
      go Tasks = inl (refl, refl)
      go Places = inr (tasks_places, refl)

  pub place_step : ((s.phase ≡ Start → ⊥) × (step s (place fs ln) ≡ step_place s fs ln)) ⊎ ((s.phase ≡ Start) × (step s (place fs ln) ≡ Err (fault_at NotDue ln 1)))
  place_step = go s.phase
    where
      go : (p : Phase) → ((p ≡ Start → ⊥) × (step (so_far p s.cores s.tasks s.places) (place fs ln) ≡ step_place s fs ln)) ⊎ ((p ≡ Start) × (step (so_far p s.cores s.tasks s.places) (place fs ln) ≡ Err (fault_at NotDue ln 1)))
      go Start = inr (refl, refl)
      go Tasks = inl (start_tasks, refl)
      go Places = inl (start_places, refl)
