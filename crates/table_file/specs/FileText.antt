-- The text of what a file carries: a line for the cores, one for each task, one for each place.
use Rattle.std.specs.Prelude.{ℕ, List, [], ◌∷◌, ◌++◌}
use Rattle.std.specs.List.{flat_map}
use Rattle.analysis.specs.declared.task.Task.{Task}
use Rattle.table_file.specs.declared.place.Place.{Place}
use Rattle.table_file.specs.Digits.{byte_text, word_text}
use Rattle.table_file.specs.Stored.{Stored}

abbrev pub cores_frame : ℕ → List ℕ
cores_frame m = byte_text 1 ++ byte_text m

abbrev pub task_frame : Task → List ℕ
task_frame t = byte_text 2 ++ (word_text t.cost ++ (word_text t.deadline ++ word_text t.period))

abbrev pub place_frame : Place → List ℕ
place_frame p = byte_text 3 ++ (byte_text p.task ++ word_text p.length)

abbrev pub cores_line : ℕ → List ℕ
cores_line m = cores_frame m ++ 10 ∷ []

abbrev pub task_line : Task → List ℕ
task_line t = task_frame t ++ 10 ∷ []

abbrev pub place_line : Place → List ℕ
place_line p = place_frame p ++ 10 ∷ []

abbrev pub file_text : Stored → List ℕ
file_text s = cores_line s.cores ++ (flat_map task_line s.tasks ++ flat_map place_line s.places)
