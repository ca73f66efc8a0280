-- A file that is written line by line.
use Rattle.std.proofs.Common.{◌≡◌, ℕ, ◌+◌, ◌*◌, ◌<◌, ◌≤◌, List, [], ◌++◌, length, get_or, take, drop, sym, ap, ◌∙◌, arith, length-append}
use Rattle.std.specs.List.{flat_map}
use Rattle.std.proofs.Math.Nat.{mul-le-mul_left}
use Rattle.std.proofs.lemmas.List.{take_more, flat_map_more, take_at}
use Rattle.analysis.specs.declared.task.Task.{Task}
use Rattle.planner.specs.Reading.{over}
use Rattle.table_file.specs.declared.place.Place.{Place}
use Rattle.table_file.specs.Stored.{Stored, stored, Valid}
use Rattle.table_file.specs.FileText.{cores_line, task_line, place_line, file_text}
use Rattle.table_file.specs.Puts.{put}
use Rattle.table_file.specs.Promises.{Written}
use Rattle.table_file.specs.Reading.{read_file}
use Rattle.table_file.proofs.Back.{reads_back}
use Rattle.table_file.proofs.OnPuts.{put_then, put_start}

module _ {X : Type 0} (f : X → List ℕ) (xs : List X) (old : List ℕ) (start : ℕ) where
  pub lines_more : (i at : ℕ) (d : X) (mid last : List ℕ) → i < length xs → start + length (flat_map f (take i xs)) ≤ length old → at ≡ start + length (flat_map f (take i xs))
      → mid ≡ put (flat_map f (take i xs)) start old → last ≡ put (f (get_or xs i d)) at mid → last ≡ put (flat_map f (take (i + 1) xs)) start old
  lines_more i at d mid last l room n m e =
      put_then (flat_map f (take i xs)) (f (get_or xs i d)) old mid last start at room m n e
      ∙ ap (λ x. put x start old) (flat_map_more f [] (take i xs) (get_or xs i d) ∙ ap (flat_map f) (sym (take_more xs i d l)))

pub times_more : (n i : ℕ) → n * (i + 1) ≡ n * i + n
times_more n i = grind arith

-- there is room for the lines so far
pub lines_fit : (start n i count room : ℕ) → i < count → start + n * count ≤ room → start + n * i ≤ room
lines_fit start n i count room l h = let k : i ≤ count = omega arith in omega (arith, mul-le-mul_left n k)

-- lines of the same width
pub width_more : {X : Type 0} (f : X → List ℕ) (xs : List X) (n i : ℕ) (d : X) → i < length xs → length (flat_map f (take i xs)) ≡ n * i → length (f (get_or xs i d)) ≡ n
    → length (flat_map f (take (i + 1) xs)) ≡ n * (i + 1)
width_more f xs n i d l before w =
    ap length (ap (flat_map f) (take_more xs i d l) ∙ sym (flat_map_more f [] (take i xs) (get_or xs i d)))
    ∙ length-append (flat_map f (take i xs)) (f (get_or xs i d)) ∙ omega (arith, times_more n i)

-- the promise of a text that was written
pub written : (s : Stored) → Valid s → (n : ℕ) (old new : List ℕ) → length (file_text s) ≤ length old → n ≡ length (file_text s) → new ≡ put (file_text s) 0 old → Written s n old new
written s v n old new room count e =
    let text : new ≡ over (file_text s) old = e ∙ put_start (file_text s) old in
    record {
      room = room;
      count = count;
      text = text;
      back = ap read_file (ap (take n) text ∙ take_at (file_text s) (drop (length (file_text s)) old) n (sym count)) ∙ reads_back s v;
    }

-- cores, tasks and places one after the other
module _ (m : ℕ) (ts : List Task) (old one two : List ℕ) (at : ℕ) (is : at ≡ 5) (first : one ≡ put (cores_line m) 0 old) (second : two ≡ put (flat_map task_line ts) at one) (room : 5 ≤ length old) where
  pub two_parts : two ≡ put (cores_line m ++ flat_map task_line ts) 0 old
  two_parts = put_then (cores_line m) (flat_map task_line ts) old one two 0 at (omega arith) first (omega arith) second

  pub with_places : (ps : List Place) (next : ℕ) (three : List ℕ) → length (flat_map task_line ts) + 5 ≤ length old → next ≡ 5 + length (flat_map task_line ts)
      → three ≡ put (flat_map place_line ps) next two → three ≡ put (file_text (stored m ts ps)) 0 old
  with_places ps next three more n third =
      let k : length (cores_line m ++ flat_map task_line ts) ≡ 5 + length (flat_map task_line ts) = omega arith in
      put_then (cores_line m ++ flat_map task_line ts) (flat_map place_line ps) old two three 0 next (omega arith) two_parts (omega arith) third
