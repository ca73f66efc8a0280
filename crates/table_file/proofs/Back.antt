-- What is written reads back.
use Rattle.std.proofs.Common.{◌≡◌, ℕ, zero, suc, ◌+◌, ◌-◌, ◌*◌, ◌%◌, ◌<◌, ◌≤◌, true, cond, not, ◌&&◌, ◌||◌, eqb, ltb, leb, List, [], ◌∷◌, ◌++◌, length, get_or, drop, Ok, Err, sym, refl, ap, ◌∙◌, arith, length-append}
use Rattle.std.specs.List.{flat_map, AllByRecursion}
use Rattle.std.proofs.ByRecursion.{All-from_get_or}
use Rattle.std.proofs.lemmas.List.{append-nil, append_assoc}
use Rattle.std.proofs.lemmas.Bool.{cond-true, cond-false, le-ltb, ne_eqb, le-leb, lt-leb, and_from, or_from}
use Rattle.std.proofs.lemmas.Bool.Decides.{nat_tests}
use Rattle.analysis.specs.declared.task.Task.{Task}
use Rattle.analysis.specs.Rivals.{TaskWithinLimits, no_task, among}
use Rattle.planner.specs.Calls.{task_numbered}
use Rattle.table_file.specs.declared.fault.Number.TheVariants.{Limits, CoreCount}
use Rattle.table_file.specs.declared.place.Place.{Place}
use Rattle.table_file.specs.declared.reader.Phase.{Phase}
use Rattle.table_file.specs.declared.reader.Phase.TheVariants.{Tasks, Places}
use Rattle.table_file.specs.Numbers.{fault_at}
use Rattle.table_file.specs.Digits.{AllDigits, byte_text, word_text}
use Rattle.table_file.specs.Lines.{text_line, lines_of, check_line, wrong, first_at}
use Rattle.table_file.specs.Frames.{place, form_of, task_of}
use Rattle.table_file.specs.Stored.{Stored, stored, numbers, PlaceFits, Valid}
use Rattle.table_file.specs.Progress.{so_far, begin, bind, step, step_place, check_place, within_limits}
use Rattle.table_file.specs.Reading.{read_line, read_lines, read_file}
use Rattle.table_file.specs.FileText.{cores_frame, task_frame, place_frame, cores_line, task_line, place_line, file_text}
use Rattle.table_file.proofs.OnDigits.{byte_hex, word_hex, no_hex, lines_join, all_right, task_back, place_back, byte_back}
use Rattle.table_file.proofs.Placed.{within_from}
use Rattle.table_file.proofs.Fits.{GoOn, go_on}

-- a line of digits passes the first layer
check_right : (xs : List ℕ) (ln : ℕ) → AllDigits xs → (length xs ≡ 0 → ⊥) → length xs % 2 ≡ 0 → check_line (text_line xs true) ln ≡ Ok xs
check_right xs ln h some even =
    let e = all_right xs h in
    cond-false _ _ _ (le-ltb (first_at wrong xs) (length xs) (omega arith))
    ∙ cond-true _ _ _ (and_from _ _ (ap not (ne_eqb (length xs) 0 some)) (grind (arith, nat_tests)))

one_cores : (m : ℕ) → 1 ≤ m → m ≤ 16 → read_line 1 begin (text_line (cores_frame m) true) ≡ Ok (so_far Tasks m [] [])
one_cores m low high =
    let e = byte_back m (omega arith) in
    ap (λ r. bind r (λ ds. bind (form_of ds 1) (λ form. step begin form))) (check_right (cores_frame m) 1 (byte_hex 1 (byte_text m) (omega arith) (byte_hex m [] (omega arith) no_hex)) (λ z. omega arith) refl)
    ∙ ap (λ k. cond (leb 1 k && leb k 16) (Ok (so_far Tasks k [] [])) (Err (fault_at CoreCount 1 1))) e
    ∙ cond-true _ _ _ (and_from _ _ (le-leb 1 m low) (le-leb m 16 high))

module _ (t : Task) (w : TaskWithinLimits t) where
  task_hex : AllDigits (task_frame t)
  task_hex =
      byte_hex 2 (word_text t.cost ++ (word_text t.deadline ++ word_text t.period)) (omega arith)
      (word_hex t.cost (word_text t.deadline ++ word_text t.period) (omega arith)
      (word_hex t.deadline (word_text t.period) (omega arith)
      (word_hex t.period [] (omega arith) no_hex)))

  one_task : (ln m : ℕ) (ts : List Task) → length ts < 32 → read_line ln (so_far Tasks m ts []) (text_line (task_frame t) true) ≡ Ok (so_far Tasks m (ts ++ t ∷ []) [])
  one_task ln m ts room =
      let e : task_of (drop 2 (task_frame t)) ≡ t = task_back t (omega arith) (omega arith) (omega arith) in
      ap (λ r. bind r (λ ds. bind (form_of ds ln) (λ form. step (so_far Tasks m ts []) form))) (check_right (task_frame t) ln task_hex (λ z. omega arith) refl)
      ∙ cond-false (leb 32 (length ts)) _ _ (lt-leb 32 (length ts) room)
      ∙ ap (λ u. cond (within_limits u) (Ok (so_far Tasks m (ts ++ u ∷ []) [])) (Err (fault_at Limits ln 1))) e
      ∙ cond-true _ _ _ (within_from t w)

tasks_back : (ln m : ℕ) (ts us : List Task) (rest : List ℕ) → length ts + length us ≤ 32 → AllByRecursion TaskWithinLimits us
    → read_lines ln (so_far Tasks m ts []) (lines_of (flat_map task_line us ++ rest)) ≡ read_lines (ln + length us) (so_far Tasks m (ts ++ us) []) (lines_of rest)
tasks_back ln m ts [] rest h s = λ i. read_lines (zero_more i) (so_far Tasks m (sym (append-nil ts) i) []) (lines_of rest)
  where
    zero_more : ln ≡ ln + 0
    zero_more = omega arith
tasks_back ln m ts (u ∷ us) rest h s =
    ap (λ l. read_lines ln (so_far Tasks m ts []) (lines_of l)) (append_assoc (task_line u) (flat_map task_line us) rest)
    ∙ ap (read_lines ln (so_far Tasks m ts [])) (lines_join (task_frame u) (flat_map task_line us ++ rest) (task_hex u s.0))
    ∙ ap (λ r. bind r (λ next. read_lines (ln + 1) next (lines_of (flat_map task_line us ++ rest)))) (one_task u s.0 ln m ts (omega arith))
    ∙ tasks_back (ln + 1) m (ts ++ u ∷ []) us rest (omega (arith, length-append ts (u ∷ []))) s.1
    ∙ (λ i. read_lines (more i) (so_far Tasks m (append_assoc ts (u ∷ []) us i) []) (lines_of rest))
  where
    more : ln + 1 + length us ≡ ln + length (u ∷ us)
    more = omega arith

module _ (ts : List Task) (few : length ts ≤ 32) (all : AllByRecursion TaskWithinLimits ts) where
  module _ (p : Place) (ps : List Place) (f : PlaceFits ts ps p) (small : p.length < 65536) where
    place_hex : AllDigits (place_frame p)
    place_hex =
        byte_hex 3 (byte_text p.task ++ word_text p.length) (omega arith)
        (byte_hex p.task (word_text p.length) (omega arith)
        (word_hex p.length [] small no_hex))

    check_fits : (x : Phase) (m ln : ℕ) → check_place (so_far x m ts ps) p ln ≡ Ok tt
    check_fits x m ln =
        cond-false (eqb p.task 0 || ltb (length ts) p.task) _ _ (or_from _ _ (ne_eqb p.task 0 (λ z. omega arith)) (le-ltb (length ts) p.task f.0.1))
        ∙ cond-false (among (numbers ps) p.task) _ _ f.1
        ∙ cond-false (eqb p.length 0 || ltb (task_numbered ts p.task).cost p.length) _ _ (or_from _ _ (ne_eqb p.length 0 (λ z. omega arith)) (le-ltb (task_numbered ts p.task).cost p.length f.3))

    step_fits : (x : Phase) (m ln : ℕ) → length ps < length ts → step_place (so_far x m ts ps) (drop 2 (place_frame p)) ln ≡ Ok (so_far Places m ts (ps ++ p ∷ []))
    step_fits x m ln room =
        cond-false (leb (length ts) (length ps)) _ _ (lt-leb (length ts) (length ps) room)
        ∙ ap (λ q. bind (check_place (so_far x m ts ps) q ln) (λ _. Ok (so_far Places m ts (ps ++ q ∷ [])))) (place_back p (omega arith) small)
        ∙ ap (λ r. bind r (λ _. Ok (so_far Places m ts (ps ++ p ∷ [])))) (check_fits x m ln)

    one_place : (x : Phase) (m ln : ℕ) → length ps < length ts → step (so_far x m ts ps) (place (drop 2 (place_frame p)) ln) ≡ step_place (so_far x m ts ps) (drop 2 (place_frame p)) ln
        → read_line ln (so_far x m ts ps) (text_line (place_frame p) true) ≡ Ok (so_far Places m ts (ps ++ p ∷ []))
    one_place x m ln room due =
        ap (λ r. bind r (λ ds. bind (form_of ds ln) (λ form. step (so_far x m ts ps) form))) (check_right (place_frame p) ln place_hex (λ z. omega arith) refl)
        ∙ due ∙ step_fits x m ln room

  places_back : (ln m : ℕ) (ps qs : List Place) → length ps + length qs ≡ length ts → GoOn ts ps qs → ((p : Place) → PlaceFits ts [] p → p.length < 65536)
      → read_lines ln (so_far Places m ts ps) (lines_of (flat_map place_line qs)) ≡ Ok (stored m ts (ps ++ qs))
  places_back ln m ps [] n h small =
      ap (λ r. bind r (λ _. Ok (stored m ts ps))) (cond-false (ltb (length ps) (length ts)) _ _ (le-ltb (length ps) (length ts) (omega arith)))
      ∙ ap (λ l. Ok (stored m ts l)) (sym (append-nil ps))
  places_back ln m ps (q ∷ qs) n h small =
      let s : q.length < 65536 = small q (h.0.0, refl, h.0.2, h.0.3) in
      ap (read_lines ln (so_far Places m ts ps)) (lines_join (place_frame q) (flat_map place_line qs) (place_hex q ps h.0 s))
      ∙ ap (λ r. bind r (λ next. read_lines (ln + 1) next (lines_of (flat_map place_line qs)))) (one_place q ps h.0 s Places m ln (omega arith) refl)
      ∙ places_back (ln + 1) m (ps ++ q ∷ []) qs (omega (arith, length-append ps (q ∷ []))) h.1 small
      ∙ ap (λ l. Ok (stored m ts l)) (append_assoc ps (q ∷ []) qs)

  -- the places after the tasks
  all_back : (ln m : ℕ) (qs : List Place) → (0 < length qs → length qs ≡ length ts) → GoOn ts [] qs → ((p : Place) → PlaceFits ts [] p → p.length < 65536)
      → read_lines ln (so_far Tasks m ts []) (lines_of (flat_map place_line qs)) ≡ Ok (stored m ts qs)
  all_back ln m [] n h small = refl
  all_back ln m (q ∷ qs) n h small =
      let s : q.length < 65536 = small q (h.0.0, refl, h.0.2, h.0.3) in
      let k : length (q ∷ qs) ≡ length ts = n (omega arith) in
      ap (read_lines ln (so_far Tasks m ts [])) (lines_join (place_frame q) (flat_map place_line qs) (place_hex q [] h.0 s))
      ∙ ap (λ r. bind r (λ next. read_lines (ln + 1) next (lines_of (flat_map place_line qs)))) (one_place q [] h.0 s Tasks m ln (omega arith) refl)
      ∙ places_back (ln + 1) m (q ∷ []) qs (omega arith) h.1 small

pub tasks_length : (ts : List Task) → length (flat_map task_line ts) ≡ 15 * length ts
tasks_length [] = refl
tasks_length (t ∷ ts) = length-append (task_line t) (flat_map task_line ts) ∙ omega (arith, tasks_length ts)

pub places_length : (ps : List Place) → length (flat_map place_line ps) ≡ 9 * length ps
places_length [] = refl
places_length (p ∷ ps) = length-append (place_line p) (flat_map place_line ps) ∙ omega (arith, places_length ps)

pub text_length : (s : Stored) → length (file_text s) ≡ 5 + 15 * length s.tasks + 9 * length s.places
text_length s =
    length-append (cores_line s.cores) (flat_map task_line s.tasks ++ flat_map place_line s.places)
    ∙ omega (arith, length-append (flat_map task_line s.tasks) (flat_map place_line s.places), tasks_length s.tasks, places_length s.places)

-- a length that fits is a two-byte number
short : (ts : List Task) → ((k : ℕ) → k < length ts → TaskWithinLimits (get_or ts k no_task)) → (p : Place) → PlaceFits ts [] p → p.length < 65536
short ts v p f = let w = v (p.task - 1) (omega arith) in omega (arith, f.3, w.1, w.2, w.3)

some_places : (s : Stored) → Valid s → length s.places ≤ 32
some_places s v = below (length s.places) (length s.tasks) v.whole v.few
  where
    below : (n m : ℕ) → (0 < n → n ≡ m) → m ≤ 32 → n ≤ 32
    below zero m e h = omega arith
    below (suc n) m e h = let k = e (omega arith) in omega arith

pub reads_back : (s : Stored) → Valid s → read_file (file_text s) ≡ Ok s
reads_back s v =
    let n : length (file_text s) ≤ 65535 = omega (arith, text_length s, v.few, some_places s v) in
    let all : AllByRecursion TaskWithinLimits s.tasks = All-from_get_or TaskWithinLimits s.tasks no_task v.tasks in
    let tail : List ℕ = flat_map task_line s.tasks ++ flat_map place_line s.places in
    cond-false _ _ _ (le-ltb 65535 (length (file_text s)) n)
    ∙ ap (read_lines 1 begin) (lines_join (cores_frame s.cores) tail (byte_hex 1 (byte_text s.cores) (omega arith) (byte_hex s.cores [] (omega (arith, v.most)) no_hex)))
    ∙ ap (λ r. bind r (λ next. read_lines 2 next (lines_of tail))) (one_cores s.cores v.some v.most)
    ∙ tasks_back 2 s.cores [] s.tasks (flat_map place_line s.places) (omega (arith, v.few)) all
    ∙ all_back s.tasks v.few all (2 + length s.tasks) s.cores s.places v.whole (go_on s.tasks [] s.places v.each) (short s.tasks v.tasks)
