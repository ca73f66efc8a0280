-- A file that is read is the text of what is read, and that is valid.
use Rattle.std.proofs.Common.{◌≡◌, ℕ, zero, suc, ◌+◌, ◌<◌, ◌≤◌, cond, ◌&&◌, ◌||◌, eqb, ltb, leb, List, [], ◌∷◌, ◌++◌, length, drop, Ok, Err, sym, refl, ap, ◌∙◌, subst, arith}
use Rattle.std.specs.List.{flat_map}
use Rattle.std.proofs.lemmas.List.{append-nil, append_assoc, length_push}
use Rattle.std.proofs.lemmas.Bool.{eqb-false, and_parts, or_parts, ltb-false, leb-true, leb-false}
use Rattle.analysis.specs.declared.task.Task.{Task}
use Rattle.analysis.specs.Rivals.{TasksWithinLimits, among}
use Rattle.planner.specs.Calls.{task_numbered}
use Rattle.planner.proofs.OnRows.{within_push}
use Rattle.table_file.specs.declared.place.Place.{Place}
use Rattle.table_file.specs.declared.reader.Phase.{Phase}
use Rattle.table_file.specs.declared.reader.Phase.TheVariants.{Tasks, Places}
use Rattle.table_file.specs.Digits.{byte_at}
use Rattle.table_file.specs.Lines.{TextLine, lines_of}
use Rattle.table_file.specs.Frames.{Form, task_of, place_of}
use Rattle.table_file.specs.Stored.{Stored, stored, numbers, PlaceFits, EachFits, Valid}
use Rattle.table_file.specs.Progress.{Progress, so_far, begin, step, step_place, check_place, within_limits}
use Rattle.table_file.specs.Reading.{read_line, read_lines, read_file}
use Rattle.table_file.specs.FileText.{task_line, place_line, file_text}
use Rattle.table_file.proofs.OnDigits.{task_text, cores_text, place_text}
use Rattle.table_file.proofs.Placed.{within_yes}
use Rattle.table_file.proofs.Fits.{fits_push}
use Rattle.table_file.proofs.Chains.{bytes_of, line_bytes, lines_bytes, bind_ok, err_ok, refuses, passes, same_ok, Kinds, is_cores, is_task, is_place, read_parts}

-- a place that passes its tests fits
check_fits : (st : Progress) (p : Place) (ln : ℕ) → check_place st p ln ≡ Ok tt → PlaceFits st.tasks st.places p
check_fits st p ln e =
    let a = refuses (eqb p.task 0 || ltb (length st.tasks) p.task) _ _ tt e in
    let b = refuses (among (numbers st.places) p.task) _ _ tt a.1 in
    let d = refuses (eqb p.length 0 || ltb (task_numbered st.tasks p.task).cost p.length) _ _ tt b.1 in
    let x = or_parts _ _ a.0 in
    let y = or_parts _ _ d.0 in
    ((more p.task (eqb-false _ _ x.0), ltb-false _ _ x.1), b.0, more p.length (eqb-false _ _ y.0), ltb-false _ _ y.1)
  where
    more : (n : ℕ) → (n ≡ 0 → ⊥) → 1 ≤ n
    more zero h = absurd (h refl)
    more (suc n) h = omega arith

-- one place more
place_only : (x : Phase) (m : ℕ) (ts : List Task) (ps : List Place) (ds : List ℕ) (ln : ℕ) (next : Progress) → step_place (so_far x m ts ps) ds ln ≡ Ok next
    → (length ps < length ts) × PlaceFits ts ps (place_of ds) × (so_far Places m ts (ps ++ place_of ds ∷ []) ≡ next)
place_only x m ts ps ds ln next e =
    let a = refuses (leb (length ts) (length ps)) _ _ next e in
    let b = bind_ok (check_place (so_far x m ts ps) (place_of ds) ln) _ next a.1 in
    (leb-false _ _ a.0, check_fits (so_far x m ts ps) (place_of ds) ln b.1, same_ok _ _ b.2)

module _ (m : ℕ) (low : 1 ≤ m) (high : m ≤ 16) (ts : List Task) (few : length ts ≤ 32) (within : TasksWithinLimits ts) where
  -- what the lines that are left give, after these places
  abbrev Rest : List Place → List TextLine → Stored → Type 0
  Rest ps lines fin = (qs : List Place) × (stored m ts (ps ++ qs) ≡ fin) × (bytes_of lines ≡ flat_map place_line qs) × Valid fin

  one_place : (x : Phase) (ps : List Place) (ln : ℕ) (next : Progress) (t : TextLine)
      → ((ds : List ℕ) (form : Form) → Kinds ds ln form → step (so_far x m ts ps) form ≡ Ok next → (byte_at ds 0 ≡ 3) × (length (drop 2 ds) ≡ 6) × (step_place (so_far x m ts ps) (drop 2 ds) ln ≡ Ok next))
      → read_line ln (so_far x m ts ps) t ≡ Ok next
      → (q : Place) × (length ps < length ts) × PlaceFits ts ps q × (so_far Places m ts (ps ++ q ∷ []) ≡ next) × (line_bytes t ≡ place_line q)
  one_place x ps ln next t kinds e =
      let r = read_parts ln (so_far x m ts ps) next t e in
      let k = kinds r.0 r.1 r.4 r.5 in
      let p = place_only x m ts ps (drop 2 r.0) ln next k.2 in
      (place_of (drop 2 r.0), p.0, p.1, p.2, r.2 ∙ ap (λ l. l ++ 10 ∷ []) (place_text r.0 r.3 k.0 k.1))

  in_places : (ps : List Place) (ln : ℕ) (next : Progress) (ds : List ℕ) (form : Form) → Kinds ds ln form → step (so_far Places m ts ps) form ≡ Ok next
      → (byte_at ds 0 ≡ 3) × (length (drop 2 ds) ≡ 6) × (step_place (so_far Places m ts ps) (drop 2 ds) ln ≡ Ok next)
  in_places ps ln next ds form k e = elim k [
    | is_cores a b f ↦ absurd (err_ok _ next (ap (step (so_far Places m ts ps)) f ∙ e))
    | is_task a b f ↦ absurd (err_ok _ next (ap (step (so_far Places m ts ps)) f ∙ e))
    | is_place a b f ↦ (a, b, ap (step (so_far Places m ts ps)) f ∙ e)
  ]

  places_only : (lines : List TextLine) (ps : List Place) (ln : ℕ) (fin : Stored) → length ps ≤ length ts → EachFits ts ps
      → read_lines ln (so_far Places m ts ps) lines ≡ Ok fin → Rest ps lines fin
  places_only [] ps ln fin n h e =
      let b = bind_ok (cond (ltb (length ps) (length ts)) (Err _) (Ok tt)) _ fin e in
      let c = refuses (ltb (length ps) (length ts)) _ _ tt b.1 in
      let is : stored m ts ps ≡ fin = same_ok _ _ b.2 in (
        [],
        ap (stored m ts) (append-nil ps) ∙ is,
        refl,
        subst Valid is (record { some = low; most = high; few = few; tasks = within; whole = (λ _. omega (arith, ltb-false _ _ c.0)); each = h }),
      )
  places_only (t ∷ lines) ps ln fin n h e =
      let a = bind_ok (read_line ln (so_far Places m ts ps) t) _ fin e in
      let b = one_place Places ps ln a.0 t (in_places ps ln a.0) a.1 in
      let more : length (ps ++ b.0 ∷ []) ≤ length ts = omega (arith, length_push ps b.0, b.1) in
      let r = places_only lines (ps ++ b.0 ∷ []) (ln + 1) fin more (fits_push ts ps b.0 h b.2) (ap (λ st. read_lines (ln + 1) st lines) b.3 ∙ a.2) in
      (b.0 ∷ r.0, ap (stored m ts) (sym (append_assoc ps (b.0 ∷ []) r.0)) ∙ r.1, (λ i. b.4 i ++ r.2 i), r.3)

no_places_fit : (ts : List Task) → EachFits ts []
no_places_fit ts p l = absurd (omega arith)

-- what the lines that are left give, after these tasks
abbrev Whole : ℕ → List Task → List TextLine → Stored → Type 0
Whole m ts lines fin = (us : List Task) × (qs : List Place) × (stored m (ts ++ us) qs ≡ fin) × (bytes_of lines ≡ flat_map task_line us ++ flat_map place_line qs) × Valid fin

module _ (m : ℕ) (low : 1 ≤ m) (high : m ≤ 16) where
  tasks_only : (lines : List TextLine) (ts : List Task) (ln : ℕ) (fin : Stored) → length ts ≤ 32 → TasksWithinLimits ts
      → read_lines ln (so_far Tasks m ts []) lines ≡ Ok fin → Whole m ts lines fin
  tasks_only [] ts ln fin few within e =
      let is : stored m ts [] ≡ fin = same_ok _ _ e in (
        [],
        [],
        ap (λ l. stored m l []) (append-nil ts) ∙ is,
        refl,
        subst Valid is (record { some = low; most = high; few = few; tasks = within; whole = (λ z. absurd (omega arith)); each = no_places_fit ts }),
      )
  tasks_only (t ∷ lines) ts ln fin few within e =
      let a = bind_ok (read_line ln (so_far Tasks m ts []) t) _ fin e in
      let r = read_parts ln (so_far Tasks m ts []) a.0 t a.1 in
      elim r.4 [
        | is_cores k l f ↦ absurd (err_ok _ a.0 (ap (step (so_far Tasks m ts [])) f ∙ r.5))
        | is_task k l f ↦
            let u : Task = task_of (drop 2 r.0) in
            let s = refuses (leb 32 (length ts)) _ _ a.0 (ap (step (so_far Tasks m ts [])) f ∙ r.5) in
            let p = passes (within_limits u) _ _ a.0 s.1 in
            let more : length (ts ++ u ∷ []) ≤ 32 = omega (arith, length_push ts u, leb-false _ _ s.0) in
            let w = tasks_only lines (ts ++ u ∷ []) (ln + 1) fin more (within_push ts u within (within_yes u p.0)) (ap (λ st. read_lines (ln + 1) st lines) (same_ok _ _ p.1) ∙ a.2) in (
              u ∷ w.0,
              w.1,
              ap (λ l. stored m l w.1) (sym (append_assoc ts (u ∷ []) w.0)) ∙ w.2,
              (λ i. (r.2 ∙ ap (λ l. l ++ 10 ∷ []) (task_text r.0 r.3 k l)) i ++ w.3 i) ∙ sym (append_assoc (task_line u) (flat_map task_line w.0) (flat_map place_line w.1)),
              w.4,
            )
        | is_place k l f ↦
            let p = place_only Tasks m ts [] (drop 2 r.0) ln a.0 (ap (step (so_far Tasks m ts [])) f ∙ r.5) in
            let q : Place = place_of (drop 2 r.0) in
            let w = places_only m low high ts few within lines (q ∷ []) (ln + 1) fin (omega (arith, p.0)) (fits_push ts [] q (no_places_fit ts) p.1) (ap (λ st. read_lines (ln + 1) st lines) p.2 ∙ a.2) in (
              [],
              q ∷ w.0,
              ap (λ l. stored m l (q ∷ w.0)) (append-nil ts) ∙ w.1,
              (λ i. (r.2 ∙ ap (λ l. l ++ 10 ∷ []) (place_text r.0 r.3 k l)) i ++ w.2 i),
              w.3,
            )
      ]

lines_only : (lines : List TextLine) (fin : Stored) → read_lines 1 begin lines ≡ Ok fin → Valid fin × (bytes_of lines ≡ file_text fin)
lines_only [] fin e = absurd (err_ok _ fin e)
lines_only (t ∷ lines) fin e =
    let a = bind_ok (read_line 1 begin t) _ fin e in
    let r = read_parts 1 begin a.0 t a.1 in
    elim r.4 [
      | is_cores k l f ↦
          let m : ℕ = byte_at (drop 2 r.0) 0 in
          let p = passes (leb 1 m && leb m 16) _ _ a.0 (ap (step begin) f ∙ r.5) in
          let h = and_parts _ _ p.0 in
          let w = tasks_only m (leb-true _ _ h.0) (leb-true _ _ h.1) lines [] 2 fin (omega arith) (λ k z. absurd (omega arith)) (ap (λ s. read_lines 2 s lines) (same_ok _ _ p.1) ∙ a.2) in (
            w.4,
            (λ i. (r.2 ∙ ap (λ x. x ++ 10 ∷ []) (cores_text r.0 r.3 k l)) i ++ w.3 i) ∙ ap file_text w.2,
          )
      | is_task k l f ↦ absurd (err_ok _ a.0 (ap (step begin) f ∙ r.5))
      | is_place k l f ↦ absurd (err_ok _ a.0 (ap (step begin) f ∙ r.5))
    ]

pub read_only : (bs : List ℕ) (s : Stored) → read_file bs ≡ Ok s → Valid s × (bs ≡ file_text s)
read_only bs s e =
    let p = refuses (ltb 65535 (length bs)) _ _ s e in
    let w = lines_only (lines_of bs) s p.1 in
    (w.0, sym (lines_bytes bs) ∙ w.1)
