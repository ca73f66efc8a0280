-- Which rule a line that is refused breaks first, and that a line which is read breaks none.
use Rattle.std.proofs.Common.{◌≡◌, ℕ, ◌+◌, ◌-◌, ◌%◌, ◌<◌, Bool, true, false, cond, not, ◌&&◌, ◌||◌, eqb, ltb, leb, ◌⊎◌, List, length, get_or, Ok, Err, sym, refl, ap, ◌∙◌, subst, inl, inr, ⊎_elim, arith, lit<}
use Rattle.std.proofs.lemmas.Bool.{cases_Bool, cases_lt, cases_eq, both_ways, not-true, not-false, eqb-true, eqb-false, eq-eqb, ne_eqb, ltb-true, ltb-false, leb-true, leb-false, and_parts, and_cases, cond-true, cond-false}
use Rattle.analysis.specs.Rivals.{TaskWithinLimits, among}
use Rattle.planner.specs.Calls.{task_numbered}
use Rattle.table_file.specs.declared.fault.Number.{Number}
use Rattle.table_file.specs.declared.fault.Number.TheVariants.{CoreCount, TableFull, Limits, NoSuchTask, NamedAgain, Length, Digit, Line, Kind, Size, NotDue, TooLong}
use Rattle.table_file.specs.declared.fault.Fault.{Fault}
use Rattle.table_file.specs.declared.reader.Phase.TheVariants.{Start, Tasks}
use Rattle.table_file.specs.Numbers.{fault_at, layer_number, layer_of}
use Rattle.table_file.specs.Digits.{is_digit, AllDigits}
use Rattle.table_file.specs.Lines.{TextLine, check_line, wrong_at}
use Rattle.table_file.specs.Frames.{Form, cores, task, place, form_of, fields}
use Rattle.table_file.specs.Stored.{numbers}
use Rattle.table_file.specs.Progress.{Progress, bind, step, check_place, within_limits}
use Rattle.table_file.specs.Reading.{read_line}
use Rattle.table_file.specs.Faults.{turn, kind, line_task, line_place, line_cores, Breaks, Unbroken, next, FirstWrong, Broken}
use Rattle.table_file.proofs.Chains.{bind_ok, bind_err, same_err, refused_by, passed_by, err_ok, same_ok, refuses, passes, is_cores, is_task, is_place, form_ok}
use Rattle.table_file.proofs.Scan.{all_hex, first_here}
use Rattle.table_file.proofs.Placed.{within_yes, within_from}
use Rattle.table_file.proofs.Turns.{same_turn, turns}
use Rattle.table_file.proofs.Phases.{cores_step, task_step, place_step}
use Rattle.table_file.proofs.Ranges.{named_place, named_nowhere, beyond, outside, inside}

module _ (s : Progress) (t : TextLine) (ln : ℕ) where
  abbrev B : Number → Type 0
  B = Breaks s t

  -- no rule with a turn before n is broken
  abbrev Upto : ℕ → Type 0
  Upto n = (k : Number) → turn k < n → B k → ⊥

  upto_one : Upto 1
  upto_one k l b = subst (λ m. B m) (same_turn k TooLong (omega arith)) b

  upto_more : (m : Number) → Upto (turn m) → (B m → ⊥) → Upto (turn m + 1)
  upto_more m u n k l b =
      ⊎_elim
      (λ less. u k less b)
      (λ more. n (subst (λ x. B x) (same_turn k m (omega arith)) b))
      (cases_lt (turn k) (turn m))

  -- a rule other than that of digits
  at_line : (m : Number) (f : Fault) → fault_at m ln 1 ≡ f → 1 < turn m → B m → Upto (turn m) → Broken s t ln f
  at_line m f e later b u = subst (λ (x : Fault). Broken s t ln x) e
      (record { rule = b; first = u; layer = refl; line = refl; column = (λ d. let h : turn m ≡ 1 = ap turn d in absurd (omega arith)); whole = (λ d. refl) })

  at_digit : (f : Fault) → fault_at Digit ln (wrong_at t.digits + 1) ≡ f → wrong_at t.digits < length t.digits → Broken s t ln f
  at_digit f e l =
      let h = first_here t.digits l in
      let k : wrong_at t.digits + 1 - 1 ≡ wrong_at t.digits = omega arith in
      subst (λ (x : Fault). Broken s t ln x) e
      (record {
        rule = (wrong_at t.digits, l, h.0);
        first = upto_one;
        layer = refl;
        line = refl;
        column = (λ d. (omega arith, omega arith, ap (λ j. is_digit (get_or t.digits j 0)) k ∙ h.0, λ i m. h.1 i (omega arith)));
        whole = (λ d. absurd (d refl));
      })

  -- the line as digits
  no_digit : AllDigits t.digits → B Digit → ⊥
  no_digit all w = both_ways _ w.2 (all w.0 w.1)

  no_line : t.closed ≡ true → (length t.digits ≡ 0 → ⊥) → length t.digits % 2 ≡ 0 → B Line → ⊥
  no_line closed some even w =
      ⊎_elim (λ open'. both_ways _ open' closed) (λ x. ⊎_elim (λ none. some none) (λ odd. omega arith) x) w

  is_line : (t.closed && (not (eqb (length t.digits) 0) && eqb (length t.digits % 2) 0)) ≡ false → B Line
  is_line e =
      ⊎_elim
      (λ open'. inl open')
      (λ x. inr (⊎_elim
      (λ none. inl (eqb-true _ _ (not-false _ none)))
      (λ odd. inr (let n = eqb-false _ _ odd in omega arith))
      (and_cases _ _ x)))
      (and_cases _ _ e)

  digits_err : (f : Fault) → check_line t ln ≡ Err f → Broken s t ln f
  digits_err f e =
      ⊎_elim
      (λ p. at_digit f p.1 (ltb-true _ _ p.0))
      (λ p.
      let u : Upto 2 = upto_more Digit upto_one (no_digit (all_hex t.digits (ltb-false _ _ p.0))) in
      ⊎_elim
      (λ q. at_line Line f q.1 (lit< tt) (is_line q.0) u)
      (λ q. absurd (err_ok f t.digits (sym q.1)))
      (passed_by (t.closed && (not (eqb (length t.digits) 0) && eqb (length t.digits % 2) 0)) _ f (Ok t.digits) p.1))
      (refused_by (ltb (wrong_at t.digits) (length t.digits)) _ f _ e)

  digits_ok : (ds : List ℕ) → check_line t ln ≡ Ok ds → (t.digits ≡ ds) × Upto 3
  digits_ok ds e =
      let p = refuses (ltb (wrong_at t.digits) (length t.digits)) _ _ ds e in
      let q = passes (t.closed && (not (eqb (length t.digits) 0) && eqb (length t.digits % 2) 0)) _ _ ds p.1 in
      let a = and_parts _ _ q.0 in
      let b = and_parts _ _ a.1 in (
        same_ok t.digits ds q.1,
        upto_more Line (upto_more Digit upto_one (no_digit (all_hex t.digits (ltb-false _ _ p.0)))) (no_line a.0 (eqb-false _ _ (not-true _ b.0)) (eqb-true _ _ b.1)),
      )

  -- the line as a frame
  abbrev k : ℕ
  k = kind s t

  abbrev size : ℕ
  size = length (fields t.digits)

  sized_one : k ≡ 1 → size ≡ 2 → Upto 3 → Upto 5
  sized_one e l u = upto_more Size (upto_more Kind u (λ w. w.0 e)) (λ w. ⊎_elim (λ a. a.1 l) (λ x. ⊎_elim (λ a. omega (arith, a.0)) (λ a. omega (arith, a.0)) x) w)

  sized_two : k ≡ 2 → size ≡ 12 → Upto 3 → Upto 5
  sized_two e l u = upto_more Size (upto_more Kind u (λ w. w.1 e)) (λ w. ⊎_elim (λ a. omega (arith, a.0)) (λ x. ⊎_elim (λ a. a.1 l) (λ a. omega (arith, a.0)) x) w)

  sized_three : k ≡ 3 → size ≡ 6 → Upto 3 → Upto 5
  sized_three e l u = upto_more Size (upto_more Kind u (λ w. w.2 e)) (λ w. ⊎_elim (λ a. omega (arith, a.0)) (λ x. ⊎_elim (λ a. omega (arith, a.0)) (λ a. a.1 l) x) w)

  wrong_size : (f : Fault) (n : ℕ) (form : Form) → cond (eqb size n) (Ok form) (Err (fault_at Size ln 1)) ≡ Err f → Upto 4 → ((size ≡ n → ⊥) → B Size) → Broken s t ln f
  wrong_size f n form e u b =
      ⊎_elim
      (λ q. at_line Size f q.1 (lit< tt) (b (eqb-false _ _ q.0)) u)
      (λ q. absurd (err_ok f form (sym q.1)))
      (passed_by (eqb size n) _ f (Ok form) e)

  frame_err : (f : Fault) → form_of t.digits ln ≡ Err f → Upto 3 → Broken s t ln f
  frame_err f e u =
      ⊎_elim
      (λ h1. let e1 = eqb-true _ _ h1 in
      wrong_size f 2 (cores (fields t.digits) ln) (sym (cond-true (eqb k 1) _ _ h1) ∙ e) (upto_more Kind u (λ w. w.0 e1)) (λ n. inl (e1, n)))
      (λ n1. ⊎_elim
      (λ h2. let e2 = eqb-true _ _ h2 in
      wrong_size f 12 (task (fields t.digits) ln) (sym (cond-false (eqb k 1) _ _ n1 ∙ cond-true (eqb k 2) _ _ h2) ∙ e) (upto_more Kind u (λ w. w.1 e2)) (λ n. inr (inl (e2, n))))
      (λ n2. ⊎_elim
      (λ h3. let e3 = eqb-true _ _ h3 in
      wrong_size f 6 (place (fields t.digits) ln) (sym (cond-false (eqb k 1) _ _ n1 ∙ cond-false (eqb k 2) _ _ n2 ∙ cond-true (eqb k 3) _ _ h3) ∙ e) (upto_more Kind u (λ w. w.2 e3)) (λ n. inr (inr (e3, n))))
      (λ n3. at_line Kind f (same_err _ f (sym (cond-false (eqb k 1) _ _ n1 ∙ cond-false (eqb k 2) _ _ n2 ∙ cond-false (eqb k 3) _ _ n3) ∙ e)) (omega arith)
      (eqb-false _ _ n1, eqb-false _ _ n2, eqb-false _ _ n3) u)
      (cases_Bool (eqb k 3)))
      (cases_Bool (eqb k 2)))
      (cases_Bool (eqb k 1))

  -- the core count
  module _ (e1 : k ≡ 1) (u : Upto 5) where
    due_one : s.phase ≡ Start → B NotDue → ⊥
    due_one p w = ⊎_elim (λ a. a.1 p) (λ x. ⊎_elim (λ a. omega (arith, a.0)) (λ a. omega (arith, a.0)) x) w

    cores_err : (f : Fault) → step s (cores (fields t.digits) ln) ≡ Err f → Broken s t ln f
    cores_err f e =
        ⊎_elim
        (λ c. ⊎_elim
        (λ q. at_line CoreCount f q.1 (omega arith)
        (e1, beyond (line_cores s t) q.0) (upto_more NotDue u (due_one c.0)))
        (λ q. absurd (err_ok f _ (sym q.1)))
        (passed_by (leb 1 (line_cores s t) && leb (line_cores s t) 16) _ f _ (sym c.1 ∙ e)))
        (λ c. at_line NotDue f (same_err _ f (sym c.1 ∙ e)) (lit< tt) (inl (e1, c.0)) u)
        (cores_step s (fields t.digits) ln)

    cores_ok : (n : Progress) → step s (cores (fields t.digits) ln) ≡ Ok n → Upto 12 × (n ≡ next s t)
    cores_ok n e =
        ⊎_elim
        (λ c.
        let q = passes (leb 1 (line_cores s t) && leb (line_cores s t) 16) _ _ n (sym c.1 ∙ e) in
        let h = and_parts _ _ q.0 in (
          upto_more Length (upto_more NamedAgain (upto_more NoSuchTask (upto_more Limits (upto_more TableFull
              (upto_more CoreCount (upto_more NotDue u (due_one c.0)) (λ w. w.1 (leb-true _ _ h.0, leb-true _ _ h.1)))
              (λ w. omega (arith, w.0))) (λ w. omega (arith, w.0))) (λ w. omega (arith, w.0))) (λ w. omega (arith, w.0))) (λ w. omega (arith, w.0)),
          sym (same_ok _ n q.1) ∙ sym (cond-true (eqb k 1) _ _ (eq-eqb _ _ e1)),
        ))
        (λ c. absurd (err_ok _ n (sym c.1 ∙ e)))
        (cores_step s (fields t.digits) ln)

  -- a task
  module _ (e2 : k ≡ 2) (u : Upto 5) where
    due_two : s.phase ≡ Tasks → B NotDue → ⊥
    due_two p w = ⊎_elim (λ a. omega (arith, a.0)) (λ x. ⊎_elim (λ a. a.1 p) (λ a. omega (arith, a.0)) x) w

    upto_full : s.phase ≡ Tasks → Upto 7
    upto_full p = upto_more CoreCount (upto_more NotDue u (due_two p)) (λ w. omega (arith, w.0))

    task_err : (f : Fault) → step s (task (fields t.digits) ln) ≡ Err f → Broken s t ln f
    task_err f e =
        ⊎_elim
        (λ c. ⊎_elim
        (λ p. at_line TableFull f p.1 (lit< tt) (e2, leb-true _ _ p.0) (upto_full c.0))
        (λ p. ⊎_elim
        (λ q. at_line Limits f q.1 (omega arith)
        (e2, λ w. both_ways _ q.0 (within_true w)) (upto_more TableFull (upto_full c.0) (λ w. omega (arith, w.1, leb-false _ _ p.0))))
        (λ q. absurd (err_ok f _ (sym q.1)))
        (passed_by (within_limits (line_task s t)) _ f _ p.1))
        (refused_by (leb 32 (length s.tasks)) _ f _ (sym c.1 ∙ e)))
        (λ c. at_line NotDue f (same_err _ f (sym c.1 ∙ e)) (lit< tt) (inr (inl (e2, c.0))) u)
        (task_step s (fields t.digits) ln)
      where
        within_true : TaskWithinLimits (line_task s t) → within_limits (line_task s t) ≡ true
        within_true w = within_from (line_task s t) w

    task_ok : (n : Progress) → step s (task (fields t.digits) ln) ≡ Ok n → Upto 12 × (n ≡ next s t)
    task_ok n e =
        ⊎_elim
        (λ c.
        let p = refuses (leb 32 (length s.tasks)) _ _ n (sym c.1 ∙ e) in
        let q = passes (within_limits (line_task s t)) _ _ n p.1 in (
          upto_more Length (upto_more NamedAgain (upto_more NoSuchTask (upto_more Limits (upto_more TableFull (upto_full c.0)
              (λ w. omega (arith, w.1, leb-false _ _ p.0))) (λ w. w.1 (within_yes _ q.0))) (λ w. omega (arith, w.0))) (λ w. omega (arith, w.0))) (λ w. omega (arith, w.0)),
          sym (same_ok _ n q.1) ∙ sym (cond-false (eqb k 1) _ _ (ne_eqb _ _ (λ z. omega arith)) ∙ cond-true (eqb k 2) _ _ (eq-eqb _ _ e2)),
        ))
        (λ c. absurd (err_ok _ n (sym c.1 ∙ e)))
        (task_step s (fields t.digits) ln)

  -- a place
  module _ (e3 : k ≡ 3) (u : Upto 5) where
    due_three : (s.phase ≡ Start → ⊥) → length s.places < length s.tasks → B NotDue → ⊥
    due_three a b w = ⊎_elim (λ c. omega (arith, c.0)) (λ x. ⊎_elim (λ c. omega (arith, c.0)) (λ c. ⊎_elim a (λ d. omega arith) c.1) x) w

    upto_named : (s.phase ≡ Start → ⊥) → length s.places < length s.tasks → Upto 9
    upto_named a b = upto_more Limits (upto_more TableFull (upto_more CoreCount (upto_more NotDue u (due_three a b)) (λ w. omega (arith, w.0))) (λ w. omega (arith, w.0))) (λ w. omega (arith, w.0))

    abbrev LengthTest : Bool
    LengthTest = eqb (line_place s t).length 0 || ltb (task_numbered s.tasks (line_place s t).task).cost (line_place s t).length

    abbrev TaskTest : Bool
    TaskTest = eqb (line_place s t).task 0 || ltb (length s.tasks) (line_place s t).task

    abbrev cost : ℕ
    cost = (task_numbered s.tasks (line_place s t).task).cost

    check_err : (f : Fault) → (s.phase ≡ Start → ⊥) → length s.places < length s.tasks → check_place s (line_place s t) ln ≡ Err f → Broken s t ln f
    check_err f a b e =
        ⊎_elim
        (λ x. at_line NoSuchTask f x.1 (lit< tt) (e3, outside (line_place s t).task (length s.tasks) x.0) (upto_named a b))
        (λ x.
        let u2 = upto_more NoSuchTask (upto_named a b) (λ w. w.1 (inside (line_place s t).task (length s.tasks) x.0)) in
        ⊎_elim
        (λ y. at_line NamedAgain f y.1 (lit< tt) (e3, named_place s.places (line_place s t).task y.0) u2)
        (λ y.
        let u3 = upto_more NamedAgain u2 (λ w. named_nowhere s.places (line_place s t).task y.0 w.1) in
        ⊎_elim
        (λ z. at_line Length f z.1 (lit< tt) (e3, outside (line_place s t).length cost z.0) u3)
        (λ z. absurd (err_ok f tt (sym z.1)))
        (refused_by LengthTest _ f (Ok tt) y.1))
        (refused_by (among (numbers s.places) (line_place s t).task) _ f _ x.1))
        (refused_by TaskTest _ f _ e)

    place_err : (f : Fault) → step s (place (fields t.digits) ln) ≡ Err f → Broken s t ln f
    place_err f e =
        ⊎_elim
        (λ c. ⊎_elim
        (λ x. at_line NotDue f x.1 (lit< tt) (inr (inr (e3, inr (leb-true _ _ x.0)))) u)
        (λ x. ⊎_elim
        (λ r. check_err f c.0 (leb-false _ _ x.0) r)
        (λ r. absurd (err_ok f _ (sym r.2)))
        (bind_err (check_place s (line_place s t) ln) _ f x.1))
        (refused_by (leb (length s.tasks) (length s.places)) _ f _ (sym c.1 ∙ e)))
        (λ c. at_line NotDue f (same_err _ f (sym c.1 ∙ e)) (lit< tt) (inr (inr (e3, inl c.0))) u)
        (place_step s (fields t.digits) ln)

    place_ok : (n : Progress) → step s (place (fields t.digits) ln) ≡ Ok n → Upto 12 × (n ≡ next s t)
    place_ok n e =
        ⊎_elim
        (λ c.
        let x = refuses (leb (length s.tasks) (length s.places)) _ _ n (sym c.1 ∙ e) in
        let r = bind_ok (check_place s (line_place s t) ln) _ n x.1 in
        let a = refuses TaskTest _ _ tt r.1 in
        let b = refuses (among (numbers s.places) (line_place s t).task) _ _ tt a.1 in
        let d = refuses LengthTest _ _ tt b.1 in (
          upto_more Length (upto_more NamedAgain (upto_more NoSuchTask (upto_named c.0 (leb-false _ _ x.0))
              (λ w. w.1 (inside (line_place s t).task (length s.tasks) a.0))) (λ w. named_nowhere s.places (line_place s t).task b.0 w.1)) (λ w. w.1 (inside (line_place s t).length cost d.0)),
          sym (same_ok _ n r.2) ∙ sym (cond-false (eqb k 1) _ _ (ne_eqb _ _ (λ z. omega arith)) ∙ cond-false (eqb k 2) _ _ (ne_eqb _ _ (λ z. omega arith))),
        ))
        (λ c. absurd (err_ok _ n (sym c.1 ∙ e)))
        (place_step s (fields t.digits) ln)

  -- a whole line
  pub line_broken : (f : Fault) → read_line ln s t ≡ Err f → Broken s t ln f
  line_broken f e =
      ⊎_elim
      (λ d. digits_err f d)
      (λ d.
      let h = digits_ok d.0 d.1 in
      let g : bind (form_of t.digits ln) (λ form. step s form) ≡ Err f = ap (λ ds. bind (form_of ds ln) (λ form. step s form)) h.0 ∙ d.2 in
      ⊎_elim
      (λ m. frame_err f m h.1)
      (λ m. elim (form_ok t.digits ln m.0 m.1) [
        | is_cores x l i ↦ cores_err x (sized_one x l h.1) f (ap (step s) i ∙ m.2)
        | is_task x l i ↦ task_err x (sized_two x l h.1) f (ap (step s) i ∙ m.2)
        | is_place x l i ↦ place_err x (sized_three x l h.1) f (ap (step s) i ∙ m.2)
      ])
      (bind_err (form_of t.digits ln) _ f g))
      (bind_err (check_line t ln) _ f e)

  pub line_unbroken : (n : Progress) → read_line ln s t ≡ Ok n → Unbroken s t × (n ≡ next s t)
  line_unbroken n e =
      let d = bind_ok (check_line t ln) _ n e in
      let h = digits_ok d.0 d.1 in
      let g : bind (form_of t.digits ln) (λ form. step s form) ≡ Ok n = ap (λ ds. bind (form_of ds ln) (λ form. step s form)) h.0 ∙ d.2 in
      let m = bind_ok (form_of t.digits ln) _ n g in
      let r : Upto 12 × (n ≡ next s t) = elim (form_ok t.digits ln m.0 m.1) [
        | is_cores x l i ↦ cores_ok x (sized_one x l h.1) n (ap (step s) i ∙ m.2)
        | is_task x l i ↦ task_ok x (sized_two x l h.1) n (ap (step s) i ∙ m.2)
        | is_place x l i ↦ place_ok x (sized_three x l h.1) n (ap (step s) i ∙ m.2)
      ] in
      ((λ k b. r.0 k (turns k) b), r.1)

-- one fault at most
pub one_fault : (s : Progress) (t : TextLine) (ln : ℕ) (f g : Fault) → Broken s t ln f → Broken s t ln g → f ≡ g
one_fault s t ln f g a b =
    let number : f.number ≡ g.number = same_turn _ _ (turn_is (a.first g.number) (b.first f.number)) in
    let line : f.line ≡ g.line = a.line ∙ sym b.line in
    let layer : f.layer ≡ g.layer = a.layer ∙ ap (λ n. layer_number (layer_of n)) number ∙ sym b.layer in
    let column : f.column ≡ g.column = ⊎_elim
    (λ d. wrong_is (a.column (number ∙ d)) (b.column d))
    (λ d. a.whole (λ e. d (sym number ∙ e)) ∙ sym (b.whole d))
    (cases_digit g.number) in
    (λ i. record { number = number i; layer = layer i; line = line i; column = column i })
  where
    turn_is : (turn g.number < turn f.number → Breaks s t g.number → ⊥) → (turn f.number < turn g.number → Breaks s t f.number → ⊥) → turn f.number ≡ turn g.number
    turn_is p q = ⊎_elim (λ l. absurd (q l a.rule)) (λ m. ⊎_elim (λ l. absurd (p l b.rule)) (λ n. omega arith) (cases_lt (turn g.number) (turn f.number))) (cases_lt (turn f.number) (turn g.number))

    wrong_is : FirstWrong s t f.column → FirstWrong s t g.column → f.column ≡ g.column
    wrong_is x y =
        ⊎_elim
        (λ l. absurd (both_ways _ x.2 (y.3 (f.column - 1) (omega (arith, x.0)))))
        (λ m. ⊎_elim
        (λ l. absurd (both_ways _ y.2 (x.3 (g.column - 1) (omega (arith, y.0)))))
        (λ n. omega arith)
        (cases_lt g.column f.column))
        (cases_lt f.column g.column)

    cases_digit : (n : Number) → (n ≡ Digit) ⊎ (n ≡ Digit → ⊥)
    cases_digit n = ⊎_elim (λ e. inl (same_turn n Digit e)) (λ e. inr (λ d. e (ap turn d))) (cases_eq (turn n) (turn Digit))
