-- The fault of a file is that of its first line that breaks a rule.
use Rattle.std.proofs.Common.{◌≡◌, ℕ, suc, ◌+◌, ltb, ◌⊎◌, List, [], ◌∷◌, ◌++◌, length, Ok, Err, Result, sym, refl, ap, ◌∙◌, subst, inl, inr, ⊎_elim, arith}
use Rattle.std.proofs.lemmas.Bool.{cases_Bool, ltb-true, ltb-false, lt-ltb, le-ltb, cond-true, cond-false}
use Rattle.table_file.specs.declared.fault.Number.TheVariants.{NotDue}
use Rattle.table_file.specs.declared.fault.Fault.{Fault}
use Rattle.table_file.specs.declared.reader.Phase.{Phase}
use Rattle.table_file.specs.declared.reader.Phase.TheVariants.{Start, Tasks, Places}
use Rattle.table_file.specs.Numbers.{fault_at}
use Rattle.table_file.specs.Lines.{TextLine, lines_of}
use Rattle.table_file.specs.Stored.{Stored}
use Rattle.table_file.specs.Progress.{Progress, so_far, begin, bind, finish, carried}
use Rattle.table_file.specs.Reading.{read_line, read_lines, read_file}
use Rattle.table_file.specs.Faults.{Unbroken, next, Broken, ReadOn, Lacking, FirstFault, too_long, in_line, at_end}
use Rattle.table_file.proofs.Chains.{err_ok, same_err, bind_err, refused_by}
use Rattle.table_file.proofs.Breaking.{line_broken, line_unbroken, one_fault}

answers : {X : Type 0} (r : Result X Fault) → ((x : X) × (r ≡ Ok x)) ⊎ ((f : Fault) × (r ≡ Err f))
answers (Ok x) = inl (x, refl)
answers (Err f) = inr (f, refl)

abbrev in_phase : Progress → Phase → Progress
in_phase s p = so_far p s.cores s.tasks s.places

-- what the end comes to
finish_lacks : (s : Progress) (ln : ℕ) → (Lacking s × (finish s ln ≡ Err (fault_at NotDue ln 1))) ⊎ ((Lacking s → ⊥) × (finish s ln ≡ Ok tt))
finish_lacks s ln = go s.phase
  where
    go : (p : Phase) → (Lacking (in_phase s p) × (finish (in_phase s p) ln ≡ Err (fault_at NotDue ln 1))) ⊎ ((Lacking (in_phase s p) → ⊥) × (finish (in_phase s p) ln ≡ Ok tt))
    go Start = inl (inl refl, refl)
    go Tasks = inr ((λ l. ⊎_elim (λ e. let z : ◌≡◌ {A = ℕ} 0 1 = cc in omega arith) (λ h. let e = h.0 in let z : ◌≡◌ {A = ℕ} 0 1 = cc in omega arith) l), refl)
    go Places =
        ⊎_elim
        (λ t. inl (inr (refl, ltb-true _ _ t), cond-true _ _ _ t))
        (λ f. inr ((λ l. ⊎_elim (λ e. let z : ◌≡◌ {A = ℕ} 0 1 = cc in omega arith) (λ h. omega (arith, h.1, ltb-false (length s.places) (length s.tasks) f)) l), cond-false _ _ _ f))
        (cases_Bool (ltb (length s.places) (length s.tasks)))

-- a line that breaks no rule is read, and one that breaks a rule is refused for it
reads : (s : Progress) (t : TextLine) (ln : ℕ) → Unbroken s t → read_line ln s t ≡ Ok (next s t)
reads s t ln u =
    ⊎_elim
    (λ r. r.1 ∙ ap Ok (line_unbroken s t ln r.0 r.1).1)
    (λ r. absurd (u r.0.number (line_broken s t ln r.0 r.1).rule))
    (answers (read_line ln s t))

fails : (s : Progress) (t : TextLine) (ln : ℕ) (f : Fault) → Broken s t ln f → read_line ln s t ≡ Err f
fails s t ln f b =
    ⊎_elim
    (λ r. absurd ((line_unbroken s t ln r.0 r.1).0 f.number b.rule))
    (λ r. r.1 ∙ ap Err (one_fault s t ln r.0 f (line_broken s t ln r.0 r.1) b))
    (answers (read_line ln s t))

-- where lines are refused
abbrev Found : ℕ → Progress → List TextLine → Fault → Type 0
Found ln s lines f =
    ((before : List TextLine) × (t : TextLine) × (after : List TextLine) × (lines ≡ before ++ t ∷ after) × ((e : Progress) × ReadOn s before e × Broken e t (ln + length before) f))
    ⊎ ((e : Progress) × ReadOn s lines e × Lacking e × (f ≡ fault_at NotDue (ln + length lines) 1))

find : (lines : List TextLine) (ln : ℕ) (s : Progress) (f : Fault) → read_lines ln s lines ≡ Err f → Found ln s lines f
find [] ln s f e =
    ⊎_elim
    (λ a. inr (s, refl, a.0, sym (same_err _ f (sym (ap (λ r. bind r (λ _. Ok (carried s))) a.1) ∙ e)) ∙ ap (λ n. fault_at NotDue n 1) zero_more))
    (λ a. absurd (err_ok f (carried s) (sym e ∙ ap (λ r. bind r (λ _. Ok (carried s))) a.1)))
    (finish_lacks s ln)
  where
    zero_more : ln ≡ ln + 0
    zero_more = omega arith
find (t ∷ lines) ln s f e =
    ⊎_elim
    (λ a. inl ([], t, lines, refl, (s, refl, subst (λ n. Broken s t n f) zero_more (line_broken s t ln f a))))
    (λ a.
    let h = line_unbroken s t ln a.0 a.1 in
    ⊎_elim
    (λ r. inl (t ∷ r.0, r.1, r.2, ap (λ l. t ∷ l) r.3, (r.4.0, (h.0, r.4.1), subst (λ n. Broken r.4.0 r.1 n f) (one_more (length r.0)) r.4.2)))
    (λ r. inr (r.0, (h.0, r.1), r.2, r.3 ∙ ap (λ n. fault_at NotDue n 1) (one_more (length lines))))
    (find lines (ln + 1) (next s t) f (ap (λ x. read_lines (ln + 1) x lines) (sym h.1) ∙ a.2)))
    (bind_err (read_line ln s t) _ f e)
  where
    zero_more : ln ≡ ln + 0
    zero_more = omega arith

    one_more : (n : ℕ) → ln + 1 + n ≡ ln + suc n
    one_more n = omega arith

-- the other way round
fails_in : (before : List TextLine) (t : TextLine) (after : List TextLine) (ln : ℕ) (s e : Progress) (f : Fault) → ReadOn s before e → Broken e t (ln + length before) f → read_lines ln s (before ++ t ∷ after) ≡ Err f
fails_in [] t after ln s e f r b =
    let n : ln + 0 ≡ ln = omega arith in
    ap (λ x. bind x (λ next. read_lines (ln + 1) next after)) (fails s t ln f (subst (λ (x : Progress). Broken x t ln f) (sym r) (subst (λ m. Broken e t m f) n b)))
fails_in (u ∷ before) t after ln s e f r b =
    let n : ln + suc (length before) ≡ ln + 1 + length before = omega arith in
    ap (λ x. bind x (λ next. read_lines (ln + 1) next (before ++ t ∷ after))) (reads s u ln r.0)
    ∙ fails_in before t after (ln + 1) (next s u) e f r.1 (subst (λ m. Broken e t m f) n b)

fails_late : (lines : List TextLine) (ln : ℕ) (s e : Progress) → ReadOn s lines e → Lacking e → read_lines ln s lines ≡ Err (fault_at NotDue (ln + length lines) 1)
fails_late [] ln s e r l =
    let n : ln ≡ ln + 0 = omega arith in
    ⊎_elim
    (λ a. ap (λ x. bind x (λ _. Ok (carried s))) a.1 ∙ ap (λ m. Err (fault_at NotDue m 1)) n)
    (λ a. absurd (a.0 (subst Lacking (sym r) l)))
    (finish_lacks s ln)
fails_late (t ∷ lines) ln s e r l =
    let n : ln + 1 + length lines ≡ ln + suc (length lines) = omega arith in
    ap (λ x. bind x (λ next. read_lines (ln + 1) next lines)) (reads s t ln r.0)
    ∙ fails_late lines (ln + 1) (next s t) e r.1 l
    ∙ ap (λ m. Err (fault_at NotDue m 1)) n

pub refused_first : (bs : List ℕ) (f : Fault) → read_file bs ≡ Err f → FirstFault bs f
refused_first bs f e =
    ⊎_elim
    (λ a. too_long (ltb-true _ _ a.0) (sym a.1))
    (λ a.
    let short = ltb-false 65535 (length bs) a.0 in
    ⊎_elim
    (λ r.
    let n : 1 + length r.0 ≡ length r.0 + 1 = omega arith in
    in_line short r.0 r.1 r.2 r.3 r.4.0 r.4.1 (subst (λ m. Broken r.4.0 r.1 m f) n r.4.2))
    (λ r.
    let n : 1 + length (lines_of bs) ≡ length (lines_of bs) + 1 = omega arith in
    at_end short r.0 r.1 r.2 (r.3 ∙ ap (λ m. fault_at NotDue m 1) n))
    (find (lines_of bs) 1 begin f a.1))
    (refused_by (ltb 65535 (length bs)) _ f _ e)

pub first_refused : (bs : List ℕ) (f : Fault) → FirstFault bs f → read_file bs ≡ Err f
first_refused bs f (too_long l e) = cond-true _ _ _ (lt-ltb 65535 (length bs) l) ∙ ap Err (sym e)
first_refused bs f (in_line short before t after is s r b) =
    let n : length before + 1 ≡ 1 + length before = omega arith in
    cond-false _ _ _ (le-ltb 65535 (length bs) short)
    ∙ ap (read_lines 1 begin) is
    ∙ fails_in before t after 1 begin s f r (subst (λ m. Broken s t m f) n b)
first_refused bs f (at_end short s r l e) =
    let n : 1 + length (lines_of bs) ≡ length (lines_of bs) + 1 = omega arith in
    cond-false _ _ _ (le-ltb 65535 (length bs) short)
    ∙ fails_late (lines_of bs) 1 begin s r l
    ∙ ap (λ m. Err (fault_at NotDue m 1)) n ∙ ap Err (sym e)

-- there is no other
pub one_first : (bs : List ℕ) (f : Fault) → read_file bs ≡ Err f → (g : Fault) → FirstFault bs g → g ≡ f
one_first bs f e g h = same_err g f (sym (first_refused bs g h) ∙ e)

pub none_first : (bs : List ℕ) (x : Stored) → read_file bs ≡ Ok x → (g : Fault) → FirstFault bs g → ⊥
none_first bs x e g h = err_ok g x (sym (first_refused bs g h) ∙ e)
