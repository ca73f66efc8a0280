-- Chains of readings, how they end, and which test decided it.
use Rattle.std.proofs.Common.{◌≡◌, ℕ, ◌%◌, Bool, true, false, cond, not, ◌&&◌, eqb, ltb, ◌⊎◌, List, [], ◌∷◌, ◌++◌, length, drop, Ok, Err, Result, sym, refl, ap, ◌∙◌, subst, inl, inr, ⊎_elim, arith}
use Rattle.std.proofs.lemmas.Bool.{cond-true, cond-false, cases_Bool, eqb-true, and_parts, ltb-false}
use Rattle.table_file.specs.declared.fault.Fault.{Fault}
use Rattle.table_file.specs.Digits.{AllDigits, byte_at}
use Rattle.table_file.specs.Lines.{TextLine, text_line, lines_of, longer, check_line, wrong_at}
use Rattle.table_file.specs.Frames.{Form, cores, task, place, form_of}
use Rattle.table_file.specs.Progress.{Progress, bind, step}
use Rattle.table_file.specs.Reading.{read_line}
use Rattle.table_file.proofs.Scan.{all_hex}

-- the bytes of lines
abbrev pub line_bytes : TextLine → List ℕ
line_bytes t = t.digits ++ cond t.closed (10 ∷ []) []

abbrev pub bytes_of : List TextLine → List ℕ
bytes_of [] = []
bytes_of (t ∷ ts) = line_bytes t ++ bytes_of ts

longer_bytes : (b : ℕ) (ts : List TextLine) → bytes_of (longer b ts) ≡ b ∷ bytes_of ts
longer_bytes b [] = refl
longer_bytes b (t ∷ ts) = refl

pub lines_bytes : (bs : List ℕ) → bytes_of (lines_of bs) ≡ bs
lines_bytes [] = refl
lines_bytes (b ∷ bs) =
    ⊎_elim
    (λ e. ap bytes_of (cond-true (eqb b 10) _ (longer b (lines_of bs)) e) ∙ (λ i. sym (eqb-true b 10 e) i ∷ lines_bytes bs i))
    (λ e. ap bytes_of (cond-false (eqb b 10) (text_line [] true ∷ lines_of bs) (longer b (lines_of bs)) e) ∙ longer_bytes b (lines_of bs) ∙ ap (λ l. b ∷ l) (lines_bytes bs))
    (cases_Bool (eqb b 10))

-- where a chain ends well, so did its first step
pub bind_ok : {X Y : Type 0} (r : Result X Fault) (f : X → Result Y Fault) (y : Y) → bind r f ≡ Ok y → (x : X) × (r ≡ Ok x) × (f x ≡ Ok y)
bind_ok (Ok x) f y e = (x, refl, e)
bind_ok (Err d) f y e = let z : ◌≡◌ {A = ℕ} 0 1 = cc in absurd (omega arith)

pub err_ok : {Y : Type 0} (d : Fault) (y : Y) → Err d ≡ Ok y → ⊥
err_ok d y e = let z : ◌≡◌ {A = ℕ} 0 1 = cc in omega arith

-- what a test leaves where the answer is Ok
pub refuses : {Y : Type 0} (b : Bool) (d : Fault) (r : Result Y Fault) (y : Y) → cond b (Err d) r ≡ Ok y → (b ≡ false) × (r ≡ Ok y)
refuses true d r y e = absurd (err_ok d y e)
refuses false d r y e = (refl, e)

pub passes : {Y : Type 0} (b : Bool) (d : Fault) (r : Result Y Fault) (y : Y) → cond b r (Err d) ≡ Ok y → (b ≡ true) × (r ≡ Ok y)
passes true d r y e = (refl, e)
passes false d r y e = absurd (err_ok d y e)

pub same_ok : {Y : Type 0} (x y : Y) → ◌≡◌ {A = Result Y Fault} (Ok x) (Ok y) → x ≡ y
same_ok x y e = cc

pub check_whole : (t : TextLine) (ln : ℕ) (ds : List ℕ) → check_line t ln ≡ Ok ds → (t.digits ≡ ds) × (t.closed ≡ true) × AllDigits ds
check_whole t ln ds e =
    let p = refuses (ltb (wrong_at t.digits) (length t.digits)) _ _ ds e in
    let q = passes (t.closed && (not (eqb (length t.digits) 0) && eqb (length t.digits % 2) 0)) _ _ ds p.1 in
    let d : t.digits ≡ ds = same_ok t.digits ds q.1 in
    (d, (and_parts _ _ q.0).0, subst AllDigits d (all_hex t.digits (ltb-false _ _ p.0)))

-- the frames there are
pub data Kinds (ds : List ℕ) (ln : ℕ) (form : Form) : Type 0 where
  is_cores : byte_at ds 0 ≡ 1 → length (drop 2 ds) ≡ 2 → cores (drop 2 ds) ln ≡ form → Kinds ds ln form
  is_task : byte_at ds 0 ≡ 2 → length (drop 2 ds) ≡ 12 → task (drop 2 ds) ln ≡ form → Kinds ds ln form
  is_place : byte_at ds 0 ≡ 3 → length (drop 2 ds) ≡ 6 → place (drop 2 ds) ln ≡ form → Kinds ds ln form

pub form_ok : (ds : List ℕ) (ln : ℕ) (form : Form) → form_of ds ln ≡ Ok form → Kinds ds ln form
form_ok ds ln form e =
    ⊎_elim
    (λ k. let p = passes (eqb (length (drop 2 ds)) 2) _ _ form (sym (cond-true (eqb (byte_at ds 0) 1) _ _ k) ∙ e) in
    is_cores (eqb-true _ _ k) (eqb-true _ _ p.0) (same_ok _ _ p.1))
    (λ k1. ⊎_elim
    (λ k. let p = passes (eqb (length (drop 2 ds)) 12) _ _ form (sym (cond-false (eqb (byte_at ds 0) 1) _ _ k1 ∙ cond-true (eqb (byte_at ds 0) 2) _ _ k) ∙ e) in
    is_task (eqb-true _ _ k) (eqb-true _ _ p.0) (same_ok _ _ p.1))
    (λ k2.
    let r = passes (eqb (byte_at ds 0) 3) _ _ form (sym (cond-false (eqb (byte_at ds 0) 1) _ _ k1 ∙ cond-false (eqb (byte_at ds 0) 2) _ _ k2) ∙ e) in
    let p = passes (eqb (length (drop 2 ds)) 6) _ _ form r.1 in
    is_place (eqb-true _ _ r.0) (eqb-true _ _ p.0) (same_ok _ _ p.1))
    (cases_Bool (eqb (byte_at ds 0) 2)))
    (cases_Bool (eqb (byte_at ds 0) 1))

closed_bytes : (t : TextLine) (ds : List ℕ) → t.digits ≡ ds → t.closed ≡ true → line_bytes t ≡ ds ++ 10 ∷ []
closed_bytes t ds d c = λ i. d i ++ cond (c i) (10 ∷ []) []

-- the parts of a line that is read
pub read_parts : (ln : ℕ) (st next : Progress) (t : TextLine) → read_line ln st t ≡ Ok next
    → (ds : List ℕ) × (form : Form) × (line_bytes t ≡ ds ++ 10 ∷ []) × AllDigits ds × Kinds ds ln form × (step st form ≡ Ok next)
read_parts ln st next t e =
    let a = bind_ok (check_line t ln) _ next e in
    let b = bind_ok (form_of a.0 ln) _ next a.2 in
    let k = check_whole t ln a.0 a.1 in
    (a.0, b.0, closed_bytes t a.0 k.0 k.1, k.2, form_ok a.0 ln b.0 b.1, b.2)

pub same_err : {Y : Type 0} (d e : Fault) → ◌≡◌ {A = Result Y Fault} (Err d) (Err e) → d ≡ e
same_err d e h = cc

-- a chain that ends in a fault
pub bind_err : {X Y : Type 0} (r : Result X Fault) (f : X → Result Y Fault) (d : Fault) → bind r f ≡ Err d → (r ≡ Err d) ⊎ ((x : X) × (r ≡ Ok x) × (f x ≡ Err d))
bind_err (Ok x) f d e = inr (x, refl, e)
bind_err (Err c) f d e = inl (ap Err (same_err c d e))

pub refused_by : {Y : Type 0} (b : Bool) (c d : Fault) (r : Result Y Fault) → cond b (Err c) r ≡ Err d → ((b ≡ true) × (c ≡ d)) ⊎ ((b ≡ false) × (r ≡ Err d))
refused_by true c d r e = inl (refl, same_err c d e)
refused_by false c d r e = inr (refl, e)

pub passed_by : {Y : Type 0} (b : Bool) (c d : Fault) (r : Result Y Fault) → cond b r (Err c) ≡ Err d → ((b ≡ false) × (c ≡ d)) ⊎ ((b ≡ true) × (r ≡ Err d))
passed_by true c d r e = inr (refl, e)
passed_by false c d r e = inl (refl, same_err c d e)
