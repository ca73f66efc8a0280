-- Digits and their values.
use Rattle.std.proofs.Common.{◌≡◌, ℕ, zero, suc, ◌+◌, ◌*◌, ◌/◌, ◌%◌, ◌<◌, ◌≤◌, true, false, not, eqb, List, [], ◌∷◌, ◌++◌, length, get_or, drop, sym, refl, ap, ◌∙◌, arith}
use Rattle.std.proofs.lemmas.List.{drop_more, drop_all, get_or-drop, length-drop}
use Rattle.std.proofs.lemmas.Bool.{cond-false}
use Rattle.std.proofs.lemmas.Bool.Decides.{nat_tests}
use Rattle.analysis.specs.declared.task.Task.{Task}
use Rattle.table_file.specs.declared.place.Place.{Place}
use Rattle.table_file.specs.Digits.{value, is_digit, AllDigits, byte_at, word_at, digit_text, byte_text, word_text}
use Rattle.table_file.specs.Lines.{wrong, first_at, lines_of, longer, text_line}
use Rattle.table_file.specs.Frames.{task_of, place_of}
use Rattle.table_file.specs.FileText.{task_frame, cores_frame, place_frame}

pub value_hex : (n : ℕ) → n < 16 → value (digit_text n) ≡ n
value_hex n h = grind (arith, nat_tests)

pub hex_hex : (n : ℕ) → n < 16 → is_digit (digit_text n) ≡ true
hex_hex n h = grind (arith, nat_tests)

pub hex_value : (b : ℕ) → is_digit b ≡ true → digit_text (value b) ≡ b
hex_value b h = grind (arith, nat_tests)

pub value_below : (b : ℕ) → is_digit b ≡ true → value b < 16
value_below b h = grind (arith, nat_tests)

pub hex_no_feed : (b : ℕ) → is_digit b ≡ true → eqb b 10 ≡ false
hex_no_feed b h = grind (arith, nat_tests)

pub tail_hex : (x : ℕ) (xs : List ℕ) → AllDigits (x ∷ xs) → AllDigits xs
tail_hex x xs h i l = h (suc i) (omega arith)

pub cons_hex : (x : ℕ) (xs : List ℕ) → is_digit x ≡ true → AllDigits xs → AllDigits (x ∷ xs)
cons_hex x xs e h zero l = e
cons_hex x xs e h (suc i) l = h i (omega arith)

pub byte_hex : (b : ℕ) (xs : List ℕ) → b < 256 → AllDigits xs → AllDigits (byte_text b ++ xs)
byte_hex b xs l h = cons_hex (digit_text (b / 16)) (digit_text (b % 16) ∷ xs) (hex_hex (b / 16) (omega arith)) (cons_hex (digit_text (b % 16)) xs (hex_hex (b % 16) (omega arith)) h)

pub word_hex : (w : ℕ) (xs : List ℕ) → w < 65536 → AllDigits xs → AllDigits (word_text w ++ xs)
word_hex w xs l h = byte_hex (w / 256) (byte_text (w % 256) ++ xs) (omega arith) (byte_hex (w % 256) xs (omega arith) h)

pub no_hex : AllDigits []
no_hex i l = absurd (omega arith)

-- a line of digits, closed
pub lines_join : (xs ys : List ℕ) → AllDigits xs → lines_of (xs ++ 10 ∷ ys) ≡ text_line (xs) (true) ∷ lines_of ys
lines_join [] ys h = refl
lines_join (x ∷ xs) ys h = cond-false _ _ _ (hex_no_feed x (h 0 (omega arith))) ∙ ap (longer x) (lines_join xs ys (tail_hex x xs h))

pub all_right : (xs : List ℕ) → AllDigits xs → first_at wrong xs ≡ length xs
all_right [] h = refl
all_right (x ∷ xs) h = cond-false _ _ _ (ap not (h 0 (omega arith))) ∙ ap suc (all_right xs (tail_hex x xs h))

pub byte_back : (b : ℕ) → b < 256 → 16 * value (digit_text (b / 16)) + value (digit_text (b % 16)) ≡ b
byte_back b h = let p = value_hex (b / 16) (omega arith) in let q = value_hex (b % 16) (omega arith) in omega arith

pub word_back : (w : ℕ) → w < 65536 → 256 * (16 * value (digit_text (w / 256 / 16)) + value (digit_text (w / 256 % 16))) + (16 * value (digit_text (w % 256 / 16)) + value (digit_text (w % 256 % 16))) ≡ w
word_back w h = let p = byte_back (w / 256) (omega arith) in let q = byte_back (w % 256) (omega arith) in omega arith

pub task_back : (t : Task) → t.cost < 65536 → t.deadline < 65536 → t.period < 65536 → task_of (drop 2 (task_frame t)) ≡ t
task_back t a b c = λ i. record { cost = word_back t.cost a i; deadline = word_back t.deadline b i; period = word_back t.period c i }

-- two digits are the text of their byte
pub byte_front : (a b : ℕ) → is_digit a ≡ true → is_digit b ≡ true → byte_text (16 * value a + value b) ≡ a ∷ b ∷ []
byte_front a b ha hb =
    let la = value_below a ha in
    let lb = value_below b hb in
    let p : (16 * value a + value b) / 16 ≡ value a = omega arith in
    let q : (16 * value a + value b) % 16 ≡ value b = omega arith in
    λ i. (ap digit_text p ∙ hex_value a ha) i ∷ (ap digit_text q ∙ hex_value b hb) i ∷ []

pub byte_below : (a b : ℕ) → is_digit a ≡ true → is_digit b ≡ true → 16 * value a + value b < 256
byte_below a b ha hb = let la = value_below a ha in let lb = value_below b hb in omega arith

word_parts : (p q : ℕ) → p < 256 → q < 256 → word_text (256 * p + q) ≡ byte_text p ++ byte_text q
word_parts p q hp hq =
    let e : (256 * p + q) / 256 ≡ p = omega arith in
    let f : (256 * p + q) % 256 ≡ q = omega arith in
    λ i. byte_text (e i) ++ byte_text (f i)

pub word_front : (ds : List ℕ) (i : ℕ) → AllDigits ds → i + 4 ≤ length ds → word_text (word_at ds i) ≡ get_or ds i 0 ∷ get_or ds (i + 1) 0 ∷ get_or ds (i + 2) 0 ∷ get_or ds (i + 2 + 1) 0 ∷ []
word_front ds i h l =
    let h0 = h i (omega arith) in
    let h1 = h (i + 1) (omega arith) in
    let h2 = h (i + 2) (omega arith) in
    let h3 = h (i + 2 + 1) (omega arith) in
    word_parts (byte_at ds i) (byte_at ds (i + 2)) (byte_below _ _ h0 h1) (byte_below _ _ h2 h3)
    ∙ (λ j. byte_front (get_or ds i 0) (get_or ds (i + 1) 0) h0 h1 j ++ byte_front (get_or ds (i + 2) 0) (get_or ds (i + 2 + 1) 0) h2 h3 j)

-- a list of digits by the texts of its words
word_cut : (ds : List ℕ) (i : ℕ) → AllDigits ds → i + 4 ≤ length ds → drop i ds ≡ word_text (word_at ds i) ++ drop (i + 4) ds
word_cut ds i h l =
    drop_more ds i 0 (omega arith)
    ∙ ap (λ r. get_or ds i 0 ∷ r) (drop_more ds (i + 1) 0 (omega arith)
    ∙ ap (λ r. get_or ds (i + 1) 0 ∷ r) (ap (λ k. drop k ds) (omega arith) ∙ drop_more ds (i + 2) 0 (omega arith)
    ∙ ap (λ r. get_or ds (i + 2) 0 ∷ r) (drop_more ds (i + 2 + 1) 0 (omega arith)
    ∙ ap (λ k. get_or ds (i + 2 + 1) 0 ∷ drop k ds) (omega arith))))
    ∙ sym (ap (λ w. w ++ drop (i + 4) ds) (word_front ds i h l))

byte_cut : (ds : List ℕ) → AllDigits ds → 2 ≤ length ds → ds ≡ byte_text (byte_at ds 0) ++ drop 2 ds
byte_cut ds h l =
    drop_more ds 0 0 (omega arith)
    ∙ ap (λ r. get_or ds 0 0 ∷ r) (drop_more ds 1 0 (omega arith))
    ∙ sym (ap (λ w. w ++ drop 2 ds) (byte_front (get_or ds 0 0) (get_or ds 1 0) (h 0 (omega arith)) (h 1 (omega arith))))

drop_hex : (n : ℕ) (ds : List ℕ) → AllDigits ds → AllDigits (drop n ds)
drop_hex n ds h i l = ap is_digit (get_or-drop n ds i 0) ∙ h (n + i) (omega (arith, length-drop n ds))

pub task_text : (ds : List ℕ) → AllDigits ds → byte_at ds 0 ≡ 2 → length (drop 2 ds) ≡ 12 → ds ≡ task_frame (task_of (drop 2 ds))
task_text ds h kind len =
    let fs : List ℕ = drop 2 ds in
    let hf : AllDigits fs = drop_hex 2 ds h in
    byte_cut ds h (omega (arith, length-drop 2 ds))
    ∙ (λ i. byte_text (kind i) ++ (word_cut fs 0 hf (omega arith)
    ∙ ap (λ r. word_text (word_at fs 0) ++ r) (word_cut fs 4 hf (omega arith)
    ∙ ap (λ r. word_text (word_at fs 4) ++ r) (word_cut fs 8 hf (omega arith)
    ∙ ap (λ r. word_text (word_at fs 8) ++ r) (drop_all 12 fs (omega arith))))) i)

pub cores_text : (ds : List ℕ) → AllDigits ds → byte_at ds 0 ≡ 1 → length (drop 2 ds) ≡ 2 → ds ≡ cores_frame (byte_at (drop 2 ds) 0)
cores_text ds h kind len =
    let fs : List ℕ = drop 2 ds in
    byte_cut ds h (omega (arith, length-drop 2 ds))
    ∙ (λ i. byte_text (kind i) ++ (byte_cut fs (drop_hex 2 ds h) (omega arith) ∙ ap (λ r. byte_text (byte_at fs 0) ++ r) (drop_all 2 fs (omega arith))) i)

pub place_text : (ds : List ℕ) → AllDigits ds → byte_at ds 0 ≡ 3 → length (drop 2 ds) ≡ 6 → ds ≡ place_frame (place_of (drop 2 ds))
place_text ds h kind len =
    let fs : List ℕ = drop 2 ds in
    let hf : AllDigits fs = drop_hex 2 ds h in
    byte_cut ds h (omega (arith, length-drop 2 ds))
    ∙ (λ i. byte_text (kind i) ++ (byte_cut fs hf (omega arith)
    ∙ ap (λ r. byte_text (byte_at fs 0) ++ r) (word_cut fs 2 hf (omega arith)
    ∙ ap (λ r. word_text (word_at fs 2) ++ r) (drop_all 6 fs (omega arith)))) i)

pub place_back : (p : Place) → p.task < 256 → p.length < 65536 → place_of (drop 2 (place_frame p)) ≡ p
place_back p a b = λ i. record { task = byte_back p.task a i; length = word_back p.length b i }
