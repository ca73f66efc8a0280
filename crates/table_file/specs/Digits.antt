-- Upper-case hexadecimal digits as bytes of text: what they are worth, and how a number is written with them.
use Rattle.std.specs.Prelude.{◌≡◌, ℕ, ◌+◌, ◌-◌, ◌*◌, ◌/◌, ◌%◌, ◌<◌, Bool, true, false, cond, ◌&&◌, List, [], ◌∷◌, ◌++◌, length, nat_le, nat_lt, slice_index}

-- 0 to 9 or A to F
abbrev pub is_digit : ℕ → Bool
is_digit b = cond (nat_le 48 b) (cond (nat_le b 57) true (nat_le 65 b && nat_le b 70)) false

abbrev pub value : ℕ → ℕ
value b = cond (nat_le b 57) (b - 48) (b - 55)

abbrev pub AllDigits : List ℕ → Type 0
AllDigits ds = (i : ℕ) → i < length ds → is_digit (slice_index ds i) ≡ true

-- the byte in the two digits from the index i on, and the two-byte number in four; most significant first
abbrev pub byte_at : List ℕ → ℕ → ℕ
byte_at ds i = 16 * value (slice_index ds i) + value (slice_index ds (i + 1))

abbrev pub word_at : List ℕ → ℕ → ℕ
word_at ds i = 256 * byte_at ds i + byte_at ds (i + 2)

abbrev pub digit_text : ℕ → ℕ
digit_text n = cond (nat_lt n 10) (48 + n) (55 + n)

abbrev pub byte_text : ℕ → List ℕ
byte_text b = digit_text (b / 16) ∷ digit_text (b % 16) ∷ []

abbrev pub word_text : ℕ → List ℕ
word_text w = byte_text (w / 256) ++ byte_text (w % 256)
