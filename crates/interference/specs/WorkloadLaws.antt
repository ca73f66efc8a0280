-- How the workload grows.
use Rattle.std.specs.Prelude.{◌≡◌, ℕ, ◌+◌, ◌-◌, ◌*◌, ◌/◌, ◌%◌, ◌<◌, ◌≤◌, min}
use Rattle.std.proofs.Common.{div-add-mod', mod-lt, add-mul, mul-add, arith}
use Rattle.std.proofs.Math.Decide.{dec_lt, dec_le}
use Rattle.std.proofs.lemmas.Nat.{mul-le}
use Rattle.interference.specs.Shares.{workload}

-- a whole periods of t and a rest r come before b periods and a rest s
split_mono : (c t a r b s : ℕ) → r < t → s < t → a * t + r ≤ b * t + s → a * c + min c r ≤ b * c + min c s
split_mono c t a r b s rt st h = elim (dec_lt a b) [
  | yes lt ↦ omega (arith, mul-le (a + 1) c b c (omega arith) (omega arith), add-mul a 1 c)
  | no ge ↦ elim (dec_lt b a) [
    | yes gt ↦ absurd (omega (arith, mul-le (b + 1) t a t (omega arith) (omega arith), add-mul b 1 t))
    | no le ↦ omega (arith, mul-le a c b c (omega arith) (omega arith), mul-le a t b t (omega arith) (omega arith), mul-le b t a t (omega arith) (omega arith))
  ]
]

pub workload_mono : (c t x y : ℕ) → 1 ≤ t → x ≤ y → workload c t x ≤ workload c t y
workload_mono c t x y pos h =
    split_mono c t (x / t) (x % t) (y / t) (y % t) (mod-lt x pos) (mod-lt y pos)
    (omega (arith, div-add-mod' x t, div-add-mod' y t))

-- a capped workload does not fall when the ticks and the cap grow: every share's growth with the window
pub capped_mono : (c t x y k l : ℕ) → 1 ≤ t → x ≤ y → k ≤ l → min (workload c t x) k ≤ min (workload c t y) l
capped_mono c t x y k l pos h g = omega (arith, workload_mono c t x y pos h)

-- whole periods alone, and the whole workload, take no more than the ticks that there are
pub periods_le : (c t x : ℕ) → c ≤ t → x / t * c ≤ x
periods_le c t x h = omega (arith, mul-le (x / t) c (x / t) t (omega arith) h, div-add-mod' x t)

pub workload_le : (c t x : ℕ) → c ≤ t → workload c t x ≤ x
workload_le c t x h = omega (arith, mul-le (x / t) c (x / t) t (omega arith) h, div-add-mod' x t)

-- A cost that is larger by d, counted over d ticks fewer, executes no less than the least of what was executed and x,
-- the ticks that are counted then. (Without x it could execute one less.)
-- a and r are the whole periods and the rest of x + d, b and s those of x.
costlier : (c d t a r x b s : ℕ) → c + d ≤ t → r < t → s < t → a * t + r ≡ x + d → b * t + s ≡ x
    → min (a * c + min c r) x ≤ b * (c + d) + min (c + d) s
costlier c d t a r x b s ct rt st e f = elim (dec_lt (s + d) t) [
  | yes in_period ↦
      let m = split_mono c t a r b (s + d) rt in_period (omega arith) in
      elim (dec_le 1 b) [
        | yes some ↦ omega (arith, m, mul-add b c d, mul-le 1 d b d some (omega arith))
        | no none ↦ omega (arith, m, mul-add b c d, mul-le b t 0 t (omega arith) (omega arith), mul-le b c 0 c (omega arith) (omega arith))
      ]
  | no next_period ↦
      let m = split_mono c t a r (b + 1) (s + d - t) rt (omega arith) (omega (arith, add-mul b 1 t)) in
      elim (dec_le 1 b) [
        | yes some ↦ omega (arith, m, add-mul b 1 c, mul-add b c d, mul-le 1 d b d some (omega arith))
        | no none ↦ omega (arith, m, add-mul b 1 c, mul-add b c d, mul-le b t 0 t (omega arith) (omega arith), mul-le b c 0 c (omega arith) (omega arith))
      ]
]

pub workload_costlier : (c c' t x x' : ℕ) → c ≤ c' → c' ≤ t → 1 ≤ t → x + c ≡ x' + c'
    → min (workload c t x) x' ≤ workload c' t x'
workload_costlier c c' t x x' le ct pos e =
    let h : min (workload c t x) x' ≤ workload (c + (c' - c)) t x' =
    costlier c (c' - c) t (x / t) (x % t) x' (x' / t) (x' % t) (omega arith) (mod-lt x pos) (mod-lt x' pos)
    (omega (arith, div-add-mod' x t)) (div-add-mod' x' t) in
    let same : c + (c' - c) ≡ c' = omega arith in
    rw same at h
