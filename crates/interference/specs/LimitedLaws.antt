-- The laws of the limited sum.
use Rattle.std.specs.Prelude.{◌≡◌, ℕ, ◌+◌, ◌-◌, ◌<◌, ◌≤◌, length, sum_by, slice_set}
use Rattle.std.proofs.Common.{arith}
use Rattle.std.proofs.lemmas.Nat.{mul-le}
use Rattle.interference.specs.Questions.{Query, RivalWithinLimits, Valid, nobody, rival_at, with_window, with_finish, upper_finishing}
use Rattle.interference.specs.Shares.{carry_in_share, plain_share, share_cap}
use Rattle.interference.specs.Sums.{carried, limited_sum}
use Rattle.interference.specs.Laws.{Lawful}
use Rattle.interference.specs.ShareLaws.{carry_window, carry_finish, plain_window, plain_carry}
use Rattle.interference.specs.ListLaws.{each_all, each_set}
use Rattle.interference.specs.FullLaws.{within, carries_mono, carries_bounded, finish_set, lower_cost_set}
use Rattle.interference.specs.Mixed.{mixed, mixed_top, mixed_each, mixed_le}
use Rattle.interference.specs.Greatest.{greatest_top}

-- the upper rivals, at most one fewer than the cores by their carry_in shares
abbrev uppers : Query → ℕ
uppers q = mixed (plain_share q) (carry_in_share q) (q.cores - 1) q.upper

limited_is : (q : Query) → Valid q → limited_sum q ≡ uppers q + sum_by (carry_in_share q) q.lower + (q.region - 1)
limited_is q v =
    omega (
      arith,
      greatest_top (carried q) (q.cores - 1) q.upper,
      mixed_top RivalWithinLimits (plain_share q) (carry_in_share q) (plain_carry q) (q.cores - 1) q.upper (within _ v.uppers),
    )

bounded : (q : Query) → Valid q → limited_sum q ≤ 1000000000
bounded q v =
    omega (
      arith,
      limited_is q v,
      mixed_le (plain_share q) (carry_in_share q) (share_cap q) (λ r. (omega arith, omega arith)) (q.cores - 1) q.upper,
      carries_bounded q q.lower v.lowers,
      mul-le (share_cap q) (length q.upper) 65535 (length q.upper) (omega arith) (omega arith),
      mul-le (length q.lower) (share_cap q) (length q.lower) 65535 (omega arith) (omega arith),
    )

window_grows : (q : Query) (l : ℕ) → Valid q → Valid (with_window q l) → q.window ≤ l → limited_sum q ≤ limited_sum (with_window q l)
window_grows q l v w h =
    let q' = with_window q l in
    omega (
      arith,
      limited_is q v,
      limited_is q' w,
      mixed_each (plain_share q) (plain_share q') (carry_in_share q) (carry_in_share q') (q.cores - 1) q.upper q.upper
          (each_all RivalWithinLimits (λ r s. (plain_share q r ≤ plain_share q' s) × (carry_in_share q r ≤ carry_in_share q' s)) (λ r f. (plain_window q l h r f, carry_window q l h r f)) q.upper (within _ v.uppers)),
      carries_mono q q' (carry_window q l h) q.lower v.lowers,
    )

upper_finish_grows : (q : Query) (i j : ℕ) → Valid q → Valid (upper_finishing q i j) → i < length q.upper
    → (rival_at q.upper i).finish ≤ j → limited_sum q ≤ limited_sum (upper_finishing q i j)
upper_finish_grows q i j v w lt h =
    let r = rival_at q.upper i in
    omega (
      arith,
      limited_is q v,
      limited_is (upper_finishing q i j) w,
      mixed_each (plain_share q) (plain_share q) (carry_in_share q) (carry_in_share q) (q.cores - 1) q.upper (slice_set q.upper i (with_finish r j))
          (each_set RivalWithinLimits (λ s t. (plain_share q s ≤ plain_share q t) × (carry_in_share q s ≤ carry_in_share q t)) (λ s f. (omega arith, omega arith)) q.upper (within _ v.uppers)
          i nobody (with_finish r j) lt (omega arith, carry_finish q r j (v.uppers i lt) h)),
    )

pub limited_lawful : Lawful limited_sum
limited_lawful = record {
  limited = bounded;
  window_grows = window_grows;
  upper_finish_grows = upper_finish_grows;
  lower_finish_grows = λ q i j v w lt h. omega (arith, finish_set q q.lower i j v.lowers lt h);
  lower_cost_grows = λ q i c v w lt h. omega (arith, lower_cost_set q i c v w lt h);
}
