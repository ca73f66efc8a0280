-- The laws of the full sum.
use Rattle.std.specs.Prelude.{ℕ, ◌*◌, ◌<◌, ◌≤◌, List, length, sum_by, slice_set}
use Rattle.std.proofs.Common.{arith, length-set, get_or-set_same}
use Rattle.std.proofs.lemmas.Nat.{mul-le}
use Rattle.std.specs.List.{AllByRecursion}
use Rattle.std.proofs.lemmas.List.Sums.{sum_by-set}
use Rattle.std.proofs.ByRecursion.{sum_by_le, All-from_get_or, All-weaker}
use Rattle.interference.specs.declared.rival.Rival.{Rival}
use Rattle.interference.specs.Questions.{Query, RivalWithinLimits, RivalsWithinLimits, Valid, nobody, rival_at, with_window, with_finish, with_cost, lower_costing, moved}
use Rattle.interference.specs.Shares.{carry_in_share, share_cap}
use Rattle.interference.specs.Sums.{full_sum}
use Rattle.interference.specs.Laws.{Lawful, Steady}
use Rattle.interference.specs.ListLaws.{sum_by_mono}
use Rattle.interference.specs.ShareLaws.{carry_window, carry_finish, carry_cost, carry_moved}

pub within : (rs : List Rival) → RivalsWithinLimits rs → AllByRecursion RivalWithinLimits rs
within rs h = All-from_get_or RivalWithinLimits rs nobody h

-- one list under two questions
pub carries_mono : (q q' : Query) → ((r : Rival) → RivalWithinLimits r → carry_in_share q r ≤ carry_in_share q' r)
    → (rs : List Rival) → RivalsWithinLimits rs → sum_by (carry_in_share q) rs ≤ sum_by (carry_in_share q') rs
carries_mono q q' le rs v = sum_by_mono RivalWithinLimits (carry_in_share q) (carry_in_share q') le rs (within rs v)

-- one question, and a list with one rival changed
carries_set : (q : Query) (rs : List Rival) (i : ℕ) (s : Rival) → i < length rs → carry_in_share q (rival_at rs i) ≤ carry_in_share q s
    → sum_by (carry_in_share q) rs ≤ sum_by (carry_in_share q) (slice_set rs i s)
carries_set q rs i s h le = omega (arith, sum_by-set (carry_in_share q) rs i s nobody h)

pub finish_set : (q : Query) (rs : List Rival) (i j : ℕ) → RivalsWithinLimits rs → i < length rs → (rival_at rs i).finish ≤ j
    → sum_by (carry_in_share q) rs ≤ sum_by (carry_in_share q) (slice_set rs i (with_finish (rival_at rs i) j))
finish_set q rs i j v lt h = carries_set q rs i (with_finish (rival_at rs i) j) lt (carry_finish q (rival_at rs i) j (v i lt) h)

-- the rival that was changed is within the limits if all are
pub changed : (rs : List Rival) (i : ℕ) (s : Rival) → i < length rs → RivalsWithinLimits (slice_set rs i s) → RivalWithinLimits s
changed rs i s lt v =
    let lt' : i < length (slice_set rs i s) = simp length-set lt in
    rw get_or-set_same at (v i lt')

pub lower_cost_set : (q : Query) (i c : ℕ) → Valid q → Valid (lower_costing q i c) → i < length q.lower → (rival_at q.lower i).cost ≤ c
    → sum_by (carry_in_share q) q.lower ≤ sum_by (carry_in_share q) (lower_costing q i c).lower
lower_cost_set q i c v w lt h =
    let r = rival_at q.lower i in
    carries_set q q.lower i (with_cost r c) lt (carry_cost q r c v.times (v.lowers i lt) (changed q.lower i (with_cost r c) lt w.lowers) h)

pub carries_bounded : (q : Query) (rs : List Rival) → RivalsWithinLimits rs → sum_by (carry_in_share q) rs ≤ length rs * share_cap q
carries_bounded q rs h =
    sum_by_le (carry_in_share q) (share_cap q) rs (All-weaker RivalWithinLimits (λ r. carry_in_share q r ≤ share_cap q) (λ r f. omega arith) rs (within rs h))

full_bounded : (q : Query) → Valid q → full_sum q ≤ 2031585
full_bounded q v =
    omega (
      arith,
      carries_bounded q q.upper v.uppers,
      carries_bounded q q.lower v.lowers,
      mul-le (length q.upper) (share_cap q) (length q.upper) 65535 (omega arith) (omega arith),
      mul-le (length q.lower) (share_cap q) (length q.lower) 65535 (omega arith) (omega arith),
    )

pub full_lawful : Lawful full_sum
full_lawful = record {
  limited = λ q v. omega (arith, full_bounded q v);
  window_grows = λ q l v w h.
      omega (arith, carries_mono q (with_window q l) (carry_window q l h) q.upper v.uppers, carries_mono q (with_window q l) (carry_window q l h) q.lower v.lowers);
  upper_finish_grows = λ q i j v w lt h. omega (arith, finish_set q q.upper i j v.uppers lt h);
  lower_finish_grows = λ q i j v w lt h. omega (arith, finish_set q q.lower i j v.lowers lt h);
  lower_cost_grows = λ q i c v w lt h. omega (arith, lower_cost_set q i c v w lt h);
}

pub full_steady : Steady full_sum
full_steady q z v w =
    omega (arith, carries_mono (moved q z) q (carry_moved q z w.times) q.upper v.uppers, carries_mono (moved q z) q (carry_moved q z w.times) q.lower v.lowers)
