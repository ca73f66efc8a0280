-- How the shares of one rival grow.
use Rattle.std.specs.Prelude.{ℕ, ◌+◌, ◌-◌, ◌≤◌}
use Rattle.std.proofs.Common.{arith}
use Rattle.interference.specs.declared.rival.Rival.{Rival}
use Rattle.interference.specs.Questions.{Query, RivalWithinLimits, TimesWithinLimits, with_window, with_finish, with_cost, moved}
use Rattle.interference.specs.Shares.{carry_in_share, plain_share, share_cap}
use Rattle.interference.specs.WorkloadLaws.{capped_mono, workload_costlier}

pub carry_window : (q : Query) (l : ℕ) → q.window ≤ l → (r : Rival) → RivalWithinLimits r → carry_in_share q r ≤ carry_in_share (with_window q l) r
carry_window q l h r v =
    capped_mono r.cost r.period (q.window + r.finish - r.cost) (l + r.finish - r.cost) (share_cap q) (share_cap (with_window q l)) v.4 (omega arith) (omega arith)

pub plain_window : (q : Query) (l : ℕ) → q.window ≤ l → (r : Rival) → RivalWithinLimits r → plain_share q r ≤ plain_share (with_window q l) r
plain_window q l h r v =
    capped_mono r.cost r.period q.window l (share_cap q) (share_cap (with_window q l)) v.4 h (omega arith)

pub carry_finish : (q : Query) (r : Rival) (j : ℕ) → RivalWithinLimits r → r.finish ≤ j → carry_in_share q r ≤ carry_in_share q (with_finish r j)
carry_finish q r j v h =
    capped_mono r.cost r.period (q.window + r.finish - r.cost) (q.window + j - r.cost) (share_cap q) (share_cap q) v.4 (omega arith) (omega arith)

pub carry_cost : (q : Query) (r : Rival) (c : ℕ) → TimesWithinLimits q → RivalWithinLimits r → RivalWithinLimits (with_cost r c) → r.cost ≤ c
    → carry_in_share q r ≤ carry_in_share q (with_cost r c)
carry_cost q r c t v w h =
    omega (arith, workload_costlier r.cost c r.period (q.window + r.finish - r.cost) (q.window + r.finish - c) h w.2 w.4 (omega arith))

pub plain_carry : (q : Query) (r : Rival) → RivalWithinLimits r → plain_share q r ≤ carry_in_share q r
plain_carry q r v =
    capped_mono r.cost r.period q.window (q.window + r.finish - r.cost) (share_cap q) (share_cap q) v.4 (omega arith) (omega arith)

-- moving ticks into the region keeps the cap, and counts the rival over fewer ticks
pub carry_moved : (q : Query) (z : ℕ) → TimesWithinLimits (moved q z) → (r : Rival) → RivalWithinLimits r → carry_in_share (moved q z) r ≤ carry_in_share q r
carry_moved q z t r v =
    capped_mono r.cost r.period (q.window - z + r.finish - r.cost) (q.window + r.finish - r.cost) (share_cap (moved q z)) (share_cap q) v.4 (omega arith) (omega arith)
