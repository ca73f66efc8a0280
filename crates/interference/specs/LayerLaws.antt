-- A handler layer keeps the laws of the rule below.
use Rattle.std.specs.Prelude.{ℕ, ◌-◌, ◌≤◌}
use Rattle.std.proofs.Common.{arith}
use Rattle.interference.specs.Questions.{Query, with_window, moved}
use Rattle.interference.specs.Shares.{share_cap}
use Rattle.interference.specs.Sums.{layered}
use Rattle.interference.specs.Laws.{Lawful, Steady}
use Rattle.interference.specs.WorkloadLaws.{capped_mono}

module _ (c g : ℕ) (pos : 1 ≤ g) (sum : Query → ℕ) where
  pub layered_lawful : Lawful sum → Lawful (λ q. layered c g q (sum q))
  layered_lawful laws = record {
    limited = λ q v. omega arith;
    window_grows = λ q l v w h.
        omega (arith, laws.window_grows q l v w h, capped_mono c g q.window l (share_cap q) (share_cap (with_window q l)) pos h (omega arith));
    upper_finish_grows = λ q i j v w lt h. omega (arith, laws.upper_finish_grows q i j v w lt h);
    lower_finish_grows = λ q i j v w lt h. omega (arith, laws.lower_finish_grows q i j v w lt h);
    lower_cost_grows = λ q i k v w lt h. omega (arith, laws.lower_cost_grows q i k v w lt h);
  }

  pub layered_steady : Steady sum → Steady (λ q. layered c g q (sum q))
  layered_steady steady q z v w =
      omega (arith, steady q z v w, capped_mono c g (q.window - z) q.window (share_cap (moved q z)) (share_cap q) pos (omega arith) (let t = w.times in omega arith))
