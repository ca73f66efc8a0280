-- Calls on tables that are not refused.
use Rattle.std.proofs.Common.{◌≡◌, ℕ, ◌<◌, true, false, [], length, drop, Ok, Err, Result, sym, ◌∙◌, ⊎_elim, arith}
use Rattle.std.proofs.lemmas.List.{nil_from_length}
use Rattle.std.proofs.lemmas.Bool.{cases_lt, false≢true}
use Rattle.std.specs.Result.{is_ok}
use Rattle.planner.specs.declared.refusal.Refusal.{Refusal}
use Rattle.planner.specs.Refusals.{number, Called}
use Rattle.planner.specs.Tables.{Open, opened}
use Rattle.planner.specs.Calls.{StrikeRefuses, StrikeMakes}

pub not_refused : {A M : Type 0} (r : Result A Refusal) (refuses : ℕ → Type 0) (makes : M → Type 0) (before after : M) → Called r refuses makes before after → ((k : ℕ) → refuses k → ⊥) → makes after
not_refused (Ok x) refuses makes before after h n = h
not_refused (Err e) refuses makes before after h n = absurd (n (number e) h.0)

-- the first task is struck, or there is none
module _ {A : Type 0} (before after : Open) where
  pub struck : (r : Result A Refusal) → Called r (StrikeRefuses before 1) (StrikeMakes before 1) before after → true ≡ is_ok r
      → (0 < length before.tasks) × (after ≡ opened before.cores (drop 1 before.tasks))
  struck (Ok x) h e = (omega (arith, h.0.1), h.1)
  struck (Err f) h e = absurd (false≢true (sym e))

  pub emptied : (r : Result A Refusal) → Called r (StrikeRefuses before 1) (StrikeMakes before 1) before after → false ≡ is_ok r → (m : ℕ) → before.cores ≡ m → after ≡ opened m []
  emptied (Ok x) h e m is = absurd (false≢true e)
  emptied (Err f) h e m is =
      let none : length before.tasks ≡ 0 = ⊎_elim (λ some. absurd (h.0.1 (omega arith, omega arith))) (λ n. omega arith) (cases_lt 0 (length before.tasks)) in
      h.1 ∙ (λ i. opened (is i) (nil_from_length before.tasks none i))
