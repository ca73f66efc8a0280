-- The limits of an interrupt handler, and the number of each refusal of this crate.
use Rattle.std.specs.Prelude.{ℕ, ◌≤◌}
use Rattle.interference.specs.declared.refusal.Refusal.{Refusal}
use Rattle.interference.specs.declared.refusal.Refusal.TheVariants.{Limits}

abbrev pub HandlerWithinLimits : ℕ → ℕ → Type 0
HandlerWithinLimits c g = (1 ≤ c) × (c ≤ g) × (g ≤ 65535)

abbrev pub number : Refusal → ℕ
number Limits = 3
