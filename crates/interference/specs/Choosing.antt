-- A choice of two rules means what the chosen one means.
use Rattle.std.specs.Prelude.{ℕ}
use Rattle.interference.specs.declared.choice.Choice.{Choice}
use Rattle.interference.specs.declared.choice.Choice.TheVariants.{First, Second}
use Rattle.interference.specs.Questions.{Query}

abbrev pub chosen_sum : {X Y : Type 0} → (X → Query → ℕ) → (Y → Query → ℕ) → Choice X Y → Query → ℕ
chosen_sum f g (First x) = f x
chosen_sum f g (Second y) = g y
