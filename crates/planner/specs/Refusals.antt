-- The number of each refusal, and what an answer says of a call.
use Rattle.std.specs.Prelude.{◌≡◌, ℕ, Ok, Err, Result}
use Rattle.planner.specs.declared.refusal.Refusal.{Refusal}
use Rattle.planner.specs.declared.refusal.Refusal.TheVariants.{CoreCount, TableFull, Limits, NoSuchTask, NotAPermutation, Length, NoLengths, TooManyTasks, NoPlan, NoBounds, TooShort}

abbrev pub number : Refusal → ℕ
number CoreCount = 1
number TableFull = 2
number Limits = 3
number NoSuchTask = 4
number NotAPermutation = 5
number Length = 6
number NoLengths = 7
number TooManyTasks = 8
number NoPlan = 9
number NoBounds = 10
number TooShort = 11

-- A call on what was held before: refused by a number for a reason, and all is as before; or carried out.
abbrev pub Called : {A M : Type 0} → Result A Refusal → (ℕ → Type 0) → (M → Type 0) → M → M → Type 0
Called (Ok x) refuses makes before after = makes after
Called (Err e) refuses makes before after = refuses (number e) × (after ≡ before)
