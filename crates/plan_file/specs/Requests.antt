-- The calls that are made on the table of a file.
use Rattle.std.specs.Prelude.{Bool, true, false, ◌&&◌, List, [], ◌∷◌}
use Rattle.interference.specs.declared.full.Full.{Full}
use Rattle.planner.specs.declared.replay.QuickCall.{QuickCall}
use Rattle.planner.specs.declared.replay.QuickCall.TheVariants.{Lengths, Plan}
use Rattle.planner.specs.declared.replay.Call.{Call}
use Rattle.planner.specs.declared.replay.Call.TheVariants as call
use Rattle.planner.specs.History.{Request, fix, quick_plan}
use Rattle.planner.specs.Replaying.{Under, steadily}

abbrev pub full_rule : Under Full Full
full_rule = steadily (record {})

abbrev pub plan_requests : List (Request (Under Full Full))
plan_requests = fix full_rule ∷ (quick_plan ∷ [])

-- the same of the code's calls, as a test
abbrev is_fix : Call Full Full → Bool
is_fix (call.Open c) = false
is_fix (call.Fix r) = false
is_fix (call.FixSteady r) = true
is_fix (call.Fixed c) = false
is_fix (call.Quick c) = false
is_fix call.Reopen = false

abbrev is_plan : QuickCall → Bool
is_plan Lengths = false
is_plan Plan = true

abbrev is_quick : Call Full Full → Bool
is_quick (call.Open c) = false
is_quick (call.Fix r) = false
is_quick (call.FixSteady r) = false
is_quick (call.Fixed c) = false
is_quick (call.Quick c) = is_plan c
is_quick call.Reopen = false

abbrev pub fix_then_plan : List (Call Full Full) → Bool
fix_then_plan [] = false
fix_then_plan (x ∷ []) = false
fix_then_plan (x ∷ (y ∷ [])) = is_fix x && is_quick y
fix_then_plan (x ∷ (y ∷ (z ∷ rest))) = false
