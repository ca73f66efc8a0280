-- The calls, tables and outcomes of the code, as the history speaks of them.
use Rattle.std.specs.Prelude.{ℕ, Ok, Err, vec_items, Result}
use Rattle.interference.specs.Questions.{Query}
use Rattle.planner.specs.declared.refusal.Refusal.{Refusal}
use Rattle.planner.specs.declared.replay.OpenCall.{OpenCall}
use Rattle.planner.specs.declared.replay.OpenCall.TheVariants.{Cores, Enter, Strike, Amend}
use Rattle.planner.specs.declared.replay.FixedCall.{FixedCall}
use Rattle.planner.specs.declared.replay.FixedCall.TheVariants.{Order, Stretch, SeekLengths, SeekPlan, SeekBounds}
use Rattle.planner.specs.declared.replay.QuickCall.{QuickCall}
use Rattle.planner.specs.declared.replay.QuickCall.TheVariants.{Lengths, Plan}
use Rattle.planner.specs.declared.replay.Call.{Call}
use Rattle.planner.specs.declared.replay.Call.TheVariants as call
use Rattle.planner.specs.declared.replay.Table.{Table}
use Rattle.planner.specs.declared.replay.Table.TheVariants as table
use Rattle.planner.specs.declared.replay.Outcome.{Outcome}
use Rattle.planner.specs.declared.replay.Outcome.TheVariants.{Done, Refused, NotApplicable}
use Rattle.planner.specs.Refusals.{number, Called}
use Rattle.planner.specs.Tables.{Open, Fixed, held, holds}
use Rattle.planner.specs.Calls.{CoresRefuses, CoresMakes, EnterRefuses, EnterMakes, StrikeRefuses, StrikeMakes, AmendRefuses, AmendMakes, OrderRefuses, OrderMakes, StretchRefuses, StretchMakes, LengthsSought, PlanSought, BoundsSought}
use Rattle.planner.specs.History.{Request, cores, enter, strike, amend, fix, order, stretch, seek_lengths, quick_lengths, seek_plan, quick_plan, seek_bounds, reopen, State, still, joined, Came, done, refused, not_applicable}

-- a rule that a table was fixed under, any rule or a steady one
pub data Under (R S : Type 0) : Type 0 where
  plainly : R → Under R S
  steadily : S → Under R S

abbrev pub sum_under : {R S : Type 0} → (R → Query → ℕ) → (S → Query → ℕ) → Under R S → Query → ℕ
sum_under f g (plainly r) = f r
sum_under f g (steadily s) = g s

-- the quick searches are for rules that were brought as steady
abbrev pub Steadily : {R S : Type 0} → Under R S → Type 0
Steadily (plainly r) = ⊥
Steadily (steadily s) = Unit {0}

abbrev pub open_request : {U : Type 0} → OpenCall → Request U
open_request (Cores c) = cores c
open_request (Enter t) = enter t
open_request (Strike i) = strike i
open_request (Amend i c) = amend i c

abbrev pub fixed_request : {U : Type 0} → FixedCall → Request U
fixed_request (Order xs) = order (vec_items xs)
fixed_request (Stretch i l) = stretch i l
fixed_request SeekLengths = seek_lengths
fixed_request SeekPlan = seek_plan
fixed_request SeekBounds = seek_bounds

abbrev pub quick_request : {U : Type 0} → QuickCall → Request U
quick_request Lengths = quick_lengths
quick_request Plan = quick_plan

abbrev pub request : {R S : Type 0} → Call R S → Request (Under R S)
request (call.Open c) = open_request c
request (call.Fix r) = fix (plainly r)
request (call.FixSteady s) = fix (steadily s)
request (call.Fixed c) = fixed_request c
request (call.Quick c) = quick_request c
request call.Reopen = reopen

abbrev pub state : {R S : Type 0} → Table R S → State (Under R S)
state (table.Open t) = still (held t)
state (table.Fixed t) = joined (plainly t.rule) (holds t)
state (table.Steady t) = joined (steadily t.rule) (holds t)

abbrev pub came : Outcome → Came
came Done = done
came (Refused e) = refused (number e)
came NotApplicable = not_applicable

abbrev pub answered : {A : Type 0} → Result A Refusal → Came
answered (Ok x) = done
answered (Err e) = refused (number e)

-- what the methods promise, by call
abbrev pub OpenDoes : {X : Type 0} → Result X Refusal → Open → OpenCall → Open → Type 0
OpenDoes r m (Cores c) n = Called r (CoresRefuses m c) (CoresMakes m c) m n
OpenDoes r m (Enter t) n = Called r (EnterRefuses m t) (EnterMakes m t) m n
OpenDoes r m (Strike i) n = Called r (StrikeRefuses m i) (StrikeMakes m i) m n
OpenDoes r m (Amend i c) n = Called r (AmendRefuses m i c) (AmendMakes m i c) m n

abbrev pub FixedDoes : {X : Type 0} → Result X Refusal → (Query → ℕ) → Fixed → FixedCall → Fixed → Type 0
FixedDoes r sum m (Order xs) n = Called r (OrderRefuses m (vec_items xs)) (OrderMakes m (vec_items xs)) m n
FixedDoes r sum m (Stretch i l) n = Called r (StretchRefuses m i l) (StretchMakes m i l) m n
FixedDoes r sum m SeekLengths n = LengthsSought m sum r n
FixedDoes r sum m SeekPlan n = PlanSought m sum r n
FixedDoes r sum m SeekBounds n = BoundsSought m sum r n

abbrev pub QuickDoes : {X : Type 0} → Result X Refusal → (Query → ℕ) → Fixed → QuickCall → Fixed → Type 0
QuickDoes r sum m Lengths n = LengthsSought m sum r n
QuickDoes r sum m Plan n = PlanSought m sum r n
