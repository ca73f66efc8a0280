-- What the code's replay of a fix and a quick plan gives.
use Rattle.std.proofs.Common.{◌≡◌, ℕ, min, true, List, [], ◌∷◌, map, length, get_or, take, Ok, refl, ap, ◌∙◌, subst, arith}
use Rattle.std.proofs.lemmas.List.{take_all}
use Rattle.std.proofs.lemmas.Bool.{false≢true}
use Rattle.interference.specs.Questions.{Query}
use Rattle.interference.specs.declared.full.Full.{Full}
use Rattle.interference.specs.Sums.{full_sum}
use Rattle.analysis.specs.declared.task.Task.{Task}
use Rattle.planner.specs.declared.refusal.Refusal.{Refusal}
use Rattle.planner.specs.declared.replay.Report.{Report}
use Rattle.planner.specs.declared.replay.QuickCall.TheVariants.{Lengths, Plan}
use Rattle.planner.specs.declared.replay.Call.{Call}
use Rattle.planner.specs.declared.replay.Call.TheVariants as call
use Rattle.planner.specs.declared.replay.Table.{Table}
use Rattle.planner.specs.declared.replay.Table.TheVariants as table
use Rattle.planner.specs.declared.replay.Outcome.{Outcome}
use Rattle.planner.specs.declared.replay.Outcome.TheVariants.{Done, Refused, NotApplicable}
use Rattle.planner.specs.declared.tables.fixed.FixedTable.{FixedTable}
use Rattle.planner.specs.Tables.{Open}
use Rattle.planner.specs.Reading.{standing}
use Rattle.planner.specs.History.{Request, unfixed, fixed_by, still, setup}
use Rattle.planner.specs.Replaying.{Under, plainly, steadily, sum_under, Steadily, request, state, came}
use Rattle.planner.specs.Promises.{Promises}
use Rattle.table_file.specs.Stored.{stored, placed}
use Rattle.plan_file.specs.Requests.{full_rule, plan_requests, fix_then_plan}
use Rattle.plan_file.specs.Answers.{Planned}
use Rattle.plan_file.proofs.OnCalls.{PlanCame, plan_comes}

abbrev pub sums : Under Full Full → Query → ℕ
sums = sum_under (λ _ q. full_sum q) (λ _ q. full_sum q)

-- the calls are those two
two : (cs : List (Call Full Full)) → fix_then_plan cs ≡ true → (map request cs ≡ plan_requests) × (length cs ≡ 2)
two [] h = absurd (false≢true h)
two (x ∷ []) h = absurd (false≢true h)
two (x ∷ (y ∷ (z ∷ rest))) h = absurd (false≢true h)
two (call.Open c ∷ (y ∷ [])) h = absurd (false≢true h)
two (call.Fix r ∷ (y ∷ [])) h = absurd (false≢true h)
two (call.Fixed c ∷ (y ∷ [])) h = absurd (false≢true h)
two (call.Quick c ∷ (y ∷ [])) h = absurd (false≢true h)
two (call.Reopen ∷ (y ∷ [])) h = absurd (false≢true h)
two (call.FixSteady r ∷ (call.Open c ∷ [])) h = absurd (false≢true h)
two (call.FixSteady r ∷ (call.Fix s ∷ [])) h = absurd (false≢true h)
two (call.FixSteady r ∷ (call.FixSteady s ∷ [])) h = absurd (false≢true h)
two (call.FixSteady r ∷ (call.Fixed c ∷ [])) h = absurd (false≢true h)
two (call.FixSteady r ∷ (call.Reopen ∷ [])) h = absurd (false≢true h)
two (call.FixSteady r ∷ (call.Quick Lengths ∷ [])) h = absurd (false≢true h)
two (call.FixSteady r ∷ (call.Quick Plan ∷ [])) h = (refl, refl)

abbrev pub Came : Open → Outcome → Table Full Full → Type 0
Came m o end = PlanCame sums Steadily full_rule tt m.cores m.tasks (came o) (setup (state end))

pub replayed : (m : Open) (cs : List (Call Full Full)) (n : ℕ) (rs : List Report) (d : Report) (end : Table Full Full) → fix_then_plan cs ≡ true → length rs ≡ 2 → n ≡ min (length cs) 2
    → Promises sums Steadily (still m) (map request (take n cs)) (take n rs) (state end) → Came m (get_or rs 1 d).outcome end
replayed m cs n rs d end h two_reports count p =
    let t = two cs h in
    let calls : map request (take n cs) ≡ plan_requests = ap (map request) (take_all n cs (omega (arith, t.1))) ∙ t.0 in
    let reports : take n rs ≡ rs = take_all n rs (omega (arith, t.1)) in
    plan_comes sums Steadily full_rule tt m rs d (state end)
    (subst (λ (x : List Report). Promises sums Steadily (still m) plan_requests x (state end)) reports
    (subst (λ (x : List (Request (Under Full Full))). Promises sums Steadily (still m) x (take n rs) (state end)) calls p))

open_is_not : (a b : ℕ) (ts us : List Task) (u : Under Full Full) (q ls : List ℕ) → unfixed a ts ≡ fixed_by u b us q ls → ⊥
open_is_not a b ts us u q ls e = let z : ◌≡◌ {A = ℕ} 0 1 = cc in omega arith

plain_is_not : (r s : Full) (a b : ℕ) (ts us : List Task) (q x ls ks : List ℕ) → fixed_by (plainly r) a ts q ls ≡ fixed_by (steadily s) b us x ks → ⊥
plain_is_not r s a b ts us q x ls ks e = let z : ◌≡◌ {A = ℕ} 0 1 = cc in omega arith

-- a table that is not refused is fixed under the steady rule
pub steady_only : (m : Open) (o : Outcome) (end : Table Full Full) → Came m o end → ((x : Refusal) → o ≡ Refused x → ⊥) → ((x : FixedTable Full) → end ≡ table.Steady x → ⊥) → ⊥
steady_only m (Refused e) end h no_refusal no_steady = no_refusal e refl
steady_only m NotApplicable end h no_refusal no_steady = h
steady_only m Done (table.Open t) h no_refusal no_steady = open_is_not _ _ _ _ _ _ _ h.1.4
steady_only m Done (table.Fixed t) h no_refusal no_steady = plain_is_not _ _ _ _ _ _ _ _ _ _ h.1.4
steady_only m Done (table.Steady t) h no_refusal no_steady = no_steady t refl

same_setup : (u v : Under Full Full) (a b : ℕ) (ts us : List Task) (q x ls ks : List ℕ) → fixed_by u a ts q ls ≡ fixed_by v b us x ks → (a ≡ b) × (ts ≡ us) × (q ≡ x) × (ls ≡ ks)
same_setup u v a b ts us q x ls ks e = (cc, cc, cc, cc)

planned_at : (m : Open) (o : Outcome) (t : FixedTable Full) → Came m o (table.Steady t) → ((x : Refusal) → o ≡ Refused x → ⊥) → Planned m (Ok t)
planned_at m (Refused e) t h no_refusal = absurd (no_refusal e refl)
planned_at m NotApplicable t h no_refusal = absurd h
planned_at m Done t h no_refusal =
    let s = same_setup _ _ _ _ _ _ _ _ _ _ h.1.4 in (
      h.0,
      (h.1.0, h.1.1, h.1.2, h.1.3, (λ i. stored (s.0 i) (s.1 i) (placed (standing (s.2 i)) (s.3 i))), s.1),
    )

pub planned_is : (m : Open) (o : Outcome) (end : Table Full Full) (t : FixedTable Full) → end ≡ table.Steady t → Came m o end → ((x : Refusal) → o ≡ Refused x → ⊥) → Planned m (Ok t)
planned_is m o end t e h no_refusal = planned_at m o t (subst (λ (x : Table Full Full). Came m o x) e h) no_refusal
