-- What a fix and a quick plan make of a table, by the promises over sequences of calls.
use Rattle.std.proofs.Common.{◌≡◌, ℕ, ◌<◌, ◌≤◌, ◌⊎◌, List, [], ◌∷◌, length, get_or, replicate, sym, refl, subst, ⊎_elim, arith}
use Rattle.interference.specs.Questions.{Query}
use Rattle.analysis.specs.declared.task.Task.{Task}
use Rattle.analysis.specs.Plans.{FirstPlan, NoPlan}
use Rattle.planner.specs.declared.replay.Report.{Report}
use Rattle.planner.specs.Tables.{Open, downward}
use Rattle.planner.specs.History.{Request, fix, quick_plan, Setup, fixed_by, Came, done, refused, not_applicable, State, still, setup, Refuses, Unfit, Follows}
use Rattle.planner.specs.Replaying.{came}
use Rattle.planner.specs.Promises.{Exactly, final, SetupFollows, RefusedExactly, OfEach, Promises}

clash_refused : (k : ℕ) → done ≡ refused k → ⊥
clash_refused k e = let z : ◌≡◌ {A = ℕ} 0 1 = cc in omega arith

clash_unfit : done ≡ not_applicable → ⊥
clash_unfit e = let z : ◌≡◌ {A = ℕ} 0 1 = cc in omega arith

module _ {U : Type 0} (meaning : U → Query → ℕ) (Quick : U → Type 0) (u : U) (quick : Quick u) where
  -- what came of the second call, and the setup then
  abbrev pub PlanCame : ℕ → List Task → Came → Setup U → Type 0
  PlanCame m ts (refused k) s = ((k ≡ 8) × (8 < length ts)) ⊎ ((k ≡ 9) × (length ts ≤ 8) × NoPlan (meaning u) m ts)
  PlanCame m ts done s =
      (length ts ≤ 8) × ((q : List ℕ) × (lens : List ℕ) × (length lens ≡ length ts) × FirstPlan (meaning u) m ts q lens × (s ≡ fixed_by u m ts q lens))
  PlanCame m ts not_applicable s = ⊥

  plan_came : (m : ℕ) (ts : List Task) (q ls : List ℕ) (w : Came) (s : Setup U)
      → ((k : ℕ) → Exactly (w ≡ refused k) (Refuses meaning Quick (fixed_by u m ts q ls) quick_plan k))
      → Exactly (w ≡ not_applicable) (Unfit meaning Quick (fixed_by u m ts q ls) quick_plan)
      → Follows meaning Quick (fixed_by u m ts q ls) quick_plan s → PlanCame m ts w s
  plan_came m ts q ls (refused k) s by unfit f = ((by k).0 refl).1
  plan_came m ts q ls not_applicable s by unfit f = unfit.0 refl quick
  plan_came m ts q ls done s by unfit f =
      ⊎_elim (λ made. made.1)
      (λ left. absurd (⊎_elim (λ r. clash_refused r.0 ((by r.0).1 r.1)) (λ z. clash_unfit (unfit.1 z)) left.0))
      f

  fixed_first : (m : Open) (s : Setup U) → Follows meaning Quick (setup (still m)) (fix u) s → s ≡ fixed_by u m.cores m.tasks (downward (length m.tasks)) (replicate (length m.tasks) 1)
  fixed_first m s f = ⊎_elim (λ made. made) (λ left. absurd (⊎_elim (λ r. r.1) (λ z. z) left.0)) f

  two_calls : (m : Open) (r₁ r₂ : Report) (after : List (State U)) (end : State U)
      → OfEach meaning Quick (λ s c r s'. SetupFollows meaning Quick (setup s) c (setup s')) (still m) (fix u ∷ (quick_plan ∷ [])) (r₁ ∷ (r₂ ∷ [])) after
      → OfEach meaning Quick (λ s c r s'. RefusedExactly meaning Quick s c (came r.outcome) s') (still m) (fix u ∷ (quick_plan ∷ [])) (r₁ ∷ (r₂ ∷ [])) after
      → end ≡ final (still m) after → PlanCame m.cores m.tasks (came r₂.outcome) (setup end)
  two_calls m r₁ r₂ [] end f x e = absurd f
  two_calls m r₁ r₂ (s₁ ∷ []) end f x e = absurd f.1
  two_calls m r₁ r₂ (s₁ ∷ (s₂ ∷ (s₃ ∷ rest))) end f x e = absurd f.1.1
  two_calls m r₁ r₂ (s₁ ∷ (s₂ ∷ [])) end f x e =
      let first = fixed_first m (setup s₁) f.0.follows in
      let w = came r₂.outcome in
      subst (λ (s : State U). PlanCame m.cores m.tasks w (setup s)) (sym e)
      (plan_came m.cores m.tasks (downward (length m.tasks)) (replicate (length m.tasks) 1) w (setup s₂)
      (λ k. subst (λ (s : Setup U). Exactly (w ≡ refused k) (Refuses meaning Quick s quick_plan k)) first (x.1.0.by_number k))
      (subst (λ (s : Setup U). Exactly (w ≡ not_applicable) (Unfit meaning Quick s quick_plan)) first x.1.0.unfit)
      (subst (λ (s : Setup U). Follows meaning Quick s quick_plan (setup s₂)) first f.1.0.follows))

  -- there are as many reports as calls
  too_few : (P : State U → Request U → Report → State U → Type 0) (s : State U) (c₁ c₂ : Request U) (r : Report) (xs : List (State U)) → OfEach meaning Quick P s (c₁ ∷ (c₂ ∷ [])) (r ∷ []) xs → ⊥
  too_few P s c₁ c₂ r [] f = f
  too_few P s c₁ c₂ r (x ∷ xs) f = f.1

  too_many : (P : State U → Request U → Report → State U → Type 0) (s : State U) (c₁ c₂ : Request U) (r₁ r₂ r₃ : Report) (rs : List Report) (xs : List (State U))
      → OfEach meaning Quick P s (c₁ ∷ (c₂ ∷ [])) (r₁ ∷ (r₂ ∷ (r₃ ∷ rs))) xs → ⊥
  too_many P s c₁ c₂ r₁ r₂ r₃ rs [] f = f
  too_many P s c₁ c₂ r₁ r₂ r₃ rs (x ∷ []) f = f.1
  too_many P s c₁ c₂ r₁ r₂ r₃ rs (x ∷ (y ∷ ys)) f = f.1.1

  abbrev Following : State U → Request U → Report → State U → Type 0
  Following s c r s' = SetupFollows meaning Quick (setup s) c (setup s')

  pub plan_comes : (m : Open) (rs : List Report) (d : Report) (end : State U) → Promises meaning Quick (still m) (fix u ∷ (quick_plan ∷ [])) rs end
      → PlanCame m.cores m.tasks (came (get_or rs 1 d).outcome) (setup end)
  plan_comes m [] d end p = absurd p.setup_follows_from_the_calls_alone
  plan_comes m (r₁ ∷ []) d end p = absurd (too_few Following (still m) (fix u) quick_plan r₁ p.after p.setup_follows_from_the_calls_alone)
  plan_comes m (r₁ ∷ (r₂ ∷ (r₃ ∷ rest))) d end p = absurd (too_many Following (still m) (fix u) quick_plan r₁ r₂ r₃ rest p.after p.setup_follows_from_the_calls_alone)
  plan_comes m (r₁ ∷ (r₂ ∷ [])) d end p = two_calls m r₁ r₂ p.after end p.setup_follows_from_the_calls_alone p.refusals_are_exact p.last_is_given_back
