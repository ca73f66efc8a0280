-- Each call keeps the promises, so every run does.
use Rattle.std.proofs.Common.{◌≡◌, ℕ, ◌<◌, true, false, List, [], ◌∷◌, length, sym, refl, ap, ◌∙◌, subst, inl, inr, ⊎_elim, arith}
use Rattle.interference.specs.Questions.{Query}
use Rattle.analysis.specs.declared.task.Task.{Task}
use Rattle.analysis.specs.Plans.{NoPlan}
use Rattle.planner.specs.declared.replay.Report.{Report}
use Rattle.planner.specs.Tables.{Open, Fixed}
use Rattle.planner.specs.History.{Request, cores, enter, strike, amend, fix, order, stretch, seek_lengths, quick_lengths, seek_plan, quick_plan, seek_bounds, reopen, Setup, unfixed, fixed_by, Came, done, refused, not_applicable, State, still, joined, setup, of_setup, Refuses, Makes, Marked, Turn}
use Rattle.planner.specs.Calls.{PlanRefuses}
use Rattle.planner.specs.Replaying.{came}
use Rattle.planner.specs.Reporting.{Shows, Run}
use Rattle.planner.specs.Promises.{Exactly, final, Passed, Bounded, AllPass, LengthsLeast, BoundsSolve, BoundsLeast, SetsLengths, SetupFollows, RefusedExactly, MarksTrue, NoneFound, SetLeast, OfEach, Promises}
use Rattle.planner.proofs.OneOutcome.{not_refused, made_fits, refused_fits, one_number, one_setup}

clash_done : (k : ℕ) → done ≡ refused k → ⊥
clash_done k e = let z : ◌≡◌ {A = ℕ} 0 1 = cc in omega arith

clash_unfit : (k : ℕ) → not_applicable ≡ refused k → ⊥
clash_unfit k e = let z : ◌≡◌ {A = ℕ} 0 1 = cc in omega arith

clash_both : done ≡ not_applicable → ⊥
clash_both e = let z : ◌≡◌ {A = ℕ} 0 1 = cc in omega arith

same_number : (k j : ℕ) → refused k ≡ refused j → k ≡ j
same_number k j e = cc

-- a fixed table without bounds and marks
abbrev bare : Fixed → Fixed
bare m = of_setup m.cores m.tasks m.order m.lengths

-- the number of a plan's refusal says which it was
eight : (m : Fixed) (sum : Query → ℕ) → PlanRefuses m sum 8 → 8 < length m.tasks
eight m sum h = ⊎_elim (λ a. a.1) (λ b. absurd (omega (arith, b.0))) h

nine : (m : Fixed) (sum : Query → ℕ) → PlanRefuses m sum 9 → NoPlan sum m.cores m.tasks
nine m sum h = ⊎_elim (λ a. absurd (omega (arith, a.0))) (λ b. b.2) h

off : false ≡ true → ⊥
off e = let z : ◌≡◌ {A = ℕ} 0 1 = cc in omega arith

kind : {U : Type 0} {m n : ℕ} {ts us : List Task} {u : U} {q ls : List ℕ} → unfixed m ts ≡ fixed_by u n us q ls → ◌≡◌ {A = ℕ} 0 1
kind e = cc

module _ {U : Type 0} (meaning : U → Query → ℕ) (Quick : U → Type 0) where
  follows : (s : State U) (c : Request U) (w : Came) (s' : State U) → Turn meaning Quick s c w s' → SetupFollows meaning Quick (setup s) c (setup s')
  follows s c done s' t = record {
    follows = inl t.0;
    only = λ x f. ⊎_elim
        (λ m. one_setup meaning Quick (setup s) c x (setup s') m t.0)
        (λ b. absurd (⊎_elim (λ r. not_refused meaning Quick (setup s) c (setup s') r.0 t.0 r.1) (λ z. made_fits meaning Quick (setup s) c (setup s') t.0 z) b.0))
        f;
  }
  follows s c (refused k) s' t = record {
    follows = inr (inl (k, t.0), ap setup t.1);
    only = λ x f. ⊎_elim (λ m. absurd (not_refused meaning Quick (setup s) c x k m t.0)) (λ b. b.1 ∙ sym (ap setup t.1)) f;
  }
  follows s c not_applicable s' t = record {
    follows = inr (inr t.0, ap setup t.1);
    only = λ x f. ⊎_elim (λ m. absurd (made_fits meaning Quick (setup s) c x m t.0)) (λ b. b.1 ∙ sym (ap setup t.1)) f;
  }

  exact : (s : State U) (c : Request U) (w : Came) (s' : State U) → Turn meaning Quick s c w s' → RefusedExactly meaning Quick s c w s'
  exact s c done s' t = record {
    by_number = λ k. (λ e. absurd (clash_done k e), λ r. absurd (not_refused meaning Quick (setup s) c (setup s') k t.0 r));
    unfit = (λ e. absurd (clash_both e), λ f. absurd (made_fits meaning Quick (setup s) c (setup s') t.0 f));
    untouched = λ h. absurd (h refl);
  }
  exact s c (refused j) s' t = record {
    by_number = λ k. (
      λ e. subst (λ (i : ℕ). Refuses meaning Quick (setup s) c i) (same_number j k e) t.0,
      λ r. ap refused (one_number meaning Quick (setup s) c j k t.0 r),
    );
    unfit = (λ e. absurd (clash_unfit j (sym e)), λ f. absurd (refused_fits meaning Quick (setup s) c j t.0 f));
    untouched = λ h. t.1;
  }
  exact s c not_applicable s' t = record {
    by_number = λ k. (λ e. absurd (clash_unfit k e), λ r. absurd (refused_fits meaning Quick (setup s) c k r t.0));
    unfit = (λ e. t.0, λ f. refl);
    untouched = λ h. t.1;
  }

  -- Lengths that a search set.
  by_lengths : (a : State U) (x : Setup U) → Makes meaning Quick (setup a) seek_lengths x → LengthsLeast meaning Quick x
  by_lengths (still m) x g = absurd g
  by_lengths (joined u m) x g = subst (LengthsLeast meaning Quick) (sym g.3) g.2

  by_quick : (a : State U) (x : Setup U) → Makes meaning Quick (setup a) quick_lengths x → LengthsLeast meaning Quick x
  by_quick (still m) x g = absurd g
  by_quick (joined u m) x g = by_lengths (joined u m) x g.1

  by_plan : (a : State U) (x : Setup U) → Makes meaning Quick (setup a) seek_plan x → LengthsLeast meaning Quick x
  by_plan (still m) x g = absurd g
  by_plan (joined u m) x g = subst (LengthsLeast meaning Quick) (sym g.1.4) g.1.3.lengths

  by_quick_plan : (a : State U) (x : Setup U) → Makes meaning Quick (setup a) quick_plan x → LengthsLeast meaning Quick x
  by_quick_plan (still m) x g = absurd g
  by_quick_plan (joined u m) x g = by_plan (joined u m) x g.1

  least_by : (s : State U) (c : Request U) (x : Setup U) → SetsLengths meaning Quick c → Makes meaning Quick (setup s) c x → LengthsLeast meaning Quick x
  least_by s c x w p =
      let now : (y : Request U) → c ≡ y → Makes meaning Quick (setup s) y x = λ y e. subst (λ (z : Request U). Makes meaning Quick (setup s) z x) e p in
      ⊎_elim
      (λ e. by_lengths s x (now seek_lengths e))
      (λ r. ⊎_elim (λ e. by_quick s x (now quick_lengths e)) (λ r₂. ⊎_elim (λ e. by_plan s x (now seek_plan e)) (λ e. by_quick_plan s x (now quick_plan e)) r₂) r)
      w

  -- Bounds that a search set.
  bounds_by : (s s' : State U) → Makes meaning Quick (setup s) seek_bounds (setup s') → Marked meaning Quick seek_bounds s s' → BoundsLeast meaning Quick s'
  bounds_by (still m) s' p k = absurd p
  bounds_by (joined u m) (still n) p k = let z : ◌≡◌ {A = ℕ} 0 1 = kind p.1 in absurd (omega arith)
  bounds_by (joined u m) (joined v n) p k = k.3

  least : (s : State U) (c : Request U) (w : Came) (s' : State U) → Turn meaning Quick s c w s' → SetLeast meaning Quick c w s'
  least s c done s' t = record {
    lengths = λ e w. least_by s c (setup s') w t.0;
    bounds = λ e w.
        bounds_by s s' (subst (λ (y : Request U). Makes meaning Quick (setup s) y (setup s')) w t.0) (subst (λ (y : Request U). Marked meaning Quick y s s') w t.1);
  }
  least s c (refused k) s' t = record { lengths = λ e w. absurd (clash_done k (sym e)); bounds = λ e w. absurd (clash_done k (sym e)) }
  least s c not_applicable s' t = record { lengths = λ e w. absurd (clash_both (sym e)); bounds = λ e w. absurd (clash_both (sym e)) }

  -- Seeks that were refused.
  refused_as : (s : State U) (c y : Request U) (w : Came) (s' : State U) (k : ℕ) → c ≡ y → Turn meaning Quick s c w s' → Exactly (w ≡ refused k) (Refuses meaning Quick (setup s) y k)
  refused_as s c y w s' k e t =
      let x = (exact s c w s' t).by_number k in
      (λ h. subst (λ (z : Request U). Refuses meaning Quick (setup s) z k) e (x.0 h), λ r. x.1 (subst (λ (z : Request U). Refuses meaning Quick (setup s) z k) (sym e) r))

  none : (s : State U) (c : Request U) (w : Came) (s' : State U) → Turn meaning Quick s c w s' → NoneFound meaning Quick (setup s) c w
  none (still m) c w s' t = tt
  none (joined u m) c w s' t = record {
    lengths = λ h. ⊎_elim
        (λ e. let x = refused_as (joined u m) c seek_lengths w s' 7 e t in (λ i. (x.0 i).1, λ no. x.1 (refl, no)))
        (λ e. let x = refused_as (joined u m) c quick_lengths w s' 7 e.0 t in (λ i. (x.0 i).1.1, λ no. x.1 (e.1, (refl, no))))
        h;
    too_many = λ h. ⊎_elim
        (λ e. let x = refused_as (joined u m) c seek_plan w s' 8 e t in (λ i. eight (bare m) (meaning u) (x.0 i), λ many. x.1 (inl (refl, many))))
        (λ e. let x = refused_as (joined u m) c quick_plan w s' 8 e.0 t in (λ i. eight (bare m) (meaning u) (x.0 i).1, λ many. x.1 (e.1, inl (refl, many))))
        h;
    plan = λ h few. ⊎_elim
        (λ e. let x = refused_as (joined u m) c seek_plan w s' 9 e t in (λ i. nine (bare m) (meaning u) (x.0 i), λ no. x.1 (inr (refl, few, no))))
        (λ e. let x = refused_as (joined u m) c quick_plan w s' 9 e.0 t in (λ i. nine (bare m) (meaning u) (x.0 i).1, λ no. x.1 (e.1, inr (refl, few, no))))
        h;
    bounds = λ e. let x = refused_as (joined u m) c seek_bounds w s' 10 e t in (λ i. (x.0 i).1, λ no. x.1 (refl, no));
  }

  -- No mark lies, before and after.
  abbrev Truthful : State U → Type 0
  Truthful s = (Passed s → AllPass meaning Quick (setup s)) × (Bounded s → BoundsSolve meaning Quick s)

  all_pass : (x : Setup U) → LengthsLeast meaning Quick x → AllPass meaning Quick x
  all_pass (unfixed m ts) l = absurd l
  all_pass (fixed_by u m ts q ls) l = (l.choice, l.pass)

  unmarked : (v : U) (n : Fixed) → n.passed ≡ false → n.bounded ≡ false → Truthful (joined v n)
  unmarked v n p b = (λ e. absurd (off (sym p ∙ e)), λ e. absurd (off (sym b ∙ e)))

  newly : (v : U) (n : Fixed) → LengthsLeast meaning Quick (setup (joined v n)) → n.bounded ≡ false → Truthful (joined v n)
  newly v n l b = (λ e. all_pass (setup (joined v n)) l, λ e. absurd (off (sym b ∙ e)))

  stays_true : (s : State U) (c : Request U) (s' : State U) → Truthful s → Makes meaning Quick (setup s) c (setup s') → Marked meaning Quick c s s' → Truthful s'
  stays_true s c (still n) h p k = (λ x. absurd x, λ x. absurd x)
  stays_true s (cores x) (joined v n) h p k = absurd k
  stays_true s (enter x) (joined v n) h p k = absurd k
  stays_true s (strike i) (joined v n) h p k = absurd k
  stays_true s (amend i x) (joined v n) h p k = absurd k
  stays_true s (fix x) (joined v n) h p k = unmarked v n (ap (λ (y : Fixed). y.passed) k) (ap (λ (y : Fixed). y.bounded) k)
  stays_true s (order xs) (joined v n) h p k = unmarked v n (ap (λ (y : Fixed). y.passed) k) (ap (λ (y : Fixed). y.bounded) k)
  stays_true s (stretch i l) (joined v n) h p k = unmarked v n (ap (λ (y : Fixed). y.passed) k) (ap (λ (y : Fixed). y.bounded) k)
  stays_true s seek_lengths (joined v n) h p k = newly v n (by_lengths s (setup (joined v n)) p) (ap (λ (y : Fixed). y.bounded) k)
  stays_true s quick_lengths (joined v n) h p k = newly v n (by_quick s (setup (joined v n)) p) (ap (λ (y : Fixed). y.bounded) k)
  stays_true s seek_plan (joined v n) h p k = newly v n (by_plan s (setup (joined v n)) p) (ap (λ (y : Fixed). y.bounded) k)
  stays_true s quick_plan (joined v n) h p k = newly v n (by_quick_plan s (setup (joined v n)) p) (ap (λ (y : Fixed). y.bounded) k)
  stays_true (still m) seek_bounds (joined v n) h p k = absurd p
  stays_true (joined u m) seek_bounds (joined v n) h p k = (λ e. subst (AllPass meaning Quick) (sym p.1) (h.0 (sym k.0 ∙ e)), λ e. k.3.solution)
  stays_true s reopen (joined v n) h p k = absurd k

  true_after : (s : State U) (c : Request U) (w : Came) (s' : State U) → Truthful s → Turn meaning Quick s c w s' → Truthful s'
  true_after s c done s' h t = stays_true s c s' h t.0 t.1
  true_after s c (refused k) s' h t = subst Truthful (sym t.1) h
  true_after s c not_applicable s' h t = subst Truthful (sym t.1) h

  passed_by : (s : State U) (c : Request U) (s' : State U) → SetsLengths meaning Quick c → Makes meaning Quick (setup s) c (setup s') → Marked meaning Quick c s s' → Passed s'
  passed_by s c (still n) w p k = absurd (least_by s c (unfixed n.cores n.tasks) w p)
  passed_by s c (joined v n) w p k =
      let on : (y : Request U) → c ≡ y → Marked meaning Quick y s (joined v n) = λ y e. subst (λ (z : Request U). Marked meaning Quick z s (joined v n)) e k in
      ⊎_elim
      (λ e. ap (λ (y : Fixed). y.passed) (on seek_lengths e))
      (λ r. ⊎_elim
      (λ e. ap (λ (y : Fixed). y.passed) (on quick_lengths e))
      (λ r₂. ⊎_elim (λ e. ap (λ (y : Fixed). y.passed) (on seek_plan e)) (λ e. ap (λ (y : Fixed). y.passed) (on quick_plan e)) r₂)
      r)
      w

  bounded_by : (s s' : State U) → Makes meaning Quick (setup s) seek_bounds (setup s') → Marked meaning Quick seek_bounds s s' → Bounded s'
  bounded_by (still m) s' p k = absurd p
  bounded_by (joined u m) (still n) p k = let z : ◌≡◌ {A = ℕ} 0 1 = kind p.1 in absurd (omega arith)
  bounded_by (joined u m) (joined v n) p k = k.1

  marks : (s : State U) (c : Request U) (w : Came) (s' : State U) → Truthful s → Turn meaning Quick s c w s' → MarksTrue meaning Quick c w s'
  marks s c w s' h t = record {
    passed_on = λ e x. let d = subst (λ (y : Came). Turn meaning Quick s c y s') e t in passed_by s c s' x d.0 d.1;
    bounded_on = λ e x.
        let d = subst (λ (y : Request U). Turn meaning Quick s y done s') x (subst (λ (y : Came). Turn meaning Quick s c y s') e t) in
        bounded_by s s' d.0 d.1;
    passed_true = (true_after s c w s' h t).0;
    bounded_true = (true_after s c w s' h t).1;
  }

  -- the table after each call of a run
  abbrev states : (s : State U) (cs : List (Request U)) (rs : List Report) (end : State U) → Run meaning Quick s cs rs end → List (State U)
  states s [] [] end h = []
  states s [] (r ∷ rs) end h = []
  states s (c ∷ cs) [] end h = []
  states s (c ∷ cs) (r ∷ rs) end h = h.0 ∷ states h.0 cs rs end h.3

  ends : (s : State U) (cs : List (Request U)) (rs : List Report) (end : State U) (h : Run meaning Quick s cs rs end) → end ≡ final s (states s cs rs end h)
  ends s [] [] end h = h
  ends s [] (r ∷ rs) end h = absurd h
  ends s (c ∷ cs) [] end h = absurd h
  ends s (c ∷ cs) (r ∷ rs) end h = ends h.0 cs rs end h.3

  each : (P : State U → Request U → Report → State U → Type 0)
      → ((s : State U) (c : Request U) (r : Report) (s' : State U) → Truthful s → Turn meaning Quick s c (came r.outcome) s' → Shows s' r → P s c r s')
      → (s : State U) (cs : List (Request U)) (rs : List Report) (end : State U) → Truthful s → (h : Run meaning Quick s cs rs end)
      → OfEach meaning Quick P s cs rs (states s cs rs end h)
  each P one s [] [] end t h = tt
  each P one s [] (r ∷ rs) end t h = absurd h
  each P one s (c ∷ cs) [] end t h = absurd h
  each P one s (c ∷ cs) (r ∷ rs) end t h = (one s c r h.0 t h.1 h.2, each P one h.0 cs rs end (true_after s c (came r.outcome) h.0 t h.1) h.3)

  pub keeps : (m : Open) (cs : List (Request U)) (rs : List Report) (end : State U) → Run meaning Quick (still m) cs rs end → Promises meaning Quick (still m) cs rs end
  keeps m cs rs end h =
      let t : Truthful (still m) = (λ x. absurd x, λ x. absurd x) in
      record {
        after = states (still m) cs rs end h;
        reports_show_it = each (λ s c r s'. Shows s' r) (λ s c r s' x y z. z) (still m) cs rs end t h;
        last_is_given_back = ends (still m) cs rs end h;
        marks_and_bounds_are_set_by_the_call =
            each (λ s c r s'. came r.outcome ≡ done → Marked meaning Quick c s s') (λ s c r s' x y z e. (subst (λ (w : Came). Turn meaning Quick s c w s') e y).1) (still m) cs rs end t h;
        setup_follows_from_the_calls_alone =
            each (λ s c r s'. SetupFollows meaning Quick (setup s) c (setup s')) (λ s c r s' x y z. follows s c (came r.outcome) s' y) (still m) cs rs end t h;
        refusals_are_exact = each (λ s c r s'. RefusedExactly meaning Quick s c (came r.outcome) s') (λ s c r s' x y z. exact s c (came r.outcome) s' y) (still m) cs rs end t h;
        marks_tell_the_truth = each (λ s c r s'. MarksTrue meaning Quick c (came r.outcome) s') (λ s c r s' x y z. marks s c (came r.outcome) s' x y) (still m) cs rs end t h;
        refused_seek_means_none = each (λ s c r s'. NoneFound meaning Quick (setup s) c (came r.outcome)) (λ s c r s' x y z. none s c (came r.outcome) s' y) (still m) cs rs end t h;
        what_is_set_is_least = each (λ s c r s'. SetLeast meaning Quick c (came r.outcome) s') (λ s c r s' x y z. least s c (came r.outcome) s' y) (still m) cs rs end t h;
      }
