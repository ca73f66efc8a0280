-- What comes of a call is one thing: carried out, refused by one number, or not applicable; and what it makes is one
-- setup.
use Rattle.std.proofs.Common.{◌≡◌, ℕ, List, length, sym, ap, ◌∙◌, ⊎_elim, arith}
use Rattle.interference.specs.Questions.{Query}
use Rattle.analysis.specs.declared.task.Task.{Task}
use Rattle.analysis.specs.Rivals.{cost_of}
use Rattle.analysis.specs.Passing.{PassesOver}
use Rattle.planner.specs.Calls.{LengthsRefuses, PlanRefuses}
use Rattle.planner.specs.History.{Request, cores, enter, strike, amend, fix, order, stretch, seek_lengths, quick_lengths, seek_plan, quick_plan, seek_bounds, reopen, Setup, unfixed, fixed_by, of_setup, Refuses, GetsLengths, GetsPlan, Makes, Unfit}
use Rattle.planner.proofs.OneAnswer.{one_choice, one_plan}

module _ {U : Type 0} (meaning : U → Query → ℕ) (Quick : U → Type 0) where
  module _ (u : U) (m : ℕ) (ts : List Task) (q ls : List ℕ) where
    lengths_or_none : (s : Setup U) (k : ℕ) → GetsLengths meaning Quick u m ts q s → LengthsRefuses (of_setup m ts q ls) (meaning u) k → ⊥
    lengths_or_none s k p r = r.1 p.0 p.2.choice p.2.pass

    plan_or_none : (s : Setup U) (k : ℕ) → GetsPlan meaning Quick u m ts s → PlanRefuses (of_setup m ts q ls) (meaning u) k → ⊥
    plan_or_none s k p r =
        let f = p.1.3 in
        ⊎_elim (λ a. omega (arith, a.1, p.0)) (λ b. b.2 p.1.0 f.order p.1.1 f.lengths.choice f.lengths.pass) r

    plan_number : (k j : ℕ) → PlanRefuses (of_setup m ts q ls) (meaning u) k → PlanRefuses (of_setup m ts q ls) (meaning u) j → k ≡ j
    plan_number k j r x =
        ⊎_elim
        (λ a. ⊎_elim (λ b. a.0 ∙ sym b.0) (λ b. absurd (omega (arith, a.1, b.1))) x)
        (λ a. ⊎_elim (λ b. absurd (omega (arith, a.1, b.1))) (λ b. a.0 ∙ sym b.0) x)
        r

    one_lengths : (s t : Setup U) → GetsLengths meaning Quick u m ts q s → GetsLengths meaning Quick u m ts q t → s ≡ t
    one_lengths s t p g =
        let same = one_choice (cost_of ts) (length ts) (PassesOver (meaning u) m ts) q p.0 g.0 p.1 g.1 p.2 g.2 in
        p.3 ∙ ap (λ l. fixed_by u m ts q l) same ∙ sym g.3

    one_made_plan : (s t : Setup U) → GetsPlan meaning Quick u m ts s → GetsPlan meaning Quick u m ts t → s ≡ t
    one_made_plan s t p g =
        let a = p.1 in
        let b = g.1 in
        let same = one_plan (cost_of ts) (length ts) (PassesOver (meaning u) m ts) a.0 b.0 a.1 b.1 a.2 b.2 a.3 b.3 in
        a.4 ∙ ap (λ o. fixed_by u m ts o a.1) same.0 ∙ ap (λ l. fixed_by u m ts b.0 l) same.1 ∙ sym b.4

  pub not_refused : (before : Setup U) (c : Request U) (s : Setup U) (k : ℕ) → Makes meaning Quick before c s → Refuses meaning Quick before c k → ⊥
  not_refused (unfixed m ts) (cores c) s k p r = r.1 p.0
  not_refused (unfixed m ts) (enter t) s k p r = ⊎_elim (λ a. omega (arith, a.1, p.0)) (λ b. b.2 p.1) r
  not_refused (unfixed m ts) (strike i) s k p r = r.1 p.0
  not_refused (unfixed m ts) (amend i c) s k p r = ⊎_elim (λ a. a.1 p.0) (λ b. b.2 p.1) r
  not_refused (unfixed m ts) (fix w) s k p r = r
  not_refused (unfixed m ts) (order xs) s k p r = p
  not_refused (unfixed m ts) (stretch i l) s k p r = p
  not_refused (unfixed m ts) seek_lengths s k p r = p
  not_refused (unfixed m ts) quick_lengths s k p r = p
  not_refused (unfixed m ts) seek_plan s k p r = p
  not_refused (unfixed m ts) quick_plan s k p r = p
  not_refused (unfixed m ts) seek_bounds s k p r = p
  not_refused (unfixed m ts) reopen s k p r = p
  not_refused (fixed_by u m ts q ls) (cores c) s k p r = p
  not_refused (fixed_by u m ts q ls) (enter t) s k p r = p
  not_refused (fixed_by u m ts q ls) (strike i) s k p r = p
  not_refused (fixed_by u m ts q ls) (amend i c) s k p r = p
  not_refused (fixed_by u m ts q ls) (fix w) s k p r = p
  not_refused (fixed_by u m ts q ls) (order xs) s k p r = r.1 p.0
  not_refused (fixed_by u m ts q ls) (stretch i l) s k p r = ⊎_elim (λ a. a.1 p.0) (λ b. b.2 p.1) r
  not_refused (fixed_by u m ts q ls) seek_lengths s k p r = lengths_or_none u m ts q ls s k p r
  not_refused (fixed_by u m ts q ls) quick_lengths s k p r = lengths_or_none u m ts q ls s k p.1 r.1
  not_refused (fixed_by u m ts q ls) seek_plan s k p r = plan_or_none u m ts q ls s k p r
  not_refused (fixed_by u m ts q ls) quick_plan s k p r = plan_or_none u m ts q ls s k p.1 r.1
  not_refused (fixed_by u m ts q ls) seek_bounds s k p r = r.1 p.0.0 p.0.1
  not_refused (fixed_by u m ts q ls) reopen s k p r = r

  pub made_fits : (before : Setup U) (c : Request U) (s : Setup U) → Makes meaning Quick before c s → Unfit meaning Quick before c → ⊥
  made_fits (unfixed m ts) (cores c) s p f = f
  made_fits (unfixed m ts) (enter t) s p f = f
  made_fits (unfixed m ts) (strike i) s p f = f
  made_fits (unfixed m ts) (amend i c) s p f = f
  made_fits (unfixed m ts) (fix w) s p f = f
  made_fits (unfixed m ts) (order xs) s p f = p
  made_fits (unfixed m ts) (stretch i l) s p f = p
  made_fits (unfixed m ts) seek_lengths s p f = p
  made_fits (unfixed m ts) quick_lengths s p f = p
  made_fits (unfixed m ts) seek_plan s p f = p
  made_fits (unfixed m ts) quick_plan s p f = p
  made_fits (unfixed m ts) seek_bounds s p f = p
  made_fits (unfixed m ts) reopen s p f = p
  made_fits (fixed_by u m ts q ls) (cores c) s p f = p
  made_fits (fixed_by u m ts q ls) (enter t) s p f = p
  made_fits (fixed_by u m ts q ls) (strike i) s p f = p
  made_fits (fixed_by u m ts q ls) (amend i c) s p f = p
  made_fits (fixed_by u m ts q ls) (fix w) s p f = p
  made_fits (fixed_by u m ts q ls) (order xs) s p f = f
  made_fits (fixed_by u m ts q ls) (stretch i l) s p f = f
  made_fits (fixed_by u m ts q ls) seek_lengths s p f = f
  made_fits (fixed_by u m ts q ls) quick_lengths s p f = f p.0
  made_fits (fixed_by u m ts q ls) seek_plan s p f = f
  made_fits (fixed_by u m ts q ls) quick_plan s p f = f p.0
  made_fits (fixed_by u m ts q ls) seek_bounds s p f = f
  made_fits (fixed_by u m ts q ls) reopen s p f = f

  pub refused_fits : (before : Setup U) (c : Request U) (k : ℕ) → Refuses meaning Quick before c k → Unfit meaning Quick before c → ⊥
  refused_fits (unfixed m ts) (cores c) k p f = f
  refused_fits (unfixed m ts) (enter t) k p f = f
  refused_fits (unfixed m ts) (strike i) k p f = f
  refused_fits (unfixed m ts) (amend i c) k p f = f
  refused_fits (unfixed m ts) (fix w) k p f = f
  refused_fits (unfixed m ts) (order xs) k p f = p
  refused_fits (unfixed m ts) (stretch i l) k p f = p
  refused_fits (unfixed m ts) seek_lengths k p f = p
  refused_fits (unfixed m ts) quick_lengths k p f = p
  refused_fits (unfixed m ts) seek_plan k p f = p
  refused_fits (unfixed m ts) quick_plan k p f = p
  refused_fits (unfixed m ts) seek_bounds k p f = p
  refused_fits (unfixed m ts) reopen k p f = p
  refused_fits (fixed_by u m ts q ls) (cores c) k p f = p
  refused_fits (fixed_by u m ts q ls) (enter t) k p f = p
  refused_fits (fixed_by u m ts q ls) (strike i) k p f = p
  refused_fits (fixed_by u m ts q ls) (amend i c) k p f = p
  refused_fits (fixed_by u m ts q ls) (fix w) k p f = p
  refused_fits (fixed_by u m ts q ls) (order xs) k p f = f
  refused_fits (fixed_by u m ts q ls) (stretch i l) k p f = f
  refused_fits (fixed_by u m ts q ls) seek_lengths k p f = f
  refused_fits (fixed_by u m ts q ls) quick_lengths k p f = f p.0
  refused_fits (fixed_by u m ts q ls) seek_plan k p f = f
  refused_fits (fixed_by u m ts q ls) quick_plan k p f = f p.0
  refused_fits (fixed_by u m ts q ls) seek_bounds k p f = f
  refused_fits (fixed_by u m ts q ls) reopen k p f = f

  pub one_number : (before : Setup U) (c : Request U) (k j : ℕ) → Refuses meaning Quick before c k → Refuses meaning Quick before c j → k ≡ j
  one_number (unfixed m ts) (cores c) k j r x = r.0 ∙ sym x.0
  one_number (unfixed m ts) (enter t) k j r x = ⊎_elim (λ a. ⊎_elim (λ b. a.0 ∙ sym b.0) (λ b. absurd (omega (arith, a.1, b.1))) x) (λ a. ⊎_elim (λ b. absurd (omega (arith, a.1, b.1))) (λ b. a.0 ∙ sym b.0) x) r
  one_number (unfixed m ts) (strike i) k j r x = r.0 ∙ sym x.0
  one_number (unfixed m ts) (amend i c) k j r x = ⊎_elim (λ a. ⊎_elim (λ b. a.0 ∙ sym b.0) (λ b. absurd (a.1 b.1)) x) (λ a. ⊎_elim (λ b. absurd (b.1 a.1)) (λ b. a.0 ∙ sym b.0) x) r
  one_number (unfixed m ts) (fix w) k j r x = absurd r
  one_number (unfixed m ts) (order xs) k j r x = absurd r
  one_number (unfixed m ts) (stretch i l) k j r x = absurd r
  one_number (unfixed m ts) seek_lengths k j r x = absurd r
  one_number (unfixed m ts) quick_lengths k j r x = absurd r
  one_number (unfixed m ts) seek_plan k j r x = absurd r
  one_number (unfixed m ts) quick_plan k j r x = absurd r
  one_number (unfixed m ts) seek_bounds k j r x = absurd r
  one_number (unfixed m ts) reopen k j r x = absurd r
  one_number (fixed_by u m ts q ls) (cores c) k j r x = absurd r
  one_number (fixed_by u m ts q ls) (enter t) k j r x = absurd r
  one_number (fixed_by u m ts q ls) (strike i) k j r x = absurd r
  one_number (fixed_by u m ts q ls) (amend i c) k j r x = absurd r
  one_number (fixed_by u m ts q ls) (fix w) k j r x = absurd r
  one_number (fixed_by u m ts q ls) (order xs) k j r x = r.0 ∙ sym x.0
  one_number (fixed_by u m ts q ls) (stretch i l) k j r x = ⊎_elim (λ a. ⊎_elim (λ b. a.0 ∙ sym b.0) (λ b. absurd (a.1 b.1)) x) (λ a. ⊎_elim (λ b. absurd (b.1 a.1)) (λ b. a.0 ∙ sym b.0) x) r
  one_number (fixed_by u m ts q ls) seek_lengths k j r x = r.0 ∙ sym x.0
  one_number (fixed_by u m ts q ls) quick_lengths k j r x = r.1.0 ∙ sym x.1.0
  one_number (fixed_by u m ts q ls) seek_plan k j r x = plan_number u m ts q ls k j r x
  one_number (fixed_by u m ts q ls) quick_plan k j r x = plan_number u m ts q ls k j r.1 x.1
  one_number (fixed_by u m ts q ls) seek_bounds k j r x = r.0 ∙ sym x.0
  one_number (fixed_by u m ts q ls) reopen k j r x = absurd r

  pub one_setup : (before : Setup U) (c : Request U) (s t : Setup U) → Makes meaning Quick before c s → Makes meaning Quick before c t → s ≡ t
  one_setup (unfixed m ts) (cores c) s t p g = p.1 ∙ sym g.1
  one_setup (unfixed m ts) (enter y) s t p g = p.2 ∙ sym g.2
  one_setup (unfixed m ts) (strike i) s t p g = p.1 ∙ sym g.1
  one_setup (unfixed m ts) (amend i c) s t p g = p.2 ∙ sym g.2
  one_setup (unfixed m ts) (fix w) s t p g = p ∙ sym g
  one_setup (unfixed m ts) (order xs) s t p g = absurd p
  one_setup (unfixed m ts) (stretch i l) s t p g = absurd p
  one_setup (unfixed m ts) seek_lengths s t p g = absurd p
  one_setup (unfixed m ts) quick_lengths s t p g = absurd p
  one_setup (unfixed m ts) seek_plan s t p g = absurd p
  one_setup (unfixed m ts) quick_plan s t p g = absurd p
  one_setup (unfixed m ts) seek_bounds s t p g = absurd p
  one_setup (unfixed m ts) reopen s t p g = absurd p
  one_setup (fixed_by u m ts q ls) (cores c) s t p g = absurd p
  one_setup (fixed_by u m ts q ls) (enter y) s t p g = absurd p
  one_setup (fixed_by u m ts q ls) (strike i) s t p g = absurd p
  one_setup (fixed_by u m ts q ls) (amend i c) s t p g = absurd p
  one_setup (fixed_by u m ts q ls) (fix w) s t p g = absurd p
  one_setup (fixed_by u m ts q ls) (order xs) s t p g = p.1 ∙ sym g.1
  one_setup (fixed_by u m ts q ls) (stretch i l) s t p g = p.2 ∙ sym g.2
  one_setup (fixed_by u m ts q ls) seek_lengths s t p g = one_lengths u m ts q ls s t p g
  one_setup (fixed_by u m ts q ls) quick_lengths s t p g = one_lengths u m ts q ls s t p.1 g.1
  one_setup (fixed_by u m ts q ls) seek_plan s t p g = one_made_plan u m ts q ls s t p g
  one_setup (fixed_by u m ts q ls) quick_plan s t p g = one_made_plan u m ts q ls s t p.1 g.1
  one_setup (fixed_by u m ts q ls) seek_bounds s t p g = p.1 ∙ sym g.1
  one_setup (fixed_by u m ts q ls) reopen s t p g = p ∙ sym g
