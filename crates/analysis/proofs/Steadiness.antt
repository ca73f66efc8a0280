-- Under a steady rule a longer region passes where a shorter one does.
use Rattle.std.proofs.Common.{◌≡◌, ℕ, ◌+◌, ◌-◌, ◌≤◌, List, length, sym, subst, arith}
use Rattle.interference.specs.declared.rival.Rival.{Rival}
use Rattle.interference.specs.Laws.{Steady}
use Rattle.interference.specs.Questions.{Query, Valid, RivalsWithinLimits, posed, moved}
use Rattle.analysis.specs.Rivals.{TaskWithinLimits}
use Rattle.analysis.specs.Passing.{asked, Meets}
use Rattle.analysis.specs.declared.task.Task.{Task}
use Rattle.analysis.specs.declared.place.Place.{Place}
use Rattle.analysis.specs.Words.{MeetsAt}
use Rattle.analysis.proofs.RivalLaws.{div_grows}

asked_valid : (m : ℕ) (t : Task) (us ls : List Rival) → 1 ≤ m → m ≤ 16 → TaskWithinLimits t → length us + length ls ≤ 31 → RivalsWithinLimits us → RivalsWithinLimits ls → (f : ℕ) → 1 ≤ f → f ≤ t.cost → Valid (asked m t f us ls)
asked_valid m t us ls a b s few hu hl f c d = record { times = (omega arith, omega arith, omega arith, c, omega arith); sizes = (a, b, few); uppers = hu; lowers = hl }

moved_is : (m : ℕ) (t : Task) (us ls : List Rival) (f e : ℕ) → 1 ≤ f → f ≤ e → moved (asked m t f us ls) (e - f) ≡ asked m t e us ls
moved_is m t us ls f e a b =
    let w : t.deadline - (f - 1) - (e - f) ≡ t.deadline - (e - 1) = omega arith in
    let d : t.cost - (f - 1) - (e - f) ≡ t.cost - (e - 1) = omega arith in
    let r : f + (e - f) ≡ e = omega arith in
    (λ i. posed m (w i) (d i) (r i) us ls)

pub longer_meets : (sum : Query → ℕ) → Steady sum → (m : ℕ) (t : Task) (us ls : List Rival) → 1 ≤ m → m ≤ 16 → TaskWithinLimits t → length us + length ls ≤ 31 → RivalsWithinLimits us → RivalsWithinLimits ls
    → (f e : ℕ) → 1 ≤ f → f ≤ e → e ≤ t.cost → Meets sum m t us ls f → Meets sum m t us ls e
longer_meets sum steady m t us ls a b s few hu hl f e c d g h =
    let eq = moved_is m t us ls f e c d in
    let v = asked_valid m t us ls a b s few hu hl f c (omega arith) in
    let w = asked_valid m t us ls a b s few hu hl e (omega arith) g in
    let le : sum (asked m t e us ls) ≤ sum (asked m t f us ls) =
    subst (λ (q : Query). sum q ≤ sum (asked m t f us ls)) eq (steady (asked m t f us ls) (e - f) v (subst (λ (q : Query). Valid q) (sym eq) w)) in
    omega (arith, div_grows (sum (asked m t e us ls)) (sum (asked m t f us ls)) m a le)

pub longer_passes : (sum : Query → ℕ) → Steady sum → (p : Place) (f e : ℕ) → 1 ≤ f → f ≤ e → e ≤ p.task.cost → MeetsAt sum p f → MeetsAt sum p e
longer_passes sum steady p f e = longer_meets sum steady p.cores p.task p.upper.now p.lower.now p.some p.most p.limits p.few p.uppers p.lowers f e
