-- The bound equations of a table rise with the bounds.
use Rattle.std.proofs.Common.{◌≡◌, ℕ, ◌+◌, ◌-◌, ◌<◌, ◌≤◌, not, eqb, List, length, get_or, refl, ap, ◌∙◌, subst, arith}
use Rattle.std.proofs.lemmas.Bool.{and_parts, not-true, eqb-false}
use Rattle.interference.specs.declared.rival.Rival.{Rival}
use Rattle.interference.specs.Laws.{NoEarlier, NoSmaller, Lawful}
use Rattle.interference.proofs.GrowthLaws.{grows_together}
use Rattle.interference.specs.Questions.{Query, Valid, RivalsWithinLimits, posed}
use Rattle.analysis.specs.Rivals.{finish_limit, TasksWithinLimits, cost_of, among, above, below, upper_rival, lower_rival, uppers, lowers, limit_of, under}
use Rattle.analysis.specs.Plans.{IsChoice, IsOrder}
use Rattle.analysis.specs.declared.level.Finishes.{Finishes}
use Rattle.analysis.specs.declared.level.Finishes.TheVariants.{Limits, Bounds}
use Rattle.analysis.specs.Finishes.{latest, Fit}
use Rattle.analysis.specs.Bounds.{next_bound, bound_of, response_of, BoundsWithin, Solution, LeastSolution, NoSolution}
use Rattle.analysis.specs.Steps.{Overrun, Rising}
use Rattle.analysis.specs.declared.task.Task.{Task}
use Rattle.analysis.specs.declared.place.Place.{Place}
use Rattle.analysis.specs.Words.{RegionOf, next_at}
use Rattle.analysis.proofs.Among.{everyone}
use Rattle.analysis.proofs.Picked.{each_picked}
use Rattle.analysis.proofs.RivalLaws.{limits_late, Late, question_valid, div_grows}

-- within the finish_limits
pub within_late : (ts : List Task) → TasksWithinLimits ts → (bs : List ℕ) → BoundsWithin (length ts) (cost_of ts) (limit_of ts) bs → Late ts bs
within_late ts s bs w j l = let h = s j l in let b = w j l in (omega arith, omega arith)

-- so are the latest finishes of a level
pub fit_late : (ts : List Task) → TasksWithinLimits ts → (late : Finishes) → Fit ts late → Late ts (latest ts late)
fit_late ts s Limits f = limits_late ts s
fit_late ts s (Bounds bs) f = within_late ts s bs.now f.1

pub valid_bound : (m c f d b : ℕ) (us ls : List Rival) → 1 ≤ m → m ≤ 16 → 1 ≤ f → f ≤ c → c ≤ b → b ≤ d → d ≤ 65535 → length us + length ls ≤ 31 → RivalsWithinLimits us → RivalsWithinLimits ls
    → Valid (posed m (b - (f - 1)) (c - (f - 1)) f us ls)
valid_bound m c f d b us ls a h i j k l o few hu hl =
    record { times = (omega arith, omega arith, omega arith, omega arith, omega arith); sizes = (a, h, few); uppers = hu; lowers = hl }

-- one task's own equation rises with its bound
pub next_bound_widens : (sum : Query → ℕ) → Lawful sum → (m c f : ℕ) (us ls : List Rival) → 1 ≤ m → (v w : ℕ) → v ≤ w
    → Valid (posed m (v - (f - 1)) (c - (f - 1)) f us ls) → Valid (posed m (w - (f - 1)) (c - (f - 1)) f us ls) → next_bound sum m c f us ls v ≤ next_bound sum m c f us ls w
next_bound_widens sum laws m c f us ls pos v w le a b =
    let h = laws.window_grows (posed m (v - (f - 1)) (c - (f - 1)) f us ls) (w - (f - 1)) a b (omega arith) in
    omega (arith, div_grows (sum (posed m (v - (f - 1)) (c - (f - 1)) f us ls)) (sum (posed m (w - (f - 1)) (c - (f - 1)) f us ls)) m pos h)

module _ (sum : Query → ℕ) (laws : Lawful sum) (m : ℕ) (some : 1 ≤ m) (most : m ≤ 16) (ts : List Task) (sound : TasksWithinLimits ts) (few : length ts ≤ 32) (q lens : List ℕ) (choice : IsChoice (cost_of ts) (length ts) lens) where
  valid_at : (k : ℕ) → k < length ts → (bs : List ℕ) → BoundsWithin (length ts) (cost_of ts) (limit_of ts) bs → (v : ℕ) → cost_of ts k ≤ v → v ≤ limit_of ts k
      → Valid (posed m (v - (get_or lens k 0 - 1)) (cost_of ts k - (get_or lens k 0 - 1)) (get_or lens k 0) (uppers ts bs (under q k) k) (lowers ts bs lens (under q k) k))
  valid_at k here bs w v a b =
      let h = sound k here in
      let c = choice k here in
      question_valid ts sound few bs (within_late ts sound bs w) (under q k) k here lens choice m _ _ (get_or lens k 0) some most (omega arith) (omega arith) (omega arith) (omega arith) (omega arith)

  pub bound_up : (k : ℕ) (xs bs : List ℕ) → k < length ts → BoundsWithin (length ts) (cost_of ts) (limit_of ts) xs → BoundsWithin (length ts) (cost_of ts) (limit_of ts) bs
      → ((j : ℕ) → j < length ts → (j ≡ k → ⊥) → get_or xs j 0 ≤ get_or bs j 0) → (v w : ℕ) → cost_of ts k ≤ v → v ≤ w → w ≤ limit_of ts k
      → bound_of sum m ts q lens k xs v ≤ bound_of sum m ts q lens k bs w
  bound_up k xs bs here wx wb less v w a le b =
      let low = under q k in
      let f = get_or lens k 0 in
      let e = cost_of ts k - (f - 1) in
      let x = posed m (v - (f - 1)) e f (uppers ts xs low k) (lowers ts xs lens low k) in
      let y = posed m (w - (f - 1)) e f (uppers ts bs low k) (lowers ts bs lens low k) in
      let hu = each_picked NoEarlier (above low k) (upper_rival ts xs) (upper_rival ts bs) (length ts)
      (λ j s h. (less j s (eqb-false j k (not-true (eqb j k) (and_parts (not (eqb j k)) (not (among low j)) h).0)), refl)) in
      let hl = each_picked NoSmaller (below low k) (lower_rival ts xs lens) (lower_rival ts bs lens) (length ts)
      (λ j s h. (less j s (eqb-false j k (not-true (eqb j k) (and_parts (not (eqb j k)) (among low j) h).0)), omega arith, refl)) in
      let h : sum x ≤ sum y = grows_together sum laws x y
      (valid_at k here xs wx v a (omega arith)) (valid_at k here bs wb w (omega arith) b) (record { cores = refl; demand = refl; region = refl; window = omega arith; upper = hu; lower = hl }) in
      omega (arith, div_grows (sum x) (sum y) m some h)

  -- the two ways to say that bounds solve the equations
  pub solution_keeps : (bs : List ℕ) → Solution sum m ts q lens bs → (k : ℕ) → k < length ts → bound_of sum m ts q lens k bs (get_or bs k 0) ≡ get_or bs k 0
  solution_keeps bs s k l =
      let r = s.solves k l in
      let f = get_or lens k 0 in
      let e : get_or bs k 0 - (f - 1) ≡ r.0 = omega (arith, r.1) in
      ap (λ x. f - 1 + response_of sum m ts q lens k bs x) e ∙ omega (arith, r.1, r.2)

  pub keeps_solution : (bs : List ℕ) → BoundsWithin (length ts) (cost_of ts) (limit_of ts) bs → ((k : ℕ) → k < length ts → bound_of sum m ts q lens k bs (get_or bs k 0) ≡ get_or bs k 0) → Solution sum m ts q lens bs
  keeps_solution bs w h = record {
    within = w;
    solves = λ k l.
        let f = get_or lens k 0 in
        let c = choice k l in
        let b = w k l in
        let e = h k l in
        (get_or bs k 0 - (f - 1), omega arith, omega arith);
  }

pub next_bound_grows : (sum : Query → ℕ) → Lawful sum → (m c f d : ℕ) (us ls : List Rival) → 1 ≤ m → m ≤ 16 → 1 ≤ f → f ≤ c → d ≤ 65535 → length us + length ls ≤ 31 → RivalsWithinLimits us → RivalsWithinLimits ls
    → (v w : ℕ) → c ≤ v → v ≤ w → w ≤ d → next_bound sum m c f us ls v ≤ next_bound sum m c f us ls w
next_bound_grows sum laws m c f d us ls a b e g h few hu hl v w i j k =
    next_bound_widens sum laws m c f us ls a v w j
    (valid_bound m c f d v us ls a b e g i (omega arith) h few hu hl) (valid_bound m c f d w us ls a b e g (omega arith) k h few hu hl)

-- the same of a task between its rivals
pub next_grows : (sum : Query → ℕ) → Lawful sum → (p : Place) (f : ℕ) → RegionOf p f → (v w : ℕ) → p.task.cost ≤ v → v ≤ w → w ≤ finish_limit p.task → next_at sum p f v ≤ next_at sum p f w
next_grows sum laws p f r =
    let h = p.limits in
    next_bound_grows sum laws p.cores p.task.cost f (finish_limit p.task) p.upper.now p.lower.now p.some p.most r.0 r.1 (omega arith) p.few p.uppers p.lowers

-- bounds that rose, and solve the equation at each place, are the least solution
module _ (sum : Query → ℕ) (laws : Lawful sum) (m : ℕ) (some : 1 ≤ m) (most : m ≤ 16) (ts : List Task) (sound : TasksWithinLimits ts) (few : length ts ≤ 32) (q lens : List ℕ) (choice : IsChoice (cost_of ts) (length ts) lens) where
  pub rising_least : IsOrder (length ts) q → (bs : List ℕ) → Rising (length ts) (cost_of ts) (limit_of ts) (bound_of sum m ts q lens) bs
      → ((i : ℕ) → i < length q → bound_of sum m ts q lens (get_or q i 0) bs (get_or bs (get_or q i 0) 0) ≡ get_or bs (get_or q i 0) 0) → LeastSolution sum m ts q lens bs
  rising_least order bs r h = record {
    solution = keeps_solution sum laws m some most ts sound few q lens choice bs r.within
        (λ k l.
        let e = everyone (length ts) q order k l in
        subst (λ j. bound_of sum m ts q lens j bs (get_or bs j 0) ≡ get_or bs j 0) e.2 (h e.0 e.1));
    least = λ o s. r.below o s.within (λ k l. let e = solution_keeps sum laws m some most ts sound few q lens choice o s k l in omega arith);
  }

  pub overrun_unsolved : Overrun sum m ts q lens → NoSolution sum m ts q lens
  overrun_unsolved h o s = h o s.within (λ k l. let e = solution_keeps sum laws m some most ts sound few q lens choice o s k l in omega arith)
