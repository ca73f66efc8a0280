-- The sums of the two bottom rules over a task's rivals, written over tasks.
use Rattle.std.proofs.Common.{◌≡◌, ℕ, zero, suc, ◌+◌, ◌-◌, ◌/◌, ◌<◌, ◌≤◌, Bool, true, false, cond, List, [], ◌∷◌, ◌++◌, map, length, get_or, MatchBool, sum_by, sym, refl, ap, ◌∙◌, subst, arith}
use Rattle.std.proofs.lemmas.List.{map-append}
use Rattle.std.proofs.lemmas.List.Sums.{sum_by-append, sum_by-cons}
use Rattle.interference.specs.declared.rival.Rival.{Rival}
use Rattle.interference.specs.Questions.{Query, posed}
use Rattle.interference.specs.Shares.{carry_in_share, plain_share}
use Rattle.interference.specs.Sums.{full_sum, limited_sum, greatest_total, carried}
use Rattle.interference.specs.Mixed.{top}
use Rattle.interference.specs.Greatest.{greatest_top}
use Rattle.analysis.specs.declared.task.Task.{Task}
use Rattle.analysis.specs.Rivals.{no_task, cost_of, limit_of, finish_limits, under, picked, rival_of, upper_rival, lower_rival, uppers, lowers}
use Rattle.analysis.specs.Passing.{Passes}
use Rattle.analysis.specs.Bounds.{Solution}
use Rattle.analysis.specs.Words.{Tells}
use Rattle.analysis.specs.FourTests.{higher, lower, over, full_interference, limited_interference, before_region, start_limit, DeadlineAnalysis, LimitedDeadlineAnalysis, ResponseTimeAnalysis, LimitedResponseTimeAnalysis, ResponseTime, Equivalent}
use Rattle.analysis.proofs.RivalLaws.{limit_at}

sum_cond : {X : Type 0} (f : X → ℕ) (b : Bool) (x : X) → sum_by f (cond b (x ∷ []) []) ≡ cond b (f x) 0
sum_cond f true x = omega (arith, sum_by-cons f x [])
sum_cond f false x = refl

sum_picked : {X : Type 0} (f : X → ℕ) (p : ℕ → Bool) (g : ℕ → X) (n : ℕ) → sum_by f (picked p g n) ≡ over p (λ j. f (g j)) n
sum_picked f p g zero = refl
sum_picked f p g (suc n) = omega (arith, sum_by-append f (picked p g n) (cond (p n) (g n ∷ []) []), sum_cond f (p n) (g n), sum_picked f p g n)

picked_same : {X : Type 0} (p : ℕ → Bool) (g h : ℕ → X) (n : ℕ) → ((j : ℕ) → j < n → g j ≡ h j) → picked p g n ≡ picked p h n
picked_same p g h zero e = refl
picked_same p g h (suc n) e = (λ i. picked_same p g h n (λ j l. e j (omega arith)) i ++ cond (p n) (e n (omega arith) i ∷ []) [])

map_cond : {X Y : Type 0} (g : X → Y) (b : Bool) (x : X) → cond b (g x ∷ []) [] ≡ map g (cond b (x ∷ []) [])
map_cond g true x = refl
map_cond g false x = refl

picked_map : {X : Type 0} (p : ℕ → Bool) (g : ℕ → X) (n : ℕ) → picked p g n ≡ map g (picked p (λ j. j) n)
picked_map p g zero = refl
picked_map p g (suc n) =
    (λ i. picked_map p g n i ++ map_cond g (p n) n i) ∙ sym (map-append g (picked p (λ j. j) n) (cond (p n) (n ∷ []) []))

top_map : {X Y : Type 0} (f : Y → ℕ) (g : X → Y) (n : ℕ) (xs : List X) → top f n (map g xs) ≡ top (λ x. f (g x)) n xs
top_map f g n [] = refl
top_map f g zero (x ∷ xs) = refl
top_map f g (suc n) (x ∷ xs) = omega (arith, top_map f g n xs, top_map f g (suc n) xs)

greatest_picked : {X : Type 0} (f : X → ℕ) (p : ℕ → Bool) (g : ℕ → X) (m n : ℕ)
    → greatest_total f m (picked p g n) ≡ greatest_total (λ j. f (g j)) m (picked p (λ j. j) n)
greatest_picked f p g m n =
    ap (greatest_total f m) (picked_map p g n) ∙ greatest_top f m (map g (picked p (λ j. j) n)) ∙ top_map f g m (picked p (λ j. j) n)
    ∙ sym (greatest_top (λ j. f (g j)) m (picked p (λ j. j) n))

-- rivals by a function of latest finishes
abbrev upper_by : List Task → (ℕ → ℕ) → ℕ → Rival
upper_by ts late j = rival_of (get_or ts j no_task) (cost_of ts j) (late j)

abbrev lower_by : List Task → List ℕ → (ℕ → ℕ) → ℕ → Rival
lower_by ts lens late j = rival_of (get_or ts j no_task) (get_or lens j 0 - 1) (late j)

module _ (m : ℕ) (ts : List Task) (q lens : List ℕ) (k : ℕ) (late : List ℕ) (by : ℕ → ℕ) (same : (j : ℕ) → j < length ts → get_or late j 0 ≡ by j) (l : ℕ) where
  uppers_are : uppers ts late (under q k) k ≡ picked (higher q k) (upper_by ts by) (length ts)
  uppers_are = picked_same (higher q k) (upper_rival ts late) (upper_by ts by) (length ts) (λ j h. ap (rival_of (get_or ts j no_task) (cost_of ts j)) (same j h))

  lowers_are : lowers ts late lens (under q k) k ≡ picked (lower q k) (lower_by ts lens by) (length ts)
  lowers_are = picked_same (lower q k) (lower_rival ts late lens) (lower_by ts lens by) (length ts) (λ j h. ap (rival_of (get_or ts j no_task) (get_or lens j 0 - 1)) (same j h))

  pub full_written : full_sum (posed m l (before_region ts lens k) (get_or lens k 0) (uppers ts late (under q k) k) (lowers ts late lens (under q k) k))
      ≡ full_interference ts q lens k by l (before_region ts lens k)
  full_written =
      let x = posed m l (before_region ts lens k) (get_or lens k 0) [] [] in
      omega (
        arith,
        ap (sum_by (carry_in_share x)) uppers_are,
        ap (sum_by (carry_in_share x)) lowers_are,
        sum_picked (carry_in_share x) (higher q k) (upper_by ts by) (length ts),
        sum_picked (carry_in_share x) (lower q k) (lower_by ts lens by) (length ts),
      )

  pub limited_written : limited_sum (posed m l (before_region ts lens k) (get_or lens k 0) (uppers ts late (under q k) k) (lowers ts late lens (under q k) k))
      ≡ limited_interference m ts q lens k by l (before_region ts lens k)
  limited_written =
      let x = posed m l (before_region ts lens k) (get_or lens k 0) [] [] in
      omega (
        arith,
        ap (sum_by (plain_share x)) uppers_are,
        ap (sum_by (carry_in_share x)) lowers_are,
        ap (greatest_total (carried x) (m - 1)) uppers_are,
        sum_picked (plain_share x) (higher q k) (upper_by ts by) (length ts),
        sum_picked (carry_in_share x) (lower q k) (lower_by ts lens by) (length ts),
        greatest_picked (carried x) (higher q k) (upper_by ts by) (m - 1) (length ts),
      )

-- a decision of one is a decision of the other, beside any other fact
pub when_same : (A B C : Type 0) (b : Bool) → Equivalent B C → MatchBool b (A × B) (A × B → ⊥) → MatchBool b (A × C) (A × C → ⊥)
when_same A B C true e h = (h.0, e.0 h.1)
when_same A B C false e h = λ x. h (x.0, e.1 x.1)

-- the test of a task under a rule, where its sum is what is taken
passes_written : (sum : Query → ℕ) (m : ℕ) (ts : List Task) (q lens : List ℕ) (k y : ℕ)
    → sum (posed m (start_limit ts lens k) (before_region ts lens k) (get_or lens k 0) (uppers ts (finish_limits ts) (under q k) k) (lowers ts (finish_limits ts) lens (under q k) k)) ≡ y
    → Equivalent (Passes sum m ts q lens k) (before_region ts lens k + y / m ≤ start_limit ts lens k)
passes_written sum m ts q lens k y e =
    let P : ℕ → Type 0 = λ z. before_region ts lens k + z / m ≤ start_limit ts lens k in
    (λ h. subst P e h, λ h. subst P (sym e) h)

pub deadline_written : (m : ℕ) (ts : List Task) (q lens : List ℕ) (k : ℕ) → Equivalent (Passes full_sum m ts q lens k) (DeadlineAnalysis m ts q lens k)
deadline_written m ts q lens k = passes_written full_sum m ts q lens k _ (full_written m ts q lens k (finish_limits ts) (limit_of ts) (limit_at ts) (start_limit ts lens k))

pub limited_deadline_written : (m : ℕ) (ts : List Task) (q lens : List ℕ) (k : ℕ) → Equivalent (Passes limited_sum m ts q lens k) (LimitedDeadlineAnalysis m ts q lens k)
limited_deadline_written m ts q lens k = passes_written limited_sum m ts q lens k _ (limited_written m ts q lens k (finish_limits ts) (limit_of ts) (limit_at ts) (start_limit ts lens k))

-- bounds under a rule, where its sum is what is taken
solution_written : (sum : Query → ℕ) (m : ℕ) (ts : List Task) (q lens bounds : List ℕ) (taken : ℕ → (ℕ → ℕ) → ℕ → ℕ)
    → ((k r : ℕ) → sum (posed m r (before_region ts lens k) (get_or lens k 0) (uppers ts bounds (under q k) k) (lowers ts bounds lens (under q k) k)) ≡ taken k (λ j. get_or bounds j 0) r)
    → Equivalent (Solution sum m ts q lens bounds) ((k : ℕ) → k < length ts → ResponseTime m ts lens bounds (taken k) k)
solution_written sum m ts q lens bounds taken e = (
  λ s k h. let w = s.within k h in let r = s.solves k h in (w.0, w.1, (r.0, r.1, r.2 ∙ ap (λ y. before_region ts lens k + y / m) (e k r.0))),
  λ t. record {
    within = λ k h. ((t k h).0, (t k h).1);
    solves = λ k h. let r = (t k h).2 in (r.0, r.1, r.2 ∙ sym (ap (λ y. before_region ts lens k + y / m) (e k r.0)));
  },
)

pub response_written : (m : ℕ) (ts : List Task) (q lens bounds : List ℕ) → Equivalent (Solution full_sum m ts q lens bounds) (ResponseTimeAnalysis m ts q lens bounds)
response_written m ts q lens bounds =
    solution_written full_sum m ts q lens bounds (λ k late r. full_interference ts q lens k late r (before_region ts lens k))
    (λ k r. full_written m ts q lens k bounds (λ j. get_or bounds j 0) (λ j h. refl) r)

pub limited_response_written : (m : ℕ) (ts : List Task) (q lens bounds : List ℕ) → Equivalent (Solution limited_sum m ts q lens bounds) (LimitedResponseTimeAnalysis m ts q lens bounds)
limited_response_written m ts q lens bounds =
    solution_written limited_sum m ts q lens bounds (λ k late r. limited_interference m ts q lens k late r (before_region ts lens k))
    (λ k r. limited_written m ts q lens k bounds (λ j. get_or bounds j 0) (λ j h. refl) r)

-- how a decision of one is read as a decision of the other
pub deadline_tells : (m : ℕ) (ts : List Task) (q lens : List ℕ) (k : ℕ) (b : Bool) → Tells b ((k < length ts) × Passes full_sum m ts q lens k) → Tells b ((k < length ts) × DeadlineAnalysis m ts q lens k)
deadline_tells m ts q lens k b h = when_same _ _ _ b (deadline_written m ts q lens k) h

pub limited_deadline_tells : (m : ℕ) (ts : List Task) (q lens : List ℕ) (k : ℕ) (b : Bool) → Tells b ((k < length ts) × Passes limited_sum m ts q lens k) → Tells b ((k < length ts) × LimitedDeadlineAnalysis m ts q lens k)
limited_deadline_tells m ts q lens k b h = when_same _ _ _ b (limited_deadline_written m ts q lens k) h

pub response_tells : (m : ℕ) (ts : List Task) (q lens bounds : List ℕ) (b : Bool) → Tells b ((length ts ≤ length bounds) × Solution full_sum m ts q lens bounds) → Tells b ((length ts ≤ length bounds) × ResponseTimeAnalysis m ts q lens bounds)
response_tells m ts q lens bounds b h = when_same _ _ _ b (response_written m ts q lens bounds) h

pub limited_response_tells : (m : ℕ) (ts : List Task) (q lens bounds : List ℕ) (b : Bool) → Tells b ((length ts ≤ length bounds) × Solution limited_sum m ts q lens bounds) → Tells b ((length ts ≤ length bounds) × LimitedResponseTimeAnalysis m ts q lens bounds)
limited_response_tells m ts q lens bounds b h = when_same _ _ _ b (limited_response_written m ts q lens bounds) h
