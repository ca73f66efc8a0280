-- What any sequence of calls may rely on. It is said over any type U of rules that a table can be fixed under, with
-- what each means, and which of them take the quick searches.
use Rattle.std.specs.Prelude.{◌≡◌, ℕ, ◌-◌, ◌<◌, ◌≤◌, true, false, ◌⊎◌, List, [], ◌∷◌, ◌++◌, length, take, drop, replicate, slice_set}
use Rattle.interference.specs.Questions.{Query}
use Rattle.analysis.specs.declared.task.Task.{Task}
use Rattle.analysis.specs.Rivals.{TaskWithinLimits}
use Rattle.analysis.specs.Plans.{LeastLengths, FirstPlan}
use Rattle.analysis.specs.Bounds.{Solution, LeastSolution}
use Rattle.planner.specs.Tables.{Open, opened, Fixed, fixed, downward}
use Rattle.planner.specs.Calls.{CoresWithinLimits, HasTask, task_numbered, with_cost, upward, NamesEach, LengthFits, CoresRefuses, EnterRefuses, StrikeRefuses, AmendRefuses, OrderRefuses, StretchRefuses, LengthsRefuses, PlanRefuses, BoundsRefuses}

-- a call with its input
pub data Request (U : Type 0) : Type 0 where
  cores : ℕ → Request U
  enter : Task → Request U
  strike : ℕ → Request U
  amend : ℕ → ℕ → Request U
  fix : U → Request U
  order : List ℕ → Request U
  stretch : ℕ → ℕ → Request U
  seek_lengths : Request U
  quick_lengths : Request U
  seek_plan : Request U
  quick_plan : Request U
  seek_bounds : Request U
  reopen : Request U

-- cores and tasks; of a fixed table also the rule, the order and the lengths
pub data Setup (U : Type 0) : Type 0 where
  unfixed : ℕ → List Task → Setup U
  fixed_by : U → ℕ → List Task → List ℕ → List ℕ → Setup U

-- what came of a call
pub data Came : Type 0 where
  done : Came
  refused : ℕ → Came
  not_applicable : Came

-- a table between two calls, with its marks and bounds
pub data State (U : Type 0) : Type 0 where
  still : Open → State U
  joined : U → Fixed → State U

abbrev pub setup : {U : Type 0} → State U → Setup U
setup (still m) = unfixed m.cores m.tasks
setup (joined u m) = fixed_by u m.cores m.tasks m.order m.lengths

-- what a setup says of a fixed table
abbrev pub of_setup : ℕ → List Task → List ℕ → List ℕ → Fixed
of_setup m ts q ls = fixed m ts q ls [] false false

module _ {U : Type 0} (meaning : U → Query → ℕ) (Quick : U → Type 0) where
  -- the refusal, by its number, that a call gets for a condition on the setup and its input
  abbrev pub Refuses : Setup U → Request U → ℕ → Type 0
  Refuses (unfixed m ts) (cores c) k = CoresRefuses (opened m ts) c k
  Refuses (unfixed m ts) (enter t) k = EnterRefuses (opened m ts) t k
  Refuses (unfixed m ts) (strike i) k = StrikeRefuses (opened m ts) i k
  Refuses (unfixed m ts) (amend i c) k = AmendRefuses (opened m ts) i c k
  Refuses (unfixed m ts) (fix u) k = ⊥
  Refuses (unfixed m ts) (order xs) k = ⊥
  Refuses (unfixed m ts) (stretch i l) k = ⊥
  Refuses (unfixed m ts) seek_lengths k = ⊥
  Refuses (unfixed m ts) quick_lengths k = ⊥
  Refuses (unfixed m ts) seek_plan k = ⊥
  Refuses (unfixed m ts) quick_plan k = ⊥
  Refuses (unfixed m ts) seek_bounds k = ⊥
  Refuses (unfixed m ts) reopen k = ⊥
  Refuses (fixed_by u m ts q ls) (cores c) k = ⊥
  Refuses (fixed_by u m ts q ls) (enter t) k = ⊥
  Refuses (fixed_by u m ts q ls) (strike i) k = ⊥
  Refuses (fixed_by u m ts q ls) (amend i c) k = ⊥
  Refuses (fixed_by u m ts q ls) (fix v) k = ⊥
  Refuses (fixed_by u m ts q ls) (order xs) k = OrderRefuses (of_setup m ts q ls) xs k
  Refuses (fixed_by u m ts q ls) (stretch i l) k = StretchRefuses (of_setup m ts q ls) i l k
  Refuses (fixed_by u m ts q ls) seek_lengths k = LengthsRefuses (of_setup m ts q ls) (meaning u) k
  Refuses (fixed_by u m ts q ls) quick_lengths k = Quick u × LengthsRefuses (of_setup m ts q ls) (meaning u) k
  Refuses (fixed_by u m ts q ls) seek_plan k = PlanRefuses (of_setup m ts q ls) (meaning u) k
  Refuses (fixed_by u m ts q ls) quick_plan k = Quick u × PlanRefuses (of_setup m ts q ls) (meaning u) k
  Refuses (fixed_by u m ts q ls) seek_bounds k = BoundsRefuses (of_setup m ts q ls) (meaning u) k
  Refuses (fixed_by u m ts q ls) reopen k = ⊥

  -- the lengths, or the plan, that a search makes of a setup
  abbrev pub GetsLengths : U → ℕ → List Task → List ℕ → Setup U → Type 0
  GetsLengths u m ts q s = (lens : List ℕ) × (length lens ≡ length ts) × LeastLengths (meaning u) m ts q lens × (s ≡ fixed_by u m ts q lens)

  abbrev pub GetsPlan : U → ℕ → List Task → Setup U → Type 0
  GetsPlan u m ts s = (length ts ≤ 8) × ((q : List ℕ) × (lens : List ℕ) × (length lens ≡ length ts) × FirstPlan (meaning u) m ts q lens × (s ≡ fixed_by u m ts q lens))

  -- the setup that a call makes of another
  abbrev pub Makes : Setup U → Request U → Setup U → Type 0
  Makes (unfixed m ts) (cores c) s = CoresWithinLimits c × (s ≡ unfixed c ts)
  Makes (unfixed m ts) (enter t) s = (length ts < 32) × TaskWithinLimits t × (s ≡ unfixed m (ts ++ t ∷ []))
  Makes (unfixed m ts) (strike i) s = HasTask ts i × (s ≡ unfixed m (take (i - 1) ts ++ drop i ts))
  Makes (unfixed m ts) (amend i c) s =
      HasTask ts i × TaskWithinLimits (with_cost (task_numbered ts i) c) × (s ≡ unfixed m (slice_set ts (i - 1) (with_cost (task_numbered ts i) c)))
  Makes (unfixed m ts) (fix u) s = s ≡ fixed_by u m ts (downward (length ts)) (replicate (length ts) 1)
  Makes (unfixed m ts) (order xs) s = ⊥
  Makes (unfixed m ts) (stretch i l) s = ⊥
  Makes (unfixed m ts) seek_lengths s = ⊥
  Makes (unfixed m ts) quick_lengths s = ⊥
  Makes (unfixed m ts) seek_plan s = ⊥
  Makes (unfixed m ts) quick_plan s = ⊥
  Makes (unfixed m ts) seek_bounds s = ⊥
  Makes (unfixed m ts) reopen s = ⊥
  Makes (fixed_by u m ts q ls) (cores c) s = ⊥
  Makes (fixed_by u m ts q ls) (enter t) s = ⊥
  Makes (fixed_by u m ts q ls) (strike i) s = ⊥
  Makes (fixed_by u m ts q ls) (amend i c) s = ⊥
  Makes (fixed_by u m ts q ls) (fix v) s = ⊥
  Makes (fixed_by u m ts q ls) (order xs) s = NamesEach (length ts) xs × (s ≡ fixed_by u m ts (upward xs) ls)
  Makes (fixed_by u m ts q ls) (stretch i l) s = HasTask ts i × LengthFits (of_setup m ts q ls) i l × (s ≡ fixed_by u m ts q (slice_set ls (i - 1) l))
  Makes (fixed_by u m ts q ls) seek_lengths s = GetsLengths u m ts q s
  Makes (fixed_by u m ts q ls) quick_lengths s = Quick u × GetsLengths u m ts q s
  Makes (fixed_by u m ts q ls) seek_plan s = GetsPlan u m ts s
  Makes (fixed_by u m ts q ls) quick_plan s = Quick u × GetsPlan u m ts s
  Makes (fixed_by u m ts q ls) seek_bounds s = ((bs : List ℕ) × Solution (meaning u) m ts q ls bs) × (s ≡ fixed_by u m ts q ls)
  Makes (fixed_by u m ts q ls) reopen s = s ≡ unfixed m ts

  -- a call that is not for a table of this kind
  abbrev pub Unfit : Setup U → Request U → Type 0
  Unfit (unfixed m ts) (cores c) = ⊥
  Unfit (unfixed m ts) (enter t) = ⊥
  Unfit (unfixed m ts) (strike i) = ⊥
  Unfit (unfixed m ts) (amend i c) = ⊥
  Unfit (unfixed m ts) (fix u) = ⊥
  Unfit (unfixed m ts) (order xs) = Unit {0}
  Unfit (unfixed m ts) (stretch i l) = Unit {0}
  Unfit (unfixed m ts) seek_lengths = Unit {0}
  Unfit (unfixed m ts) quick_lengths = Unit {0}
  Unfit (unfixed m ts) seek_plan = Unit {0}
  Unfit (unfixed m ts) quick_plan = Unit {0}
  Unfit (unfixed m ts) seek_bounds = Unit {0}
  Unfit (unfixed m ts) reopen = Unit {0}
  Unfit (fixed_by u m ts q ls) (cores c) = Unit {0}
  Unfit (fixed_by u m ts q ls) (enter t) = Unit {0}
  Unfit (fixed_by u m ts q ls) (strike i) = Unit {0}
  Unfit (fixed_by u m ts q ls) (amend i c) = Unit {0}
  Unfit (fixed_by u m ts q ls) (fix v) = Unit {0}
  Unfit (fixed_by u m ts q ls) (order xs) = ⊥
  Unfit (fixed_by u m ts q ls) (stretch i l) = ⊥
  Unfit (fixed_by u m ts q ls) seek_lengths = ⊥
  Unfit (fixed_by u m ts q ls) quick_lengths = Quick u → ⊥
  Unfit (fixed_by u m ts q ls) seek_plan = ⊥
  Unfit (fixed_by u m ts q ls) quick_plan = Quick u → ⊥
  Unfit (fixed_by u m ts q ls) seek_bounds = ⊥
  Unfit (fixed_by u m ts q ls) reopen = ⊥

  -- The setup after a call follows from the one before it and the call: by its conditions alone, without what came of
  -- it, marks or bounds.
  abbrev pub Follows : Setup U → Request U → Setup U → Type 0
  Follows s c s' = Makes s c s' ⊎ ((((k : ℕ) × Refuses s c k) ⊎ Unfit s c) × (s' ≡ s))

  -- The marks and bounds that a call which was carried out leaves; bounds are set by their search alone.
  abbrev pub Marked : Request U → State U → State U → Type 0
  Marked c s (still n) = Unit {0}
  Marked (fix u) s (joined v n) = n ≡ fixed n.cores n.tasks n.order n.lengths (replicate (length n.tasks) 0) false false
  Marked (order xs) s (joined v n) = n ≡ fixed n.cores n.tasks n.order n.lengths (replicate (length n.tasks) 0) false false
  Marked (stretch i l) s (joined v n) = n ≡ fixed n.cores n.tasks n.order n.lengths (replicate (length n.tasks) 0) false false
  Marked seek_lengths s (joined v n) = n ≡ fixed n.cores n.tasks n.order n.lengths (replicate (length n.tasks) 0) true false
  Marked quick_lengths s (joined v n) = n ≡ fixed n.cores n.tasks n.order n.lengths (replicate (length n.tasks) 0) true false
  Marked seek_plan s (joined v n) = n ≡ fixed n.cores n.tasks n.order n.lengths (replicate (length n.tasks) 0) true false
  Marked quick_plan s (joined v n) = n ≡ fixed n.cores n.tasks n.order n.lengths (replicate (length n.tasks) 0) true false
  Marked seek_bounds (joined u m) (joined v n) =
      (n.passed ≡ m.passed) × (n.bounded ≡ true) × (length n.bounds ≡ length n.tasks) × LeastSolution (meaning v) n.cores n.tasks n.order n.lengths n.bounds
  Marked seek_bounds (still m) (joined v n) = ⊥
  Marked (cores c) s (joined v n) = ⊥
  Marked (enter t) s (joined v n) = ⊥
  Marked (strike i) s (joined v n) = ⊥
  Marked (amend i c) s (joined v n) = ⊥
  Marked reopen s (joined v n) = ⊥

  -- One call: the table before it, what came of it, and the table after it.
  abbrev pub Turn : State U → Request U → Came → State U → Type 0
  Turn s c done s' = Makes (setup s) c (setup s') × Marked c s s'
  Turn s c (refused k) s' = Refuses (setup s) c k × (s' ≡ s)
  Turn s c not_applicable s' = Unfit (setup s) c × (s' ≡ s)
