-- What any sequence of calls may rely on. It is said over any type U of rules that a table can be fixed under, with
-- what each means, and which of them take the quick searches.
use Rattle.std.specs.Prelude.{◌≡◌, ℕ, ◌<◌, ◌≤◌, true, ◌⊎◌, List, [], ◌∷◌, length, ◌≢◌}
use Rattle.interference.specs.Questions.{Query}
use Rattle.analysis.specs.declared.task.Task.{Task}
use Rattle.analysis.specs.Rivals.{cost_of}
use Rattle.analysis.specs.Passing.{PassesOver}
use Rattle.analysis.specs.Plans.{IsChoice, ChoicePasses, LeastLengths, NoLengths, NoPlan}
use Rattle.analysis.specs.Bounds.{Solution, LeastSolution, NoSolution}
use Rattle.planner.specs.declared.replay.Report.{Report}
use Rattle.planner.specs.History.{Request, seek_lengths, quick_lengths, seek_plan, quick_plan, seek_bounds, Setup, unfixed, fixed_by, Came, done, refused, not_applicable, State, still, joined, setup, Refuses, Unfit, Follows, Marked}
use Rattle.planner.specs.Replaying.{came}
use Rattle.planner.specs.Reporting.{Shows}

abbrev pub Exactly : Type 0 → Type 0 → Type 0
Exactly p q = (p → q) × (q → p)

-- the last of some tables, or the first one if there are none
abbrev pub final : {X : Type 0} → X → List X → X
final x [] = x
final x (y ∷ ys) = final y ys

-- a table's two marks; an open table wears none
abbrev pub Passed : {U : Type 0} → State U → Type 0
Passed (still m) = ⊥
Passed (joined u m) = m.passed ≡ true

abbrev pub Bounded : {U : Type 0} → State U → Type 0
Bounded (still m) = ⊥
Bounded (joined u m) = m.bounded ≡ true

module _ {U : Type 0} (meaning : U → Query → ℕ) (Quick : U → Type 0) where
  -- every task passes in the standing order with its length
  abbrev pub AllPass : Setup U → Type 0
  AllPass (unfixed m ts) = ⊥
  AllPass (fixed_by u m ts q ls) = IsChoice (cost_of ts) (length ts) ls × ChoicePasses (PassesOver (meaning u) m ts) (length ts) q ls

  -- the lengths pass, and every other choice that passes in the order gives each task at least its length here
  abbrev pub LengthsLeast : Setup U → Type 0
  LengthsLeast (unfixed m ts) = ⊥
  LengthsLeast (fixed_by u m ts q ls) = LeastLengths (meaning u) m ts q ls

  -- the table's bounds solve its equations; and every other solution gives each task at least its bound here
  abbrev pub BoundsSolve : State U → Type 0
  BoundsSolve (still m) = ⊥
  BoundsSolve (joined u m) = Solution (meaning u) m.cores m.tasks m.order m.lengths m.bounds

  abbrev pub BoundsLeast : State U → Type 0
  BoundsLeast (still m) = ⊥
  BoundsLeast (joined u m) = LeastSolution (meaning u) m.cores m.tasks m.order m.lengths m.bounds

  -- calls that set lengths by a search
  abbrev pub SetsLengths : Request U → Type 0
  SetsLengths c = (c ≡ seek_lengths) ⊎ ((c ≡ quick_lengths) ⊎ ((c ≡ seek_plan) ⊎ (c ≡ quick_plan)))

  -- Of one call: the setup after it follows from the setup before it and the call, and no other setup does.
  pub record SetupFollows (s : Setup U) (c : Request U) (s' : Setup U) : Type 0 where
    pub follows : Follows meaning Quick s c s'
    pub only : (t : Setup U) → Follows meaning Quick s c t → t ≡ s'

  -- Of one call: it is refused by a number exactly when the condition of that number is the first that holds, it is not
  -- applicable exactly when it is not for a table of this kind, and both leave the table as it was, marks and bounds too.
  pub record RefusedExactly (s : State U) (c : Request U) (what : Came) (s' : State U) : Type 0 where
    pub by_number : (k : ℕ) → Exactly (what ≡ refused k) (Refuses meaning Quick (setup s) c k)
    pub unfit : Exactly (what ≡ not_applicable) (Unfit meaning Quick (setup s) c)
    pub untouched : (what ≢ done) → s' ≡ s

  -- Of one call: a seek that was carried out turned its mark on, and no mark lies.
  pub record MarksTrue (c : Request U) (what : Came) (s' : State U) : Type 0 where
    pub passed_on : what ≡ done → SetsLengths c → Passed s'
    pub bounded_on : what ≡ done → c ≡ seek_bounds → Bounded s'
    pub passed_true : Passed s' → AllPass (setup s')
    pub bounded_true : Bounded s' → BoundsSolve s'

  -- Of one call on a fixed table: a seek is refused exactly when there is nothing to find.
  pub record NoneToFind (u : U) (m : ℕ) (ts : List Task) (q ls : List ℕ) (c : Request U) (what : Came) : Type 0 where
    pub lengths : (c ≡ seek_lengths) ⊎ ((c ≡ quick_lengths) × Quick u) → Exactly (what ≡ refused 7) (NoLengths (meaning u) m ts q)
    pub too_many : (c ≡ seek_plan) ⊎ ((c ≡ quick_plan) × Quick u) → Exactly (what ≡ refused 8) (8 < length ts)
    pub plan : (c ≡ seek_plan) ⊎ ((c ≡ quick_plan) × Quick u) → length ts ≤ 8 → Exactly (what ≡ refused 9) (NoPlan (meaning u) m ts)
    pub bounds : c ≡ seek_bounds → Exactly (what ≡ refused 10) (NoSolution (meaning u) m ts q ls)

  abbrev pub NoneFound : Setup U → Request U → Came → Type 0
  NoneFound (unfixed m ts) c what = Unit {0}
  NoneFound (fixed_by u m ts q ls) c what = NoneToFind u m ts q ls c what

  -- Of one call: lengths that a seek set, and bounds that a seek set, are the least.
  pub record SetLeast (c : Request U) (what : Came) (s' : State U) : Type 0 where
    pub lengths : what ≡ done → SetsLengths c → LengthsLeast (setup s')
    pub bounds : what ≡ done → c ≡ seek_bounds → BoundsLeast s'

  -- Something holds of each call: of the table before it, the call, its report and the table after it.
  abbrev pub OfEach : (State U → Request U → Report → State U → Type 0) → State U → List (Request U) → List Report → List (State U) → Type 0
  OfEach P s [] [] [] = Unit {0}
  OfEach P s [] [] (x ∷ xs) = ⊥
  OfEach P s [] (r ∷ rs) xs = ⊥
  OfEach P s (c ∷ cs) [] xs = ⊥
  OfEach P s (c ∷ cs) (r ∷ rs) [] = ⊥
  OfEach P s (c ∷ cs) (r ∷ rs) (x ∷ xs) = P s c r x × OfEach P x cs rs xs

  -- A table, the calls that were carried out on it, their reports, and the table at the end.
  pub record Promises (start : State U) (calls : List (Request U)) (reports : List Report) (end : State U) : Type 0 where
    -- the table after each call; its report shows all of it, and the last is given back
    pub after : List (State U)
    pub reports_show_it : OfEach (λ s c r s'. Shows s' r) start calls reports after
    pub last_is_given_back : end ≡ final start after
    pub marks_and_bounds_are_set_by_the_call : OfEach (λ s c r s'. came r.outcome ≡ done → Marked meaning Quick c s s') start calls reports after
    pub setup_follows_from_the_calls_alone : OfEach (λ s c r s'. SetupFollows (setup s) c (setup s')) start calls reports after
    pub refusals_are_exact : OfEach (λ s c r s'. RefusedExactly s c (came r.outcome) s') start calls reports after
    pub marks_tell_the_truth : OfEach (λ s c r s'. MarksTrue c (came r.outcome) s') start calls reports after
    pub refused_seek_means_none : OfEach (λ s c r s'. NoneFound (setup s) c (came r.outcome)) start calls reports after
    pub what_is_set_is_least : OfEach (λ s c r s'. SetLeast c (came r.outcome) s') start calls reports after
