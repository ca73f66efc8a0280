-- What a report shows of a table, and a run of calls with its reports.
use Rattle.std.specs.Prelude.{◌≡◌, ℕ, List, [], ◌∷◌, length, take, None, IsSomeAnd}
use Rattle.interference.specs.Questions.{Query}
use Rattle.planner.specs.declared.replay.Report.{Report}
use Rattle.planner.specs.declared.replay.Standing.{Standing}
use Rattle.planner.specs.Tables.{Open, Fixed}
use Rattle.planner.specs.Reading.{standing}
use Rattle.planner.specs.History.{Request, State, still, joined, Turn}
use Rattle.planner.specs.Replaying.{came}

pub record ShowsOpen (m : Open) (r : Report) : Type 0 where
  pub kind : r.fixed ≡ None
  pub cores : r.cores ≡ m.cores
  pub count : r.count ≡ length m.tasks
  pub tasks : take r.count r.tasks ≡ m.tasks

-- both marks, and the first n entries of each list
pub record ShowsStanding (m : Fixed) (n : ℕ) (s : Standing) : Type 0 where
  pub marks : (s.marks.passed ≡ m.passed) × (s.marks.bounded ≡ m.bounded)
  pub order : take n s.order ≡ m.order
  pub places : take n s.places ≡ standing m.order
  pub lengths : take n s.lengths ≡ m.lengths
  pub bounds : take n s.bounds ≡ m.bounds

pub record ShowsFixed (m : Fixed) (r : Report) : Type 0 where
  pub kind : IsSomeAnd r.fixed (ShowsStanding m r.count)
  pub cores : r.cores ≡ m.cores
  pub count : r.count ≡ length m.tasks
  pub tasks : take r.count r.tasks ≡ m.tasks

abbrev pub Shows : {U : Type 0} → State U → Report → Type 0
Shows (still m) r = ShowsOpen m r
Shows (joined u m) r = ShowsFixed m r

-- calls on a table, each with its report, and the table at the end
abbrev pub Run : {U : Type 0} → (U → Query → ℕ) → (U → Type 0) → State U → List (Request U) → List Report → State U → Type 0
Run meaning Quick s [] [] end = end ≡ s
Run meaning Quick s [] (r ∷ rs) end = ⊥
Run meaning Quick s (c ∷ cs) [] end = ⊥
Run {U} meaning Quick s (c ∷ cs) (r ∷ rs) end = (s' : State U) × Turn meaning Quick s c (came r.outcome) s' × Shows s' r × Run meaning Quick s' cs rs end
