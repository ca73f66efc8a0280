-- The questions of a table's tasks are valid, and longer regions below do not help a task.
use Rattle.std.proofs.Common.{◌≡◌, ℕ, ◌+◌, ◌-◌, ◌/◌, ◌<◌, ◌≤◌, true, false, not, eqb, List, length, get_or, take, replicate, refl, subst, div-mul-le_self, arith}
use Rattle.std.proofs.lemmas.Nat.{le-div}
use Rattle.std.proofs.lemmas.List.{get_or-map, get_or-replicate}
use Rattle.std.proofs.ByRecursion.{All-get_or}
use Rattle.std.proofs.lemmas.Bool.{both_ways, and_parts, and_left, not-true, not_from_true, eq-eqb}
use Rattle.interference.specs.Laws.{NoEarlier, NoSmaller, Lawful}
use Rattle.interference.proofs.GrowthLaws.{grows_together}
use Rattle.interference.specs.Questions.{Query, RivalWithinLimits, RivalsWithinLimits, Valid, nobody, posed}
use Rattle.analysis.specs.Rivals.{no_task, TasksWithinLimits, finish_limits, cost_of, among, above, below, upper_rival, lower_rival, uppers, lowers}
use Rattle.analysis.specs.Passing.{asked, PassesOver}
use Rattle.analysis.specs.Plans.{IsChoice}
use Rattle.analysis.specs.declared.task.Task.{Task}
use Rattle.analysis.specs.declared.task_set.TaskSet.{TaskSet}
use Rattle.analysis.specs.Words.{test_of}
use Rattle.analysis.proofs.Among.{among_place}
use Rattle.analysis.proofs.Picked.{all_picked, each_picked, picked_fewer}

pub div_grows : (a b m : ℕ) → 0 < m → a ≤ b → a / m ≤ b / m
div_grows a b m pos h = le-div (a / m) b m pos (omega (arith, div-mul-le_self a m))

-- latest finishes that a rival can have
abbrev pub Late : List Task → List ℕ → Type 0
Late ts late = (j : ℕ) → j < length ts → (cost_of ts j ≤ get_or late j 0) × (get_or late j 0 ≤ 65535)

pub limit_at : (ts : List Task) (j : ℕ) → j < length ts → get_or (finish_limits ts) j 0 ≡ (get_or ts j no_task).deadline
limit_at ts j l = get_or-map (λ t. t.deadline) ts j no_task 0 l

pub limits_late : (ts : List Task) → TasksWithinLimits ts → Late ts (finish_limits ts)
limits_late ts s j l = let e = limit_at ts j l in let h = s j l in (omega arith, omega arith)

pub self_above : (low : List ℕ) (k : ℕ) → above low k k ≡ false
self_above low k = and_left (not (eqb k k)) (not (among low k)) (not_from_true (eqb k k) (eq-eqb k k refl))

pub self_below : (low : List ℕ) (k : ℕ) → below low k k ≡ false
self_below low k = and_left (not (eqb k k)) (among low k) (not_from_true (eqb k k) (eq-eqb k k refl))

apart : (low : List ℕ) (k j : ℕ) → above low k j ≡ true → below low k j ≡ true → ⊥
apart low k j a b = both_ways (among low j) (not-true (among low j) (and_parts (not (eqb j k)) (not (among low j)) a).1) (and_parts (not (eqb j k)) (among low j) b).1

-- of a table within the limits
module _ (ts : List Task) (sound : TasksWithinLimits ts) (few : length ts ≤ 32) (late : List ℕ) (lates : Late ts late) (low : List ℕ) (k : ℕ) (here : k < length ts) where
  pub uppers_within : RivalsWithinLimits (uppers ts late low k)
  uppers_within i l =
      All-get_or RivalWithinLimits (uppers ts late low k) i nobody l
      (all_picked (above low k) (upper_rival ts late) RivalWithinLimits (length ts)
      (λ j s e. let h = sound j s in let w = lates j s in (omega arith, omega arith, omega arith, omega arith, omega arith)))

  module _ (lens : List ℕ) (choice : IsChoice (cost_of ts) (length ts) lens) where
    pub lowers_within : RivalsWithinLimits (lowers ts late lens low k)
    lowers_within i l =
        All-get_or RivalWithinLimits (lowers ts late lens low k) i nobody l
        (all_picked (below low k) (lower_rival ts late lens) RivalWithinLimits (length ts)
        (λ j s e. let h = sound j s in let w = lates j s in let c = choice j s in (omega arith, omega arith, omega arith, omega arith, omega arith)))

    pub rivals_few : length (uppers ts late low k) + length (lowers ts late lens low k) ≤ 31
    rivals_few =
        let h = picked_fewer (above low k) (below low k) (upper_rival ts late) (lower_rival ts late lens) (apart low k) k (self_above low k) (self_below low k) (length ts) here in
        omega arith

    pub question_valid : (m l e f : ℕ) → 1 ≤ m → m ≤ 16 → 1 ≤ e → e ≤ l → l ≤ 65535 → 1 ≤ f → f ≤ 65535
        → Valid (posed m l e f (uppers ts late low k) (lowers ts late lens low k))
    question_valid m l e f a b c d g h i = record { times = (c, d, g, h, i); sizes = (a, b, rivals_few); uppers = uppers_within; lowers = lowers_within }

module _ (ts : List Task) (sound : TasksWithinLimits ts) (few : length ts ≤ 32) (m : ℕ) (some : 1 ≤ m) (most : m ≤ 16) where
  asked_valid : (low : List ℕ) (k : ℕ) → k < length ts → (lens : List ℕ) → IsChoice (cost_of ts) (length ts) lens → (f : ℕ) → 1 ≤ f → f ≤ cost_of ts k
      → Valid (asked m (get_or ts k no_task) f (uppers ts (finish_limits ts) low k) (lowers ts (finish_limits ts) lens low k))
  asked_valid low k here lens c f a b =
      let h = sound k here in
      question_valid ts sound few (finish_limits ts) (limits_late ts sound) low k here lens c m _ _ f some most (omega arith) (omega arith) (omega arith) a (omega arith)

  pub passes_falls : (sum : Query → ℕ) → Lawful sum → (low : List ℕ) (k : ℕ) (lens other : List ℕ) (f : ℕ) → k < length ts → 1 ≤ f → f ≤ cost_of ts k
      → IsChoice (cost_of ts) (length ts) lens → IsChoice (cost_of ts) (length ts) other
      → ((p : ℕ) → p < length low → get_or lens (get_or low p 0) 0 ≤ get_or other (get_or low p 0) 0)
      → PassesOver sum m ts low k other f → PassesOver sum m ts low k lens f
  passes_falls sum laws low k lens other f here a b c d less pass =
      let us = uppers ts (finish_limits ts) low k in
      let t = get_or ts k no_task in
      let q = asked m t f us (lowers ts (finish_limits ts) lens low k) in
      let same_uppers = each_picked NoEarlier (above low k) (upper_rival ts (finish_limits ts)) (upper_rival ts (finish_limits ts)) (length ts) (λ j s e. (omega arith, refl)) in
      let each = each_picked NoSmaller (below low k) (lower_rival ts (finish_limits ts) lens) (lower_rival ts (finish_limits ts) other) (length ts)
      (λ j s e.
      let r = among_place low j (and_parts (not (eqb j k)) (among low j) e).1 in
      let le : get_or lens j 0 ≤ get_or other j 0 = subst (λ x. get_or lens x 0 ≤ get_or other x 0) r.2 (less r.0 r.1) in
      (omega arith, omega arith, refl)) in
      let grows : sum q ≤ sum (asked m t f us (lowers ts (finish_limits ts) other low k)) =
      grows_together sum laws q (asked m t f us (lowers ts (finish_limits ts) other low k)) (asked_valid low k here lens c f a b) (asked_valid low k here other d f a b)
      (record { cores = refl; demand = refl; region = refl; window = omega arith; upper = same_uppers; lower = each }) in
      omega (arith, div_grows (sum q) (sum (asked m t f us (lowers ts (finish_limits ts) other low k))) m some grows)

-- a part from the start, as the code takes it
pub part : {X : Type 0} (n : ℕ) (xs : List X) {ys : List X} → take n xs ≡ ys → take (n - 0) xs ≡ ys
part n xs e = let z : n - 0 ≡ n = omega arith in rw z e

pub ones : (k : ℕ) → k < 32 → ◌≡◌ {A = ℕ} (get_or (replicate 32 1) k 0) 1
ones k l = get_or-replicate 32 k 1 0 l

-- the lengths before a search
pub ones_choice : (s : TaskSet) → IsChoice (cost_of s.tasks.now) (length s.tasks.now) (replicate 32 1)
ones_choice s k l = let h = s.limits k l in let few = s.few in let e = ones k (omega arith) in (omega arith, omega arith)

-- of the tasks of a set
pub set_falls : (sum : Query → ℕ) → Lawful sum → (s : TaskSet) → (low : List ℕ) (k : ℕ) (lens other : List ℕ) (f : ℕ) → k < length s.tasks.now → 1 ≤ f → f ≤ cost_of s.tasks.now k
    → IsChoice (cost_of s.tasks.now) (length s.tasks.now) lens → IsChoice (cost_of s.tasks.now) (length s.tasks.now) other
    → ((p : ℕ) → p < length low → get_or lens (get_or low p 0) 0 ≤ get_or other (get_or low p 0) 0)
    → test_of sum s low k other f → test_of sum s low k lens f
set_falls sum laws s = passes_falls s.tasks.now s.limits s.few s.cores s.some s.most sum laws
