-- Tests whether a setting is within the limits, and whether lengths fit its tasks.
use Rattle.std.proofs.Common.{◌≡◌, ℕ, ◌≤◌, Bool, true, not, ◌&&◌, eqb, ltb, leb, List, length, get_or, take, arith}
use Rattle.std.proofs.lemmas.Bool.{and_parts, leb-true, ltb-true, eqb-true, not-true}
use Rattle.interference.specs.Sums.{full_sum}
use Rattle.interference.specs.Laws.{Lawful}
use Rattle.interference.specs.FullLaws.{full_lawful}
use Rattle.interference.specs.LimitedLaws.{limited_lawful}
use Rattle.interference.specs.LayerLaws.{layered_lawful}
use Rattle.analysis.specs.declared.task.Task.{Task}
use Rattle.analysis.specs.Rivals.{no_task, TaskWithinLimits, TasksWithinLimits, among}
use Rattle.analysis.specs.Plans.{IsOrder, IsChoice}
use Rattle.examples.specs.Lines.{Rules, full, limited, handled, sum_of, Setting, upward, count, Fitting}
use Rattle.examples.proofs.Bounded.{all_below, all_below_at}

le_and : (a b : ℕ) (x : Bool) → (leb a b && x) ≡ true → (a ≤ b) × (x ≡ true)
le_and a b x h = let p = and_parts (leb a b) x h in (leb-true a b p.0, p.1)

-- three numbers, each at most the next
abbrev pub rising : ℕ → ℕ → ℕ → Bool
rising a b c = leb a b && leb b c

pub rising_is : (a b c : ℕ) → rising a b c ≡ true → (a ≤ b) × (b ≤ c)
rising_is a b c h = let p = le_and a b (leb b c) h in (p.0, leb-true b c p.1)

abbrev task_fits : Task → Bool
task_fits t = rising 1 t.cost t.deadline && rising t.deadline t.period 65535

task_fits_is : (t : Task) → task_fits t ≡ true → TaskWithinLimits t
task_fits_is t h =
    let p = and_parts (rising 1 t.cost t.deadline) (rising t.deadline t.period 65535) h in
    let a = rising_is 1 t.cost t.deadline p.0 in
    let b = rising_is t.deadline t.period 65535 p.1 in
    (a.0, a.1, b.0, b.1)

abbrev tasks_fit : List Task → Bool
tasks_fit ts = all_below (length ts) (λ k. task_fits (get_or ts k no_task))

tasks_fit_is : (ts : List Task) → tasks_fit ts ≡ true → TasksWithinLimits ts
tasks_fit_is ts h k l = task_fits_is (get_or ts k no_task) (all_below_at (length ts) (λ k. task_fits (get_or ts k no_task)) h k l)

abbrev rule_fits : Rules → Bool
rule_fits full = true
rule_fits limited = true
rule_fits (handled c g) = leb 1 c && rising c g 65535

rule_lawful : (r : Rules) → rule_fits r ≡ true → Lawful (sum_of r)
rule_lawful full h = full_lawful
rule_lawful limited h = limited_lawful
rule_lawful (handled c g) h =
    let p = le_and 1 c (rising c g 65535) h in
    let b = rising_is c g 65535 p.1 in
    layered_lawful c g (omega arith) full_sum full_lawful

abbrev is_order : ℕ → List ℕ → Bool
is_order n q = eqb (length q) n && all_below (length q) (λ p. ltb (get_or q p 0) n && not (among (take p q) (get_or q p 0)))

is_order_is : (n : ℕ) (q : List ℕ) → is_order n q ≡ true → IsOrder n q
is_order_is n q h =
    let named : ℕ → Bool = λ p. ltb (get_or q p 0) n && not (among (take p q) (get_or q p 0)) in
    let a = and_parts (eqb (length q) n) (all_below (length q) named) h in (
      eqb-true (length q) n a.0,
      λ p l.
          let b = and_parts (ltb (get_or q p 0) n) (not (among (take p q) (get_or q p 0))) (all_below_at (length q) named a.1 p l) in
          (ltb-true (get_or q p 0) n b.0, not-true (among (take p q) (get_or q p 0)) b.1),
    )

abbrev pub is_choice : (ℕ → ℕ) → ℕ → List ℕ → Bool
is_choice size n lens = all_below n (λ k. rising 1 (get_or lens k 0) (size k))

pub is_choice_is : (size : ℕ → ℕ) (n : ℕ) (lens : List ℕ) → is_choice size n lens ≡ true → IsChoice size n lens
is_choice_is size n lens h k l = rising_is 1 (get_or lens k 0) (size k) (all_below_at n (λ k. rising 1 (get_or lens k 0) (size k)) h k l)

abbrev numbers_fit : Setting → Bool
numbers_fit s = rising 1 s.cores 16 && rising 1 (count s) 32

abbrev tasks_ordered : Setting → Bool
tasks_ordered s = tasks_fit s.tasks && is_order (count s) (upward s.order)

abbrev pub fits : Setting → Bool
fits s = rule_fits s.rule && (numbers_fit s && tasks_ordered s)

pub fits_is : (s : Setting) → fits s ≡ true → Fitting s
fits_is s h =
    let a = and_parts (rule_fits s.rule) (numbers_fit s && tasks_ordered s) h in
    let b = and_parts (numbers_fit s) (tasks_ordered s) a.1 in
    let c = and_parts (rising 1 s.cores 16) (rising 1 (count s) 32) b.0 in
    let d = and_parts (tasks_fit s.tasks) (is_order (count s) (upward s.order)) b.1 in
    let m = rising_is 1 s.cores 16 c.0 in
    let n = rising_is 1 (count s) 32 c.1 in
    record {
      laws = rule_lawful s.rule a.0;
      some = m.0;
      most = m.1;
      any = n.0;
      few = n.1;
      sound = tasks_fit_is s.tasks d.0;
      ordered = is_order_is (count s) (upward s.order) d.1;
    }
