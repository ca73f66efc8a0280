-- Places in number order.
use Rattle.std.proofs.Common.{◌≡◌, ℕ, zero, suc, ◌+◌, ◌-◌, ◌<◌, ◌≤◌, true, false, eqb, List, [], ◌∷◌, ◌++◌, length, get_or, take, replicate, refl, ap, ◌∙◌, append_assoc, arith}
use Rattle.std.proofs.lemmas.Bool.{ne_eqb, cond-false}
use Rattle.std.proofs.lemmas.List.{get_or-take, get_or-replicate}
use Rattle.analysis.specs.declared.task.Task.{Task}
use Rattle.analysis.specs.Rivals.{among, cost_of, TasksWithinLimits}
use Rattle.analysis.specs.Plans.{Named, IsChoice}
use Rattle.planner.specs.Tables.{downward}

pub length_downward : (n : ℕ) → length (downward n) ≡ n
length_downward zero = refl
length_downward (suc n) = ap suc (length_downward n)

-- one number more at the end of a list that goes on downward
pub downward_more : (xs : List ℕ) (i : ℕ) → 0 < i → (xs ++ (i - 1) ∷ []) ++ downward (i - 1) ≡ xs ++ downward i
downward_more xs zero h = absurd (omega arith)
downward_more xs (suc i) h =
    let e : suc i - 1 ≡ i = omega arith in
    append_assoc xs ((suc i - 1) ∷ []) (downward (suc i - 1)) ∙ ap (λ k. xs ++ (k ∷ downward k)) e

-- later numbers are smaller
fresh : (n p x : ℕ) → p ≤ n → x + p < n → among (take p (downward n)) x ≡ false
fresh n zero x h l = refl
fresh zero (suc p) x h l = absurd (omega arith)
fresh (suc n) (suc p) x h l = cond-false (eqb n x) true (among (take p (downward n)) x) (ne_eqb n x (λ e. omega arith)) ∙ fresh n p x (omega arith) (omega arith)

at : (n p : ℕ) → p < n → get_or (downward n) p 0 + p + 1 ≡ n
at zero p l = absurd (omega arith)
at (suc n) zero l = omega arith
at (suc n) (suc p) l = let h = at n p (omega arith) in omega arith

pub downward_named : (n : ℕ) → Named n (downward n)
downward_named n p l =
    let k : p < n = omega (arith, length_downward n) in
    let h = at n p k in
    (omega arith, fresh n p (get_or (downward n) p 0) (omega arith) (omega arith))

-- every task can have length 1
pub ones_choice : (ts : List Task) → TasksWithinLimits ts → length ts ≤ 32 → IsChoice (cost_of ts) (length ts) (take (length ts) (replicate 32 1))
ones_choice ts v few k l =
    let h = v k l in
    let e : ◌≡◌ {A = ℕ} (get_or (take (length ts) (replicate 32 1)) k 0) 1 = get_or-take (length ts) (replicate 32 1) k 0 l ∙ get_or-replicate 32 k 1 0 (omega arith) in
    (omega arith, omega arith)
