-- What a fixed table holds, known by other names.
use Rattle.std.proofs.Common.{◌≡◌, ℕ, Bool, List, sym, subst}
use Rattle.analysis.specs.declared.task.Task.{Task}
use Rattle.analysis.specs.Rivals.{cost_of}
use Rattle.analysis.specs.Plans.{Named, IsChoice}
use Rattle.planner.specs.Tables.{fixed}

pub choice_as : (ts us : List Task) (ls ks : List ℕ) (n m : ℕ) → us ≡ ts → ks ≡ ls → m ≡ n → IsChoice (cost_of ts) n ls → IsChoice (cost_of us) m ks
choice_as ts us ls ks n m a b c h =
    subst (λ (x : ℕ). IsChoice (cost_of us) x ks) (sym c) (subst (λ (x : List ℕ). IsChoice (cost_of us) n x) (sym b) (subst (λ (x : List Task). IsChoice (cost_of x) n ls) (sym a) h))

pub named_as : (q r : List ℕ) (n m : ℕ) → r ≡ q → m ≡ n → Named n q → Named m r
named_as q r n m a b h = subst (λ (x : ℕ). Named x r) (sym b) (subst (λ (x : List ℕ). Named n x) (sym a) h)

pub fixed_as : {m m' : ℕ} {ts ts' : List Task} {q q' ls ls' bs bs' : List ℕ} (p b : Bool) → m' ≡ m → ts' ≡ ts → q' ≡ q → ls' ≡ ls → bs' ≡ bs
    → fixed m' ts' q' ls' bs' p b ≡ fixed m ts q ls bs p b
fixed_as p b c d e f g = (λ i. fixed (c i) (d i) (e i) (f i) (g i) p b)

-- what was shown of tasks in an order, of those that a table holds
pub ordered_as : (P : ℕ → List Task → List ℕ → Type 0) {m m' : ℕ} {ts ts' : List Task} {q q' : List ℕ} → m ≡ m' → ts ≡ ts' → q ≡ q' → P m ts q → P m' ts' q'
ordered_as P {m} {m'} {ts} {ts'} {q} {q'} a b c h =
    subst (λ (x : ℕ). P x ts' q') a (subst (λ (x : List Task). P m x q') b (subst (λ (x : List ℕ). P m ts x) c h))
