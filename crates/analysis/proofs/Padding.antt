-- Arrays that are filled from the front keep their tail.
use Rattle.std.proofs.Common.{ℕ, ◌<◌, List, length, set, replicate, ◌∙◌, arith, length-set}
use Rattle.std.proofs.lemmas.List.{get_or-set_other, get_or-replicate, length-replicate}
use Rattle.analysis.specs.Steps.{Padded}

pub padded_new : (n size v : ℕ) → Padded n v (replicate size v)
padded_new n size v k le lt = get_or-replicate size k v 0 (simp length-replicate at lt)

pub padded_set : (n v : ℕ) (xs : List ℕ) (i x : ℕ) → i < n → Padded n v xs → Padded n v (set xs i x)
padded_set n v xs i x h p k le lt =
    let lt' : k < length xs = simp length-set at lt in
    get_or-set_other xs i k x 0 (λ e. omega arith) ∙ p k le lt'
