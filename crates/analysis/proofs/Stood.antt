-- What holds of a task between its rivals holds of what they are made of.
use Rattle.std.proofs.Common.{◌≡◌, ℕ, ◌-◌, ◌<◌, List, length, get_or, take, sym, refl, ◌∙◌, subst}
use Rattle.interference.specs.declared.rival.Rival.{Rival}
use Rattle.analysis.specs.declared.task.Task.{Task}
use Rattle.analysis.specs.Rivals.{under}
use Rattle.analysis.specs.Plans.{Named}
use Rattle.analysis.proofs.RivalLaws.{part}
use Rattle.analysis.proofs.Among.{under_at}

pub carried_over : (P : ℕ → Task → List Rival → List Rival → Type 0) {m m' : ℕ} {t t' : Task} {us us' ls ls' : List Rival}
    → m ≡ m' → t ≡ t' → us ≡ us' → ls ≡ ls' → P m t us ls → P m' t' us' ls'
carried_over P {m} {m'} {t} {t'} {us} {us'} {ls} {ls'} a b c d h =
    subst (λ (x : List Rival). P m' t' us' x) d (subst (λ (x : List Rival). P m' t' x ls) c (subst (λ (x : Task). P m' x us ls) b (subst (λ (x : ℕ). P x t us ls) a h)))

-- the tasks below the one at a place, as the code takes them
pub lower_part : (n : ℕ) (q : List ℕ) (p : ℕ) → Named n q → p < length q → take (p - 0) q ≡ under q (get_or q p 0)
lower_part n q p named l = part p q refl ∙ sym (under_at q p l (named p l).1)
