use Rattle.std.proofs.Common.{◌≡◌, ℕ, ◌<◌, List, length, get_or, set, MatchBool, sym, ap, ◌∙◌, subst, arith, rules}
use Rattle.std.proofs.lemmas.List.{get_or-set_same, set-get_or}
use Rattle.analysis.specs.Rivals.{cost_of, limit_of}
use Rattle.analysis.specs.Steps.{LeastKept}
use Rattle.analysis.specs.Words.{bound_in, KeepsIn, RisingIn, Grows}
use Rattle.analysis.proofs.BoundLaws.{bound_up}
use Rattle.analysis.proofs.Fixpoint.{rising_none, rising_more, rises_to, set_rises, total_lt, when_map, when_none, ne_lt}
use Rattle.analysis.proofs.Padding.{padded_set}
use Rattle.analysis.proofs.bounds.raise.Goals as goal

pub returns-in_err-b : goal.returns-in_err-b
returns-in_err-b g c =
    let a = c.args in
    let t = a.tasks.now in
    let s = t.ordered.set in
    let ts = s.tasks.now in
    let k = get_or t.ordered.order.now a.p 0 in
    let sum = g.R.Rule.meaning a.rule.now in
    when_none _ _ c.from_residual.ensures
    (rising_none (length ts) (cost_of ts) (limit_of ts) (bound_in sum t) (bound_up sum (g.met.R.Rule.laws a.rule.now) s.cores s.some s.most ts s.limits s.few t.ordered.order.now t.lengths.now t.choice)
    a.bounds.now c.requires.rising.0 k (t.ordered.named a.p c.requires.place).0 c.in_err-b.ensures)

pub returns : goal.returns
returns g c =
    let a = c.args in
    let t = a.tasks.now in
    let s = t.ordered.set in
    let ts = s.tasks.now in
    let k = get_or t.ordered.order.now a.p 0 in
    let bs = a.bounds.now in
    let sum = g.R.Rule.meaning a.rule.now in
    let h = bound_in sum t in
    let here = (t.ordered.named a.p c.requires.place).0 in
    let rising = c.requires.rising.0 in
    let b = c.in_ok-b.b in
    let room : k < length bs = search rules in
    let kept : LeastKept (h k bs) (cost_of ts k) (limit_of ts k) b = c.in_ok-b.ensures in
    let up = bound_up sum (g.met.R.Rule.laws a.rule.now) s.cores s.some s.most ts s.limits s.few t.ordered.order.now t.lengths.now t.choice in
    let to = rises_to (length ts) (cost_of ts) (limit_of ts) h up bs rising k here b kept room in
    subst (λ (new : List ℕ). RisingIn sum t new × MatchBool c.store.result (Grows s bs new) ((new ≡ bs) × KeepsIn sum t new k)) (sym c.store.ensures.stored) (
      (rising_more (length ts) (cost_of ts) (limit_of ts) h up bs rising k here b kept room, padded_set (length ts) 0 bs k b here c.requires.rising.1),
      when_map (b ≡ get_or bs k 0 → ⊥) (b ≡ get_or bs k 0) (Grows s bs (set bs k b)) ((set bs k b ≡ bs) × KeepsIn sum t (set bs k b) k) c.store.result
          (λ ne. total_lt (λ j. get_or bs j 0) (λ j. get_or (set bs k b) j 0) (length ts) (λ j l. set_rises bs k b room to j) k here (let at = get_or-set_same bs k b 0 room in omega (arith, ne_lt (get_or bs k 0) b to ne)))
          (λ eq.
          let same : set bs k b ≡ bs = ap (λ v. set bs k v) eq ∙ set-get_or bs k 0 in
          let solved : h k bs (get_or bs k 0) ≡ get_or bs k 0 = subst (λ v. h k bs v ≡ v) eq kept.2 in
          (same, subst (λ (l : List ℕ). h k l (get_or l k 0) ≡ get_or l k 0) (sym same) solved))
          c.store.ensures.changed,
    )
