-- What tests of a place and of a range say.
use Rattle.std.proofs.Common.{◌≡◌, ℕ, zero, suc, ◌<◌, ◌≤◌, true, false, ◌&&◌, ◌||◌, eqb, ltb, leb, List, length, get_or, sym, refl, ◌∙◌, ⊎_elim, arith}
use Rattle.std.proofs.lemmas.List.{length-map, get_or-map}
use Rattle.std.proofs.lemmas.Bool.{eqb-true, eqb-false, ltb-true, ltb-false, leb-false, and_cases, or_cases, or_parts}
use Rattle.analysis.specs.Rivals.{among}
use Rattle.analysis.proofs.Among.{among_none, among_place}
use Rattle.planner.specs.Calls.{CoresWithinLimits}
use Rattle.table_file.specs.declared.place.Place.{Place}
use Rattle.table_file.specs.Stored.{numbers, no_place}

-- a task that has a place
pub named_place : (ps : List Place) (n : ℕ) → among (numbers ps) n ≡ true → (p : ℕ) × (p < length ps) × ((get_or ps p no_place).task ≡ n)
named_place ps n e =
    let w = among_place (numbers ps) n e in
    let l : w.0 < length ps = omega (arith, w.1, length-map ps (λ p. p.task)) in
    (w.0, l, sym (get_or-map (λ p. p.task) ps w.0 no_place 0 l) ∙ w.2)

pub named_nowhere : (ps : List Place) (n : ℕ) → among (numbers ps) n ≡ false → (p : ℕ) × (p < length ps) × ((get_or ps p no_place).task ≡ n) → ⊥
named_nowhere ps n e w =
    among_none (numbers ps) n e w.0 (omega (arith, w.1, length-map ps (λ p. p.task))) (get_or-map (λ p. p.task) ps w.0 no_place 0 w.1 ∙ w.2)

some_more : (n : ℕ) → (n ≡ 0 → ⊥) → 1 ≤ n
some_more zero h = absurd (h refl)
some_more (suc n) h = omega arith

-- tests of a range
pub beyond : (c : ℕ) → (leb 1 c && leb c 16) ≡ false → CoresWithinLimits c → ⊥
beyond c e w = ⊎_elim (λ a. omega (arith, w.0, leb-false 1 c a)) (λ a. omega (arith, w.1, leb-false c 16 a)) (and_cases (leb 1 c) (leb c 16) e)

pub outside : (n m : ℕ) → (eqb n 0 || ltb m n) ≡ true → (1 ≤ n) × (n ≤ m) → ⊥
outside n m e h = ⊎_elim (λ z. omega (arith, h.0, eqb-true n 0 z)) (λ l. omega (arith, h.1, ltb-true m n l)) (or_cases (eqb n 0) (ltb m n) e)

pub inside : (n m : ℕ) → (eqb n 0 || ltb m n) ≡ false → (1 ≤ n) × (n ≤ m)
inside n m e = let x = or_parts (eqb n 0) (ltb m n) e in (some_more n (eqb-false n 0 x.0), ltb-false m n x.1)
