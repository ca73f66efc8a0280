-- A fixed table that is ordered by places and stretched to their lengths.
use Rattle.std.proofs.Common.{◌≡◌, ℕ, suc, ◌+◌, ◌-◌, ◌<◌, false, List, [], ◌∷◌, length, get_or, set, Result, sym, refl, ap, ◌∙◌, ⊎_elim, arith}
use Rattle.std.proofs.lemmas.List.{length-map, get_or-map, get_or-set_same, get_or-set_other}
use Rattle.std.proofs.lemmas.Bool.{cases_lt}
use Rattle.analysis.specs.declared.task.Task.{Task}
use Rattle.analysis.specs.Rivals.{among}
use Rattle.planner.specs.declared.refusal.Refusal.{Refusal}
use Rattle.planner.specs.Refusals.{Called}
use Rattle.planner.specs.Tables.{Fixed, fixed}
use Rattle.planner.specs.Calls.{NamesEach, StretchRefuses, StretchMakes, no_bounds}
use Rattle.table_file.specs.declared.place.Place.{Place}
use Rattle.table_file.specs.Stored.{numbers, placed, no_place, EachFits, StretchedTo}
use Rattle.table_file.proofs.OnCalls.{not_refused}
use Rattle.table_file.proofs.Carried.{numbers_take}
use Rattle.table_file.proofs.Distinct.{Apart, Fresh, apart_fresh, names_each}

getD_numbers : (ps : List Place) (k : ℕ) → k < length ps → get_or (numbers ps) k 0 ≡ (get_or ps k no_place).task
getD_numbers ps k l = get_or-map (λ p. p.task) ps k no_place 0 l

length_numbers : (ps : List Place) → length (numbers ps) ≡ length ps
length_numbers ps = length-map ps (λ p. p.task)

-- places that fit name no task twice
module _ (ts : List Task) (ps : List Place) (fits : EachFits ts ps) where
  numbers_fresh : Fresh (numbers ps)
  numbers_fresh p l =
      let k : p < length ps = omega (arith, length_numbers ps) in
      (λ i. among (sym (numbers_take p ps) i) (getD_numbers ps p k i)) ∙ (fits p k).1

  numbers_apart : Apart (numbers ps)
  numbers_apart = apart_fresh (numbers ps) numbers_fresh

  pub places_name : length ps ≡ length ts → NamesEach (length ts) (numbers ps)
  places_name n =
      names_each (length ts) (numbers ps) (length_numbers ps ∙ n) numbers_apart
      (λ p l.
      let k : p < length ps = omega (arith, length_numbers ps) in
      let e = getD_numbers ps p k in
      let h = (fits p k).0 in
      (omega (arith, h.0), omega (arith, h.1)))

  pub places_apart : (i j : ℕ) → i < j → j < length ps → (get_or ps i no_place).task ≡ (get_or ps j no_place).task → ⊥
  places_apart i j less l e =
      numbers_apart i j less (omega (arith, length_numbers ps)) (getD_numbers ps i (omega arith) ∙ e ∙ sym (getD_numbers ps j l))

-- one task more has its length
module _ {A : Type 0} (r : Result A Refusal) (m n : Fixed) (ps : List Place) (i : ℕ) (l : i < length ps) (fits : EachFits m.tasks ps) where
  abbrev q : Place
  q = get_or ps i no_place

  pub stretched : Called r (StretchRefuses m q.task q.length) (StretchMakes m q.task q.length) m n
      → n ≡ fixed m.cores m.tasks m.order (set m.lengths (q.task - 1) q.length) (no_bounds m) false false
  stretched h =
      let f = fits i l in
      (not_refused r (StretchRefuses m q.task q.length) (StretchMakes m q.task q.length) m n h
      (λ k z. ⊎_elim (λ a. a.1 f.0) (λ a. a.2 (f.2, f.3)) z)).2

  pub stretched_more : length m.lengths ≡ length m.tasks → StretchedTo ps i m.lengths → StretchedTo ps (i + 1) (set m.lengths (q.task - 1) q.length)
  stretched_more size before j less =
      let f = (fits i l).0 in
      ⊎_elim
      (λ k.
      let g = (fits j (omega arith)).0 in
      let other : (get_or ps j no_place).task - 1 ≡ q.task - 1 → ⊥ = λ e. places_apart m.tasks ps fits j i k l (omega (arith, f.0, g.0, e)) in
      get_or-set_other m.lengths (q.task - 1) ((get_or ps j no_place).task - 1) q.length 0 other ∙ before j k)
      (λ k.
      let e : j ≡ i = omega arith in
      ap (λ x. get_or (set m.lengths (q.task - 1) q.length) ((get_or ps x no_place).task - 1) 0) e
      ∙ get_or-set_same m.lengths (q.task - 1) q.length 0 (omega (arith, f.0, f.1))
      ∙ ap (λ x. (get_or ps x no_place).length) (sym e))
      (cases_lt j i)

-- then the table's places are these
pub placed_back : (ps : List Place) (lens : List ℕ) → StretchedTo ps (length ps) lens → placed (numbers ps) lens ≡ ps
placed_back [] lens h = refl
placed_back (p ∷ ps) lens h =
    λ i. record { task = p.task; length = h 0 (omega arith) i } ∷ placed_back ps lens (λ j l. h (suc j) (omega arith)) i
