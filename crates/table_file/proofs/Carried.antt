-- What a table holds makes a file that can be read.
use Rattle.std.proofs.Common.{◌≡◌, ℕ, ◌+◌, ◌-◌, ◌<◌, List, [], ◌∷◌, map, reverse, length, get_or, take, drop, Ok, Err, Result, sym, refl, ap, ◌∙◌, subst, arith}
use Rattle.std.proofs.lemmas.List.{length-map, length-reverse, get_or-map, take-map, take_at}
use Rattle.analysis.specs.Rivals.{among}
use Rattle.planner.specs.declared.marks.Marks.{Marks}
use Rattle.planner.specs.declared.refusal.Refusal.{Refusal}
use Rattle.planner.specs.Tables.{Fixed}
use Rattle.planner.specs.Reading.{FixedWithinLimits, ReadsOut, Lent, lent, over, standing, as_standing, Room}
use Rattle.table_file.specs.declared.place.Place.{Place}
use Rattle.table_file.specs.Stored.{of_fixed, placed, numbers, no_place, PlaceFits, EachFits, Valid}
use Rattle.table_file.specs.Puts.{paired}
use Rattle.table_file.proofs.Distinct.{fresh_apart, standing_apart, standing_named, length_standing}

-- the numbers of places that were made of numbers
pub numbers_placed : (xs lens : List ℕ) → numbers (placed xs lens) ≡ xs
numbers_placed [] lens = refl
numbers_placed (x ∷ xs) lens = ap (λ l. x ∷ l) (numbers_placed xs lens)

pub numbers_take : (n : ℕ) (ps : List Place) → numbers (take n ps) ≡ take n (numbers ps)
numbers_take n ps = sym (take-map (λ p. p.task) n ps)

pub getD_placed : (xs lens : List ℕ) (p : ℕ) → p < length xs → get_or (placed xs lens) p no_place ≡ record { task = get_or xs p 0; length = get_or lens (get_or xs p 0 - 1) 0 }
getD_placed xs lens p l = get_or-map (λ n. record { task = n; length = get_or lens (n - 1) 0 }) xs p 0 no_place l

pub length_placed : (xs lens : List ℕ) → length (placed xs lens) ≡ length xs
length_placed xs lens = length-map xs (λ n. record { task = n; length = get_or lens (n - 1) 0 })

-- numbers from 1 and their lengths, entry by entry
paired_standing : (r lens : List ℕ) → paired (map (λ k. k + 1) r) (map (λ k. get_or lens k 0) r) ≡ placed (map (λ k. k + 1) r) lens
paired_standing [] lens = refl
paired_standing (k ∷ ks) lens =
    let e : k ≡ k + 1 - 1 = omega arith in
    λ i. record { task = k + 1; length = get_or lens (e i) 0 } ∷ paired_standing ks lens i

module _ (m : Fixed) (w : FixedWithinLimits m) where
  size : length (standing m.order) ≡ length m.tasks
  size = length_standing m.order ∙ w.order.0

  pub places_count : length (of_fixed m).places ≡ length m.tasks
  places_count = length_placed (standing m.order) m.lengths ∙ size

  fits_at : (p : ℕ) → p < length m.order → PlaceFits m.tasks (take p (of_fixed m).places) (record { task = get_or (standing m.order) p 0; length = get_or m.lengths (get_or (standing m.order) p 0 - 1) 0 })
  fits_at p l =
      let xs : List ℕ = standing m.order in
      let named = standing_named (length m.tasks) m.order w.order p l in
      let choice = w.choice (get_or xs p 0 - 1) (omega (arith, named.0, named.1)) in
      let e : numbers (take p (of_fixed m).places) ≡ take p xs = numbers_take p (of_fixed m).places ∙ ap (take p) (numbers_placed xs m.lengths) in (
        named,
        ap (λ (ys : List ℕ). among ys (get_or xs p 0)) e ∙ fresh_apart xs (standing_apart (length m.tasks) m.order w.order) p (omega (arith, length_standing m.order)),
        choice.0,
        choice.1,
      )

  fixed_fits : EachFits m.tasks (of_fixed m).places
  fixed_fits p l =
      let k : p < length m.order = omega (arith, length_placed (standing m.order) m.lengths, length_standing m.order) in
      subst (λ (x : Place). PlaceFits m.tasks (take p (of_fixed m).places) x) (sym (getD_placed (standing m.order) m.lengths p (omega (arith, length_standing m.order)))) (fits_at p k)

  pub fixed_valid : Valid (of_fixed m)
  fixed_valid = record { some = w.some; most = w.most; few = w.few; tasks = w.tasks; whole = (λ z. places_count); each = fixed_fits }

  -- what was read out
  pub room_for : (a b c : List ℕ) → length a ≡ 32 → length b ≡ 32 → length c ≡ 32 → Room m (lent a b c)
  room_for a b c x y z = (omega (arith, w.few), omega (arith, w.few), omega (arith, w.few))

  pub read_filled : (r : Result Marks Refusal) (old new : Lent) → ReadsOut m r old new → Room m old
      → (new.tasks ≡ over (standing m.order) old.tasks) × (new.lengths ≡ over (as_standing m.order m.lengths) old.lengths)
  read_filled (Ok x) old new h room = (ap (λ l. l.tasks) h.3, ap (λ l. l.lengths) h.3)
  read_filled (Err e) old new h room = absurd (h.1 room)

  pub read_places : (a b xs ys : List ℕ) → xs ≡ over (standing m.order) a → ys ≡ over (as_standing m.order m.lengths) b
      → (n : ℕ) → n ≡ length m.tasks → paired (take n xs) (take n ys) ≡ (of_fixed m).places
  read_places a b xs ys ex ey n is =
      let q : List ℕ = m.order in
      let c : length (as_standing q m.lengths) ≡ length q = length-map (reverse q) (λ j. get_or m.lengths j 0) ∙ length-reverse q in
      let first : take n xs ≡ standing q = ap (take n) ex ∙ take_at (standing q) (drop (length (standing q)) a) n (omega (arith, size)) in
      let second : take n ys ≡ as_standing q m.lengths = ap (take n) ey ∙ take_at (as_standing q m.lengths) (drop (length (as_standing q m.lengths)) b) n (omega (arith, w.order.0)) in
      (λ i. paired (first i) (second i)) ∙ paired_standing (reverse q) m.lengths
