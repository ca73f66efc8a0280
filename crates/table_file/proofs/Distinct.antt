-- Tasks that are named once each, from either end.
use Rattle.std.proofs.Common.{◌≡◌, ℕ, suc, ◌+◌, ◌-◌, ◌<◌, ◌≤◌, false, List, [], ◌∷◌, reverse, length, get_or, take, sym, ap, ◌∙◌, ⊎_elim, arith}
use Rattle.std.proofs.lemmas.List.{length-map, length-reverse, get_or-map, get_or-reverse, get_or-take, length-take-le, get_or_append_left, get_or_at}
use Rattle.std.proofs.lemmas.Bool.{cases_Bool, cases_lt}
use Rattle.analysis.specs.Rivals.{among}
use Rattle.analysis.specs.Plans.{Named, IsOrder}
use Rattle.analysis.proofs.Among.{among_none, among_place}
use Rattle.planner.specs.Calls.{upward, NamesEach}
use Rattle.planner.specs.Reading.{standing}
use Rattle.planner.proofs.Upward.{length_upward}

-- no two entries are the same
abbrev pub Apart : List ℕ → Type 0
Apart xs = (i j : ℕ) → i < j → j < length xs → get_or xs i 0 ≡ get_or xs j 0 → ⊥

-- each entry is fresh after those before it
abbrev pub Fresh : List ℕ → Type 0
Fresh xs = (p : ℕ) → p < length xs → among (take p xs) (get_or xs p 0) ≡ false

pub apart_fresh : (xs : List ℕ) → Fresh xs → Apart xs
apart_fresh xs h i j less l e =
    among_none (take j xs) (get_or xs j 0) (h j l) i (omega (arith, length-take-le j xs (omega arith))) (get_or-take j xs i 0 less ∙ e)

pub fresh_apart : (xs : List ℕ) → Apart xs → Fresh xs
fresh_apart xs h p l =
    ⊎_elim
    (λ t. let w = among_place (take p xs) (get_or xs p 0) t in
    let less : w.0 < p = omega (arith, w.1, length-take-le p xs (omega arith)) in
    absurd (h w.0 p less l (sym (get_or-take p xs w.0 0 less) ∙ w.2)))
    (λ f. f)
    (cases_Bool (among (take p xs) (get_or xs p 0)))

pub length_standing : (q : List ℕ) → length (standing q) ≡ length q
length_standing q = length-map (reverse q) (λ k. k + 1) ∙ length-reverse q

pub getD_standing : (q : List ℕ) (p : ℕ) → p < length q → get_or (standing q) p 0 ≡ get_or q (length q - 1 - p) 0 + 1
getD_standing q p l = get_or-map (λ k. k + 1) (reverse q) p 0 0 (omega (arith, length-reverse q)) ∙ ap (λ k. k + 1) (get_or-reverse q p 0 l)

-- an order, as the tasks stand
module _ (n : ℕ) (q : List ℕ) (o : IsOrder n q) where
  fresh : Fresh q
  fresh p l = (o.1 p l).1

  pub standing_apart : Apart (standing q)
  standing_apart i j less l e =
      let k : j < length q = omega (arith, length_standing q) in
      let a = getD_standing q i (omega arith) in
      let b = getD_standing q j k in
      apart_fresh q fresh (length q - 1 - j) (length q - 1 - i) (omega arith) (omega arith) (omega arith)

  pub standing_named : (p : ℕ) → p < length q → (1 ≤ get_or (standing q) p 0) × (get_or (standing q) p 0 ≤ n)
  standing_named p l =
      let a = getD_standing q p l in
      let b = (o.1 (length q - 1 - p) (omega arith)).0 in
      (omega arith, omega arith)

pub getD_upward : (xs : List ℕ) (p : ℕ) → p < length xs → get_or (upward xs) p 0 ≡ get_or xs (length xs - 1 - p) 0 - 1
getD_upward [] p l = absurd (omega arith)
getD_upward (x ∷ xs) p l =
    ⊎_elim
    (λ less.
    let k : length (x ∷ xs) - 1 - p ≡ suc (length xs - 1 - p) = omega arith in
    get_or_append_left (upward xs) ((x - 1) ∷ []) 0 p (omega (arith, length_upward xs)) ∙ getD_upward xs p less ∙ ap (λ j. get_or (x ∷ xs) j 0 - 1) (sym k))
    (λ more.
    let e : length (upward xs) ≡ p = omega (arith, length_upward xs) in
    let k : length (x ∷ xs) - 1 - p ≡ 0 = omega arith in
    get_or_at (upward xs) (x - 1) [] 0 p e ∙ ap (λ j. get_or (x ∷ xs) j 0 - 1) (sym k))
    (cases_lt p (length xs))

-- numbers from 1 to n, no two the same, name each task once
pub names_each : (n : ℕ) (xs : List ℕ) → length xs ≡ n → Apart xs → ((p : ℕ) → p < length xs → (1 ≤ get_or xs p 0) × (get_or xs p 0 ≤ n)) → NamesEach n xs
names_each n xs size apart named = ((λ p l. (named p l).0), (length_upward xs ∙ size, each))
  where
    up_apart : Apart (upward xs)
    up_apart i j less l e =
        let k : j < length xs = omega (arith, length_upward xs) in
        let a = getD_upward xs i (omega arith) in
        let b = getD_upward xs j k in
        let c = (named (length xs - 1 - i) (omega arith)).0 in
        let d = (named (length xs - 1 - j) (omega arith)).0 in
        apart (length xs - 1 - j) (length xs - 1 - i) (omega arith) (omega arith) (omega arith)

    each : Named n (upward xs)
    each p l =
        let k : p < length xs = omega (arith, length_upward xs) in
        let a = getD_upward xs p k in
        let b = named (length xs - 1 - p) (omega arith) in
        (omega (arith, b.0, b.1), fresh_apart (upward xs) up_apart p l)
