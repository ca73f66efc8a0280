-- Places that two lists give, entry by entry.
use Rattle.std.proofs.Common.{◌≡◌, ℕ, ◌+◌, ◌<◌, ◌≤◌, ◌⊎◌, List, [], ◌∷◌, ◌++◌, length, sym, refl, ap, ◌∙◌, ⊎_elim, arith, length-append}
use Rattle.std.proofs.lemmas.List.{append-nil, nil_from_length}
use Rattle.table_file.specs.declared.place.Place.{Place}
use Rattle.table_file.specs.Puts.{paired}

paired_within : (ns ls : List ℕ) → length (paired ns ls) ≤ length ns
paired_within [] ls = omega arith
paired_within (n ∷ ns) [] = omega arith
paired_within (n ∷ ns) (l ∷ ls) = omega (arith, paired_within ns ls)

paired_nil : (ns : List ℕ) → paired ns [] ≡ []
paired_nil [] = refl
paired_nil (n ∷ ns) = refl

module _ (ps : List Place) (xs ys ns ls : List ℕ) (inv : ps ++ paired xs ys ≡ paired ns ls) where
  -- while both have an entry more, there is room for a place more
  pub pairs_fit : (x y : ℕ) (us vs : List ℕ) → xs ≡ x ∷ us → ys ≡ y ∷ vs → length ps < length ns
  pairs_fit x y us vs ex ey =
      let n : length (paired xs ys) ≡ length (paired us vs) + 1 = (λ i. length (paired (ex i) (ey i))) ∙ omega arith in
      omega (arith, ap length inv, length-append ps (paired xs ys), paired_within ns ls)

  -- where one has none, these are all
  pub pairs_all : (length xs ≡ 0) ⊎ (length ys ≡ 0) → ps ≡ paired ns ls
  pairs_all h =
      let none : paired xs ys ≡ [] =
      ⊎_elim
      (λ e. ap (λ l. paired l ys) (nil_from_length xs e))
      (λ e. ap (paired xs) (nil_from_length ys e) ∙ paired_nil xs) h in
      sym (append-nil ps) ∙ ap (λ l. ps ++ l) (sym none) ∙ inv
