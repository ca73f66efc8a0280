-- Places filled from the lowest up, each with the first length that passes: what this decides of one order, and of all
-- orders before it.
use Rattle.std.proofs.Common.{◌≡◌, ℕ, zero, suc, ◌<◌, ◌≤◌, Bool, true, false, ◌&&◌, ◌||◌, ltb, List, [], ◌∷◌, ◌++◌, length, get_or, set, Some, None, Decides, Option, sym, refl, ap, ◌∙◌, subst, subst₂, ⊎_elim, arith, MatchOption}
use Rattle.std.proofs.lemmas.List.{append_assoc, append-nil, take_at, get_or_at, length-append, length-set}
use Rattle.std.proofs.lemmas.Bool.{and_parts, or_cases, both_ways, ltb-true, false≢true}
use Rattle.analysis.specs.Rivals.{among}
use Rattle.analysis.specs.Plans.{Before, IsOrder, IsChoice, Test}
use Rattle.analysis.specs.Steps.{InfeasibleByPlace, Greedy}
use Rattle.analysis.proofs.Greedy.{greedy_more, greedy_none, infeasible_more}
use Rattle.examples.proofs.Bounded.{all_below, all_below_at, first, first_none, first_some, on, on_both}

module _ (size : ℕ → ℕ) (n : ℕ) (test : List ℕ → ℕ → List ℕ → ℕ → Bool) where
  -- the first length of task x above those of `pre` with their lengths, or 0
  abbrev pub fit : List ℕ → List ℕ → ℕ → ℕ
  fit pre lens x = first (test pre x lens) (size x) 1

  -- the lengths with the tasks of a list placed too, or there are none
  abbrev pub placed : List ℕ → List ℕ → List ℕ → Option (List ℕ)
  placed pre lens [] = Some lens
  placed pre lens (x ∷ xs) = on (fit pre lens x) None (λ f. placed (pre ++ x ∷ []) (set lens x f) xs)

  -- no order that begins with `pre` and goes on with y passes, where `rest` tells this of all that begins with one more
  abbrev pub cut : (List ℕ → List ℕ → Bool) → List ℕ → List ℕ → ℕ → Bool
  cut rest pre lens y = among pre y || on (fit pre lens y) true (λ f. rest (pre ++ y ∷ []) (set lens y f))

  -- no order that begins with `pre` passes, as d places more tell
  abbrev pub stuck : ℕ → List ℕ → List ℕ → Bool
  stuck zero pre lens = false
  stuck (suc d) pre lens = ltb (length pre) n && all_below n (cut (stuck d) pre lens)

  -- no order that begins with `pre` and is before this one passes
  abbrev pub clear : List ℕ → List ℕ → List ℕ → Bool
  clear pre lens [] = true
  clear pre lens (x ∷ xs) =
      all_below x (cut (stuck n) pre lens) && on (fit pre lens x) false (λ f. clear (pre ++ x ∷ []) (set lens x f) xs)

-- what passes with longer regions below passes with shorter ones
abbrev pub Falls : (ℕ → ℕ) → ℕ → Test → Type 0
Falls size n ok =
    (low : List ℕ) (k : ℕ) (lens other : List ℕ) (f : ℕ) → k < n → 1 ≤ f → f ≤ size k → IsChoice size n lens → IsChoice size n other
    → ((p : ℕ) → p < length low → get_or lens (get_or low p 0) 0 ≤ get_or other (get_or low p 0) 0) → ok low k other f → ok low k lens f

module _ (size : ℕ → ℕ) (n : ℕ) (ok : Test) (test : List ℕ → ℕ → List ℕ → ℕ → Bool)
    (decides : (low : List ℕ) (k : ℕ) (lens : List ℕ) (f : ℕ) → Decides (test low k lens f) (ok low k lens f)) (falls : Falls size n ok) where
  -- the least lengths of what is placed, in a list by task number
  abbrev Least : List ℕ → List ℕ → Type 0
  Least pre lens = Greedy size n ok pre lens × (length lens ≡ n)

  abbrev Bad : List ℕ → Type 0
  Bad q = InfeasibleByPlace size n ok q

  no : (low : List ℕ) (k : ℕ) (lens : List ℕ) (f : ℕ) → test low k lens f ≡ false → ok low k lens f → ⊥
  no low k lens f e h = both_ways (test low k lens f) e ((decides low k lens f).1 h)

  next_named : (pre : List ℕ) (x : ℕ) (xs : List ℕ) → IsOrder n (pre ++ x ∷ xs) → (x < n) × (among pre x ≡ false)
  next_named pre x xs o =
      subst₂ (λ low k. (k < n) × (among low k ≡ false)) (take_at pre (x ∷ xs) (length pre) refl) (get_or_at pre x xs 0 (length pre) refl)
      (o.1 (length pre) (omega (arith, length-append pre (x ∷ xs))))

  no_fit : (pre lens : List ℕ) → Least pre lens → (x : ℕ) (xs : List ℕ) → IsOrder n (pre ++ x ∷ xs) → fit size n test pre lens x ≡ 0 → Bad (pre ++ x ∷ xs)
  no_fit pre lens g x xs o e =
      let bad = greedy_none size n ok falls pre lens g.0 x (next_named pre x xs o).0
      (λ f a b. no pre x lens f (first_none (test pre x lens) (size x) 1 (omega arith) e f a (omega arith))) in
      subst Bad (append_assoc pre (x ∷ []) xs)
      (infeasible_more size n ok ((pre ++ x ∷ []) ++ xs) (length (pre ++ x ∷ [])) (omega (arith, length-append (pre ++ x ∷ []) xs))
      (subst Bad (sym (take_at (pre ++ x ∷ []) xs (length (pre ++ x ∷ [])) refl)) bad))

  fit_more : (pre lens : List ℕ) → Least pre lens → (x : ℕ) (xs : List ℕ) → IsOrder n (pre ++ x ∷ xs) → (f : ℕ) → fit size n test pre lens x ≡ f → 1 ≤ f
      → Least (pre ++ x ∷ []) (set lens x f)
  fit_more pre lens g x xs o f e pos =
      let s = first_some (test pre x lens) (size x) 1 f pos e in
      let k = next_named pre x xs o in (
        greedy_more size n ok falls pre lens g.0 x k.0 k.1 (omega (arith, g.1, k.0)) f pos (omega (arith, s.1)) ((decides pre x lens f).0 s.2)
            (λ h a b. no pre x lens h (s.3 h a b)),
        length-set lens x f ∙ g.1,
      )

  regroup : (pre : List ℕ) (x : ℕ) (xs : List ℕ) → IsOrder n (pre ++ x ∷ xs) → IsOrder n ((pre ++ x ∷ []) ++ xs)
  regroup pre x xs o = subst (IsOrder n) (sym (append_assoc pre (x ∷ []) xs)) o

  pub placed_is : (pre lens : List ℕ) → Least pre lens → (xs : List ℕ) → IsOrder n (pre ++ xs)
      → MatchOption (placed size n test pre lens xs) (Bad (pre ++ xs)) (λ l. Greedy size n ok (pre ++ xs) l)
  placed_is pre lens g [] o = subst (λ q. Greedy size n ok q lens) (sym (append-nil pre)) g.0
  placed_is pre lens g (x ∷ xs) o =
      on_both (fit size n test pre lens x) None (λ f. placed size n test (pre ++ x ∷ []) (set lens x f) xs)
      (λ r. MatchOption r (Bad (pre ++ x ∷ xs)) (λ l. Greedy size n ok (pre ++ x ∷ xs) l))
      (no_fit pre lens g x xs o)
      (λ f e pos.
      subst (λ q. MatchOption (placed size n test (pre ++ x ∷ []) (set lens x f) xs) (Bad q) (λ l. Greedy size n ok q l)) (append_assoc pre (x ∷ []) xs)
      (placed_is (pre ++ x ∷ []) (set lens x f) (fit_more pre lens g x xs o f e pos) xs (regroup pre x xs o)))

  -- all that begins like this is bad
  abbrev Tells : (List ℕ → List ℕ → Bool) → Type 0
  Tells rest = (pre lens : List ℕ) → Least pre lens → rest pre lens ≡ true → (ys : List ℕ) → IsOrder n (pre ++ ys) → Bad (pre ++ ys)

  cut_is : (rest : List ℕ → List ℕ → Bool) → Tells rest → (pre lens : List ℕ) → Least pre lens → (y : ℕ) (ys : List ℕ) → IsOrder n (pre ++ y ∷ ys)
      → cut size n test rest pre lens y ≡ true → Bad (pre ++ y ∷ ys)
  cut_is rest tells pre lens g y ys o h =
      let found : ℕ → Bool = λ f. rest (pre ++ y ∷ []) (set lens y f) in
      ⊎_elim
      (λ t. absurd (both_ways (among pre y) (next_named pre y ys o).1 t))
      (on_both (fit size n test pre lens y) true found (λ b. b ≡ true → Bad (pre ++ y ∷ ys))
      (λ e t. no_fit pre lens g y ys o e)
      (λ f e pos t. subst Bad (append_assoc pre (y ∷ []) ys) (tells (pre ++ y ∷ []) (set lens y f) (fit_more pre lens g y ys o f e pos) t ys (regroup pre y ys o))))
      (or_cases (among pre y) (on (fit size n test pre lens y) true found) h)

  stuck_is : (d : ℕ) → Tells (stuck size n test d)
  stuck_is zero pre lens g h ys o = absurd (false≢true h)
  stuck_is (suc d) pre lens g h [] o =
      let p = and_parts (ltb (length pre) n) (all_below n (cut size n test (stuck size n test d) pre lens)) h in
      absurd (omega (arith, ltb-true (length pre) n p.0, ap length (append-nil pre), o.0))
  stuck_is (suc d) pre lens g h (y ∷ ys) o =
      let p = and_parts (ltb (length pre) n) (all_below n (cut size n test (stuck size n test d) pre lens)) h in
      cut_is (stuck size n test d) (stuck_is d) pre lens g y ys o (all_below_at n (cut size n test (stuck size n test d) pre lens) p.1 y (next_named pre y ys o).0)

  pub clear_is : (pre lens : List ℕ) → Least pre lens → (xs : List ℕ) → clear size n test pre lens xs ≡ true
      → (ys : List ℕ) → IsOrder n (pre ++ ys) → Before ys xs → Bad (pre ++ ys)
  clear_is pre lens g xs h [] o b = absurd b
  clear_is pre lens g [] h (y ∷ ys) o b = absurd b
  clear_is pre lens g (x ∷ xs) h (y ∷ ys) o b =
      let found : ℕ → Bool = λ f. clear size n test (pre ++ x ∷ []) (set lens x f) xs in
      let cuts = cut size n test (stuck size n test n) pre lens in
      let p = and_parts (all_below x cuts) (on (fit size n test pre lens x) false found) h in
      ⊎_elim
      (λ lt. cut_is (stuck size n test n) (stuck_is n) pre lens g y ys o (all_below_at x cuts p.0 y lt))
      (λ e.
      let o' : IsOrder n (pre ++ x ∷ ys) = subst (λ k. IsOrder n (pre ++ k ∷ ys)) e.0 o in
      subst (λ k. Bad (pre ++ k ∷ ys)) (sym e.0)
      (on_both (fit size n test pre lens x) false found (λ b. b ≡ true → Bad (pre ++ x ∷ ys))
      (λ i t. absurd (false≢true t))
      (λ f i pos t.
      subst Bad (append_assoc pre (x ∷ []) ys)
      (clear_is (pre ++ x ∷ []) (set lens x f) (fit_more pre lens g x ys o' f i pos) xs t ys (regroup pre x ys o') e.1))
      p.1))
      b
