-- From the lowest place up, the first length that passes is the least of any choice that passes.
use Rattle.std.proofs.Common.{◌≡◌, ℕ, ◌+◌, ◌<◌, ◌≤◌, false, List, [], ◌∷◌, ◌++◌, length, get_or, take, set, sym, refl, ap, ◌∙◌, subst, subst₂, ⊎_elim, arith}
use Rattle.std.proofs.lemmas.List.{take_at, take_all, take-take, get_or-take, get_or_append_left, get_or_at, take-append-le, length_push, length-take-le, get_or-set_same, get_or-set_other}
use Rattle.std.proofs.lemmas.Bool.{cases_eq, cases_lt}
use Rattle.analysis.specs.Rivals.{among}
use Rattle.analysis.specs.Plans.{IsChoice, Test}
use Rattle.analysis.specs.Steps.{PlacesPass, LeastByPlace, InfeasibleByPlace, Greedy}
use Rattle.analysis.proofs.Among.{among_none}

-- places of a list and of one that is longer at its end
module _ (pre : List ℕ) (x : ℕ) where
  pub push_old : (P : List ℕ → ℕ → Type 0) (p : ℕ) → p < length pre → P (take p pre) (get_or pre p 0) → P (take p (pre ++ x ∷ [])) (get_or (pre ++ x ∷ []) p 0)
  push_old P p l h = subst₂ P (sym (take-append-le p pre (x ∷ []) (omega arith))) (sym (get_or_append_left pre (x ∷ []) 0 p l)) h

  pub push_new : (P : List ℕ → ℕ → Type 0) (p : ℕ) → p ≡ length pre → P pre x → P (take p (pre ++ x ∷ [])) (get_or (pre ++ x ∷ []) p 0)
  push_new P p e h = subst₂ P (sym (take_at pre (x ∷ []) p (sym e))) (sym (get_or_at pre x [] 0 p (sym e))) h

  pub old_push : (P : List ℕ → ℕ → Type 0) (p : ℕ) → p < length pre → P (take p (pre ++ x ∷ [])) (get_or (pre ++ x ∷ []) p 0) → P (take p pre) (get_or pre p 0)
  old_push P p l h = subst₂ P (take-append-le p pre (x ∷ []) (omega arith)) (get_or_append_left pre (x ∷ []) 0 p l) h

  pub new_push : (P : List ℕ → ℕ → Type 0) → P (take (length pre) (pre ++ x ∷ [])) (get_or (pre ++ x ∷ []) (length pre) 0) → P pre x
  new_push P h = subst₂ P (take_at pre (x ∷ []) (length pre) refl) (get_or_at pre x [] 0 (length pre) refl) h

  -- what holds at each place of both parts
  pub push_places : (P : List ℕ → ℕ → Type 0) → ((p : ℕ) → p < length pre → P (take p pre) (get_or pre p 0)) → P pre x
      → (p : ℕ) → p < length (pre ++ x ∷ []) → P (take p (pre ++ x ∷ [])) (get_or (pre ++ x ∷ []) p 0)
  push_places P old new p l =
      ⊎_elim (λ s. push_old P p s (old p s)) (λ s. push_new P p (omega (arith, length_push pre x)) new) (cases_lt p (length pre))

pub prefix_places : (P : List ℕ → ℕ → Type 0) (q : List ℕ) (m : ℕ) → m ≤ length q → ((p : ℕ) → p < length q → P (take p q) (get_or q p 0))
    → (p : ℕ) → p < length (take m q) → P (take p (take m q)) (get_or (take m q) p 0)
prefix_places P q m l h p s =
    let t : p < m = omega (arith, length-take-le m q l) in
    subst₂ P (sym (take-take p m q (omega arith))) (sym (get_or-take m q p 0 t)) (h p (omega arith))

module _ (size : ℕ → ℕ) (n : ℕ) (ok : Test) where
  pub pass_prefix : (q o : List ℕ) (m : ℕ) → m ≤ length q → PlacesPass ok q o → PlacesPass ok (take m q) o
  pass_prefix q o m l h = prefix_places (λ low k. ok low k o (get_or o k 0)) q m l h

  pub greedy_start : (lens : List ℕ) → IsChoice size n lens → Greedy size n ok [] lens
  greedy_start lens c = record { named = λ p l. absurd (omega arith); choice = c; pass = λ p l. absurd (omega arith); least = λ o h p l. absurd (omega arith) }

  pub greedy_least : {q lens : List ℕ} → Greedy size n ok q lens → LeastByPlace size n ok q lens
  greedy_least {q} {lens} g = record { choice = g.choice; pass = g.pass; least = λ o c h p l. g.least o c p l (pass_prefix q o (p + 1) (omega arith) h) }

  -- what is placed is still least where the last is taken back
  pub greedy_back : (pre : List ℕ) (y : ℕ) (lens : List ℕ) → Greedy size n ok (pre ++ y ∷ []) lens → Greedy size n ok pre lens
  greedy_back pre y lens g =
      let more : (p : ℕ) → p < length pre → p < length (pre ++ y ∷ []) = λ p l. omega (arith, length_push pre y) in
      record {
        named = λ p l. old_push pre y (λ low k. (k < n) × (among low k ≡ false)) p l (g.named p (more p l));
        choice = g.choice;
        pass = λ p l. old_push pre y (λ low k. ok low k lens (get_or lens k 0)) p l (g.pass p (more p l));
        least = λ o c p l h.
            subst (λ k. get_or lens k 0 ≤ get_or o k 0) (get_or_append_left pre (y ∷ []) 0 p l)
            (g.least o c p (more p l) (subst (λ l. PlacesPass ok l o) (sym (take-append-le (p + 1) pre (y ∷ []) (omega arith))) h));
      }

  pub infeasible_more : (q : List ℕ) (m : ℕ) → m ≤ length q → InfeasibleByPlace size n ok (take m q) → InfeasibleByPlace size n ok q
  infeasible_more q m l h lens c p = h lens c (pass_prefix q lens m l p)

  -- The test looks only at the lengths of what is placed lower, and holds for smaller ones.
  module _ (falls : (low : List ℕ) (k : ℕ) (lens other : List ℕ) (f : ℕ) → k < n → 1 ≤ f → f ≤ size k → IsChoice size n lens → IsChoice size n other
      → ((p : ℕ) → p < length low → get_or lens (get_or low p 0) 0 ≤ get_or other (get_or low p 0) 0) → ok low k other f → ok low k lens f)
      (pre lens : List ℕ) (g : Greedy size n ok pre lens) (x : ℕ) (below : x < n) where
    -- a length of x that passes with others passes with these
    passes_here : (o : List ℕ) → IsChoice size n o → PlacesPass ok (pre ++ x ∷ []) o → ok pre x lens (get_or o x 0)
    passes_here o c h =
        falls pre x lens o (get_or o x 0) below (c x below).0 (c x below).1 g.choice c
        (λ p l. g.least o c p l
        (subst (λ l. PlacesPass ok l o) (take-append-le (p + 1) pre (x ∷ []) (omega arith)) (pass_prefix (pre ++ x ∷ []) o (p + 1) (omega (arith, length_push pre x)) h)))
        (new_push pre x (λ low k. ok low k o (get_or o k 0)) (h (length pre) (omega (arith, length_push pre x))))

    pub greedy_none : ((f : ℕ) → 1 ≤ f → f ≤ size x → ok pre x lens f → ⊥) → InfeasibleByPlace size n ok (pre ++ x ∷ [])
    greedy_none none o c h = none (get_or o x 0) (c x below).0 (c x below).1 (passes_here o c h)

    module _ (fresh : among pre x ≡ false) (room : x < length lens) (f : ℕ) (low : 1 ≤ f) (high : f ≤ size x) where
      next : List ℕ
      next = set lens x f

      other_same : (k : ℕ) → (k ≡ x → ⊥) → get_or (set lens x f) k 0 ≡ get_or lens k 0
      other_same k e = get_or-set_other lens x k f 0 e

      next_choice : IsChoice size n (set lens x f)
      next_choice k l =
          ⊎_elim
          (λ e. let s : get_or (set lens x f) k 0 ≡ f = ap (λ j. get_or (set lens x f) j 0) e ∙ get_or-set_same lens x f 0 room in (omega arith, subst (λ j. get_or (set lens x f) k 0 ≤ size j) (sym e) (omega arith)))
          (λ e. let s = other_same k e in let h = g.choice k l in (omega arith, omega arith))
          (cases_eq k x)

      differs : (p : ℕ) → p < length pre → get_or pre p 0 ≡ x → ⊥
      differs p l = among_none pre x fresh p l

      same_below : (p : ℕ) → p < length pre → get_or (set lens x f) (get_or pre p 0) 0 ≡ get_or lens (get_or pre p 0) 0
      same_below p l = other_same (get_or pre p 0) (differs p l)

      pub greedy_more : ok pre x lens f → ((e : ℕ) → 1 ≤ e → e < f → ok pre x lens e → ⊥) → Greedy size n ok (pre ++ x ∷ []) (set lens x f)
      greedy_more here none = record {
        named = push_places pre x (λ low k. (k < n) × (among low k ≡ false)) g.named (below, fresh);
        choice = next_choice;
        pass = push_places pre x (λ low k. ok low k (set lens x f) (get_or (set lens x f) k 0))
            (λ p l.
            let k = get_or pre p 0 in
            let kn = (g.named p l).0 in
            let t = length-take-le p pre (omega arith) in
            subst (λ e. ok (take p pre) k (set lens x f) e) (sym (same_below p l))
            (falls (take p pre) k (set lens x f) lens (get_or lens k 0) kn (g.choice k kn).0 (g.choice k kn).1 next_choice g.choice
            (λ i s. let b = same_below i (omega arith) in let r = get_or-take p pre i 0 (omega arith) in subst (λ j. get_or (set lens x f) j 0 ≤ get_or lens j 0) (sym r) (omega arith))
            (g.pass p l)))
            (subst (λ e. ok pre x (set lens x f) e) (sym (get_or-set_same lens x f 0 room))
            (falls pre x (set lens x f) lens f below low high next_choice g.choice (λ i s. let b = same_below i s in omega arith) here));
        least = λ o c p l h.
            ⊎_elim
            (λ s.
            subst (λ k. get_or (set lens x f) k 0 ≤ get_or o k 0) (sym (get_or_append_left pre (x ∷ []) 0 p s))
            (let b = same_below p s in
            let r = g.least o c p s (subst (λ l. PlacesPass ok l o) (take-append-le (p + 1) pre (x ∷ []) (omega arith)) h) in omega arith))
            (λ s.
            let e : p ≡ length pre = omega (arith, length_push pre x) in
            let whole : take (p + 1) (pre ++ x ∷ []) ≡ pre ++ x ∷ [] = take_all (p + 1) (pre ++ x ∷ []) (omega (arith, length_push pre x)) in
            let found = passes_here o c (subst (λ l. PlacesPass ok l o) whole h) in
            subst (λ k. get_or (set lens x f) k 0 ≤ get_or o k 0) (sym (get_or_at pre x [] 0 p (sym e)))
            (let b = get_or-set_same lens x f 0 room in
            ⊎_elim (λ lt. absurd (none (get_or o x 0) (c x below).0 lt found)) (λ le. omega arith) (cases_lt (get_or o x 0) f)))
            (cases_lt p (length pre));
      }
