-- Bounds that rise one at a time to their own least solutions.
use Rattle.std.proofs.Common.{Option, None, MatchOption, ◌≡◌, ℕ, zero, suc, ◌-◌, ◌<◌, ◌≤◌, Bool, true, false, ◌||◌, List, length, get_or, set, MatchBool, sym, ap, ◌∙◌, subst, ⊎_elim, arith}
use Rattle.std.proofs.lemmas.List.{get_or-set_same, get_or-set_other}
use Rattle.std.proofs.lemmas.Bool.{cases_eq, cases_order, true≢false, false≢true}
use Rattle.analysis.specs.Bounds.{BoundsWithin}
use Rattle.analysis.specs.Steps.{Rising, LeastKept, total}

pub total_le : (f g : ℕ → ℕ) (n : ℕ) → ((k : ℕ) → k < n → f k ≤ g k) → total f n ≤ total g n
total_le f g zero h = omega arith
total_le f g (suc n) h = let r = total_le f g n (λ k l. h k (omega arith)) in let s = h n (omega arith) in omega arith

pub total_lt : (f g : ℕ → ℕ) (n : ℕ) → ((k : ℕ) → k < n → f k ≤ g k) → (k : ℕ) → k < n → f k < g k → total f n < total g n
total_lt f g zero h k l s = absurd (omega arith)
total_lt f g (suc n) h k l s =
    ⊎_elim
    (λ e.
    let r = total_le f g n (λ k l. h k (omega arith)) in
    let t : f n < g n = subst (λ j. f j < g j) e s in omega arith)
    (λ o. let r = total_lt f g n (λ k l. h k (omega arith)) k (⊎_elim (λ x. x) (λ x. absurd (omega arith)) o) s in let t = h n (omega arith) in omega arith)
    (cases_order k n)

pub set_rises : (bs : List ℕ) (k w : ℕ) → k < length bs → get_or bs k 0 ≤ w → (j : ℕ) → get_or bs j 0 ≤ get_or (set bs k w) j 0
set_rises bs k w room le j =
    ⊎_elim
    (λ e. subst (λ i. get_or bs i 0 ≤ get_or (set bs k w) i 0) (sym e) (let s = get_or-set_same bs k w 0 room in omega arith))
    (λ e. let s = get_or-set_other bs k j w 0 e in omega arith)
    (cases_eq j k)

module _ (n : ℕ) (low high : ℕ → ℕ) (g : ℕ → List ℕ → ℕ → ℕ)
    (up : (k : ℕ) (xs bs : List ℕ) → k < n → BoundsWithin n low high xs → BoundsWithin n low high bs → ((j : ℕ) → j < n → (j ≡ k → ⊥) → get_or xs j 0 ≤ get_or bs j 0)
    → (v w : ℕ) → low k ≤ v → v ≤ w → w ≤ high k → g k xs v ≤ g k bs w) where
  module _ (bs : List ℕ) (r : Rising n low high g bs) (k : ℕ) (here : k < n) where
    below_own : (o : List ℕ) → BoundsWithin n low high o → ((j : ℕ) → j < n → g j o (get_or o j 0) ≤ get_or o j 0) → g k bs (get_or o k 0) ≤ get_or o k 0
    below_own o w s =
        let h = up k bs o here r.within w (λ j l e. r.below o w s j l) (get_or o k 0) (get_or o k 0) (w k here).0 (omega arith) (w k here).1 in
        let t = s k here in omega arith

    pub rising_none : ((v : ℕ) → low k ≤ v → v ≤ high k → g k bs v ≤ v → ⊥) → (o : List ℕ) → BoundsWithin n low high o → ((j : ℕ) → j < n → g j o (get_or o j 0) ≤ get_or o j 0) → ⊥
    rising_none none o w s = none (get_or o k 0) (w k here).0 (w k here).1 (below_own o w s)

    module _ (w : ℕ) (kept : LeastKept (g k bs) (low k) (high k) w) (room : k < length bs) where
      pub rises_to : get_or bs k 0 ≤ w
      rises_to = let e = kept.2 in r.lowest k here w kept.0 kept.1 (omega arith)

      at : get_or (set bs k w) k 0 ≡ w
      at = get_or-set_same bs k w 0 room

      more : (j : ℕ) → get_or bs j 0 ≤ get_or (set bs k w) j 0
      more = set_rises bs k w room rises_to

      next_within : BoundsWithin n low high (set bs k w)
      next_within j l =
          ⊎_elim
          (λ e. subst (λ i. (low i ≤ get_or (set bs k w) i 0) × (get_or (set bs k w) i 0 ≤ high i)) (sym e) (let s = at in let a = kept.0 in let b = kept.1 in (omega arith, omega arith)))
          (λ e. let s = get_or-set_other bs k j w 0 e in let o = r.within j l in (omega arith, omega arith))
          (cases_eq j k)

      grown : (j : ℕ) → j < n → (v : ℕ) → low j ≤ v → v ≤ high j → g j bs v ≤ g j (set bs k w) v
      grown j l v a b = up j bs (set bs k w) l r.within next_within (λ i s e. more i) v v a (omega arith) b

      pub rising_more : Rising n low high g (set bs k w)
      rising_more = record {
        within = next_within;
        rises = λ j l.
            ⊎_elim
            (λ e. subst (λ i. get_or (set bs k w) i 0 ≤ g i (set bs k w) (get_or (set bs k w) i 0)) (sym e)
            (subst (λ v. v ≤ g k (set bs k w) v) (sym at) (let s = grown k here w kept.0 kept.1 in let t = kept.2 in omega arith)))
            (λ e. subst (λ v. v ≤ g j (set bs k w) v) (sym (get_or-set_other bs k j w 0 e))
            (let s = grown j l (get_or bs j 0) (r.within j l).0 (r.within j l).1 in let t = r.rises j l in omega arith))
            (cases_eq j k);
        lowest = λ j l v a b c.
            let s = grown j l v a b in
            ⊎_elim
            (λ e.
            let t : w ≤ v = kept.3 v (subst (λ i. low i ≤ v) e a) (subst (λ i. v ≤ high i) e b) (subst (λ i. g i bs v ≤ v) e (omega arith)) in
            subst (λ i. get_or (set bs k w) i 0 ≤ v) (sym e) (let u = at in omega arith))
            (λ e. let t = get_or-set_other bs k j w 0 e in let u = r.lowest j l v a b (omega arith) in omega arith)
            (cases_eq j k);
        below = λ o wo so j l.
            ⊎_elim
            (λ e. subst (λ i. get_or (set bs k w) i 0 ≤ get_or o i 0) (sym e)
            (let t = kept.3 (get_or o k 0) (wo k here).0 (wo k here).1 (below_own o wo so) in let u = at in omega arith))
            (λ e. let t = get_or-set_other bs k j w 0 e in let u = r.below o wo so j l in omega arith)
            (cases_eq j k);
      }

-- one number that rises to what h keeps
module _ (low high : ℕ) (h : ℕ → ℕ) (grows : (v w : ℕ) → low ≤ v → v ≤ w → w ≤ high → h v ≤ h w) (b : ℕ) (from : low ≤ b) (to : b ≤ high) (rises : b ≤ h b)
    (lowest : (v : ℕ) → low ≤ v → v ≤ high → h v ≤ v → b ≤ v) where
  pub kept_more : (next : ℕ) → next ≡ h b → next ≤ high → (low ≤ next) × (next ≤ high) × (next ≤ h next) × ((v : ℕ) → low ≤ v → v ≤ high → h v ≤ v → next ≤ v)
  kept_more next e le = (
    omega arith,
    le,
    (let s = grows b next from (omega arith) le in omega arith),
    λ v a c d. let s = grows b v from (lowest v a c d) c in omega arith,
  )

  pub kept_none : high < h b → (v : ℕ) → low ≤ v → v ≤ high → h v ≤ v → ⊥
  kept_none over v a c d = let s = grows b v from (lowest v a c d) c in omega arith

-- one place of a sweep, from the highest down
module _ (T : List ℕ → ℕ) (Solved : List ℕ → ℕ → Type 0) (top : ℕ) (first old new : List ℕ) (p : ℕ) (some : 0 < p) (so_far : T first ≤ T old) where
  pub sweep_more : (changed raised : Bool) → MatchBool changed (T first < T old) ((old ≡ first) × ((i : ℕ) → p ≤ i → i < top → Solved old i)) → MatchBool raised (T old < T new) ((new ≡ old) × Solved new (p - 1))
      → (T first ≤ T new) × MatchBool (changed || raised) (T first < T new) ((new ≡ first) × ((i : ℕ) → p - 1 ≤ i → i < top → Solved new i))
  sweep_more true true h r = (omega arith, omega arith)
  sweep_more true false h r = let e = ap T r.0 in (omega arith, omega arith)
  sweep_more false true h r = (omega arith, omega arith)
  sweep_more false false h r =
      let e = ap T r.0 in (
        omega arith,
        (
          r.0 ∙ h.0,
          λ i a b.
              ⊎_elim
              (λ x. subst (λ j. Solved new j) x r.1)
              (λ x. subst (λ l. Solved l i) (sym r.0) (h.1 i (⊎_elim (λ y. omega arith) (λ y. absurd (omega arith)) x) b))
              (cases_order (p - 1) i),
        ),
      )

pub sweep_all : (changed : Bool) (A E L : Type 0) (P : ℕ → Type 0) (top p : ℕ) → p ≡ 0 → MatchBool changed A (E × ((i : ℕ) → p ≤ i → i < top → P i)) → (((i : ℕ) → i < top → P i) → L) → MatchBool changed A L
sweep_all true A E L P top p e h f = h
sweep_all false A E L P top p e h f = f (λ i l. h.1 i (omega arith) l)

pub when_none : {A : Type 0} (N : Type 0) (S : A → Type 0) {r : Option A} → r ≡ None → N → MatchOption r N S
when_none N S e n = subst (λ o. MatchOption o N S) (sym e) n

pub when_yes : (b : Bool) (A B : Type 0) → b ≡ true → MatchBool b A B → A
when_yes true A B e h = h
when_yes false A B e h = absurd (false≢true e)

pub when_no : (b : Bool) (A B : Type 0) → b ≡ false → MatchBool b A B → B
when_no true A B e h = absurd (true≢false e)
when_no false A B e h = h

pub when_map : (A B A' B' : Type 0) (b : Bool) → (A → A') → (B → B') → MatchBool b A B → MatchBool b A' B'
when_map A B A' B' true f g h = f h
when_map A B A' B' false f g h = g h

pub ne_lt : (x y : ℕ) → x ≤ y → (y ≡ x → ⊥) → x < y
ne_lt x y le ne = ⊎_elim (λ e. absurd (ne (sym e))) (⊎_elim (λ lt. lt) (λ gt. absurd (omega arith))) (cases_order x y)
