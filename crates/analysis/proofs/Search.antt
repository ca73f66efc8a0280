-- A depth-first search for the first order that is not bad, where what begins badly is bad.
use Rattle.std.proofs.Common.{◌≡◌, ℕ, ◌+◌, ◌<◌, ◌≤◌, false, ◌⊎◌, List, [], ◌∷◌, ◌++◌, length, get_or, take, sym, refl, ap, ◌∙◌, subst, inl, inr, ⊎_elim, arith}
use Rattle.std.proofs.lemmas.List.{length_push, take_more, nil_from_length, get_or_push}
use Rattle.std.proofs.lemmas.Bool.{cases_lt}
use Rattle.analysis.specs.Rivals.{among}
use Rattle.analysis.specs.Plans.{Before, Named, IsOrder}

before_nil : (q : List ℕ) → Before q [] → ⊥
before_nil [] b = b
before_nil (q ∷ qs) b = b

-- what comes before a later candidate comes before an earlier one, or has a candidate between
before_upto : (q pre : List ℕ) (next x : ℕ) → Before q (pre ++ x ∷ []) → Before q (pre ++ next ∷ []) ⊎ ((take (length pre) q ≡ pre) × (next ≤ get_or q (length pre) 0) × (get_or q (length pre) 0 < x) × (length pre < length q))
before_upto [] pre next x b = absurd b
before_upto (q ∷ qs) [] next x b =
    ⊎_elim
    (λ lt. ⊎_elim (λ l. inl (inl l)) (λ g. inr (refl, g, lt, omega arith)) (cases_lt q next))
    (λ h. absurd (before_nil qs h.1)) b
before_upto (q ∷ qs) (p ∷ pre) next x b =
    ⊎_elim
    (λ lt. inl (inl lt))
    (λ h. ⊎_elim
    (λ r. inl (inr (h.0, r)))
    (λ r. inr ((λ i. h.0 i ∷ r.0 i), r.1, r.2, omega (arith, r.3)))
    (before_upto qs pre next x h.1)) b

before_zero : (q xs : List ℕ) → Before q (xs ++ 0 ∷ []) → Before q xs
before_zero [] xs b = b
before_zero (q ∷ qs) [] b = ⊎_elim (λ lt. omega arith) (λ h. before_nil qs h.1) b
before_zero (q ∷ qs) (x ∷ xs) b = ⊎_elim (λ lt. inl lt) (λ h. inr (h.0, before_zero qs xs h.1)) b

before_extend : (q xs ys : List ℕ) → Before q xs → Before q (xs ++ ys)
before_extend [] xs ys b = absurd b
before_extend (q ∷ qs) [] ys b = absurd b
before_extend (q ∷ qs) (x ∷ xs) ys b = ⊎_elim (λ lt. inl lt) (λ h. inr (h.0, before_extend qs xs ys h.1)) b

before_begins : (q xs : List ℕ) (z : ℕ) → take (length xs) q ≡ xs → length xs < length q → get_or q (length xs) 0 < z → Before q (xs ++ z ∷ [])
before_begins [] xs z e l g = absurd (omega arith)
before_begins (q ∷ qs) [] z e l g = inl g
before_begins (q ∷ qs) (x ∷ xs) z e l g =
    let h : q ≡ x = cc in
    let t : take (length xs) qs ≡ xs = cc in
    inr (h, before_begins qs xs z t (omega arith) g)

module _ (n : ℕ) (Bad : List ℕ → Type 0) where
  -- orders before all that begin with pre and go on with next or a later task are bad
  abbrev pub Searched : List ℕ → ℕ → Type 0
  Searched pre next = (q : List ℕ) → IsOrder n q → Before q (pre ++ next ∷ []) → Bad q

  -- task y cannot come next
  abbrev pub Gone : List ℕ → ℕ → Type 0
  Gone pre y = among pre y ≡ false → Bad (pre ++ y ∷ [])

  pub searched_start : Searched [] 0
  searched_start q h b = absurd (before_nil q (before_zero q [] b))

  pub searched_done : (pre : List ℕ) (next : ℕ) → Searched pre next → (q : List ℕ) → IsOrder n q → Before q pre → Bad q
  searched_done pre next s q h b = s q h (before_extend q pre (next ∷ []) b)

  module _ (more : (q : List ℕ) (m : ℕ) → m ≤ length q → Bad (take m q) → Bad q) where
    passed : (pre : List ℕ) (next : ℕ) → Searched pre next → (x : ℕ) → ((y : ℕ) → next ≤ y → y < x → Gone pre y) → (q : List ℕ) → IsOrder n q → Before q (pre ++ x ∷ []) → Bad q
    passed pre next s x gone q order b =
        ⊎_elim (s q order)
        (λ r.
        let p = length pre in
        let y = get_or q p 0 in
        let bad = gone y r.1 r.2 (subst (λ l. among l y ≡ false) r.0 (order.1 p r.3).1) in
        more q (p + 1) (omega (arith, r.3)) (subst Bad (sym (take_more q p 0 r.3 ∙ ap (λ l. l ++ y ∷ []) r.0)) bad))
        (before_upto q pre next x b)

    pub searched_place : (pre : List ℕ) (next : ℕ) → Searched pre next → (x : ℕ) → ((y : ℕ) → next ≤ y → y < x → Gone pre y) → Searched (pre ++ x ∷ []) 0
    searched_place pre next s x gone q order b = passed pre next s x gone q order (before_zero q (pre ++ x ∷ []) b)

    pub searched_none : (pre : List ℕ) (next : ℕ) → Searched pre next → length pre ≡ 0 → 0 < n → ((y : ℕ) → next ≤ y → y < n → Gone pre y) → (q : List ℕ) → IsOrder n q → Bad q
    searched_none pre next s e pos gone q order =
        passed pre next s n gone q order (before_begins q pre n (ap (λ k. take k q) e ∙ sym (nil_from_length pre e)) (omega (arith, order.0)) (order.1 (length pre) (omega (arith, order.0))).0)

    pub searched_back : (pre : List ℕ) (y next : ℕ) → Searched (pre ++ y ∷ []) next → length pre + 1 < n → ((z : ℕ) → next ≤ z → z < n → Gone (pre ++ y ∷ []) z) → Searched pre (y + 1)
    searched_back pre y next s l gone q order b =
        passed (pre ++ y ∷ []) next s n gone q order
        (⊎_elim
        (λ r. before_extend q (pre ++ y ∷ []) (n ∷ []) r)
        (λ r.
        let m = length_push pre y in
        let e : get_or q (length pre) 0 ≡ y = omega (arith, r.1, r.2) in
        let t : take (length (pre ++ y ∷ [])) q ≡ pre ++ y ∷ [] =
        ap (λ k. take k q) m ∙ take_more q (length pre) 0 r.3 ∙ (λ i. r.0 i ++ e i ∷ []) in
        let room : length (pre ++ y ∷ []) < length q = omega (arith, m, order.0) in
        before_begins q (pre ++ y ∷ []) n t room (order.1 (length (pre ++ y ∷ [])) room).0)
        (before_upto q pre y (y + 1) b))

-- the task that was placed last
pub last_below : (n : ℕ) (pre : List ℕ) (y : ℕ) → Named n (pre ++ y ∷ []) → y < n
last_below n pre y h =
    let g : get_or (pre ++ y ∷ []) (length pre) 0 ≡ y = get_or_push pre y 0 (length pre) refl in
    omega (arith, g, (h (length pre) (omega (arith, length_push pre y))).0)
