-- Which tasks a list names.
use Rattle.std.proofs.Common.{◌≡◌, ℕ, zero, suc, ◌+◌, ◌<◌, ◌≤◌, Bool, true, false, cond, ◌||◌, eqb, List, [], ◌∷◌, ◌++◌, length, get_or, take, sym, refl, ap, ◌∙◌, subst, ⊎_elim, add-one, arith, length-append}
use Rattle.std.specs.List.{list_any}
use Rattle.std.proofs.lemmas.List.{length_push, append-nil, take_more, take_all}
use Rattle.std.proofs.lemmas.Bool.{both_ways, cond-true, cond-false, cases_Bool, eq-eqb, eqb-true, ne_eqb, false≢true, cases_order}
use Rattle.analysis.specs.Rivals.{among, picked, under}
use Rattle.analysis.specs.Plans.{Named, IsOrder}
use Rattle.analysis.proofs.Picked.{picked_fewer}

or_cond : (a b : Bool) → (a || b) ≡ cond a true b
or_cond true b = refl
or_cond false b = refl

-- as `contains` says it
pub any_among : (low : List ℕ) (j : ℕ) → list_any (λ x. eqb x j) low ≡ among low j
any_among [] j = refl
any_among (x ∷ xs) j = or_cond (eqb x j) (list_any (λ x. eqb x j) xs) ∙ ap (λ t. cond (eqb x j) true t) (any_among xs j)

pub among_none : (low : List ℕ) (x : ℕ) → among low x ≡ false → (p : ℕ) → p < length low → get_or low p 0 ≡ x → ⊥
among_none [] x e p l h = omega arith
among_none (y ∷ ys) x e zero l h = both_ways (cond (eqb y x) true (among ys x)) e (cond-true (eqb y x) true (among ys x) (eq-eqb y x h))
among_none (y ∷ ys) x e (suc p) l h =
    among_none ys x
    (⊎_elim (λ t. absurd (both_ways (cond (eqb y x) true (among ys x)) e (cond-true (eqb y x) true (among ys x) t))) (λ f. sym (cond-false (eqb y x) true (among ys x) f) ∙ e) (cases_Bool (eqb y x)))
    p (omega arith) h

pub among_place : (low : List ℕ) (j : ℕ) → among low j ≡ true → (p : ℕ) × (p < length low) × (get_or low p 0 ≡ j)
among_place [] j e = absurd (false≢true e)
among_place (y ∷ ys) j e =
    ⊎_elim
    (λ t. (0, omega arith, eqb-true y j t))
    (λ f.
    let r = among_place ys j (sym (cond-false (eqb y j) true (among ys j) f) ∙ e) in
    (suc r.0, omega (arith, r.1), r.2))
    (cases_Bool (eqb y j))

pub under_at : (q : List ℕ) (p : ℕ) → p < length q → among (take p q) (get_or q p 0) ≡ false → under q (get_or q p 0) ≡ take p q
under_at [] p l h = absurd (omega arith)
under_at (x ∷ xs) zero l h = cond-true (eqb x x) [] (x ∷ under xs x) (eq-eqb x x refl)
under_at (x ∷ xs) (suc p) l h =
    let k = get_or xs p 0 in
    let e : eqb x k ≡ false = ⊎_elim (λ t. absurd (both_ways (cond (eqb x k) true (among (take p xs) k)) h (cond-true (eqb x k) true (among (take p xs) k) t))) (λ f. f) (cases_Bool (eqb x k)) in
    cond-false (eqb x k) [] (x ∷ under xs k) e
    ∙ ap (λ l. x ∷ l) (under_at xs p (omega arith) (sym (cond-false (eqb x k) true (among (take p xs) k) e) ∙ h))

-- one number more is picked
module _ (a b : ℕ → Bool) (x : ℕ) (same : (j : ℕ) → (j ≡ x → ⊥) → b j ≡ a j) (new : a x ≡ false) (now : b x ≡ true) where
  same_before : (n : ℕ) → n ≤ x → picked b (λ j. j) n ≡ picked a (λ j. j) n
  same_before zero l = refl
  same_before (suc n) l = (λ i. same_before n (omega arith) i ++ cond (same n (λ e. omega arith) i) (n ∷ []) [])

  pub one_more : (n : ℕ) → x < n → length (picked b (λ j. j) n) ≡ length (picked a (λ j. j) n) + 1
  one_more zero l = absurd (omega arith)
  one_more (suc n) l =
      ⊎_elim
      (λ e.
      let bn : b n ≡ true = subst (λ j. b j ≡ true) e now in
      let an : a n ≡ false = subst (λ j. a j ≡ false) e new in
      let s = same_before n (omega arith) in
      omega (
        arith,
        ap (λ l. length (picked b (λ j. j) n ++ l)) (cond-true (b n) (n ∷ []) [] bn),
        length_push (picked b (λ j. j) n) n,
        ap (λ l. length (picked a (λ j. j) n ++ l)) (cond-false (a n) (n ∷ []) [] an),
        ap length (append-nil (picked a (λ j. j) n)),
        ap length s,
      ))
      (λ o.
      let lt : x < n = ⊎_elim (λ z. z) (λ z. absurd (omega arith)) o in
      let r = one_more n lt in
      let s : b n ≡ a n = same n (λ e. omega arith) in
      omega (
        arith,
        r,
        ap (λ t. length (picked b (λ j. j) n ++ cond t (n ∷ []) [])) s,
        length-append (picked b (λ j. j) n) (cond (a n) (n ∷ []) []),
        length-append (picked a (λ j. j) n) (cond (a n) (n ∷ []) []),
      ))
      (cases_order x n)

among_push : (low : List ℕ) (x j : ℕ) → (j ≡ x → ⊥) → among (low ++ x ∷ []) j ≡ among low j
among_push [] x j e = cond-false (eqb x j) true false (ne_eqb x j (λ h. e (sym h)))
among_push (y ∷ ys) x j e = ap (λ t. cond (eqb y j) true t) (among_push ys x j e)

among_last : (low : List ℕ) (x : ℕ) → among (low ++ x ∷ []) x ≡ true
among_last [] x = cond-true (eqb x x) true false (eq-eqb x x refl)
among_last (y ∷ ys) x = ⊎_elim (λ t. cond-true (eqb y x) true (among (ys ++ x ∷ []) x) t) (λ f. cond-false (eqb y x) true (among (ys ++ x ∷ []) x) f ∙ among_last ys x) (cases_Bool (eqb y x))

none_picked : (n : ℕ) → length (picked (among []) (λ j. j) n) ≡ 0
none_picked zero = refl
none_picked (suc n) = ap length (append-nil (picked (among []) (λ j. j) n)) ∙ none_picked n

-- as many numbers below n are named as the list is long
count_named : (n : ℕ) (q : List ℕ) → Named n q → (p : ℕ) → p ≤ length q → length (picked (among (take p q)) (λ j. j) n) ≡ p
count_named n q h zero l = none_picked n
count_named n q h (suc p) l =
    let k = get_or q p 0 in
    let s = h p (omega arith) in
    let e : take (suc p) q ≡ take p q ++ k ∷ [] = (rw add-one at (take_more q p 0 (omega arith))) in
    let r = one_more (among (take p q)) (among (take p q ++ k ∷ [])) k (λ j d. among_push (take p q) k j d) s.1 (among_last (take p q) k) n s.0 in
    omega (arith, ap (λ l. length (picked (among l) (λ j. j) n)) e, r, count_named n q h p (omega arith))

-- every task has a place
pub everyone : (n : ℕ) (q : List ℕ) → IsOrder n q → (k : ℕ) → k < n → (p : ℕ) × (p < length q) × (get_or q p 0 ≡ k)
everyone n q order k l =
    ⊎_elim
    (λ t. among_place q k t)
    (λ f.
    let c = count_named n q order.1 (length q) (omega arith) in
    let e = take_all (length q) q (omega arith) in
    let few = picked_fewer (among q) (λ _. false) (λ j. j) (λ j. j) (λ j a b. false≢true b) k f refl n l in
    absurd (omega (arith, ap (λ l. length (picked (among l) (λ j. j) n)) e, order.0)))
    (cases_Bool (among q k))
