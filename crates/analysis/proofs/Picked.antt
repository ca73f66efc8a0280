-- Lists of what is picked by number.
use Rattle.std.proofs.Common.{◌≡◌, ℕ, zero, suc, ◌+◌, ◌<◌, ◌≤◌, Bool, true, false, cond, ◌⊎◌, List, [], ◌∷◌, ◌++◌, length, sym, refl, ap, ◌∙◌, subst, inl, inr, ⊎_elim, arith}
use Rattle.std.specs.List.{AllZip, AllByRecursion}
use Rattle.std.proofs.lemmas.List.{length_push, append-nil}
use Rattle.std.proofs.lemmas.List.Elements.{AllZip-push}
use Rattle.std.proofs.ByRecursion.{All-push}
use Rattle.std.proofs.lemmas.Bool.{cond-true, cond-false, cases_Bool, cases_order}
use Rattle.analysis.specs.Rivals.{picked}

module _ {X : Type 0} (p : ℕ → Bool) (g : ℕ → X) where
  pub all_picked : (P : X → Type 0) (n : ℕ) → ((j : ℕ) → j < n → p j ≡ true → P (g j)) → AllByRecursion P (picked p g n)
  all_picked P zero h = tt
  all_picked P (suc n) h =
      let r = all_picked P n (λ j l e. h j (omega arith) e) in
      ⊎_elim
      (λ e. subst (AllByRecursion P) (sym (ap (λ l. picked p g n ++ l) (cond-true (p n) (g n ∷ []) [] e))) (All-push P (picked p g n) (g n) r (h n (omega arith) e)))
      (λ e. subst (AllByRecursion P) (sym (ap (λ l. picked p g n ++ l) (cond-false (p n) (g n ∷ []) [] e) ∙ append-nil (picked p g n))) r)
      (cases_Bool (p n))

each_picked_more : {X : Type 0} (R : X → X → Type 0) (b : Bool) (xs ys : List X) (x y : X) → AllZip R xs ys → (b ≡ true → R x y)
    → AllZip R (xs ++ cond b (x ∷ []) []) (ys ++ cond b (y ∷ []) [])
each_picked_more R true xs ys x y h r = AllZip-push R xs ys x y h (r refl)
each_picked_more R false xs ys x y h r = rw (append-nil xs, append-nil ys) h

pub each_picked : {X : Type 0} (R : X → X → Type 0) (p : ℕ → Bool) (g h : ℕ → X) (n : ℕ) → ((j : ℕ) → j < n → p j ≡ true → R (g j) (h j))
    → AllZip R (picked p g n) (picked p h n)
each_picked R p g h zero r = tt
each_picked R p g h (suc n) r = each_picked_more R (p n) (picked p g n) (picked p h n) (g n) (h n) (each_picked R p g h n (λ j l e. r j (omega arith) e)) (λ e. r n (omega arith) e)

count_more : {X : Type 0} (a b : Bool) (xs ys : List X) (x y : X) (n : ℕ) → (a ≡ true → b ≡ true → ⊥) → length xs + length ys ≤ n
    → length (xs ++ cond a (x ∷ []) []) + length (ys ++ cond b (y ∷ []) []) ≤ suc n
count_more true true xs ys x y n d h = absurd (d refl refl)
count_more true false xs ys x y n d h = rw append-nil (omega (arith, length_push xs x))
count_more false true xs ys x y n d h = rw append-nil (omega (arith, length_push ys y))
count_more false false xs ys x y n d h = rw (append-nil xs, append-nil ys) (omega arith)

cases_last : (k n : ℕ) → k < suc n → (k ≡ n) ⊎ (k < n)
cases_last k n l = ⊎_elim (λ e. inl e) (λ r. inr (⊎_elim (λ x. x) (λ x. absurd (omega arith)) r)) (cases_order k n)

-- where no number is picked twice, and k not at all
module _ {X : Type 0} (p q : ℕ → Bool) (g h : ℕ → X) (apart : (j : ℕ) → p j ≡ true → q j ≡ true → ⊥) where
  picked_few : (n : ℕ) → length (picked p g n) + length (picked q h n) ≤ n
  picked_few zero = omega arith
  picked_few (suc n) = count_more (p n) (q n) (picked p g n) (picked q h n) (g n) (h n) n (apart n) (picked_few n)

  pub picked_fewer : (k : ℕ) → p k ≡ false → q k ≡ false → (n : ℕ) → k < n → length (picked p g n) + length (picked q h n) < n
  picked_fewer k a b zero l = absurd (omega arith)
  picked_fewer k a b (suc n) l =
      ⊎_elim
      (λ e.
      let pn : picked p g (suc n) ≡ picked p g n = ap (λ l. picked p g n ++ l) (cond-false (p n) (g n ∷ []) [] (subst (λ j. p j ≡ false) e a)) ∙ append-nil (picked p g n) in
      let qn : picked q h (suc n) ≡ picked q h n = ap (λ l. picked q h n ++ l) (cond-false (q n) (h n ∷ []) [] (subst (λ j. q j ≡ false) e b)) ∙ append-nil (picked q h n) in
      omega (arith, ap length pn, ap length qn, picked_few n))
      (λ l'.
      let r = picked_fewer k a b n l' in
      let z = count_more (p n) (q n) (picked p g n) (picked q h n) (g n) (h n) (length (picked p g n) + length (picked q h n)) (apart n) (omega arith) in
      omega arith)
      (cases_last k n l)
