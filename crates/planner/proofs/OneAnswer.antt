-- What is least, or first, is one: two lists that are both so are the same.
use Rattle.std.proofs.Common.{◌≡◌, ℕ, ◌⊎◌, List, [], ◌∷◌, length, sym, refl, ◌∙◌, subst, inl, inr, ⊎_elim, arith}
use Rattle.std.proofs.lemmas.List.{ext_get_or}
use Rattle.analysis.specs.Plans.{Test, Before, LeastChoice, FirstOrder}
use Rattle.std.proofs.lemmas.Bool.{cases_order}

ordered : (q x : List ℕ) → length q ≡ length x → (q ≡ x) ⊎ (Before q x ⊎ Before x q)
ordered [] [] e = inl refl
ordered [] (x ∷ xs) e = absurd (omega arith)
ordered (q ∷ qs) [] e = absurd (omega arith)
ordered (q ∷ qs) (x ∷ xs) e =
    ⊎_elim
    (λ same. ⊎_elim
    (λ rest. inl cc)
    (λ b. inr (⊎_elim (λ l. inl (inr (same, l))) (λ r. inr (inr (sym same, r))) b))
    (ordered qs xs (omega arith)))
    (λ l. inr (⊎_elim (λ a. inl (inl a)) (λ b. inr (inl b)) l))
    (cases_order q x)

module _ (size : ℕ → ℕ) (n : ℕ) (ok : Test) where
  pub one_choice : (q a b : List ℕ) → length a ≡ n → length b ≡ n → LeastChoice size n ok q a → LeastChoice size n ok q b → a ≡ b
  one_choice q a b e h f g = ext_get_or 0 a b (e ∙ sym h) (λ k lt.
      let x = f.least b g.choice g.pass k (omega arith) in
      let y = g.least a f.choice f.pass k (omega arith) in
      omega (arith, x, y))

  pub one_plan : (q x a b : List ℕ) → length a ≡ n → length b ≡ n → FirstOrder size n ok q a → FirstOrder size n ok x b → (q ≡ x) × (a ≡ b)
  one_plan q x a b e h f g =
      let same : q ≡ x = ⊎_elim
      (λ s. s)
      (λ b'. absurd (⊎_elim (λ l. g.first q f.order l a f.lengths.choice f.lengths.pass) (λ r. f.first x g.order r b g.lengths.choice g.lengths.pass) b'))
      (ordered q x (f.order.0 ∙ sym g.order.0)) in
      (same, one_choice x a b e h (subst (λ o. LeastChoice size n ok o a) same f.lengths) g.lengths)
