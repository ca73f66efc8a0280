-- What each step of the search for the first order keeps, over the list of tasks placed and their lengths.
use Rattle.std.proofs.Common.{◌≡◌, ℕ, ◌+◌, ◌<◌, ◌≤◌, false, List, [], ◌∷◌, ◌++◌, length, get_or, set, ap, subst, arith}
use Rattle.std.proofs.lemmas.List.{length_push}
use Rattle.analysis.specs.Rivals.{among}
use Rattle.analysis.specs.Plans.{IsOrder, IsChoice, Test}
use Rattle.analysis.specs.Steps.{InfeasibleByPlace, FirstIs, Stuck, FirstByPlace, Greedy}
use Rattle.analysis.proofs.Greedy.{greedy_more, greedy_none, greedy_back, greedy_least, infeasible_more}
use Rattle.analysis.proofs.Search.{Searched, Gone, searched_place, searched_none, searched_back, searched_done}

-- the search stands at a part of an order and its least lengths
abbrev pub At : (ℕ → ℕ) → ℕ → Test → List ℕ → ℕ → List ℕ → Type 0
At size n ok pre next lens = Searched n (InfeasibleByPlace size n ok) pre next × Greedy size n ok pre lens

module _ (size : ℕ → ℕ) (n : ℕ) (ok : Test)
    (falls : (low : List ℕ) (k : ℕ) (lens other : List ℕ) (f : ℕ) → k < n → 1 ≤ f → f ≤ size k → IsChoice size n lens → IsChoice size n other
    → ((p : ℕ) → p < length low → get_or lens (get_or low p 0) 0 ≤ get_or other (get_or low p 0) 0) → ok low k other f → ok low k lens f)
    (pre lens : List ℕ) (wide : n ≤ length lens) (next : ℕ) (at : At size n ok pre next lens) where
  stuck_gone : (top : ℕ) → top ≤ n → ((y : ℕ) → next ≤ y → y < top → Stuck size ok pre lens y) → (y : ℕ) → next ≤ y → y < top → Gone n (InfeasibleByPlace size n ok) pre y
  stuck_gone top le stuck y a b fresh = greedy_none size n ok falls pre lens at.1 y (omega arith) (stuck y a b fresh)

  pub place : (x f : ℕ) → x < n → among pre x ≡ false → FirstIs (ok pre x lens) (size x) f
      → ((y : ℕ) → next ≤ y → y < x → Stuck size ok pre lens y) → At size n ok (pre ++ x ∷ []) 0 (set lens x f)
  place x f lt fresh h stuck = (
    searched_place n (InfeasibleByPlace size n ok) (infeasible_more size n ok) pre next at.0 x (stuck_gone x (omega arith) stuck),
    greedy_more size n ok falls pre lens at.1 x lt fresh (omega arith) f h.0 h.1 h.2 h.3,
  )

  module _ (stuck : (y : ℕ) → next ≤ y → y < n → Stuck size ok pre lens y) where
    pub back : (rest : List ℕ) (y : ℕ) → pre ≡ rest ++ y ∷ [] → length pre < n → At size n ok rest (y + 1) lens
    back rest y e inside = (
      searched_back n (InfeasibleByPlace size n ok) (infeasible_more size n ok) rest y next
          (subst (λ l. Searched n (InfeasibleByPlace size n ok) l next) e at.0) (omega (arith, ap length e, length_push rest y))
          (λ z a b. subst (λ l. Gone n (InfeasibleByPlace size n ok) l z) e (stuck_gone n (omega arith) stuck z a b)),
      greedy_back size n ok rest y lens (subst (λ l. Greedy size n ok l lens) e at.1),
    )

    pub none : length pre ≡ 0 → 0 < n → (q : List ℕ) → IsOrder n q → InfeasibleByPlace size n ok q
    none e some = searched_none n (InfeasibleByPlace size n ok) (infeasible_more size n ok) pre next at.0 e some (stuck_gone n (omega arith) stuck)

pub done : (size : ℕ → ℕ) (n : ℕ) (ok : Test) (q lens : List ℕ) (next : ℕ) → At size n ok q next lens → length q ≡ n → FirstByPlace size n ok q lens
done size n ok q lens next at e = record {
  order = (e, at.1.named);
  lengths = greedy_least size n ok at.1;
  first = λ o h b. searched_done n (InfeasibleByPlace size n ok) q next at.0 o h b;
}
