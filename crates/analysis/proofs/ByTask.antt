-- What holds at each place of an order holds for each task.
use Rattle.std.proofs.Common.{◌≡◌, ℕ, ◌<◌, ◌≤◌, List, length, get_or, take, sym, ap, ◌∙◌, subst, subst₂}
use Rattle.analysis.specs.Rivals.{under}
use Rattle.analysis.specs.Plans.{IsOrder, Test, ChoicePasses, LeastChoice, NoChoicePasses, FirstOrder}
use Rattle.analysis.specs.Steps.{PlacesPass, LeastByPlace, InfeasibleByPlace, FirstByPlace}
use Rattle.analysis.proofs.Among.{everyone, under_at}

module _ (size : ℕ → ℕ) (n : ℕ) (ok : Test) (q : List ℕ) (order : IsOrder n q) where
  lower : (p : ℕ) → p < length q → under q (get_or q p 0) ≡ take p q
  lower p l = under_at q p l (order.1 p l).1

  pub pass_all : (lens : List ℕ) → PlacesPass ok q lens → ChoicePasses ok n q lens
  pass_all lens h k l =
      let e = everyone n q order k l in
      subst₂ (λ low j. ok low j lens (get_or lens j 0)) (sym (lower e.0 e.1) ∙ ap (under q) e.2) e.2 (h e.0 e.1)

  pub all_pass : (lens : List ℕ) → ChoicePasses ok n q lens → PlacesPass ok q lens
  all_pass lens h p l = subst (λ low. ok low (get_or q p 0) lens (get_or lens (get_or q p 0) 0)) (lower p l) (h (get_or q p 0) (order.1 p l).0)

  pub infeasible_all : InfeasibleByPlace size n ok q → NoChoicePasses size n ok q
  infeasible_all h lens c p = h lens c (all_pass lens p)

  pub least_all : (lens : List ℕ) → LeastByPlace size n ok q lens → LeastChoice size n ok q lens
  least_all lens h = record {
    choice = h.choice;
    pass = pass_all lens h.pass;
    least = λ o c p k l.
        let e = everyone n q order k l in
        subst (λ j. get_or lens j 0 ≤ get_or o j 0) e.2 (h.least o c (all_pass o p) e.0 e.1);
  }

pub first_all : (size : ℕ → ℕ) (n : ℕ) (ok : Test) (q lens : List ℕ) → FirstByPlace size n ok q lens → FirstOrder size n ok q lens
first_all size n ok q lens h = record {
  order = h.order;
  lengths = least_all size n ok q h.order lens h.lengths;
  first = λ o r b. infeasible_all size n ok o r (h.first o r b);
}
