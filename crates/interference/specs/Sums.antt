-- The sums of the two bottom rules, and what a handler layer makes of the sum below it.
use Rattle.std.specs.Prelude.{◌≡◌, ℕ, ◌+◌, ◌-◌, ◌≤◌, min, max, List, [], ◌∷◌, ◌++◌, map, length, sum_by, filter, nat_le}
use Rattle.interference.specs.declared.rival.Rival.{Rival}
use Rattle.interference.specs.Questions.{Query}
use Rattle.interference.specs.Shares.{carry_in_share, plain_share, handler_share}

-- every rival may carry work in
abbrev pub full_sum : Query → ℕ
full_sum q = sum_by (carry_in_share q) q.upper + sum_by (carry_in_share q) q.lower

-- every choice of some elements of a list
abbrev pub choices : {X : Type 0} → List X → List (List X)
choices [] = [] ∷ []
choices (x ∷ xs) = map (λ ys. x ∷ ys) (choices xs) ++ choices xs

abbrev pub greatest : List ℕ → ℕ
greatest [] = 0
greatest (n ∷ ns) = max n (greatest ns)

-- the greatest total of f over any n or fewer elements of a list
abbrev pub greatest_total : {X : Type 0} → (X → ℕ) → ℕ → List X → ℕ
greatest_total f n xs = greatest (map (sum_by f) (filter (λ ys. nat_le (length ys) n) (choices xs)))

-- ys is xs with some elements left out
pub data Chosen {X : Type 0} : List X → List X → Type 0 where
  nothing : Chosen [] []
  taken : {x : X} {ys xs : List X} → Chosen ys xs → Chosen (x ∷ ys) (x ∷ xs)
  left : {x : X} {ys xs : List X} → Chosen ys xs → Chosen ys (x ∷ xs)

-- g is the greatest total of f over any n or fewer elements of xs, said without a list of all choices
pub record GreatestTotal {X : Type 0} (f : X → ℕ) (n : ℕ) (xs : List X) (g : ℕ) : Type 0 where
  pub reached : (ys : List X) × Chosen ys xs × (length ys ≤ n) × (sum_by f ys ≡ g)
  pub unsurpassed : (ys : List X) → Chosen ys xs → length ys ≤ n → sum_by f ys ≤ g

-- what a rival's carried work adds to its plain share
abbrev pub carried : Query → Rival → ℕ
carried q r = carry_in_share q r - plain_share q r

-- At most one upper rival for each other core carries work in. The term region - 1 is the push-through of the task's
-- own earlier job.
abbrev pub limited_sum : Query → ℕ
limited_sum q =
    sum_by (plain_share q) q.upper + sum_by (carry_in_share q) q.lower + (q.region - 1)
    + greatest_total (carried q) (q.cores - 1) q.upper

-- no sum of any rule is larger
abbrev pub sum_limit : ℕ
sum_limit = 1000000000

-- a handler of cost c and gap g over a rule whose sum is `below`
abbrev pub layered : ℕ → ℕ → Query → ℕ → ℕ
layered c g q below = min (below + handler_share c g q) sum_limit
