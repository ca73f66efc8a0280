-- From laws of one change each: the sum does not fall when all that may grow does so together.
use Rattle.std.proofs.Common.{◌≡◌, ℕ, ◌<◌, ◌≤◌, List, [], ◌∷◌, ◌++◌, length, set, sym, refl, ap, ◌∙◌, subst, arith, length-append}
use Rattle.std.specs.List.{AllByRecursion}
use Rattle.std.proofs.lemmas.List.Elements.{length_all_zip}
use Rattle.std.proofs.ByRecursion.{All-get_or, All-set}
use Rattle.std.proofs.lemmas.List.{get_or_at, set_at}
use Rattle.interference.specs.declared.rival.Rival.{Rival}
use Rattle.interference.specs.Questions.{Query, RivalWithinLimits, RivalsWithinLimits, Valid, nobody, rival_at, posed, with_window, with_upper, with_lower, with_finish, with_cost}
use Rattle.interference.specs.Laws.{Lawful, NoEarlier, NoSmaller, GrowsTogether}
use Rattle.interference.specs.ListLaws.{one_by_one}
use Rattle.interference.specs.FullLaws.{within}

-- a list with its element behind `pre` changed by g
changed_middle : (g : Rival → Rival) (pre rest : List Rival) (r s : Rival) → s ≡ g r
    → set (pre ++ (r ∷ rest)) (length pre) (g (rival_at (pre ++ (r ∷ rest)) (length pre))) ≡ pre ++ (s ∷ rest)
changed_middle g pre rest r s e =
    ap (λ x. set (pre ++ (r ∷ rest)) (length pre) (g x)) (get_or_at pre r rest nobody (length pre) refl)
    ∙ set_at pre r rest (g r) (length pre) refl ∙ ap (λ x. pre ++ (x ∷ rest)) (sym e)

middle_within : (pre rest : List Rival) (r : Rival) → length pre < length (pre ++ (r ∷ rest))
middle_within pre rest r = rw length-append (omega arith)

places : (rs : List Rival) → AllByRecursion RivalWithinLimits rs → RivalsWithinLimits rs
places rs a i lt = All-get_or RivalWithinLimits rs i nobody lt a

upper_valid : (q : Query) → Valid q → (us : List Rival) → length us ≡ length q.upper → AllByRecursion RivalWithinLimits us → Valid (with_upper q us)
upper_valid q v us k a =
    let z = v.sizes in
    record { times = v.times; sizes = (z.0, z.1, omega arith); uppers = places us a; lowers = v.lowers }

lower_valid : (q : Query) → Valid q → (ls : List Rival) → length ls ≡ length q.lower → AllByRecursion RivalWithinLimits ls → Valid (with_lower q ls)
lower_valid q v ls k a =
    let z = v.sizes in
    record { times = v.times; sizes = (z.0, z.1, omega arith); uppers = v.uppers; lowers = places ls a }

same_size : (pre rest : List Rival) (r s : Rival) (n : ℕ) → length (pre ++ (r ∷ rest)) ≡ n → length (pre ++ (s ∷ rest)) ≡ n
same_size pre rest r s n k = omega (arith, length-append pre (r ∷ rest), length-append pre (s ∷ rest))

middle_of : (pre rest : List Rival) (r : Rival) → AllByRecursion RivalWithinLimits (pre ++ (r ∷ rest)) → RivalWithinLimits r
middle_of pre rest r a = rw (get_or_at pre r rest nobody (length pre) refl) at (places (pre ++ (r ∷ rest)) a (length pre) (middle_within pre rest r))

module _ (sum : Query → ℕ) (laws : Lawful sum) where
  upper_later : (q : Query) (pre rest : List Rival) (r s : Rival) → Valid (with_upper q (pre ++ (r ∷ rest))) → Valid (with_upper q (pre ++ (s ∷ rest))) → NoEarlier r s
      → sum (with_upper q (pre ++ (r ∷ rest))) ≤ sum (with_upper q (pre ++ (s ∷ rest)))
  upper_later q pre rest r s v w (le, is) =
      let e = changed_middle (λ x. with_finish x s.finish) pre rest r s is in
      let at_r = get_or_at pre r rest nobody (length pre) refl in
      let low : (rival_at (pre ++ (r ∷ rest)) (length pre)).finish ≤ s.finish = rw at_r le in
      subst (λ (l : List Rival). sum (with_upper q (pre ++ (r ∷ rest))) ≤ sum (with_upper q l)) e
      (laws.upper_finish_grows (with_upper q (pre ++ (r ∷ rest))) (length pre) s.finish v
      (subst (λ (l : List Rival). Valid (with_upper q l)) (sym e) w) (middle_within pre rest r) low)

  lower_later : (q : Query) (pre rest : List Rival) (r s : Rival) → Valid (with_lower q (pre ++ (r ∷ rest))) → Valid (with_lower q (pre ++ (s ∷ rest))) → NoEarlier r s
      → sum (with_lower q (pre ++ (r ∷ rest))) ≤ sum (with_lower q (pre ++ (s ∷ rest)))
  lower_later q pre rest r s v w (le, is) =
      let e = changed_middle (λ x. with_finish x s.finish) pre rest r s is in
      let at_r = get_or_at pre r rest nobody (length pre) refl in
      let low : (rival_at (pre ++ (r ∷ rest)) (length pre)).finish ≤ s.finish = rw at_r le in
      subst (λ (l : List Rival). sum (with_lower q (pre ++ (r ∷ rest))) ≤ sum (with_lower q l)) e
      (laws.lower_finish_grows (with_lower q (pre ++ (r ∷ rest))) (length pre) s.finish v
      (subst (λ (l : List Rival). Valid (with_lower q l)) (sym e) w) (middle_within pre rest r) low)

  lower_costlier : (q : Query) (pre rest : List Rival) (r s : Rival) → Valid (with_lower q (pre ++ (r ∷ rest))) → Valid (with_lower q (pre ++ (s ∷ rest)))
      → r.cost ≤ s.cost → s ≡ with_cost r s.cost
      → sum (with_lower q (pre ++ (r ∷ rest))) ≤ sum (with_lower q (pre ++ (s ∷ rest)))
  lower_costlier q pre rest r s v w le is =
      let e = changed_middle (λ x. with_cost x s.cost) pre rest r s is in
      let at_r = get_or_at pre r rest nobody (length pre) refl in
      let low : (rival_at (pre ++ (r ∷ rest)) (length pre)).cost ≤ s.cost = rw at_r le in
      subst (λ (l : List Rival). sum (with_lower q (pre ++ (r ∷ rest))) ≤ sum (with_lower q l)) e
      (laws.lower_cost_grows (with_lower q (pre ++ (r ∷ rest))) (length pre) s.cost v
      (subst (λ (l : List Rival). Valid (with_lower q l)) (sym e) w) (middle_within pre rest r) low)

  -- one step on the upper list, and one on the lower: the finish first, then the cost
  upper_step : (q : Query) → Valid q → (pre rest : List Rival) (r s : Rival) → length (pre ++ (r ∷ rest)) ≡ length q.upper
      → AllByRecursion RivalWithinLimits (pre ++ (r ∷ rest)) → AllByRecursion RivalWithinLimits (pre ++ (s ∷ rest)) → NoEarlier r s
      → sum (with_upper q (pre ++ (r ∷ rest))) ≤ sum (with_upper q (pre ++ (s ∷ rest)))
  upper_step q v pre rest r s k a b h =
      upper_later q pre rest r s (upper_valid q v (pre ++ (r ∷ rest)) k a) (upper_valid q v (pre ++ (s ∷ rest)) (same_size pre rest r s _ k) b) h

  lower_step : (q : Query) → Valid q → (pre rest : List Rival) (r s : Rival) → length (pre ++ (r ∷ rest)) ≡ length q.lower
      → AllByRecursion RivalWithinLimits (pre ++ (r ∷ rest)) → AllByRecursion RivalWithinLimits (pre ++ (s ∷ rest)) → NoSmaller r s
      → sum (with_lower q (pre ++ (r ∷ rest))) ≤ sum (with_lower q (pre ++ (s ∷ rest)))
  lower_step q v pre rest r s k a b (later, costlier, is) =
      let m = with_finish r s.finish in
      let at_r = middle_of pre rest r a in
      let at_s = middle_of pre rest s b in
      let fits : RivalWithinLimits m = (omega arith, omega arith, omega arith, omega arith, omega arith) in
      let between : AllByRecursion RivalWithinLimits (pre ++ (m ∷ rest)) =
      rw (set_at pre r rest m (length pre) refl) at (All-set RivalWithinLimits (pre ++ (r ∷ rest)) (length pre) m fits a) in
      let first = lower_valid q v (pre ++ (r ∷ rest)) k a in
      let middle = lower_valid q v (pre ++ (m ∷ rest)) (same_size pre rest r m _ k) between in
      let last = lower_valid q v (pre ++ (s ∷ rest)) (same_size pre rest r s _ k) b in
      omega (arith, lower_later q pre rest r m first middle (later, refl), lower_costlier q pre rest m s middle last costlier is)

  -- the upper list, then the lower one, then the window
  pub grows_together : GrowsTogether sum
  grows_together q q' v w g =
      let nu = length_all_zip NoEarlier q.upper q'.upper g.upper in
      let nl = length_all_zip NoSmaller q.lower q'.lower g.lower in
      let q₁ = with_upper q q'.upper in
      let v₁ = upper_valid q v q'.upper (sym nu) (within q'.upper w.uppers) in
      let q₂ = with_lower q₁ q'.lower in
      let v₂ = lower_valid q₁ v₁ q'.lower (sym nl) (within q'.lower w.lowers) in
      let uppers = one_by_one RivalWithinLimits NoEarlier (length q.upper) (λ us. sum (with_upper q us)) (upper_step q v) [] q.upper q'.upper
      refl (within _ v.uppers) (within _ w.uppers) g.upper in
      let lowers = one_by_one RivalWithinLimits NoSmaller (length q.lower) (λ ls. sum (with_lower q₁ ls)) (lower_step q₁ v₁) [] q.lower q'.lower
      refl (within _ v.lowers) (within _ w.lowers) g.lower in
      let is : with_window q₂ q'.window ≡ q' =
      ap (λ m. posed m q'.window q.demand q.region q'.upper q'.lower) g.cores
      ∙ ap (λ e. posed q'.cores q'.window e q.region q'.upper q'.lower) g.demand
      ∙ ap (λ f. posed q'.cores q'.window q'.demand f q'.upper q'.lower) g.region in
      let w' : Valid (with_window q₂ q'.window) = rw is w in
      let widened : sum q₂ ≤ sum q' = rw is at (laws.window_grows q₂ q'.window v₂ w' g.window) in
      omega (arith, uppers, lowers, widened)
