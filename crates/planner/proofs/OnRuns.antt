-- A run of calls that is made one call after the other.
use Rattle.std.proofs.Common.{◌≡◌, ℕ, zero, suc, ◌+◌, ◌<◌, ◌≤◌, List, [], ◌∷◌, ◌++◌, map, length, take, drop, set, sym, refl, ap, ◌∙◌, subst, append_assoc, append-nil, add-one, arith, length-set}
use Rattle.std.proofs.lemmas.List.{take_more_set}
use Rattle.interference.specs.Questions.{Query}
use Rattle.planner.specs.declared.replay.Report.{Report}
use Rattle.planner.specs.declared.replay.Outcome.{Outcome}
use Rattle.planner.specs.History.{Request, State, Turn}
use Rattle.planner.specs.Replaying.{came}
use Rattle.planner.specs.Reporting.{Shows, Run}

first_left : {X : Type 0} (all : List X) (i : ℕ) (c : X) (rest : List X) → drop i all ≡ c ∷ rest → (take (suc i) all ≡ take i all ++ c ∷ []) × (drop (suc i) all ≡ rest) × (i < length all)
first_left [] zero c rest e = let z : ◌≡◌ {A = ℕ} 0 1 = cc in absurd (omega arith)
first_left [] (suc i) c rest e = let z : ◌≡◌ {A = ℕ} 0 1 = cc in absurd (omega arith)
first_left (x ∷ all) zero c rest e = (cc, cc, omega arith)
first_left (x ∷ all) (suc i) c rest e = let r = first_left all i c rest e in (ap (λ l. x ∷ l) r.0, r.1, omega (arith, r.2))

drop_set_past : {X : Type 0} (xs : List X) (i : ℕ) (x : X) → drop (suc i) (set xs i x) ≡ drop (suc i) xs
drop_set_past [] i x = refl
drop_set_past (y ∷ xs) zero x = refl
drop_set_past (y ∷ xs) (suc i) x = drop_set_past xs i x

drop_nil : {X : Type 0} (i : ℕ) → ◌≡◌ {A = List X} (drop i []) []
drop_nil zero = refl
drop_nil (suc i) = refl

drop_both : {X : Type 0} (xs ys : List X) (i : ℕ) → drop i xs ≡ drop i ys → drop (suc i) xs ≡ drop (suc i) ys
drop_both [] [] zero e = refl
drop_both [] (y ∷ ys) zero e = let z : ◌≡◌ {A = ℕ} 0 1 = cc in absurd (omega arith)
drop_both (x ∷ xs) [] zero e = let z : ◌≡◌ {A = ℕ} 0 1 = cc in absurd (omega arith)
drop_both (x ∷ xs) (y ∷ ys) zero e = cc
drop_both [] [] (suc i) e = refl
drop_both [] (y ∷ ys) (suc i) e = drop_both [] ys i (drop_nil i ∙ e)
drop_both (x ∷ xs) [] (suc i) e = drop_both xs [] i (e ∙ sym (drop_nil i))
drop_both (x ∷ xs) (y ∷ ys) (suc i) e = drop_both xs ys i e

module _ {U C : Type 0} (meaning : U → Query → ℕ) (Quick : U → Type 0) (f : C → Request U) where
  -- After n calls: the table's state, the calls that are left and the reports. Whatever runs from here on runs on from
  -- the start.
  pub record Reached (s₀ : State U) (all : List C) (before : List Report) (n : ℕ) (s : State U) (left : List C) (reports : List Report) : Type 0 where
    pub within : n ≤ length all
    pub room : n ≤ length reports
    pub left_is : left ≡ drop n all
    pub kept : drop n reports ≡ drop n before
    pub joins : (cs : List C) (rs : List Report) (end : State U) → Run meaning Quick s (map f cs) rs end → Run meaning Quick s₀ (map f (take n all ++ cs)) (take n reports ++ rs) end

  pub start : (s₀ : State U) (all : List C) (before : List Report) → Reached s₀ all before 0 s₀ all before
  start s₀ all before = record { within = omega arith; room = omega arith; left_is = refl; kept = refl; joins = λ cs rs end h. h }

  pub onward : (s₀ : State U) (all : List C) (before : List Report) (n : ℕ) (s : State U) (c : C) (o : Outcome) (s' : State U) (r : Report) (left rest : List C) (reports : List Report)
      → Reached s₀ all before n s left reports → n < length reports → left ≡ c ∷ rest → Turn meaning Quick s (f c) (came o) s' → r.outcome ≡ o → Shows s' r
      → Reached s₀ all before (n + 1) s' rest (set reports n r)
  onward s₀ all before n s c o s' r left rest reports p h l t e q =
      let more = first_left all n c rest (sym p.left_is ∙ l) in
      let one : n + 1 ≡ suc n = add-one n in
      let written = take_more_set reports n r h in
      record {
        within = omega (arith, more.2);
        room = simp length-set (omega arith);
        left_is = sym (ap (λ k. drop k all) one ∙ more.1);
        kept = ap (λ k. drop k (set reports n r)) one ∙ drop_set_past reports n r ∙ drop_both reports before n p.kept ∙ ap (λ k. drop k before) (sym one);
        joins = λ cs rs end k.
            let calls : take n all ++ (c ∷ cs) ≡ take (n + 1) all ++ cs = sym (append_assoc (take n all) (c ∷ []) cs) ∙ ap (λ x. x ++ cs) (sym (ap (λ j. take j all) one ∙ more.0)) in
            let told : take n reports ++ (r ∷ rs) ≡ take (n + 1) (set reports n r) ++ rs = sym (append_assoc (take n reports) (r ∷ []) rs) ∙ ap (λ x. x ++ rs) (sym written) in
            let here : Run meaning Quick s (f c ∷ map f cs) (r ∷ rs) end = (s', subst (λ (x : Outcome). Turn meaning Quick s (f c) (came x) s') (sym e) t, q, k) in
            subst (λ (x : List C). Run meaning Quick s₀ (map f x) (take (n + 1) (set reports n r) ++ rs) end) calls
            (subst (λ (x : List Report). Run meaning Quick s₀ (map f (take n all ++ (c ∷ cs))) x end) told (p.joins (c ∷ cs) (r ∷ rs) end here));
      }

  pub ended : (s₀ : State U) (all : List C) (before : List Report) (n : ℕ) (s : State U) (left : List C) (reports : List Report)
      → Reached s₀ all before n s left reports → Run meaning Quick s₀ (map f (take n all)) (take n reports) s
  ended s₀ all before n s left reports p =
      subst (λ (x : List C). Run meaning Quick s₀ (map f x) (take n reports) s) (append-nil (take n all))
      (subst (λ (x : List Report). Run meaning Quick s₀ (map f (take n all ++ [])) x s) (append-nil (take n reports)) (p.joins [] [] s refl))
