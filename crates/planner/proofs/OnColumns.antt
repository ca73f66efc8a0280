-- What a closure gives of each row, as a list.
use Rattle.std.proofs.Common.{◌≡◌, ℕ, zero, suc, ◌<◌, List, [], ◌∷◌, map, length, get_or, take, set, subst, arith, Bor}
use Rattle.std.specs.List.{AllZip}
use Rattle.std.specs.Fn.{Shared, FnReturnsAt}

pub one_more : {A B : Type 0} (R : A → B → Type 0) (xs : List A) (ys : List B) (i : ℕ) (d : A) (y : B)
    → i < length xs → i < length ys → AllZip R (take i xs) (take i ys) → R (get_or xs i d) y → AllZip R (take (suc i) xs) (take (suc i) (set ys i y))
one_more R [] ys i d y h k a r = absurd (omega arith)
one_more R (x ∷ xs) [] i d y h k a r = absurd (omega arith)
one_more R (x ∷ xs) (z ∷ ys) zero d y h k a r = (r, tt)
one_more R (x ∷ xs) (z ∷ ys) (suc i) d y h k a r = (a.0, one_more R xs ys i d y (omega arith) (omega arith) a.1 r)

pub column_is : {A B F : Type 0} (g : Shared F (Bor A × Unit {0}) B) (f : F) (v : A → B) (xs : List A) (ys : List B)
    → ((p : Bor A) (y : B) → g.post f (p, tt) y → y ≡ v p.now) → AllZip (FnReturnsAt g f) xs ys → ys ≡ map v xs
column_is g f v [] [] h a = (λ i. [])
column_is g f v [] (y ∷ ys) h a = absurd a
column_is g f v (x ∷ xs) [] h a = absurd a
column_is g f v (x ∷ xs) (y ∷ ys) h a =
    let r = a.0 in
    let e : y ≡ v x = subst (λ (z : _). y ≡ v z) r.shows (h r.shown y r.says.met) in
    let rest = column_is g f v xs ys h a.1 in
    (λ i. e i ∷ rest i)
