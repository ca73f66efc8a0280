-- Places that fit, one after the other.
use Rattle.std.proofs.Common.{◌≡◌, ◌<◌, List, [], ◌∷◌, ◌++◌, length, get_or, take, sym, refl, subst, ⊎_elim, arith, length-append}
use Rattle.std.proofs.lemmas.List.{take_at, get_or_at, append_assoc, take-append-le, get_or_append_left}
use Rattle.std.proofs.lemmas.Bool.{cases_lt}
use Rattle.analysis.specs.declared.task.Task.{Task}
use Rattle.table_file.specs.declared.place.Place.{Place}
use Rattle.table_file.specs.Stored.{PlaceFits, EachFits, no_place}

-- these places go on from those before
abbrev pub GoOn : List Task → List Place → List Place → Type 0
GoOn ts before [] = Unit {0}
GoOn ts before (p ∷ ps) = PlaceFits ts before p × GoOn ts (before ++ p ∷ []) ps

pub go_on : (ts : List Task) (before ps : List Place) → EachFits ts (before ++ ps) → GoOn ts before ps
go_on ts before [] h = tt
go_on ts before (p ∷ ps) h =
    let n : length before < length (before ++ p ∷ ps) = omega (arith, length-append before (p ∷ ps)) in
    let here = h (length before) n in
    let fits : (PlaceFits ts before p) = subst (λ (x : List Place). PlaceFits ts x p) (take_at before (p ∷ ps) (length before) refl)
    (subst (λ (x : Place). PlaceFits ts (take (length before) (before ++ p ∷ ps)) x) (get_or_at before p ps no_place (length before) refl) here) in
    (fits, go_on ts (before ++ p ∷ []) ps (subst (λ (x : List Place). EachFits ts x) (sym (append_assoc before (p ∷ []) ps)) h))

pub fits_push : (ts : List Task) (ps : List Place) (p : Place) → EachFits ts ps → PlaceFits ts ps p → EachFits ts (ps ++ p ∷ [])
fits_push ts ps p h f k l =
    ⊎_elim
    (λ less. subst (λ (x : List Place). PlaceFits ts x (get_or (ps ++ p ∷ []) k no_place)) (sym (take-append-le k ps (p ∷ []) (omega arith)))
    (subst (λ (x : Place). PlaceFits ts (take k ps) x) (sym (get_or_append_left ps (p ∷ []) no_place k less)) (h k less)))
    (λ more.
    let e : length ps ≡ k = omega (arith, length-append ps (p ∷ [])) in
    subst (λ (x : List Place). PlaceFits ts x (get_or (ps ++ p ∷ []) k no_place)) (sym (take_at ps (p ∷ []) k e))
    (subst (λ (x : Place). PlaceFits ts ps x) (sym (get_or_at ps p [] no_place k e)) f))
    (cases_lt k (length ps))
