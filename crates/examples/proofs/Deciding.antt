-- A test of each line, and that a line which passes its test is true.
use Rattle.std.proofs.Common.{◌≡◌, ℕ, ◌-◌, Bool, true, not, ◌&&◌, eqb, List, [], ◌∷◌}
use Rattle.std.specs.List.{AllByRecursion}
use Rattle.std.proofs.lemmas.Bool.{and_parts, both_ways, eqb-true, not-true}
use Rattle.interference.specs.Shares.{workload}
use Rattle.examples.specs.Lines.{Setting, Line, work, passes, fails, no_lengths, first_plan, least_bounds, no_bounds, count, sizes, Arranged, Numbered, Means}
use Rattle.examples.proofs.Outcomes.{nothing, gave}
use Rattle.examples.proofs.Settings.{rising, rising_is, is_choice, is_choice_is, fits, fits_is}
use Rattle.examples.proofs.Lengths.{task_passes, task_decides, lengths, none_before, no_lengths_is, first_plan_is}
use Rattle.examples.proofs.Bounds.{risen, settled, no_bounds_is, least_bounds_is}

-- the setting is within the limits, its tasks can have these lengths, and there is such a task
abbrev fits_with : Setting → List ℕ → Bool
fits_with s lens = fits s && is_choice (sizes s) (count s) lens

abbrev fits_at : Setting → List ℕ → ℕ → Bool
fits_at s lens k = fits_with s lens && rising 1 k (count s)

fits_with_is : (s : Setting) (lens : List ℕ) → fits_with s lens ≡ true → Arranged s lens
fits_with_is s lens h =
    let p = and_parts (fits s) (is_choice (sizes s) (count s) lens) h in
    (fits_is s p.0, is_choice_is (sizes s) (count s) lens p.1)

fits_at_is : (s : Setting) (lens : List ℕ) (k : ℕ) → fits_at s lens k ≡ true → Numbered s lens k
fits_at_is s lens k h = let p = and_parts (fits_with s lens) (rising 1 k (count s)) h in (fits_with_is s lens p.0, rising_is 1 k (count s) p.1)

abbrev holds : Line → Bool
holds (work c p x w) = eqb (workload c p x) w
holds (passes s lens k) = fits_at s lens k && task_passes s lens (k - 1)
holds (fails s lens k) = fits_at s lens k && not (task_passes s lens (k - 1))
holds (no_lengths s) = fits s && nothing (lengths s)
holds (first_plan s lens) = fits s && (gave (lengths s) lens && none_before s)
holds (least_bounds s lens bounds) = fits_with s lens && (gave (risen s lens) bounds && settled s lens bounds)
holds (no_bounds s lens) = fits_with s lens && nothing (risen s lens)

decided : (l : Line) → holds l ≡ true → Means l
decided (work c p x w) h = eqb-true (workload c p x) w h
decided (passes s lens k) h =
    let p = and_parts (fits_at s lens k) (task_passes s lens (k - 1)) h in
    (fits_at_is s lens k p.0, (task_decides s lens (k - 1)).0 p.1)
decided (fails s lens k) h =
    let t = task_passes s lens (k - 1) in
    let p = and_parts (fits_at s lens k) (not t) h in
    (fits_at_is s lens k p.0, λ pass. both_ways t (not-true t p.1) ((task_decides s lens (k - 1)).1 pass))
decided (no_lengths s) h =
    let p = and_parts (fits s) (nothing (lengths s)) h in
    (fits_is s p.0, no_lengths_is s (fits_is s p.0) p.1)
decided (first_plan s lens) h =
    let p = and_parts (fits s) (gave (lengths s) lens && none_before s) h in
    let r = and_parts (gave (lengths s) lens) (none_before s) p.1 in
    (fits_is s p.0, first_plan_is s (fits_is s p.0) lens r.0 r.1)
decided (least_bounds s lens bounds) h =
    let p = and_parts (fits_with s lens) (gave (risen s lens) bounds && settled s lens bounds) h in
    let f = fits_with_is s lens p.0 in
    let r = and_parts (gave (risen s lens) bounds) (settled s lens bounds) p.1 in
    (f, least_bounds_is s lens f.0 f.1 bounds r.0 r.1)
decided (no_bounds s lens) h =
    let p = and_parts (fits_with s lens) (nothing (risen s lens)) h in
    let f = fits_with_is s lens p.0 in
    (f, no_bounds_is s lens f.0 f.1 p.1)

abbrev pub every : List Line → Bool
every [] = true
every (l ∷ ls) = holds l && every ls

pub every_decided : (ls : List Line) → every ls ≡ true → AllByRecursion Means ls
every_decided [] h = tt
every_decided (l ∷ ls) h = let p = and_parts (holds l) (every ls) h in (decided l p.0, every_decided ls p.1)
