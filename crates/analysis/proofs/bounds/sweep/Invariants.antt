use Rattle.std.proofs.Common.{◌≡◌, ℕ, ◌<◌, ◌≤◌, length, get_or, MatchBool}
use Rattle.analysis.specs.Steps.{total}
use Rattle.analysis.specs.Words.{KeepsIn, RisingIn, Grows}
use Rattle.analysis.proofs.bounds.sweep.Given as goal

abbrev pub invariant-places : goal.invariant-places
invariant-places g l =
    let n = length l.tasks.ordered.set.tasks.now in
    record {
      wide : length l.bounds ≡ 32;
      rising : RisingIn (g.R.Rule.meaning l.rule) l.tasks l.bounds;
      so_far : total (λ k. get_or l.initial.bounds k 0) n ≤ total (λ k. get_or l.bounds k 0) n;
      changed : MatchBool l.changed (Grows l.tasks.ordered.set l.initial.bounds l.bounds)
          ((l.bounds ≡ l.initial.bounds) × ((i : ℕ) → l.p ≤ i → i < length l.tasks.ordered.order.now → KeepsIn (g.R.Rule.meaning l.rule) l.tasks l.bounds (get_or l.tasks.ordered.order.now i 0)));
    }
