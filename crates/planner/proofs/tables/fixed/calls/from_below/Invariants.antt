use Rattle.std.proofs.Common.{◌≡◌, ℕ, ◌-◌, ◌<◌, ◌≤◌, get_or, drop}
use Rattle.planner.specs.Calls.{upward}
use Rattle.planner.proofs.tables.fixed.calls.from_below.Given as goal

abbrev pub invariant-loop-p : goal.invariant-loop-p
invariant-loop-p l =
    (l.fresh.items ≡ upward (drop (l.count - l.p) l.places))
    × ((j : ℕ) → l.count - l.p ≤ j → j < l.count → 1 ≤ get_or l.places j 0)
