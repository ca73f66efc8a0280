use Rattle.std.proofs.Common.{◌≡◌, ◌+◌, ◌≤◌, ◌++◌, vec_items, vec_len, vec_capacity}
use Rattle.planner.specs.Tables.{downward}
use Rattle.planner.proofs.tables.fixed.calls.number.Given as goal

abbrev pub invariant-loop-i : goal.invariant-loop-i
invariant-loop-i l = (vec_items l.order ++ downward l.i ≡ downward l.count) × (vec_len l.order + l.i ≡ l.count) × (32 ≤ vec_capacity l.order)
