use Rattle.std.proofs.Common.{◌-◌, ◌++◌, vec_items, ap, ◌∙◌, arith}
use Rattle.planner.specs.Tables.{downward}
use Rattle.planner.proofs.Downward.{downward_more}
use Rattle.planner.proofs.tables.fixed.calls.number.Goals as goal

pub loop-i-preserved : goal.loop-i-preserved
loop-i-preserved c =
    let v = c.loop-i.invariant in
    let i = c.loop-i.i in (
      ap (λ l. l ++ downward (i - 1)) c.push_reserved.ensures.items ∙ downward_more (vec_items c.loop-i.order) i (omega arith) ∙ v.0,
      omega (arith, c.push_reserved.ensures.len),
      omega (arith, c.push_reserved.ensures.capacity),
    )
