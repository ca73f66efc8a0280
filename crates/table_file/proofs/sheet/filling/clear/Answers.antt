use Rattle.std.proofs.Common.{length, ap, ◌∙◌, arith, length-drop}
use Rattle.planner.specs.Tables.{held}
use Rattle.table_file.proofs.OnCalls.{struck, emptied}
use Rattle.table_file.proofs.sheet.filling.clear.Goals as goal

pub loop-smaller : goal.loop-smaller
loop-smaller c =
    let before = held c.loop.table in
    let h = struck before (held c.strike.new.self) c.strike.result c.strike.ensures c.loop-test.ensures.value in
    omega (arith, ap (λ o. length o.tasks) h.1, length-drop 1 before.tasks, h.0)

pub loop-preserved : goal.loop-preserved
loop-preserved c = ap (λ o. o.cores) (struck (held c.loop.table) (held c.strike.new.self) c.strike.result c.strike.ensures c.loop-test.ensures.value).1 ∙ c.loop.invariant

pub returns : goal.returns
returns c = emptied (held c.loop.table) (held c.strike.new.self) c.strike.result c.strike.ensures c.loop-test.ensures.value _ c.loop.invariant
