use Rattle.std.proofs.Common.{vec_items, vec_len, ◌∙◌, arith}
use Rattle.planner.proofs.OnRows.{fresh_written}
use Rattle.planner.proofs.OnWrites.{take_replicate}
use Rattle.planner.proofs.tables.rows.Rows.unset.Goals as goal

pub returns-clause-fresh : goal.returns-clause-fresh
returns-clause-fresh c =
    let s = c.args.self.now in
    let new = c.set.new.self in
    let w = c.set.ensures in
    fresh_written (vec_items new.items) (vec_len s.items) (omega (arith, w.len, new.items.ok.0)) (w.lengths ∙ take_replicate (vec_len s.items) 32 1 s.few) (w.bounds ∙ take_replicate (vec_len s.items) 32 0 s.few)
