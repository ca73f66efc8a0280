use Rattle.std.proofs.Common.{◌+◌, ◌-◌, ◌<◌, length, get_or, sym, refl, arith}
use Rattle.std.proofs.lemmas.List.{get_or-map}
use Rattle.planner.specs.Rows.{lengths, bounds}
use Rattle.planner.proofs.OnWrites.{blank}
use Rattle.planner.proofs.OnLists.{column_more}
use Rattle.planner.proofs.tables.fixed.reading.write_places.Goals as goal

pub loop-p-preserved : goal.loop-p-preserved
loop-p-preserved c =
    let q = c.args.order.now in
    let rows = c.args.rows.now in
    let p = c.loop-p.p in
    let v = c.loop-p.invariant in
    let here : p < length q = omega arith in
    let k = get_or q (length q - 1 - p) 0 in
    let inside : k < length rows = (c.requires.named (length q - 1 - p) (omega arith)).0 in (
      column_more (λ j. j + 1) q c.args.tasks.now c.loop-p.tasks p (k + 1) here (omega arith) v.0 refl,
      column_more (λ j. get_or (lengths rows) j 0) q c.args.lengths.now c.loop-p.lengths p _ here (omega arith) v.1 (sym (get_or-map (λ r. r.length) rows k blank 0 inside)),
      column_more (λ j. get_or (bounds rows) j 0) q c.args.bounds.now c.loop-p.bounds p _ here (omega arith) v.2 (sym (get_or-map (λ r. r.bound) rows k blank 0 inside)),
    )
