use Rattle.std.proofs.Common.{◌<◌, ◌≡◌, length, get_or, refl, ◌∙◌, arith, rules}
use Rattle.planner.specs.declared.tables.rows.Row.{Row}
use Rattle.planner.proofs.OnWrites.{blank, part_kept, part_more}
use Rattle.planner.proofs.tables.writing.write.Goals as goal

pub loop-i-preserved : goal.loop-i-preserved
loop-i-preserved c =
    let xs = c.loop-i.rows in
    let i = c.loop-i.i in
    let found = c.args.found.now in
    let solved = c.args.solved.now in
    let v = c.loop-i.invariant in
    let r : Row = record { task = (get_or xs i blank).task; length = get_or found i 0; bound = get_or solved i 0 } in
    let wide : length found ≡ 32 = search rules in
    let long : length solved ≡ 32 = search rules in
    let inside : i < length xs = omega arith in (
      part_kept (λ x. x.task) xs i r inside refl ∙ v.0,
      part_more (λ x. x.length) xs found i r 0 inside (omega arith) refl v.1,
      part_more (λ x. x.bound) xs solved i r 0 inside (omega arith) refl v.2,
    )
