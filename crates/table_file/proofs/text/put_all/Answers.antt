use Rattle.std.proofs.Common.{◌≡◌, ◌+◌, ◌*◌, ◌≤◌, length, get_or, sym, ap, ◌∙◌, arith, rules}
use Rattle.table_file.specs.Puts.{put}
use Rattle.table_file.proofs.Written.{times_more, lines_fit, lines_more, width_more}
use Rattle.table_file.proofs.text.put_all.Goals as goal

pub loop-item-preserved : goal.loop-item-preserved
loop-item-preserved g c =
    let xs = c.args.items.now in
    let i = c.loop-item.item-index in
    let v = c.loop-item.invariant in
    let line : c.line.result ≡ g.L.Line.text (get_or xs i c.item-item.result) = c.line.ensures ∙ ap g.L.Line.text c.item-item.is in
    let wide : length c.line.result ≡ g.row.N = search rules in
    let width = width_more g.L.Line.text xs g.row.N i c.item-item.result c.loop-item-test.true v.1 (sym (ap length line) ∙ wide) in
    let at : c.put-at.result ≡ c.args.start + g.row.N * (i + 1) = omega (arith, c.put-at.ensures.at, v.0, times_more g.row.N i) in
    let fits : c.args.start + g.row.N * i ≤ length c.args.text.now = lines_fit c.args.start g.row.N i (length xs) _ c.loop-item-test.true c.requires.room in (
      at,
      width,
      lines_more g.L.Line.text xs c.args.text.now c.args.start i c.loop-item.at c.item-item.result c.loop-item.text c.put-at.new.text c.loop-item-test.true
          (omega (arith, v.1, fits)) (omega (arith, v.0, v.1)) v.2 (c.put-at.ensures.text ∙ ap (λ l. put l c.loop-item.at c.loop-item.text) line),
    )
