use Rattle.std.proofs.Common.{◌+◌, ◌*◌, ◌≤◌, length, sym, ap, ◌∙◌, subst, arith}
use Rattle.std.proofs.lemmas.List.{length-map, get_or-map}
use Rattle.std.proofs.lemmas.List.Folds.{flat_map-map}
use Rattle.analysis.specs.Rivals.{TaskWithinLimits, no_task}
use Rattle.planner.specs.Rows.{tasks}
use Rattle.table_file.specs.FileText.{task_line}
use Rattle.table_file.specs.Puts.{put}
use Rattle.table_file.specs.Stored.{stored}
use Rattle.table_file.proofs.Back.{text_length, tasks_length}
use Rattle.table_file.proofs.Written.{written, with_places}
use Rattle.table_file.proofs.writing.put_lines.Goals as goal

pub put_all-at-requires-clause-fit : goal.put_all-at-requires-clause-fit
put_all-at-requires-clause-fit c k d l =
    subst TaskWithinLimits (get_or-map (λ r. r.task) c.args.rows.now k d no_task l) (c.requires.valid.tasks k (omega (arith, length-map c.args.rows.now (λ r. r.task))))

pub returns : goal.returns
returns c =
    let ts = tasks c.args.rows.now in
    let ps = c.args.places.now in
    let s = stored c.args.cores ts ps in
    let old = c.args.text.now in
    let one = c.put-at.new.text in
    let n = length-map c.args.rows.now (λ r. r.task) in
    let room : 5 + 15 * length ts + 9 * length ps ≤ length old = omega (arith, n, c.requires.room) in
    written s c.requires.valid c.put_all.result old c.put_all.new.text
    (omega (arith, text_length s, room)) (omega (arith, text_length s, n, c.put_all.ensures.at, c.put_all-at.ensures.at, c.put-at.ensures.at))
    (with_places c.args.cores ts old one c.put_all-at.new.text c.put-at.result c.put-at.ensures.at
    (c.put-at.ensures.text ∙ ap (λ l. put l 0 old) c.line.ensures)
    (c.put_all-at.ensures.text ∙ ap (λ l. put l c.put-at.result one) (sym (flat_map-map task_line (λ r. r.task) c.args.rows.now)))
    (omega (arith, room))
    ps c.put_all-at.result c.put_all.new.text (omega (arith, tasks_length ts, room)) (omega (arith, tasks_length ts, n, c.put_all-at.ensures.at, c.put-at.ensures.at))
    c.put_all.ensures.text)
