use Rattle.std.proofs.Common.{◌≡◌, List, length, sym, ap, ◌∙◌, subst, arith}
use Rattle.std.proofs.lemmas.Bool.{eqb-false}
use Rattle.analysis.specs.declared.task.Task.{Task}
use Rattle.planner.specs.Tables.{held, holds}
use Rattle.planner.specs.Calls.{NamesEach}
use Rattle.planner.specs.Reading.{standing}
use Rattle.table_file.specs.declared.place.Place.{Place}
use Rattle.table_file.specs.Promises.{Writes}
use Rattle.table_file.specs.Sheets.{kept}
use Rattle.table_file.specs.Stored.{Stored, stored, of_fixed, placed, numbers}
use Rattle.table_file.proofs.Settled.{places_name, placed_back}
use Rattle.table_file.proofs.writing.write_sheet.Goals as goal

pub order_by-requires-clause-each : goal.order_by-requires-clause-each
order_by-requires-clause-each c =
    let sheet = c.args.sheet in
    let ts = (held sheet.table).tasks in
    let ps = sheet.places.items in
    let some = eqb-false (length ps) 0 (sym c.if-is_empty.ensures) in
    let all : length ps ≡ length ts = sheet.whole (omega arith) in
    let tasks : (holds c.fix-fixed.result).tasks ≡ ts = ap (λ m. m.tasks) c.fix-fixed.ensures.holds in
    subst (λ (xs : List Task). NamesEach (length xs) (numbers c.deref.result.now)) (sym tasks)
    (subst (λ (xs : List Place). NamesEach (length ts) (numbers xs)) (sym c.deref.ensures.0) (places_name ts ps sheet.each all))

pub returns-clause-written : goal.returns-clause-written
returns-clause-written c =
    let sheet = c.args.sheet in
    let m = holds c.stretch_to.new.table in
    let fixed = c.fix-fixed.ensures.holds in
    let cores : m.cores ≡ (held sheet.table).cores = c.stretch_to.ensures.cores ∙ c.order_by.ensures.cores ∙ ap (λ x. x.cores) fixed in
    let tasks : m.tasks ≡ (held sheet.table).tasks = c.stretch_to.ensures.tasks ∙ c.order_by.ensures.tasks ∙ ap (λ x. x.tasks) fixed in
    let order : standing m.order ≡ numbers c.deref.result.now = ap standing c.stretch_to.ensures.order ∙ c.order_by.ensures.order in
    let places : placed (standing m.order) m.lengths ≡ sheet.places.items =
    ap (λ q. placed q m.lengths) (order ∙ ap numbers (c.deref.ensures.0 ∙ sym c.deref-2.ensures.0)) ∙ placed_back c.deref-2.result.now m.lengths c.stretch_to.ensures.lengths ∙ c.deref-2.ensures.0 in
    let whole : of_fixed m ≡ kept sheet = (λ i. stored (cores i) (tasks i) (places i)) in
    subst (λ (s : Stored). Writes s c.write_fixed-answer.result c.args.text.now c.write_fixed-answer.new.text) whole c.write_fixed-answer.ensures
