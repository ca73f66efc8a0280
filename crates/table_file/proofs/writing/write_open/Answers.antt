use Rattle.std.proofs.Common.{◌≡◌, length, sym, refl, ap, ◌∙◌, arith}
use Rattle.std.proofs.lemmas.List.{length-map}
use Rattle.planner.specs.Tables.{held}
use Rattle.table_file.specs.Stored.{of_open}
use Rattle.table_file.proofs.Back.{text_length}
use Rattle.table_file.proofs.writing.write_open.Goals as goal

pub returns-then-text-file_bytes : goal.returns-then-text-file_bytes
returns-then-text-file_bytes c =
    let s = of_open (held c.args.table.now) in
    let n : length s.tasks ≡ length c.rows-rows.result.now = ap length (sym c.rows-rows.ensures.tasks) ∙ length-map c.rows-rows.result.now (λ r. r.task) in
    record { short = omega (arith, text_length s, c.if-text-file_bytes.true, c.file_bytes.ensures); refusal = refl; unchanged = refl }
