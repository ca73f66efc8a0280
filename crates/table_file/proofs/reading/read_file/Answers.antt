use Rattle.std.proofs.Common.{Ok, sym, refl, ap, ◌∙◌}
use Rattle.std.proofs.lemmas.Result.{err_from_is_err_and}
use Rattle.table_file.specs.FileText.{file_text}
use Rattle.table_file.proofs.First.{refused_first, one_first, none_first}
use Rattle.table_file.proofs.Only.{read_only}
use Rattle.table_file.proofs.reading.read_file.Goals as goal

pub returns-in_err-reader : goal.returns-in_err-reader
returns-in_err-reader c =
    let p = err_from_is_err_and c.from_residual.result c.from_residual.ensures.1 in
    let bs = c.args.bytes.now in
    let e = c.in_err-reader.ensures in
    rw (p.1, p.2) (record { fault = e; first = refused_first bs _ e; only = one_first bs _ e; unchanged = refl })

pub fill-requires : goal.fill-requires
fill-requires c = (read_only c.args.bytes.now _ c.in_ok-reader.ensures).0

pub returns : goal.returns
returns c =
    let e = c.in_ok-reader.ensures in
    record {
      holds = e ∙ ap Ok (sym c.fill.ensures);
      text = (read_only c.args.bytes.now _ e).1 ∙ ap file_text (sym c.fill.ensures);
      faultless = none_first c.args.bytes.now _ e;
    }
