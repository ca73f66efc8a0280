use Rattle.std.proofs.Common.{Ok, sym, ap, ◌∙◌, arith}
use Rattle.std.proofs.lemmas.Result.{err_from_is_err_and}
use Rattle.std.proofs.lemmas.Bool.{eqb-false, eqb-true}
use Rattle.table_file.specs.Lines.{lines_of}
use Rattle.table_file.specs.Frames.{form_of}
use Rattle.table_file.specs.Progress.{view, bind, carried}
use Rattle.table_file.specs.Reading.{read_lines}
use Rattle.table_file.proofs.Onward.{to_file, line_fault, frame_fault, step_fault, step_goes, read_done}
use Rattle.table_file.proofs.reading.read_frames.Goals as goal

pub returns-in_err-line : goal.returns-in_err-line
returns-in_err-line c =
    let p = err_from_is_err_and c.from_residual.result c.from_residual.ensures.1 in
    let h = eqb-false _ _ (sym c.loop-lines-test.ensures) in
    let l = c.loop-lines.lines in
    rw (p.1, p.2)
    (to_file c.args.bytes.now l.rest.now l.line (view c.loop-lines.reader) (omega arith) c.loop-lines.invariant _
    (line_fault l.line (view c.loop-lines.reader) l.rest.now (omega arith) _ (sym c.in_err-line.ensures.answer)))

pub returns-in_err-frame : goal.returns-in_err-frame
returns-in_err-frame c =
    let p = err_from_is_err_and c.from_residual-in_err-frame.result c.from_residual-in_err-frame.ensures.1 in
    let h = eqb-false _ _ (sym c.loop-lines-test.ensures) in
    let l = c.loop-lines.lines in
    let s = c.in_ok-line in
    rw (p.1, p.2)
    (to_file c.args.bytes.now l.rest.now l.line (view c.loop-lines.reader) (omega arith) c.loop-lines.invariant _
    (frame_fault l.line (view c.loop-lines.reader) l.rest.now (omega arith) s.line.digits.now (sym s.ensures.answer) _
    (ap (form_of s.line.digits.now) (sym s.ensures.after.0) ∙ sym c.in_err-frame.ensures)))

pub returns-in_err-accept : goal.returns-in_err-accept
returns-in_err-accept c =
    let p = err_from_is_err_and c.from_residual-in_err-accept.result c.from_residual-in_err-accept.ensures.1 in
    let h = eqb-false _ _ (sym c.loop-lines-test.ensures) in
    let l = c.loop-lines.lines in
    let s = c.in_ok-line in
    rw (p.1, p.2)
    (to_file c.args.bytes.now l.rest.now l.line (view c.loop-lines.reader) (omega arith) c.loop-lines.invariant _
    (step_fault l.line (view c.loop-lines.reader) l.rest.now (omega arith) s.line.digits.now (sym s.ensures.answer) _
    (ap (form_of s.line.digits.now) (sym s.ensures.after.0) ∙ sym c.in_ok-frame.ensures) _
    c.in_err-accept.ensures.0))

pub loop-lines-preserved : goal.loop-lines-preserved
loop-lines-preserved c =
    let h = eqb-false _ _ (sym c.loop-lines-test.ensures) in
    let l = c.loop-lines.lines in
    let s = c.in_ok-line in
    let a = s.ensures.after in
    (λ i. read_lines (a.1 i) (view c.accept.new.self) (lines_of (a.2 i)))
    ∙ sym (step_goes l.line (view c.loop-lines.reader) l.rest.now (omega arith) s.line.digits.now (sym s.ensures.answer) _
    (ap (form_of s.line.digits.now) (sym a.0) ∙ sym c.in_ok-frame.ensures) (view c.accept.new.self) c.in_ok-accept.ensures)
    ∙ c.loop-lines.invariant

pub returns-in_err-finish : goal.returns-in_err-finish
returns-in_err-finish c =
    let p = err_from_is_err_and c.from_residual-in_err-finish.result c.from_residual-in_err-finish.ensures.1 in
    let h = eqb-true _ _ (sym c.loop-lines-test.ensures) in
    let l = c.loop-lines.lines in
    let st = view c.loop-lines.reader in
    rw (p.1, p.2)
    (to_file c.args.bytes.now l.rest.now l.line st (omega arith) c.loop-lines.invariant _
    (read_done l.line st l.rest.now h ∙ ap (λ r. bind r (λ _. Ok (carried st))) (sym c.in_err-finish.ensures)))

pub returns : goal.returns
returns c =
    let h = eqb-true _ _ (sym c.loop-lines-test.ensures) in
    let l = c.loop-lines.lines in
    let st = view c.loop-lines.reader in
    to_file c.args.bytes.now l.rest.now l.line st (omega arith) c.loop-lines.invariant _
    (read_done l.line st l.rest.now h ∙ ap (λ r. bind r (λ _. Ok (carried st))) (sym c.in_ok-finish.ensures))
