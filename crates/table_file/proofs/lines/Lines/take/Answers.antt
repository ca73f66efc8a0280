use Rattle.std.proofs.Common.{Err, ap, ◌∙◌, inl, inr, arith, rules}
use Rattle.table_file.specs.declared.fault.Number.TheVariants.{Digit}
use Rattle.table_file.specs.Numbers.{fault_at}
use Rattle.table_file.proofs.Cuts.{check_digit, check_ok, check_broken, part_hex, part_length}
use Rattle.table_file.proofs.lines.Lines.take.Goals as goal
use Rattle.table_file.proofs.lines.Lines.take.Goals.{then-n-rest-via-then-n-rest, then-n-rest-via-else-n-rest+then-n-eq0, then-n-rest-via-else-n-rest+else-n-eq0+then-n-ne0}

pub returns-in-Some-clause-answer : goal.returns-in-Some-clause-answer
returns-in-Some-clause-answer c =
    ap Err (c.at.ensures ∙ ap (fault_at Digit c.args.self.now.line) c.column_of.ensures)
    ∙ check_digit c.args.self.now.rest.now c.args.self.now.line _ c.line_len-n.ensures.value c.in-Some.wrong (search rules)

pub returns-then-n-rest-clause-answer : goal.returns-then-n-rest-clause-answer
returns-then-n-rest-clause-answer c =
    ap Err c.of_line.ensures
    ∙ check_broken c.args.self.now.rest.now c.args.self.now.line _ c.line_len-n.ensures.value (search rules)
    (elim c.then-n-rest.branch [
      | then-n-rest-via-then-n-rest w ↦ inl w.if-n-rest.true
      | then-n-rest-via-else-n-rest+then-n-eq0 w ↦ inr (inl w.if-n-eq0.true)
      | then-n-rest-via-else-n-rest+else-n-eq0+then-n-ne0 w ↦ inr (inr w.if-n-ne0.true)
    ])

pub invariant_of-result : goal.invariant_of-result
invariant_of-result c =
    let bs = c.args.self.now.rest.now in
    let n = part_length bs 0 c.line_len-n.result c.line_len-n.ensures.value in
    record { hex = part_hex bs 0 c.line_len-n.result c.line_len-n.ensures.value (search rules); some = omega (arith, n) }

pub returns-clause-answer : goal.returns-clause-answer
returns-clause-answer c =
    check_ok c.args.self.now.rest.now c.args.self.now.line _ c.line_len-n.ensures.value (search rules) c.if-n-rest.false c.if-n-eq0.false c.if-n-ne0.false
