use Rattle.std.proofs.Common.{Result, sym, subst}
use Rattle.planner.specs.Tables.{held}
use Rattle.table_file.specs.declared.fault.Fault.{Fault}
use Rattle.table_file.specs.Stored.{Stored}
use Rattle.table_file.specs.Sheets.{kept}
use Rattle.plan_file.specs.Answers.{FilePlanned}
use Rattle.plan_file.proofs.OnAnswers.{by_plan}
use Rattle.plan_file.proofs.planning.plan_of.Goals as goal

pub returns : goal.returns
returns c =
    subst (λ (r : Result Stored Fault). FilePlanned r c.map_err.result) (sym c.in_ok-read_file.ensures.holds)
    (by_plan (held c.into_table.result) (kept c.read_file.new.sheet) c.into_table.ensures c.plan.result c.map_err.result _ (λ e n says. says) c.map_err.ensures.cases c.plan.ensures)
