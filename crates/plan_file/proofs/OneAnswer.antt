-- There is one answer to a file.
use Rattle.std.proofs.Common.{◌≡◌, ℕ, List, length, Ok, Err, Result, sym, ◌∙◌, arith}
use Rattle.interference.specs.Sums.{full_sum}
use Rattle.analysis.specs.declared.task.Task.{Task}
use Rattle.analysis.specs.Rivals.{cost_of}
use Rattle.analysis.specs.Passing.{PassesOver}
use Rattle.planner.specs.Reading.{standing}
use Rattle.planner.proofs.OneAnswer.{one_plan}
use Rattle.table_file.specs.declared.fault.Fault.{Fault}
use Rattle.table_file.specs.Stored.{Stored, stored, placed}
use Rattle.table_file.specs.FileText.{file_text}
use Rattle.plan_file.specs.Answers.{PlanAnswer, too_many, none, planned, FileAnswer}

one_table : (m : ℕ) (ts : List Task) (a b : List ℕ) → PlanAnswer m ts a → PlanAnswer m ts b → a ≡ b
one_table m ts a b (too_many h e) (too_many k f) = e ∙ sym f
one_table m ts a b (too_many h e) (none k x f) = absurd (omega arith)
one_table m ts a b (too_many h e) (planned k q lens l p f) = absurd (omega arith)
one_table m ts a b (none h x e) (too_many k f) = absurd (omega arith)
one_table m ts a b (none h x e) (none k y f) = e ∙ sym f
one_table m ts a b (none h x e) (planned k q lens l p f) = absurd (x q p.order lens p.lengths.choice p.lengths.pass)
one_table m ts a b (planned h q lens l p e) (too_many k f) = absurd (omega arith)
one_table m ts a b (planned h q lens l p e) (none k x f) = absurd (x q p.order lens p.lengths.choice p.lengths.pass)
one_table m ts a b (planned h q lens l p e) (planned k r mens n o f) =
    let same = one_plan (cost_of ts) (length ts) (PassesOver full_sum m ts) q r lens mens l n p o in
    e ∙ (λ i. file_text (stored m ts (placed (standing (same.0 i)) (same.1 i)))) ∙ sym f

pub one_answer : (r : Result Stored Fault) (a b : List ℕ) → FileAnswer r a → FileAnswer r b → a ≡ b
one_answer (Ok s) a b x y = one_table s.cores s.tasks a b x y
one_answer (Err f) a b x y = x ∙ sym y
