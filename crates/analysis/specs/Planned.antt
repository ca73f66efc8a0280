-- What a plan promises.
use Rattle.std.specs.Prelude.{ℕ, length, take}
use Rattle.interference.specs.Questions.{Query}
use Rattle.analysis.specs.declared.task_set.TaskSet.{TaskSet}
use Rattle.analysis.specs.declared.plan.Plan.{Plan}
use Rattle.analysis.specs.Plans.{FirstPlan, NoPlan}
use Rattle.analysis.specs.Steps.{Padded}

abbrev pub PlanOf : (Query → ℕ) → TaskSet → Plan → Type 0
PlanOf sum s p =
    FirstPlan sum s.cores s.tasks.now (take (length s.tasks.now) p.order) p.lengths
    × Padded (length s.tasks.now) 0 p.order × Padded (length s.tasks.now) 1 p.lengths

abbrev pub NoPlanOf : (Query → ℕ) → TaskSet → Type 0
NoPlanOf sum s = NoPlan sum s.cores s.tasks.now
