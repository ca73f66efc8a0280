-- Twelve worked figures, some of them of several lines.
use Rattle.std.specs.Prelude.{ℕ, List, [], ◌∷◌}
use Rattle.analysis.specs.declared.task.Task.{Task}
use Rattle.examples.specs.Lines.{row, Rules, full, limited, handled, Setting, Line, work, passes, fails, no_lengths, first_plan, least_bounds, no_bounds}

abbrev numbers : ℕ → ℕ → ℕ → ℕ → List ℕ
numbers a b c d = a ∷ (b ∷ (c ∷ (d ∷ [])))

-- one task alone
abbrev alone : Rules → ℕ → Task → Setting
alone rule m t = record { rule = rule; cores = m; tasks = t ∷ []; order = 1 ∷ [] }

-- four tasks on two cores under the full rule
abbrev four : Task → Task → Task → Task → List ℕ → Setting
four a b c d order = record { rule = full; cores = 2; tasks = a ∷ (b ∷ (c ∷ (d ∷ []))); order = order }

-- the example with four tasks, in an order
abbrev first_example : List ℕ → Setting
first_example = four (row 36 110 207) (row 86 141 178) (row 93 195 525) (row 62 195 767)

-- the second example, in number order, with a deadline of the fourth task
abbrev second_example : ℕ → Setting
second_example d = four (row 10 10 100) (row 5 10 10) (row 5 15 15) (row 7 d 100) (numbers 1 2 3 4)

abbrev pub figures : List Line
figures =
    -- 1. workloads of cost 5 and period 10
    work 5 10 0 0 ∷ (work 5 10 4 4 ∷ (work 5 10 9 5 ∷ (work 5 10 13 8
    -- 2. of period 1
    ∷ (work 0 1 7 0 ∷ (work 1 1 7 7
    -- 3. to 5. a task alone that has its deadline for its cost
    ∷ (passes (alone full 1 (row 5 5 5)) (2 ∷ []) 1
    ∷ (passes (alone limited 1 (row 5 5 5)) (1 ∷ []) 1 ∷ (fails (alone limited 1 (row 5 5 5)) (2 ∷ []) 1
    ∷ (passes (alone limited 2 (row 5 5 5)) (2 ∷ []) 1 ∷ (fails (alone limited 2 (row 5 5 5)) (3 ∷ []) 1
    -- 6. to 8. the example with four tasks
    ∷ (fails (first_example (numbers 1 2 3 4)) (numbers 1 1 1 41) 4 ∷ (passes (first_example (numbers 1 2 3 4)) (numbers 1 1 1 42) 4
    ∷ (no_lengths (first_example (numbers 2 1 3 4))
    ∷ (first_plan (first_example (numbers 2 1 4 3)) (numbers 1 1 58 1)
    -- 9. to 11. the second example
    ∷ (least_bounds (second_example 100) (numbers 1 1 1 1) (numbers 10 5 10 23)
    ∷ (least_bounds (second_example 100) (numbers 1 1 1 2) (numbers 10 6 15 27)
    ∷ (no_bounds (second_example 25) (numbers 1 1 1 2)
    -- 12. a task alone under a handler
    ∷ (passes (alone (handled 3 10) 1 (row 5 8 10)) (1 ∷ []) 1 ∷ (fails (alone (handled 4 10) 1 (row 5 8 10)) (1 ∷ []) 1 ∷ [])))))))))))))))))))
