-- The workload, and the share that one rival takes of a window.
use Rattle.std.specs.Prelude.{ℕ, ◌+◌, ◌-◌, ◌*◌, ◌/◌, ◌%◌, min}
use Rattle.interference.specs.declared.rival.Rival.{Rival}
use Rattle.interference.specs.Questions.{Query}

-- the most that a task of cost c and period t executes in x ticks that begin with a release: all whole periods, and
-- what fits of one more
abbrev pub workload : ℕ → ℕ → ℕ → ℕ
workload c t x = x / t * c + min c (x % t)

-- No share is larger: the task has its demand done unless its rivals keep it from all but demand - 1 ticks.
abbrev pub share_cap : Query → ℕ
share_cap q = q.window - q.demand + 1

-- the share of a rival that may carry work in from before the window: its first job finishes as late as it can
abbrev pub carry_in_share : Query → Rival → ℕ
carry_in_share q r = min (workload r.cost r.period (q.window + r.finish - r.cost)) (share_cap q)

-- the share of a rival that carries nothing in
abbrev pub plain_share : Query → Rival → ℕ
plain_share q r = min (workload r.cost r.period q.window) (share_cap q)

-- the share of an interrupt handler of cost c whose runs start at least g ticks apart
abbrev pub handler_share : ℕ → ℕ → Query → ℕ
handler_share c g q = min (workload c g q.window) (share_cap q)
