-- What a question asks, its limits, and the ways in which one question can differ from another.
use Rattle.std.specs.Prelude.{ℕ, ◌+◌, ◌-◌, ◌<◌, ◌≤◌, List, length, slice_index_or, slice_set}
use Rattle.interference.specs.declared.rival.Rival.{Rival}

-- how long is the window, how much of it the task itself wants, how long its region is, and who its rivals are
pub record Query : Type 0 where
  pub cores : ℕ
  pub window : ℕ
  pub demand : ℕ
  pub region : ℕ
  pub upper : List Rival
  pub lower : List Rival

abbrev pub posed : ℕ → ℕ → ℕ → ℕ → List Rival → List Rival → Query
posed m l e f us ls = record { cores = m; window = l; demand = e; region = f; upper = us; lower = ls }

abbrev pub RivalWithinLimits : Rival → Type 0
RivalWithinLimits r = (r.cost ≤ r.finish) × (r.finish ≤ 65535) × (r.cost ≤ r.period) × (r.period ≤ 65535) × (1 ≤ r.period)

-- read past the end of a list
abbrev pub nobody : Rival
nobody = record { cost = 0; period = 0; finish = 0 }

abbrev pub rival_at : List Rival → ℕ → Rival
rival_at rs i = slice_index_or rs i nobody

abbrev pub RivalsWithinLimits : List Rival → Type 0
RivalsWithinLimits rs = (i : ℕ) → i < length rs → RivalWithinLimits (rival_at rs i)

abbrev pub TimesWithinLimits : Query → Type 0
TimesWithinLimits q = (1 ≤ q.demand) × (q.demand ≤ q.window) × (q.window ≤ 65535) × (1 ≤ q.region) × (q.region ≤ 65535)

abbrev pub SizesWithinLimits : Query → Type 0
SizesWithinLimits q = (1 ≤ q.cores) × (q.cores ≤ 16) × (length q.upper + length q.lower ≤ 31)

-- the questions that there are
pub record Valid (q : Query) : Type 0 where
  pub times : TimesWithinLimits q
  pub sizes : SizesWithinLimits q
  pub uppers : RivalsWithinLimits q.upper
  pub lowers : RivalsWithinLimits q.lower

-- the same question with another window
abbrev pub with_window : Query → ℕ → Query
with_window q l = posed q.cores l q.demand q.region q.upper q.lower

-- the same question with other rivals
abbrev pub with_upper : Query → List Rival → Query
with_upper q us = posed q.cores q.window q.demand q.region us q.lower

abbrev pub with_lower : Query → List Rival → Query
with_lower q ls = posed q.cores q.window q.demand q.region q.upper ls

-- the same rival with another latest finish, or with another cost
abbrev pub with_finish : Rival → ℕ → Rival
with_finish r j = record { cost = r.cost; period = r.period; finish = j }

abbrev pub with_cost : Rival → ℕ → Rival
with_cost r c = record { cost = c; period = r.period; finish = r.finish }

-- the same question, but that one rival finishes by j at the latest, or that one lower rival costs c
abbrev pub upper_finishing : Query → ℕ → ℕ → Query
upper_finishing q i j = with_upper q (slice_set q.upper i (with_finish (rival_at q.upper i) j))

abbrev pub lower_finishing : Query → ℕ → ℕ → Query
lower_finishing q i j = with_lower q (slice_set q.lower i (with_finish (rival_at q.lower i) j))

abbrev pub lower_costing : Query → ℕ → ℕ → Query
lower_costing q i c = with_lower q (slice_set q.lower i (with_cost (rival_at q.lower i) c))

-- the same question with the last z ticks of the demand moved into the region
abbrev pub moved : Query → ℕ → Query
moved q z = posed q.cores (q.window - z) (q.demand - z) (q.region + z) q.upper q.lower
