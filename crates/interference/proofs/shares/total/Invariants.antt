use Rattle.std.proofs.Common.{◌≡◌, ◌*◌, ◌≤◌, take, sum_by}
use Rattle.interference.specs.View.{query}
use Rattle.interference.proofs.shares.total.Given as goal

abbrev pub invariant-loop-r : goal.invariant-loop-r
invariant-loop-r g l = (l.sum ≤ 65535 * l.r-index) × (l.sum ≡ sum_by (g.S.Share.share (query l.q)) (take l.r-index l.rivals))
