use Rattle.std.proofs.Common.{List, length, sym, ◌∙◌, subst, subst₂, ◌+◌, ◌≤◌}
use Rattle.interference.specs.declared.rival.Rival.{Rival}
use Rattle.interference.specs.Questions.{RivalsWithinLimits}
use Rattle.analysis.specs.Finishes.{latest}
use Rattle.analysis.proofs.RivalLaws.{uppers_within, lowers_within, rivals_few}
use Rattle.analysis.proofs.BoundLaws.{fit_late}
use Rattle.analysis.proofs.level.Level.place.Goals as goal

pub invariant_of-result : goal.invariant_of-result
invariant_of-result c =
    let a = c.args in
    let l = a.self.now in
    let s = l.set in
    let ts = s.tasks.now in
    let p = c.requires in
    let bs = latest ts a.late.now in
    let late = fit_late ts s.limits a.late.now p.fit in
    let e = c.fill.ensures in
    let up = c.as_slice.ensures.value ∙ e.upper in
    let lo = c.as_slice-2.ensures.value ∙ e.lower in
    record {
      some = s.some;
      most = s.most;
      limits = s.limits a.k p.here;
      few = subst₂ (λ (x : List Rival) (y : List Rival). length x + length y ≤ 31) (sym up) (sym lo) (rivals_few ts s.limits s.few bs late l.low.now a.k p.here l.lengths.now l.choice);
      uppers = subst (λ (x : List Rival). RivalsWithinLimits x) (sym up) (uppers_within ts s.limits s.few bs late l.low.now a.k p.here);
      lowers = subst (λ (x : List Rival). RivalsWithinLimits x) (sym lo) (lowers_within ts s.limits s.few bs late l.low.now a.k p.here l.lengths.now l.choice);
    }
