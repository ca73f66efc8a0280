use Rattle.std.proofs.Common.{◌≡◌, ℕ, zero, suc, ◌+◌, ◌-◌, ◌≤◌, List, get_or, take, sym, ap, ◌∙◌, subst, add-one, arith, length-take, take_all}
use Rattle.interference.specs.declared.rival.Rival.{Rival}
use Rattle.interference.specs.Questions.{Query, TimesWithinLimits, nobody, rival_at}
use Rattle.interference.specs.Sums.{carried, greatest_total, GreatestTotal}
use Rattle.interference.specs.View.{query}
use Rattle.interference.specs.ShareLaws.{plain_carry}
use Rattle.interference.specs.Mixed.{top, top_zero, top_more, top_le}
use Rattle.interference.specs.Greatest.{greatest_top, greatest_is}
use Rattle.interference.proofs.limited.carried_work.Goals as goal

small : (q : Query) → TimesWithinLimits q → (rs : List Rival) (k i : ℕ) → i ≤ 31 → top (carried q) k (take i rs) ≤ 2031585
small q v rs k i h = omega (arith, top_le (carried q) 65535 (λ r. omega arith) k (take i rs), length-take i rs)

pub overflow_sub-carry_in : goal.overflow_sub-carry_in
overflow_sub-carry_in c =
    let r = rival_at c.args.q.now.upper.now c.loop-r.r-index in
    omega (arith, plain_carry (query c.args.q.now) r (c.args.q.now.uppers c.loop-r.r-index c.loop-r-test.true), c.of-plain.ensures, c.of-carry_in.ensures)

pub with_choice-best-requires-clause-small : goal.with_choice-best-requires-clause-small
with_choice-best-requires-clause-small c = λ k h. omega (arith, c.loop-r.invariant k h, small (query c.args.q.now) c.args.q.now.times c.args.q.now.upper.now k c.loop-r.r-index (omega (arith, c.args.q.now.sizes)))

pub loop-r-preserved : goal.loop-r-preserved
loop-r-preserved c zero h =
    let f = carried (query c.args.q.now) in
    omega (arith, c.with_choice-best.ensures.none, c.loop-r.invariant 0 (omega arith), top_zero f (take c.loop-r.r-index c.args.q.now.upper.now), top_zero f (take (c.loop-r.r-index + 1) c.args.q.now.upper.now))
loop-r-preserved c (suc k) h =
    let f = carried (query c.args.q.now) in
    let e = top_more f k c.args.q.now.upper.now c.loop-r.r-index nobody c.loop-r-test.true in
    let s = rw add-one at (c.with_choice-best.ensures.some k (omega arith)) in
    omega (arith, e, s, c.loop-r.invariant k (omega arith), c.loop-r.invariant (suc k) h, c.of-plain.ensures, c.of-carry_in.ensures)

pub returns : goal.returns
returns c =
    let q = query c.args.q.now in
    let n = q.cores - 1 in
    let rs = q.upper in
    let i = c.loop-r.invariant n (omega (arith, c.args.q.now.sizes)) in
    let is : get_or c.loop-r.best n 0 ≡ greatest_total (carried q) n rs =
    i ∙ ap (top (carried q) n) (take_all _ _ c.loop-r-test.false) ∙ sym (greatest_top (carried q) n rs) in
    record {
      greatest = subst (λ (s : ℕ). GreatestTotal (carried q) n rs s) (sym is) (greatest_is (carried q) n rs);
      total = is;
      fits = omega (arith, i, small q c.args.q.now.times rs n c.loop-r.r-index (omega (arith, c.args.q.now.sizes)));
    }
