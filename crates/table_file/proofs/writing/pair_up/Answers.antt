use Rattle.std.proofs.Common.{◌<◌, length, inl, inr, ⊎_elim, arith, rules}
use Rattle.table_file.proofs.Pairs.{pairs_fit, pairs_all}
use Rattle.table_file.proofs.writing.pair_up.Goals as goal

pub push-requires : goal.push-requires
push-requires c =
    let it = c.loop-number.number-iterator in
    let s = c.in-Some.ensures.steps in
    let room : length c.loop-number.places.items < 32 =
    omega (arith, pairs_fit c.loop-number.places.items it.a.rest.now it.b.rest.now c.args.numbers.now c.args.lengths.now c.loop-number.invariant _ _ _ _ s.0 s.1, c.requires) in
    search rules

pub returns : goal.returns
returns c =
    let it = c.loop-number.number-iterator in
    pairs_all c.loop-number.places.items it.a.rest.now it.b.rest.now c.args.numbers.now c.args.lengths.now c.loop-number.invariant
    (⊎_elim (λ u. inl u.1.0) (λ u. inr u.1.0) c.in-None.ensures.steps)
