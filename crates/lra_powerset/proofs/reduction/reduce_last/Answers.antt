-- Goals of `reduce_last`: a list is reduced of which only the last part is new.
use Rattle.std.proofs.{Common.◌≡◌, Common.[], Common.◌∷◌, Common.◌++◌, Common.length, Common.vec_len, Common.ap, Common.arith, Common.length-append, lemmas.Grind.common_steps}
use Rattle.lra_powerset.proofs.TellLemmas.{told_long}
use Rattle.lra_powerset.proofs.reduction.reduce_last.Goals as goal

pub leave_out-requires : goal.leave_out-requires
leave_out-requires g c =
    let front = c.split_at.result.0.now in
    let last = c.index-behind-0.result in
    let known = c.requires.apart in
    let told = ap length c.as_slice-2.ensures.value in
    let long = told_long g.D.Domain.abstraction [] (front ++ last ∷ []) c.in_ok-told.told.items c.in_ok-told.ensures in
    let whole = ap length known.all in
    let same : vec_len c.args.parts.now ≡ length c.args.parts.now.items = grind (arith, common_steps) in
    omega (
      arith,
      told,
      long,
      same,
      whole,
      length-append front (last ∷ []),
      length-append known.front (known.last ∷ []),
      c.split_at.ensures.front_len,
      c.len.ensures,
    )
