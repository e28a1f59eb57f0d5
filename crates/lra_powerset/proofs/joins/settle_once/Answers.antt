-- Goals of `settle_once`: the parts reduced, and the last two joined if there are more than the cap.
use Rattle.std.proofs.{Common.◌≡◌, Common.◌≤◌, Common.◌<◌, Common.length, Common.vec_len, Common.arith, Common.rules, lemmas.Grind.common_steps}
use Rattle.lra_domain.specs.declared.Exactness.TheVariants.{Flagged}
use Rattle.lra_powerset.proofs.AnswerLemmas.{once_flagged, once_further, once_strained, reduced_alike}
use Rattle.lra_powerset.proofs.joins.settle_once.Goals as goal

pub returns-then-len-cap : goal.returns-then-len-cap
returns-then-len-cap g c =
    let same : length c.reduce_untried.new.parts.items ≡ vec_len c.reduce_untried.new.parts = grind (arith, common_steps) in
    let few : length c.reduce_untried.new.parts.items ≤ c.args.cap = omega (arith, same, c.len.ensures, c.if-len-cap.true) in
    (c.in_ok-reduced.ensures, few)

pub returns-then-eq : goal.returns-then-eq
returns-then-eq g c =
    let same : length c.reduce_untried.new.parts.items ≡ vec_len c.reduce_untried.new.parts = grind (arith, common_steps) in
    let over : c.args.cap < length c.reduce_untried.new.parts.items = omega (arith, same, c.len.ensures, c.if-len-cap.false) in
    let flagged : c.in_ok-reduced.reduced ≡ Flagged = search rules in
    once_flagged g.D.Domain.abstraction c.args.cap c.args.parts.now.items c.in_ok-reduced.reduced c.reduce_untried.new.parts.items flagged over
    c.in_ok-reduced.ensures

pub join_last_two-requires-clause-alike : goal.join_last_two-requires-clause-alike
join_last_two-requires-clause-alike g c = (
  c.requires.alike.0,
  reduced_alike g.D.Domain.abstraction c.requires.alike.0 c.args.parts.now.items c.in_ok-reduced.reduced c.reduce_untried.new.parts.items
      c.in_ok-reduced.ensures c.requires.alike.1,
)

pub returns-then-eq-2 : goal.returns-then-eq-2
returns-then-eq-2 g c =
    let same : length c.reduce_untried.new.parts.items ≡ vec_len c.reduce_untried.new.parts = grind (arith, common_steps) in
    let over : c.args.cap < length c.reduce_untried.new.parts.items = omega (arith, same, c.len.ensures, c.if-len-cap.false) in
    let lossless : ¬ (c.in_ok-reduced.reduced ≡ Flagged) = search rules in
    let flagged : c.in_ok-joined.joined ≡ Flagged = search rules in
    once_strained g.D.Domain.abstraction c.args.cap c.args.parts.now.items c.in_ok-reduced.reduced c.reduce_untried.new.parts.items
    c.in_ok-joined.joined c.join_last_two.new.parts.items lossless flagged over c.in_ok-reduced.ensures
    c.in_ok-joined.ensures

pub returns : goal.returns
returns g c =
    let same : length c.reduce_untried.new.parts.items ≡ vec_len c.reduce_untried.new.parts = grind (arith, common_steps) in
    let over : c.args.cap < length c.reduce_untried.new.parts.items = omega (arith, same, c.len.ensures, c.if-len-cap.false) in
    let lossless : ¬ (c.in_ok-reduced.reduced ≡ Flagged) = search rules in
    let exact : ¬ (c.in_ok-joined.joined ≡ Flagged) = search rules in
    once_further g.D.Domain.abstraction c.args.cap c.args.parts.now.items c.in_ok-reduced.reduced c.reduce_untried.new.parts.items
    c.in_ok-joined.joined c.join_last_two.new.parts.items lossless exact over c.in_ok-reduced.ensures
    c.in_ok-joined.ensures
