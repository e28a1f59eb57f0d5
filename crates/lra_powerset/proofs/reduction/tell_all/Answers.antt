-- Goals of `tell_all`: of each part whether it goes.
use Rattle.std.proofs.{Common.◌≡◌, Common.ℕ, Common.[], Common.length, Common.vec_len, Common.take, Common.ap, Common.◌∙◌, Common.arith, lemmas.Grind.common_steps}
use Rattle.lra_powerset.proofs.TellLemmas.{cut_dims, tell_ends, tell_front, tell_next}
use Rattle.lra_powerset.proofs.reduction.tell_all.Goals as goal

pub goes-requires-clause-before : goal.goes-requires-clause-before
goes-requires-clause-before g c =
    let m = g.D.Domain.abstraction in
    let told = c.loop-part.told.items in
    let same : vec_len c.loop-part.told ≡ length told = grind (arith, common_steps) in
    let front = c.split_at.ensures.front ∙ ap (λ (k : ℕ). take k c.args.parts.now) (c.len.ensures ∙ same)
    ∙ tell_front m c.args.parts.now c.loop-part.rest.now told c.loop-part.invariant in
    rw front (cut_dims m c.requires.0 c.args.parts.now c.loop-part.rest.now c.in-Some.behind.now c.in-Some.part.now told
    c.loop-part.invariant c.in-Some.ensures.cases.0 c.requires.1).0

pub goes-requires-clause-behind : goal.goes-requires-clause-behind
goes-requires-clause-behind g c = (cut_dims g.D.Domain.abstraction c.requires.0 c.args.parts.now c.loop-part.rest.now
    c.in-Some.behind.now c.in-Some.part.now c.loop-part.told.items c.loop-part.invariant c.in-Some.ensures.cases.0
    c.requires.1).1

pub loop-part-preserved : goal.loop-part-preserved
loop-part-preserved g c =
    let m = g.D.Domain.abstraction in
    let told = c.loop-part.told.items in
    let same : vec_len c.loop-part.told ≡ length told = grind (arith, common_steps) in
    let front = c.split_at.ensures.front ∙ ap (λ (k : ℕ). take k c.args.parts.now) (c.len.ensures ∙ same)
    ∙ tell_front m c.args.parts.now c.loop-part.rest.now told c.loop-part.invariant in
    rw c.in_ok-push.ensures.items (tell_next m c.args.parts.now c.loop-part.rest.now c.in-Some.behind.now c.in-Some.part.now told
    c.goes.result c.loop-part.invariant c.in-Some.ensures.cases.0 (rw front at c.goes.ensures))

pub returns : goal.returns
returns g c =
    let none : c.loop-part.rest.now ≡ [] = grind (arith, common_steps) in
    tell_ends g.D.Domain.abstraction c.args.parts.now c.loop-part.rest.now c.loop-part.told.items c.loop-part.invariant none
