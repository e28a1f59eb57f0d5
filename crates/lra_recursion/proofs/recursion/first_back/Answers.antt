-- Goals of `first_back`: the place of the first of these calls whose callee reaches its caller.
use Rattle.std.proofs.{Common.refl, Common.take, Common.drop, Common.suc, lemmas.Option.slice_get-get_or}
use Rattle.lra_recursion.proofs.Elements.{split_at}
use Rattle.lra_recursion.proofs.recursion.first_back.Goals as goal

pub returns-then-branch : goal.returns-then-branch
returns-then-branch c =
    let calls = c.args.calls.now in
    let i = c.calls.call-index in
    (take i calls, drop (suc i) calls, _, split_at calls i _ (slice_get-get_or calls i _ c.calls-test.true), refl, c.in_ok-is_back.ensures.0 c.if-branch.true, c.calls.invariant)
