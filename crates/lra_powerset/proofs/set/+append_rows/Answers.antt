-- Goals of the functions that call each other around `append_rows`: `returns`.
use Rattle.std.proofs.{Common.◌≡◌, Common.◌∷◌, Common.arith, lemmas.Grind.common_steps}
use Rattle.lra_powerset.proofs.SetLemmas.{more_fit, more_hold}
use Rattle.lra_powerset.proofs.set.+append_rows.Goals as goal

pub returns-clause-dims : goal.returns-clause-dims
returns-clause-dims g t c =
    let cut : c.args.parts.now ≡ c.in-Some.first.now ∷ c.in-Some.later.now = grind (arith, common_steps) in
    more_fit g.D.Domain.abstraction c.args.parts.now c.in-Some.first.now c.in-Some.later.now c.in_ok-rows.rows.items cut
    c.in_ok-rows.ensures.parts c.in_ok-rows.ensures.dims c.in_ok-append_rows.ensures.dims

pub returns-clause-hold : goal.returns-clause-hold
returns-clause-hold g t c =
    let cut : c.args.parts.now ≡ c.in-Some.first.now ∷ c.in-Some.later.now = grind (arith, common_steps) in
    more_hold g.D.Domain.abstraction c.args.parts.now c.in-Some.first.now c.in-Some.later.now c.in_ok-rows.rows.items cut
    c.in_ok-rows.ensures.parts c.in_ok-rows.ensures.hold c.in_ok-append_rows.ensures.hold
