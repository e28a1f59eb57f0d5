-- Goals of the functions that call each other around `stays_with_all`: `returns`.
use Rattle.std.proofs.{Common.◌≡◌, Common.◌∷◌, Common.[], Common.arith, lemmas.Grind.common_steps, lemmas.Result.IfOk-weaker}
use Rattle.lra_powerset.proofs.GrowthLemmas.{all_fails, all_more, all_none}
use Rattle.lra_powerset.proofs.growth.+stays_with_all.Goals as goal

pub returns-in_default-clause-stays : goal.returns-in_default-clause-stays
returns-in_default-clause-stays g t c =
    let none : c.args.parts.now ≡ [] = grind (arith, common_steps) in
    all_none g.D.Domain.abstraction c.args.head.now c.args.parts.now c.args.mode none

pub returns-in-Grew-clause-stays : goal.returns-in-Grew-clause-stays
returns-in-Grew-clause-stays g t c =
    let cut : c.args.parts.now ≡ c.in-Some.first.now ∷ c.in-Some.later.now = grind (arith, common_steps) in
    all_fails g.D.Domain.abstraction c.args.head.now c.grow.new.head c.in-Some.first.now c.in-Some.later.now c.args.parts.now
    c.args.mode c.in-Grew.field-0 cut (c.in_ok-grow.ensures.grew c.in-Grew.field-0 c.in-Grew.is)

pub returns-in-Stable-clause-stays : goal.returns-in-Stable-clause-stays
returns-in-Stable-clause-stays g t c =
    let cut : c.args.parts.now ≡ c.in-Some.first.now ∷ c.in-Some.later.now = grind (arith, common_steps) in
    IfOk-weaker c.stays_with_all.result _ _ (λ stays is. all_more g.D.Domain.abstraction g.met.D.Domain.laws c.args.head.now
    c.grow.new.head c.stays_with_all.new.head c.in-Some.first.now c.in-Some.later.now c.args.parts.now c.args.mode stays cut
    (c.in_ok-grow.ensures.stable c.in-Stable.is) (c.in_ok-grow.ensures.stays c.in-Stable.is) is) c.stays_with_all.ensures.stays
