-- Goals of the functions that call each other around `lies_below_some`: `returns`.
use Rattle.std.proofs.{Common.◌≡◌, Common.◌∷◌, Common.arith, Common.inl, Common.rules, lemmas.Grind.common_steps}
use Rattle.lra_domain.specs.declared.Included.TheVariants.{Yes}
use Rattle.lra_powerset.specs.Reduction.{BelowStrains}
use Rattle.lra_powerset.proofs.AnswerLemmas.{told_some, told_yes}
use Rattle.lra_powerset.proofs.reduction.+lies_below_some.Goals as goal

pub returns-then-eq : goal.returns-then-eq
returns-then-eq g t c =
    let m = g.D.Domain.abstraction in
    let p = c.args.part.now in
    let q = c.in-Some.first.now in
    let cut : c.args.others.now ≡ c.in-Some.first.now ∷ c.in-Some.later.now = grind (arith, common_steps) in
    let yes : c.lies_below-here.result ≡ Yes = search rules in
    rw cut (inl (told_yes (m.included p q × ¬ m.included q p) (BelowStrains m p q) c.lies_below-here.result c.lies_below-here.ensures yes))

pub returns : goal.returns
returns g t c =
    let m = g.D.Domain.abstraction in
    let p = c.args.part.now in
    let cut : c.args.others.now ≡ c.in-Some.first.now ∷ c.in-Some.later.now = grind (arith, common_steps) in
    rw (c.either.ensures, cut)
    (told_some (λ q. m.included p q × ¬ m.included q p) (BelowStrains m p) c.in-Some.first.now c.in-Some.later.now
    c.lies_below-here.result c.lies_below_some.result c.lies_below-here.ensures c.lies_below_some.ensures)
