-- Goals of the functions that call each other around `lies_in_some`: `returns`.
use Rattle.std.proofs.{Common.◌≡◌, Common.◌∷◌, Common.arith, Common.inl, Common.rules, lemmas.Grind.common_steps}
use Rattle.lra_domain.specs.declared.Included.TheVariants.{Yes}
use Rattle.lra_powerset.proofs.AnswerLemmas.{told_of, told_some}
use Rattle.lra_powerset.proofs.reduction.+lies_in_some.Goals as goal

pub returns-then-eq : goal.returns-then-eq
returns-then-eq g t c =
    let cut : c.args.others.now ≡ c.in-Some.first.now ∷ c.in-Some.later.now = grind (arith, common_steps) in
    let yes : c.included-here.result ≡ Yes = search rules in
    rw cut (inl (c.included-here.ensures.yes yes))

pub returns : goal.returns
returns g t c =
    let m = g.D.Domain.abstraction in
    let p = c.args.part.now in
    let cut : c.args.others.now ≡ c.in-Some.first.now ∷ c.in-Some.later.now = grind (arith, common_steps) in
    rw (c.either.ensures, cut)
    (told_some (m.included p) (m.inclusion_strains p) c.in-Some.first.now c.in-Some.later.now c.included-here.result
    c.lies_in_some.result (told_of (m.included p c.in-Some.first.now) (m.inclusion_strains p c.in-Some.first.now) c.included-here.result
    (λ e. c.included-here.ensures.yes e) (λ e. c.included-here.ensures.no e) (λ e. c.included-here.ensures.wide e)) c.lies_in_some.ensures)
