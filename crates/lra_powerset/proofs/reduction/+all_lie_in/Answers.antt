-- Goals of the functions that call each other around `all_lie_in`: `returns`.
use Rattle.std.proofs.{Common.◌≡◌, Common.◌∷◌, Common.arith, Common.rules, lemmas.Grind.common_steps}
use Rattle.lra_domain.specs.declared.Included.TheVariants.{No}
use Rattle.lra_powerset.specs.{Lists.SomePart, Values.IsUndecided}
use Rattle.lra_powerset.proofs.AnswerLemmas.{told_all, told_no}
use Rattle.lra_powerset.proofs.reduction.+all_lie_in.Goals as goal

pub returns-then-eq : goal.returns-then-eq
returns-then-eq g t c =
    let m = g.D.Domain.abstraction in
    let cut : c.args.parts.now ≡ c.in-Some.first.now ∷ c.in-Some.later.now = grind (arith, common_steps) in
    let no : c.lies_in_some-here.result ≡ No = search rules in
    rw cut (λ inside. told_no (SomePart (m.included c.in-Some.first.now) c.args.others.now) (IsUndecided m c.args.others.now c.in-Some.first.now)
    c.lies_in_some-here.result c.lies_in_some-here.ensures no inside.0)

pub returns : goal.returns
returns g t c =
    let cut : c.args.parts.now ≡ c.in-Some.first.now ∷ c.in-Some.later.now = grind (arith, common_steps) in
    rw (c.both.ensures, cut)
    (told_all g.D.Domain.abstraction c.in-Some.first.now c.in-Some.later.now c.args.others.now c.lies_in_some-here.result
    c.all_lie_in.result c.lies_in_some-here.ensures c.all_lie_in.ensures)
