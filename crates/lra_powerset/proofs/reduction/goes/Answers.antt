-- Goals of `goes`: whether the part goes, with these before it and these after it.
use Rattle.std.proofs.Common.{◌≡◌, inl, rules}
use Rattle.lra_domain.specs.declared.Included.TheVariants.{Yes}
use Rattle.lra_powerset.specs.{Lists.SomePart, Reduction.BelowStrains, Values.IsUndecided}
use Rattle.lra_powerset.proofs.AnswerLemmas.{told_goes, told_yes}
use Rattle.lra_powerset.proofs.reduction.goes.Goals as goal

pub returns-then-eq : goal.returns-then-eq
returns-then-eq g c =
    let m = g.D.Domain.abstraction in
    let p = c.args.part.now in
    let yes : c.lies_in_some-before_it.result ≡ Yes = search rules in
    inl (told_yes (SomePart (m.included p) c.args.before.now) (IsUndecided m c.args.before.now p) c.lies_in_some-before_it.result
    c.lies_in_some-before_it.ensures yes)

pub returns : goal.returns
returns g c =
    let m = g.D.Domain.abstraction in
    let p = c.args.part.now in
    rw c.either.ensures
    (told_goes (m.included p) (m.inclusion_strains p) (λ q. m.included p q × ¬ m.included q p) (BelowStrains m p) c.args.before.now
    c.args.behind.now c.lies_in_some-before_it.result c.lies_below_some.result c.lies_in_some-before_it.ensures c.lies_below_some.ensures)
