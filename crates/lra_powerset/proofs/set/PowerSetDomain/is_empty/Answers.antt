-- Goals of `PowerSetDomain::is_empty`: yes exactly if there is no part.
use Rattle.std.proofs.{Common.◌≡◌, Common.[], Common.refl, Common.sym, Common.◌∙◌, Common.arith, lemmas.Grind.common_steps}
use Rattle.std.specs.Prelude.{IsTrue}
use Rattle.lra_powerset.proofs.SetLemmas.{none_rows, rows_none}
use Rattle.lra_powerset.proofs.set.PowerSetDomain.is_empty.Goals as goal

pub returns-clause-parts : goal.returns-clause-parts
returns-clause-parts g c =
    let own : c.self.inside.parts.items ≡ c.args.self.now.parts = rw (← c.self.view_is) refl in
    let there : IsTrue c.is_empty.result → c.self.inside.parts.items ≡ [] = λ t. grind (arith, common_steps) in
    let back : c.self.inside.parts.items ≡ [] → IsTrue c.is_empty.result = λ e. grind (arith, common_steps) in (
      (λ t. none_rows g.D.Domain.abstraction c.args.self.now.parts (sym own ∙ there t)),
      (λ e. back (rows_none g.D.Domain.abstraction c.self.inside.dims c.self.inside.parts.items c.args.self.now.parts own c.self.invariant.3 e)),
    )
