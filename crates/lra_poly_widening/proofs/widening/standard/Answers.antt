-- Goals of `standard`: the standard widening of P by Q, which P lies in.
use Rattle.lra_systems.specs.LinearSystems.{constraints}
use Rattle.std.proofs.Common.{List, subst}
use Rattle.lra_poly_widening.specs.Crates.lra_linear_spec.Descriptions.{LinearRow}
use Rattle.lra_poly_widening.specs.StayingRows.{StaysOrIsGivenUp}
use Rattle.lra_poly_widening.proofs.WideningLemmas.{standard_becomes, standard_falls}
use Rattle.lra_poly_widening.proofs.widening.standard.Goals as goal

pub returns-clause-becomes : goal.returns-clause-becomes
returns-clause-becomes c = standard_becomes c.args.p.now c.args.q.now c.in_ok-made.made (constraints c.in_ok-none.none) c.in_ok-made.outcome c.in_ok-none.ensures.none c.in_ok-made.ensures.widened

pub returns-clause-falls : goal.returns-clause-falls
returns-clause-falls c = standard_falls c.args.p.now c.args.q.now c.in_ok-made.made (constraints c.in_ok-none.none) c.in_ok-made.outcome c.in_ok-none.ensures.none c.in_ok-made.ensures.canonical
    c.in_ok-made.ensures.widened

pub returns-clause-staying : goal.returns-clause-staying
returns-clause-staying c = subst (λ (l : List LinearRow). StaysOrIsGivenUp c.args.p.now c.args.q.now l c.in_ok-made.made c.in_ok-made.outcome) c.in_ok-none.ensures.none c.in_ok-made.ensures.staying
