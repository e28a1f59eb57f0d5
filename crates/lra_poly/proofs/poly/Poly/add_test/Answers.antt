-- Goals of `Poly::add_test`: keeps the points that pass the test.
use Rattle.std.proofs.Common.{◌≡◌, ◌++◌, ◌∷◌, [], List, ap, subst, sym}
use Rattle.lra_poly.specs.Crates.{lra_linear_spec.Descriptions.LinearRow, lra_systems.LinearSystems.constraints}
use Rattle.lra_duality.specs.Rows.{test_row}
use Rattle.lra_poly.specs.Restricted.{IsRestricted, IsSeenWithin}
use Rattle.lra_poly.proofs.PolyLemmas.{test_becomes}
use Rattle.lra_poly.proofs.poly.Poly.add_test.Goals as goal

pub returns-clause-becomes : goal.returns-clause-becomes
returns-clause-becomes c =
    let p = c.args.self.now in
    let row = test_row c.args.test.now.kind c.args.test.now.expr in
    let list = p.rows ++ constraints c.in_ok-row.row in
    let e : list ≡ p.rows ++ row ∷ [] = ap (λ (l : List LinearRow). p.rows ++ l) c.in_ok-row.ensures.rows in
    test_becomes p c.add_rows.new.self row list c.in_ok-outcome.outcome e c.in_ok-outcome.ensures.becomes

pub returns-clause-met : goal.returns-clause-met
returns-clause-met c = λ seen. c.in_ok-outcome.ensures.met (subst (IsSeenWithin c.args.self.now) (sym c.in_ok-row.ensures.rows) seen)

pub returns-clause-kept : goal.returns-clause-kept
returns-clause-kept c = subst (λ (l : List LinearRow). IsRestricted c.args.self.now l c.add_rows.new.self c.in_ok-outcome.outcome) c.in_ok-row.ensures.rows c.in_ok-outcome.ensures.kept
