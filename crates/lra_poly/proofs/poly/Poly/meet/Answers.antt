-- Goals of `Poly::meet`: becomes the meet with the other.
use Rattle.std.proofs.Common.{◌≡◌, ◌++◌, List, ap, subst, sym}
use Rattle.lra_poly.specs.Crates.{lra_linear_spec.Descriptions.LinearRow, lra_systems.LinearSystems.constraints}
use Rattle.lra_poly.specs.Restricted.{IsRestricted, IsSeenWithin}
use Rattle.lra_poly.proofs.PolyLemmas.{meet_becomes}
use Rattle.lra_poly.proofs.poly.Poly.meet.Goals as goal

pub returns-clause-becomes : goal.returns-clause-becomes
returns-clause-becomes c =
    let p = c.args.self.now in
    let more = c.args.other.now.rows in
    let list = p.rows ++ constraints c.rows-rows.result.now in
    let e : list ≡ p.rows ++ more = ap (λ (l : List LinearRow). p.rows ++ l) c.rows-rows.ensures.rows in
    meet_becomes p c.args.other.now c.add_rows.new.self list c.in_ok-outcome.outcome e c.in_ok-outcome.ensures.becomes

pub returns-clause-met : goal.returns-clause-met
returns-clause-met c = λ seen. c.in_ok-outcome.ensures.met (subst (IsSeenWithin c.args.self.now) (sym c.rows-rows.ensures.rows) seen)

pub returns-clause-kept : goal.returns-clause-kept
returns-clause-kept c = subst (λ (l : List LinearRow). IsRestricted c.args.self.now l c.add_rows.new.self c.in_ok-outcome.outcome) c.rows-rows.ensures.rows c.in_ok-outcome.ensures.kept
