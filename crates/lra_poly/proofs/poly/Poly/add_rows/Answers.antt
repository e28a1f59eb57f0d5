-- Goals of `Poly::add_rows`: takes these constraints in.
use Rattle.std.proofs.Common.{refl, subst, sym, ◌++◌, inl, inr}
use Rattle.lra_poly.specs.Crates.{lra_linear_spec.Descriptions.Con, lra_linear_spec.OperationStrain.FromRowsStrains, lra_linear_spec.Polyhedra.Polyhedron, lra_systems.LinearSystems.constraints}
use Rattle.lra_poly.specs.Outcomes.{IsOfRows}
use Rattle.lra_poly.proofs.MetRows.{never, settled_exact, settled_made, settled_old}
use Rattle.lra_poly.proofs.PolyLemmas.{exactly, exact_inside, made_inside, old_inside, meet_inside, met_exact, stays_flagged}
use Rattle.lra_poly.proofs.poly.Poly.add_rows.Goals.{in-Exact, in-Flagged+then-lies_in, in-Flagged+else-lies_in}
use Rattle.lra_poly.proofs.poly.Poly.add_rows.Goals as goal

pub returns-then-meets-clause-becomes : goal.returns-then-meets-clause-becomes
returns-then-meets-clause-becomes c =
    let p = c.args.self.now in
    let list = p.rows ++ constraints c.args.more.now in
    exactly p.dims (Con list) (FromRowsStrains p.dims list) p (met_exact p (constraints c.args.more.now) c.meets.ensures.canonical (c.if-meets.ensures.within refl))

pub returns-clause-becomes : goal.returns-clause-becomes
returns-clause-becomes c =
    let p = c.args.self.now in
    let more = constraints c.args.more.now in
    let o = c.in_ok-made.outcome in
    let made = c.in_ok-made.ensures.becomes in
    elim c.match-outcome.branch [
      | in-Exact w ↦ subst (λ (q : Polyhedron). IsOfRows p.dims (p.rows ++ more) q o) (sym w.self-is) made
      | in-Flagged+then-lies_in w ↦ subst (λ (q : Polyhedron). IsOfRows p.dims (p.rows ++ more) q o) (sym w.self-is) made
      | in-Flagged+else-lies_in w ↦ stays_flagged p c.in_ok-made.made c.match-outcome.self more o w.in-Flagged.field-0 c.meets.ensures.canonical
          w.in-Flagged.is w.self-is made
    ]

pub returns-clause-inside : goal.returns-clause-inside
returns-clause-inside c =
    let p = c.args.self.now in
    let n = p.dims in
    let more = constraints c.args.more.now in
    let list = p.rows ++ more in
    elim c.match-outcome.branch [
      | in-Exact w ↦ exact_inside n n list p.rows c.match-outcome.self c.in_ok-made.made c.in_ok-made.outcome w.in-Exact.is w.self-is refl
          c.in_ok-made.ensures.becomes.exact (meet_inside n p.rows more list refl)
      | in-Flagged+then-lies_in w ↦ made_inside n p.rows c.match-outcome.self c.in_ok-made.made w.self-is
          (sym c.in_ok-made.ensures.becomes.dims) (w.if-lies_in.ensures.within refl)
      | in-Flagged+else-lies_in w ↦ old_inside n c.match-outcome.self p w.self-is
    ]

pub returns-then-meets-clause-kept : goal.returns-then-meets-clause-kept
returns-then-meets-clause-kept c = inl (c.if-meets.ensures.first.0 refl, refl, refl)

pub returns-clause-met : goal.returns-clause-met
returns-clause-met c = λ seen. absurd (never c.meets.result c.if-meets.false (c.meets.ensures.first.1 seen))

pub returns-clause-kept : goal.returns-clause-kept
returns-clause-kept c =
    let p = c.args.self.now in
    let made = c.in_ok-made.made in
    let new = c.match-outcome.self in
    let o = c.in_ok-made.outcome in
    inr (record {
      unmet = λ seen. never c.meets.result c.if-meets.false (c.meets.ensures.first.1 seen);
      made = made;
      is_met = c.in_ok-made.ensures.met;
      settled = elim c.match-outcome.branch [
        | in-Exact w ↦ settled_exact p made new o w.in-Exact.is w.self-is
        | in-Flagged+then-lies_in w ↦ settled_made p made new o w.in-Flagged.field-0 w.in-Flagged.is (w.if-lies_in.ensures.first.0 refl) w.self-is
        | in-Flagged+else-lies_in w ↦ settled_old p made new o w.in-Flagged.field-0 w.in-Flagged.is (λ seen. never _ refl (w.if-lies_in.ensures.first.1 seen)) w.self-is
      ];
    })
