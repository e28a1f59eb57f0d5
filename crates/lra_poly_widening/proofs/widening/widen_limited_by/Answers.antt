-- Goals of `widen_limited_by`: the widening of the first by the second, limited by the given constraints.
use Rattle.std.proofs.Common.{subst, refl, inl, inr, ℕ, []}
use Rattle.lra_poly_widening.specs.Crates.{lra_linear_spec.Descriptions.Con, lra_linear_spec.Polyhedra.IsPolyhedronOf}
use Rattle.lra_systems.specs.LinearSystems.{constraints}
use Rattle.lra_poly_widening.proofs.{StayingLemmas.staying, WideningLemmas.wide_inside, WideningLemmas.widened_empty, WideningLemmas.widened_wide, WideningLemmas.yes_inside}
use Rattle.lra_poly_widening.proofs.widening.widen_limited_by.Goals as goal

pub returns-in_ok-all-in-Wide-clause-widened : goal.returns-in_ok-all-in-Wide-clause-widened
returns-in_ok-all-in-Wide-clause-widened c =
    widened_wide c.args.p.now c.args.q.now c.in_ok-all-in-Wide.all (constraints c.args.given.now) c.in_ok-loss-in-Wide.loss
    (subst (λ (n : ℕ). IsPolyhedronOf n (Con []) c.in_ok-all-in-Wide.all) c.dims.ensures c.in_ok-all-in-Wide.ensures) (c.in_ok-loss-in-Wide.ensures (constraints c.args.given.now))

pub returns-in_ok-all-in-Wide-clause-inside : goal.returns-in_ok-all-in-Wide-clause-inside
returns-in_ok-all-in-Wide-clause-inside c = wide_inside c.args.p.now c.args.q.now c.in-Wide.generator c.in-Wide.row c.in-Wide.ensures.first

pub returns-in_ok-same-in-Yes-clause-widened : goal.returns-in_ok-same-in-Yes-clause-widened
returns-in_ok-same-in-Yes-clause-widened c =
    widened_empty c.args.p.now c.args.q.now c.in_ok-same-in-Yes.same (constraints c.args.given.now) c.rows-rows.ensures.canonical c.rows-others.ensures.canonical c.requires.second
    (c.if-is_empty.ensures.0 refl) c.in_ok-same-in-Yes.ensures

pub returns-in_ok-same-in-Yes-clause-inside : goal.returns-in_ok-same-in-Yes-clause-inside
returns-in_ok-same-in-Yes-clause-inside c = yes_inside c.args.p.now c.args.q.now c.in-Yes.ensures.first

pub returns-in_ok-made-in-Yes-clause-inside : goal.returns-in_ok-made-in-Yes-clause-inside
returns-in_ok-made-in-Yes-clause-inside c = yes_inside c.args.p.now c.args.q.now c.in-Yes.ensures.first

pub returns-in_ok-all-in-Wide-clause-known : goal.returns-in_ok-all-in-Wide-clause-known
returns-in_ok-all-in-Wide-clause-known c = inr (record {
  generator = c.in-Wide.generator;
  row = c.in-Wide.row;
  wide = c.in-Wide.ensures.first;
  flagged = tt;
  all = subst (λ (n : ℕ). IsPolyhedronOf n (Con []) c.in_ok-all-in-Wide.all) c.dims.ensures c.in_ok-all-in-Wide.ensures;
})

pub returns-in_ok-same-in-Yes-clause-known : goal.returns-in_ok-same-in-Yes-clause-known
returns-in_ok-same-in-Yes-clause-known c = inl c.in-Yes.ensures.first

pub returns-in_ok-made-in-Yes-clause-known : goal.returns-in_ok-made-in-Yes-clause-known
returns-in_ok-made-in-Yes-clause-known c = inl c.in-Yes.ensures.first

pub returns-in_ok-all-in-Wide-clause-staying : goal.returns-in_ok-all-in-Wide-clause-staying
returns-in_ok-all-in-Wide-clause-staying c = inl (record {
  generator = c.in-Wide.generator;
  row = c.in-Wide.row;
  wide = c.in-Wide.ensures.first;
  flagged = tt;
  all = subst (λ (n : ℕ). IsPolyhedronOf n (Con []) c.in_ok-all-in-Wide.all) c.dims.ensures c.in_ok-all-in-Wide.ensures;
})

pub returns-in_ok-made-in-Yes-clause-staying : goal.returns-in_ok-made-in-Yes-clause-staying
returns-in_ok-made-in-Yes-clause-staying c =
    staying c.args.p.now c.args.q.now c.in_ok-made-in-Yes.made (constraints c.args.given.now) c.in_ok-made-in-Yes.outcome c.in_ok-made-in-Yes.ensures.staying
