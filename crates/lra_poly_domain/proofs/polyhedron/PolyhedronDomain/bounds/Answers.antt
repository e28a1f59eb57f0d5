-- Goals of `PolyhedronDomain::bounds`: the least and the greatest value, rounded inwards.
use Rattle.std.proofs.Common.{◌≡◌, ◌∙◌, ℤ, neg_ℤ, Option, ap, subst, sym}
use Rattle.std.specs.Prelude.{option_map}
use Rattle.lra_poly_domain.specs.Crates.lra_linear_forms.Form.{Form}
use Rattle.lra_linear_spec.specs.Polyhedra.{Polyhedron}
use Rattle.lra_duality.specs.declared.maximum.Maximum.{Maximum}
use Rattle.lra_poly_domain.specs.Bounded.{PolyhedronBounded, rounded_down}
use Rattle.lra_poly_domain.proofs.BoundLemmas.{told}
use Rattle.lra_poly_domain.proofs.polyhedron.PolyhedronDomain.bounds.Goals as goal

-- both ends as they are given
as_given : (p : Polyhedron) (f : Form) (l h : Option ℤ) (o m : Maximum) → l ≡ option_map neg_ℤ (rounded_down o) →
    h ≡ rounded_down m → PolyhedronBounded p f (option_map neg_ℤ (rounded_down o)) (rounded_down m) → PolyhedronBounded p f l h
as_given p f l h o m e g is =
    subst (λ (x : Option ℤ). PolyhedronBounded p f x h) (sym e)
    (subst (λ (x : Option ℤ). PolyhedronBounded p f (option_map neg_ℤ (rounded_down o)) x) (sym g) is)

pub returns : goal.returns
returns c = rw (← c.self.view_is)
    (as_given c.self.inside.poly c.args.e.now c.opposite_of.result c.rounded_down-greatest.result
    c.maximise_opposite.result c.maximise.result
    (c.opposite_of.ensures ∙ ap (option_map neg_ℤ) c.rounded_down-least.ensures.down)
    c.rounded_down-greatest.ensures.down
    (told c.self.inside.poly c.args.e.now c.maximise_opposite.result c.maximise.result c.maximise_opposite.ensures.first
    c.maximise_opposite.ensures.tells c.maximise.ensures.first c.maximise.ensures.tells))
