-- What is answered of widenings: the set that is made, with all points if the inclusion is wide, or the generator outside.
use Rattle.std.proofs.Common.{◌≡◌, ◌∙◌, inl, inr, ℕ, Bool, true, List, [], length, refl, ap, sym, subst, Some, None, Result, Ok, Err}
use Rattle.lra_calc.specs.Crates.lra_linear_spec.Descriptions.{LinearRow, Con as points_of}
use Rattle.lra_calc.specs.Crates.lra_linear_spec.Polyhedra.{Polyhedron, IsPolyhedronOf}
use Rattle.lra_calc.specs.Crates.{lra_linear_spec.Points.PointSet, lra_linear_spec.Representable.IsRepresentable, lra_linear_spec.Strain.Loss, lra_poly.Outcomes.Becomes, lra_poly.Outcomes.IfExact}
use Rattle.lra_calc.specs.Crates.{lra_poly.declared.outcome.Outcome.Outcome, lra_poly.declared.outcome.Outcome.TheVariants.Exact, lra_poly.declared.outcome.Outcome.TheVariants.Flagged}
use Rattle.lra_calc.specs.Crates.lra_duality.declared.inclusion.Inclusion.TheVariants as inclusion
use Rattle.lra_poly_widening.specs.{Widenings.IsRefusal, Widenings.LiesOrIsGivenUp, declared.error.WidenError.WidenError}
use Rattle.lra_poly_widening.specs.declared.error.WidenError.TheVariants as widen_error
use Rattle.lra_script.specs.LineForms as form
use Rattle.lra_calc.specs.{MadeSets.IsMadeOf, MadeSets.IsAllFlagged, MadeSets.IsWidened, MadeSets.IsLimited, Views.is_flagged, Views.made_of, Views.Gives, Views.NamesOutside, Views.IsPlacedRefusal}
use Rattle.lra_calc.specs.{declared.refusal.LineError.LineError, declared.refusal.LineError.TheVariants.Refused, declared.refusal.LineError.TheVariants.Memory}
use Rattle.lra_calc.specs.Script as script
use Rattle.lra_calc.specs.declared.making.Made as making
use Rattle.lra_calc.proofs.{MakingLemmas.made_as_told, OneAnswer.inclusion_placed, SessionLemmas.known_gives, SessionLemmas.right_gives}

not_exact : (o : Outcome) → IfExact ⊥ o → is_flagged o ≡ true
not_exact Exact h = absurd h
not_exact (Flagged loss) h = refl

-- a widening that was made, as the code states it
pub made_widens : (p q r x : Polyhedron) (P : PointSet) (Strains : Loss → Type 0) (o : Outcome) (flagged : Bool) → x ≡ r → flagged ≡ is_flagged o →
    IsRepresentable r →
    Becomes p.dims P Strains r o → LiesOrIsGivenUp p q r o
    → script.Widens p.dims p q (IsMadeOf p.dims P Strains) (Ok (record { flagged = flagged; polyhedron = x }))
made_widens p q r x P Strains o flagged same tells fine b (inl inside) = record {
  answer = inclusion.Yes;
  is_right = inside;
  gives = made_as_told p.dims P Strains r x o flagged same tells fine b;
}
made_widens p q r x P Strains o flagged same tells fine b (inr g) = record {
  answer = inclusion.Wide g.generator g.row;
  is_right = g.wide;
  gives = subst (λ (b : Bool). IsAllFlagged p.dims b x) (sym (tells ∙ not_exact o g.flagged)) (subst (λ (v : Polyhedron). IsPolyhedronOf p.dims (points_of []) v) (sym same) g.all);
}

-- and one that was refused
pub outside_widens : (p q : Polyhedron) (Told : Bool → Polyhedron → Type 0) (w : WidenError) (e : LineError) → IsRefusal p q w → NamesOutside p w e
    → Gives made_of (let r : Result making.Made LineError = Err e in r) (script.Widens p.dims p q Told)
outside_widens p q Told (widen_error.NotIncluded place) (Refused f) h t = record { answer = inclusion.No place; is_right = h; gives = ap Err t }
outside_widens p q Told widen_error.Memory (Refused f) h t = absurd t
outside_widens p q Told (widen_error.NotIncluded place) Memory h t = tt
outside_widens p q Told widen_error.Memory Memory h t = tt

-- the generator that is reported is one of them
pub refusal_placed : (p q : Polyhedron) (w : WidenError) → IsRefusal p q w → IsPlacedRefusal (length p.generators) w
refusal_placed p q (widen_error.NotIncluded place) h = inclusion_placed q.rows p.generators (inclusion.No place) h
refusal_placed p q widen_error.Memory h = tt

-- ---- in a session, whose names stand for the sets
pub session_widens : (s : script.Session) (first second : List ℕ) (p q : Polyhedron) (r : Result making.Made LineError) → s.made first ≡ Some p → s.made second ≡ Some q → p.dims ≡ s.dims →
    Gives made_of r (script.Widens p.dims p q (IsWidened p.dims p q)) → Gives made_of r (script.MadeBy s (form.Widen first second))
session_widens s first second p q r e d dims h =
    known_gives made_of _ first (s.made first) p r e
    (known_gives made_of _ second (s.made second) q r d (subst (λ (n : ℕ). Gives made_of r (script.Widens n p q (IsWidened n p q))) dims h))

pub session_limits : (s : script.Session) (first second : List ℕ) (given : List LinearRow) (p q : Polyhedron) (r : Result making.Made LineError) → s.made first ≡ Some p → s.made second ≡ Some q →
    p.dims ≡ s.dims → script.wrong_row s.dims given ≡ None → Gives made_of r (script.Widens p.dims p q (IsLimited p.dims given p q)) →
    Gives made_of r (script.MadeBy s (form.Limited first second given))
session_limits s first second given p q r e d dims widths h =
    known_gives made_of _ first (s.made first) p r e
    (known_gives made_of _ second (s.made second) q r d
    (right_gives made_of _ (script.wrong_row s.dims given) r widths (subst (λ (n : ℕ). Gives made_of r (script.Widens n p q (IsLimited n given p q))) dims h)))
