-- If all that is computed at a point is judged to fit, no run stops there by a number.
use Rattle.std.proofs.Common.{◌≡◌, ◌∙◌, ℕ, List, Option, Some, Bool, true, refl, sym, ap, subst}
use Rattle.std.specs.{List.Contains, Prelude.slice_get}
use Rattle.lra_analyse_source.specs.Crates.{lra_analysis_spec.Analysis.LossyIteration, lra_analysis_spec.Analysis.IsSolution, lra_analysis_spec.Fits.JudgedAtPoint, lra_analysis_spec.Fits.Judges}
use Rattle.lra_analyse_source.specs.Crates.{lra_analysis_spec.Operations.lossy_operations, lra_analysis_spec.Pass.PassResult, lra_analysis_spec.Plan.Plan, lra_domain.Abstraction.Abstraction}
use Rattle.lra_analyse_source.specs.Crates.{lra_domain.Laws.Laws, lra_operations.Agree.point_of, lra_operations.Agree.Agrees, lra_operations.CheckedOperations.OpAtPoint}
use Rattle.lra_analyse_source.specs.Crates.{lra_operations.CheckedOperations.AgreesOnOverflows, lra_operations.Tree.Node, lra_program.Overflow.op_computes, lra_program.Overflow.OpOverflows}
use Rattle.lra_analyse_source.specs.Crates.{lra_program.Overflow.Overflows, lra_program.Program.Program, lra_program.Sites.Site, lra_program.Sites.sites_of, lra_program.WellFormed.AreGoodGlobals}
use Rattle.lra_analyse_source.proofs.Crates.lra_analysis_spec.FitsSound.{fitting_never_overflows}
use Rattle.lra_analyse_source.specs.Soundness.{FittingIsSound}
use Rattle.lra_analyse_source.proofs.{Found.found_of, Found.one_asked_there, Sound.held_there}

module _ (V H : Type 0) (m : Abstraction V H) (laws : Laws m) (set : Plan) (P : Program) (good : AreGoodGlobals P.globals) (g : Node) (r : PassResult V)
    (derived : LossyIteration m set P g r) (agrees : Agrees P g) (values : List V) (verdicts : List (ℕ × Bool)) (flagged : Option ℕ)
    (solves : IsSolution m r values verdicts flagged)
    (well : AgreesOnOverflows P g) where
  pub fitting_holds : (fitting : List (ℕ × Bool)) (behind : Option ℕ) → Judges m (lossy_operations m) g values flagged fitting behind →
      (q : ℕ) (s : Site) (so : Bool)
      → slice_get (sites_of P) q ≡ Some s
      → Contains fitting (q, so) → so ≡ true → Overflows P (point_of s) → ⊥
  fitting_holds fitting behind judges q s so site told yes_so (c, reaches, on, over) =
      let (j, among, at_point, fits) = found_of judges.found q so (subst (λ (xs : List (ℕ × Bool)). Contains xs (q, so)) judges.told told) in
      let (a, one, point, judged) = judges.is_asked j among in
      let (b, other, there, stops) = well.there q s c site reaches on over in
      let same : b ≡ a = one_asked_there op_computes OpOverflows P g well b a other one (there ∙ sym (point ∙ at_point)) in
      let (v, found, held, long) = held_there V H m laws set P good g r derived agrees values verdicts flagged solves q s c.state.store site
      (c, reaches, on, refl) in
      let here : slice_get values b.point ≡ Some v = ap (λ (n : ℕ). slice_get values n) there ∙ found in
      let is_so : JudgedAtPoint m (lossy_operations m) values b true j.exactness =
      subst (λ (x : OpAtPoint). JudgedAtPoint m (lossy_operations m) values x true j.exactness) (sym same)
      (subst (λ (x : Bool). JudgedAtPoint m (lossy_operations m) values a x j.exactness) (fits ∙ yes_so) judged) in
      fitting_never_overflows m laws values b j.exactness v c.state here held.0 held.1 is_so stops

pub fitting_sound : (V H : Type 0) (m : Abstraction V H) → Laws m → FittingIsSound m
fitting_sound V H m laws plan P tree values verdicts fitting flagged behind solved good graph agrees well judges q s site told over =
    fitting_holds V H m laws plan P good tree solved.result solved.derived agrees values verdicts flagged solved.solves well fitting behind judges q s true
    site told refl over
