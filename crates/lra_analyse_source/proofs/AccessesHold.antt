-- If an access is judged to be inside its array, no run evaluates it outside.
use Rattle.std.proofs.Common.{◌≡◌, ◌∙◌, ℕ, List, Option, Some, Bool, true, refl, sym, ap, subst}
use Rattle.std.specs.{List.Contains, Prelude.slice_get}
use Rattle.lra_analyse_source.specs.Crates.lra_program.Accesses.{op_accesses_any, OpOutOfBounds, AccessesOutOfBounds}
use Rattle.lra_analyse_source.specs.Crates.{lra_analysis_spec.Accesses.InsideAtPoint, lra_analysis_spec.Accesses.JudgesAccesses, lra_analysis_spec.Analysis.LossyIteration}
use Rattle.lra_analyse_source.specs.Crates.{lra_analysis_spec.Analysis.IsSolution, lra_analysis_spec.Operations.lossy_operations, lra_analysis_spec.Pass.PassResult, lra_analysis_spec.Plan.Plan}
use Rattle.lra_analyse_source.specs.Crates.{lra_base.declared.refusals.Place.Place, lra_domain.Abstraction.Abstraction, lra_domain.Laws.Laws, lra_operations.Agree.point_of}
use Rattle.lra_analyse_source.specs.Crates.{lra_operations.Agree.Agrees, lra_operations.CheckedOperations.OpAtPoint, lra_operations.CheckedOperations.AgreesOnAccesses, lra_operations.Tree.Node}
use Rattle.lra_analyse_source.specs.Crates.{lra_program.Program.Program, lra_program.Sites.Site, lra_program.Sites.sites_of, lra_program.WellFormed.AreGoodGlobals}
use Rattle.lra_analyse_source.proofs.Crates.lra_analysis_spec.AccessesSound.{inside_never_stray}
use Rattle.lra_analyse_source.specs.Soundness.{AccessesAreSound}
use Rattle.lra_analyse_source.proofs.{Found.found_of, Found.one_asked_there, Sound.held_there}

module _ (V H : Type 0) (m : Abstraction V H) (laws : Laws m) (set : Plan) (P : Program) (good : AreGoodGlobals P.globals) (g : Node) (r : PassResult V)
    (derived : LossyIteration m set P g r) (agrees : Agrees P g) (values : List V) (verdicts : List (ℕ × Bool)) (flagged : Option ℕ)
    (solves : IsSolution m r values verdicts flagged)
    (well : AgreesOnAccesses P g) where
  pub inside_holds : (inside : List (ℕ × List (Place × Bool))) (behind last : Option ℕ) → JudgesAccesses m (lossy_operations m) g values behind inside last
      → (q : ℕ) (s : Site) (js : List (Place × Bool)) (n : ℕ) (place : Place) → slice_get (sites_of P) q ≡ Some s
      → Contains inside (q, js) → slice_get js n ≡ Some (place, true) → AccessesOutOfBounds P (point_of s) n → ⊥
  inside_holds inside behind last judges q s js n place site told inner (c, reaches, on, strays) =
      let (j, among, at_point, same) = found_of judges.found q js (subst (λ (l : List (ℕ × List (Place × Bool))). Contains l (q, js)) judges.told told) in
      let (a, one, point, judged) = judges.is_asked j among in
      let (b, other, there, outside) = (well n).there q s c site reaches on strays in
      let equal : b ≡ a = one_asked_there op_accesses_any (λ op t. OpOutOfBounds op t n) P g (well n) b a other one (there ∙ sym (point ∙ at_point)) in
      let (v, found, held, long) = held_there V H m laws set P good g r derived agrees values verdicts flagged solves q s c.state.store site
      (c, reaches, on, refl) in
      let here : slice_get values b.point ≡ Some v = ap (λ (k : ℕ). slice_get values k) there ∙ found in
      let is_so : InsideAtPoint m (lossy_operations m) values b js j.exactness =
      subst (λ (x : OpAtPoint). InsideAtPoint m (lossy_operations m) values x js j.exactness) (sym equal)
      (subst (λ (ks : List (Place × Bool)). InsideAtPoint m (lossy_operations m) values a ks j.exactness) same judged) in
      inside_never_stray m laws values b js j.exactness v c.state n place here held.0 held.1 is_so inner outside

pub accesses_sound : (V H : Type 0) (m : Abstraction V H) → Laws m → AccessesAreSound m
accesses_sound V H m laws plan P tree values verdicts inside flagged behind last solved good graph agrees well judges q s js n place site told inner strays =
    inside_holds V H m laws plan P good tree solved.result solved.derived agrees values verdicts flagged solved.solves well inside behind last judges q s js n
    place site told inner strays
