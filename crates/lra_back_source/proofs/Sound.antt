-- What is shown has the stores from which runs fail.
use Rattle.std.proofs.{Common.◌≡◌, Common.◌∙◌, Common.ℕ, Common.List, Common.[], Common.◌∷◌, Common.length, Common.refl, Common.sym, Common.subst, Common.arith, lemmas.Option.same_Some}
use Rattle.lra_back_source.specs.Crates.{lra_back.BackwardAnalysis.FailsFrom, lra_linear_spec.Polyhedra.Polyhedron, lra_operations.Agree.point_of, lra_poly_domain.Abstraction.polyhedron_abstraction}
use Rattle.lra_back_source.specs.Crates.{lra_poly_domain.Backward.polyhedron_backward, lra_poly_domain.Laws.polyhedron_laws, lra_program.Run.Point, lra_program.Sites.sites_of}
use Rattle.lra_back_source.specs.Crates.{lra_report_build.Polyhedra.shown_polyhedron, lra_resolution_spec.LiveNames.globals_named, lra_syntax.Labels.labels_of}
use Rattle.lra_report.specs.{BackText.BackReport, Report.InvariantHolds, Report.Invariant}
use Rattle.lra_certificate_spec.specs.Claims.{program_of}
use Rattle.lra_back_source.proofs.Crates.lra_linear_spec.ListPlaces.{contains_at}
use Rattle.lra_analyse_source.proofs.{Sound.held_there, Sound.listed_all}
use Rattle.lra_back_sound.specs.FailingRuns.{HoldsAtPoints, CoverFailingRuns}
use Rattle.lra_back_sound.proofs.{FailingRuns.traced_sound, FirstPoints.nothing_left, FirstPoints.one_first}
use Rattle.lra_back_source.specs.{BackReports.BacksAreProvedAtFirst, BackReports.BacksAreSound, BackReports.HoldsBeforeFailing, BackReports.IsBackReportOf, Forward.forward_plan}
use Rattle.lra_back_source.proofs.{Forward.paths_at, Forward.wide_at, Showing.value_shown}

module _ (source : List ℕ) (p : ℕ) (r : BackReport) (x : IsBackReportOf source p r) where
  -- whenever a run is at a point, its store is one of the forward value there
  forward_holds : HoldsAtPoints polyhedron_abstraction (program_of x.program) x.found.forward
  forward_holds q s store site at =
      let solved = x.found.ahead.solved in
      let held = held_there _ _ polyhedron_abstraction polyhedron_laws (forward_plan x.constants) (program_of x.program) x.program.graph.well.globals
      x.program.operations solved.result solved.derived x.program.graph.agrees x.found.forward x.found.ahead.verdicts x.found.ahead.iteration_flag solved.solves
      q s
      store site at in
      (held.0, held.1, held.2)

  found : CoverFailingRuns polyhedron_abstraction (program_of x.program) x.program.operations p x.values
  found = traced_sound polyhedron_abstraction polyhedron_backward polyhedron_laws (program_of x.program) x.program.operations x.found.forward x.values
      x.found.flagged x.last p x.program.graph.well x.program.graph.is_graph
      (paths_at x.program.tree x.program.operations x.program.sites x.program.graph)
      (wide_at x.program.tree x.program.operations x.program.sites x.program.graph x.constants x.found.forward x.found.ahead.verdicts
      x.found.ahead.iteration_flag
      x.found.ahead.solved)
      forward_holds x.found.traced.drops

pub backs_sound : BacksAreSound
backs_sound source p r x = record {
  states = λ s site. listed_all (HoldsBeforeFailing (program_of x.program) (point_of s)) (globals_named x.program.tree.parts) (labels_of x.program.tree) 1
      (sites_of (program_of x.program)) r.points x.shows.listed
      (λ k there y own at is store fails.
      let on : FailsFrom (program_of x.program) (point_of s) (point_of there) store =
      subst (λ (q : Point). FailsFrom (program_of x.program) (point_of s) q store) is.0 fails in
      let (v, value, held) = (found source p r x).stores s there k store site own on in
      let (w, same, state) = value_shown x.values r.points k y x.shows.states at in
      let one : v ≡ w = same_Some v w (sym value ∙ same) in
      subst (λ (st : Invariant). InvariantHolds st store) state
      (subst (λ (u : Polyhedron). InvariantHolds (shown_polyhedron u) store) one
      ((x.shows.are_shown v (contains_at x.values k v value)).holds store held.1)));
  proved = λ proved s site fails. (found source p r x).proved s site (x.found.proved.0 proved) fails;
}

-- ---- the first point
none_beside : {A B : Type 0} (xs : List A) (ys : List B) → length xs ≡ length ys → ys ≡ [] → xs ≡ []
none_beside [] ys same none = refl
none_beside (x ∷ xs) [] same none = absurd (omega (arith, same))
none_beside (x ∷ xs) (y ∷ ys) same none = absurd (let wrong : ⊥ = cc in wrong)

pub proved_at_first : BacksAreProvedAtFirst
proved_at_first source p r x =
    let first = one_first (program_of x.program) x.program.operations x.program.graph.is_graph in
    record {
      first = first.0;
      is_first = first.1;
      exactly = λ y there.
          let (v, value, state) = value_shown x.values r.points first.0 y x.shows.states there in
          let left = nothing_left polyhedron_abstraction (program_of x.program) x.program.operations first.0 x.values v first.1 value in
          let many = (x.shows.are_shown v (contains_at x.values first.0 v value)).as_many in (
            λ proved. sym state ∙ none_beside (shown_polyhedron v) (polyhedron_abstraction.parts v) many (left.0 (x.found.proved.0 proved)),
            λ none. x.found.proved.1 (left.1 (none_beside (polyhedron_abstraction.parts v) (shown_polyhedron v) (sym many) (state ∙ none))),
          );
    }
