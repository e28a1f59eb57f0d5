-- What the forward analysis is, and what it hands to going back.
use Rattle.std.proofs.Common.{◌≡◌, ◌≤◌, ◌<◌, ℕ, ℤ, Bool, false, List, [], length, refl, ap, sym, subst, arith}
use Rattle.std.specs.Prelude.{Option, None, Some, slice_get}
use Rattle.lra_back_source.specs.Crates.lra_analysis_spec.Operations.{exact_operations, lossy_operations, straining_operations}
use Rattle.lra_back_source.specs.Crates.lra_back.BackwardAnalysis.{AreAsserted, AreWide, PathsFit}
use Rattle.lra_back_source.specs.Crates.{lra_analysis_spec.Accesses.OpInside, lra_analysis_spec.Accesses.JudgesAccesses, lra_analysis_spec.LiveLimit.most_live, lra_base.declared.refusals.Place.Place}
use Rattle.lra_back_source.specs.Crates.{lra_fixpoint.Solved.IsSolved, lra_front_end.Stages.HasInlinedTree, lra_linear_spec.Polyhedra.Polyhedron, lra_operations.CheckedOperations.accessing_ops}
use Rattle.lra_back_source.specs.Crates.{lra_operations.Tree.Node, lra_poly_domain.Abstraction.polyhedron_abstraction, lra_poly_domain.Laws.polyhedron_laws, lra_program.Sites.Site}
use Rattle.lra_back_source.specs.Crates.{lra_program.Sites.sites_of, lra_program.declared.program.GlobalVariable.GlobalVariable, lra_resolution_spec.Resolve.resolve, lra_syntax.Trees.FileTree}
use Rattle.lra_back_source.proofs.Crates.lra_analysis_spec.OneAccess.{accesses_written, accesses_strained}
use Rattle.lra_analyse_source.proofs.{Fitting.few_globals, Fitting.tree_fits, Found.none_before, Handing.as_many, Handing.value_dims, ReportSteps.last_handed, Widths.graph_lives}
use Rattle.lra_back_sound.proofs.{Assertions.assertions_denied, PathsMade.paths_made}
use Rattle.lra_back_source.specs.Forward.{IsForward, forward_plan}

-- ---- what is found
module _ (t : FileTree) (g : Node) (sites : List Site) (has : HasInlinedTree t g sites) (constants : List ℤ) (values : List Polyhedron)
    (verdicts : List (ℕ × Bool)) (behind : Option ℕ)
    (solved : IsSolved polyhedron_abstraction (forward_plan constants) (resolve t) g values verdicts behind) where
  pub wide_at : AreWide polyhedron_abstraction (sites_of (resolve t)) values
  wide_at = (
    as_many polyhedron_abstraction (forward_plan constants) (resolve t) g solved.result values verdicts behind has.is_graph solved.derived solved.solves,
    at,
  )
    where
      at : (p : ℕ) (s : Site) (v : Polyhedron) → slice_get (sites_of (resolve t)) p ≡ Some s → slice_get values p ≡ Some v
          → (polyhedron_abstraction.dims v ≡ s.live) × (s.live ≤ most_live)
      at p s v site there =
          let few = has.few p s site in (
            value_dims polyhedron_abstraction (forward_plan constants) (resolve t) g solved.result values verdicts behind has.is_graph solved.derived
                solved.solves polyhedron_laws p v s there site,
            omega (arith, few),
          )

  pub are_wide : AreWide polyhedron_abstraction sites values
  are_wide = subst (λ (T : List Site). AreWide polyhedron_abstraction T values) (sym has.points) wide_at

  module _ (inside : List (ℕ × List (Place × Bool))) (flagged : Option ℕ)
      (judges : JudgesAccesses polyhedron_abstraction (lossy_operations polyhedron_abstraction) g values behind inside flagged) where
    pub flag_there : (q : ℕ) → flagged ≡ Some q → q < length sites
    flag_there q is =
        let low = last_handed polyhedron_abstraction t g sites has (forward_plan constants) values verdicts behind solved false [] inside behind flagged
        (refl, refl) judges q is in
        subst (λ (n : ℕ). q < n) (sym (ap length has.points)) low

    written_if : flagged ≡ None → JudgesAccesses polyhedron_abstraction (exact_operations polyhedron_abstraction) g values None inside None
    written_if none =
        let so = accesses_written polyhedron_abstraction polyhedron_laws g values behind inside flagged none judges in
        let first : behind ≡ None =
        none_before (lossy_operations polyhedron_abstraction) (OpInside polyhedron_abstraction (lossy_operations polyhedron_abstraction))
        (accessing_ops None g) values behind inside flagged judges none in
        subst (λ (f : Option ℕ). JudgesAccesses polyhedron_abstraction (exact_operations polyhedron_abstraction) g values None inside f) none
        (subst (λ (f : Option ℕ). JudgesAccesses polyhedron_abstraction (exact_operations polyhedron_abstraction) g values f inside flagged) first so)

    pub is_forward : IsForward constants (resolve t) g values flagged
    is_forward = record {
      verdicts = verdicts;
      iteration_flag = behind;
      solved = solved;
      inside = inside;
      accessed = judges;
      accessed_written = written_if;
      accessed_strained = λ q none some.
          subst (λ (f : Option ℕ). JudgesAccesses polyhedron_abstraction (straining_operations polyhedron_abstraction) g values f inside (Some q)) none
          (subst (λ (f : Option ℕ). JudgesAccesses polyhedron_abstraction (straining_operations polyhedron_abstraction) g values behind inside f) some
          (accesses_strained polyhedron_abstraction polyhedron_laws g values behind inside flagged judges));
    }

-- ---- what going back asks
module _ (t : FileTree) (g : Node) (sites : List Site) (has : HasInlinedTree t g sites) where
  pub paths_at : PathsFit (resolve t).globals (sites_of (resolve t)) g
  paths_at =
      paths_made (resolve t).globals (sites_of (resolve t)) g small (tree_fits (resolve t) g has.well has.few has.is_graph)
      (graph_lives (resolve t) g has.is_graph)
    where
      small : length (resolve t).globals ≤ most_live
      small = let few = few_globals (resolve t) g has.few has.is_graph in omega (arith, few)

  pub asserted_at : AreAsserted sites g
  asserted_at = subst (λ (T : List Site). AreAsserted T g) (sym has.points) (assertions_denied (resolve t) g has.is_graph)

  -- what is said of the program's globals and points is said of those that are handed on
  module _ (globals : List GlobalVariable) (is : (resolve t).globals ≡ globals) where
    pub handed : (Said : List GlobalVariable → List Site → Type 0) → Said (resolve t).globals (sites_of (resolve t)) → Said globals sites
    handed Said h = subst (λ (T : List Site). Said globals T) (sym has.points) (subst (λ (l : List GlobalVariable). Said l (sites_of (resolve t))) is h)

    pub taken : (Said : List GlobalVariable → List Site → Type 0) → Said globals sites → Said (resolve t).globals (sites_of (resolve t))
    taken Said h = subst (λ (l : List GlobalVariable). Said l (sites_of (resolve t))) (sym is) (subst (λ (T : List Site). Said globals T) has.points h)
