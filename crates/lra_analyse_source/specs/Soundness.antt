-- Soundness, over any domain: what an iteration finds holds in all runs.
use Rattle.std.specs.List.{Contains}
use Rattle.std.specs.Prelude.{◌≡◌, ℕ, ℤ, List, length, Bool, true, Option, Some, slice_get}
use Rattle.lra_analyse_source.specs.Crates.lra_operations.Agree.{IsInlinedTree, point_of, Agrees}
use Rattle.lra_analyse_source.specs.Crates.lra_operations.CheckedOperations.{AgreesOnOverflows, AgreesOnAccesses}
use Rattle.lra_analyse_source.specs.Crates.{lra_analysis_spec.Accesses.JudgesAccesses}
use Rattle.lra_analyse_source.specs.Crates.{lra_analysis_spec.Analysis.IsUnreachable, lra_analysis_spec.Fits.Judges}
use Rattle.lra_analyse_source.specs.Crates.{lra_analysis_spec.Operations.lossy_operations, lra_analysis_spec.Plan.Plan}
use Rattle.lra_analyse_source.specs.Crates.{lra_base.declared.refusals.Place.Place, lra_domain.Abstraction.Abstraction}
use Rattle.lra_analyse_source.specs.Crates.{lra_operations.Tree.Node, lra_program.Accesses.AccessesOutOfBounds}
use Rattle.lra_analyse_source.specs.Crates.{lra_program.Overflow.Overflows, lra_program.Program.Program}
use Rattle.lra_analyse_source.specs.Crates.{lra_program.Run.At, lra_program.Run.Fails, lra_program.Sites.Site}
use Rattle.lra_analyse_source.specs.Crates.{lra_program.Sites.sites_of, lra_program.WellFormed.AreGoodGlobals}
use Rattle.lra_fixpoint.specs.Solved.{IsSolved}

-- the value at a point has each store that a run brings there, no assertion that is proved fails, and no run comes
-- if the value has no part
pub record HoldsInRuns {V H : Type 0} (m : Abstraction V H) (P : Program) (values : List V)
    (verdicts : List (ℕ × Bool)) : Type 0 where
  pub stores : (q : ℕ) (s : Site) (store : List ℤ) → slice_get (sites_of P) q ≡ Some s → At P (point_of s) store
      → (v : V) × (slice_get values q ≡ Some v) × m.gamma v store × (length store ≡ m.dims v)
  pub proved : (q : ℕ) (s : Site) → slice_get (sites_of P) q ≡ Some s → Contains verdicts (q, true) →
      Fails P (point_of s) → ⊥
  pub unreached : (q : ℕ) (s : Site) (v : V) (store : List ℤ) → slice_get (sites_of P) q ≡ Some s
      → slice_get values q ≡ Some v → IsUnreachable m v → At P (point_of s) store → ⊥

-- so it is with what is found over a tree that agrees with its program's runs, if first values are numbers of
-- their types
abbrev pub SolvedAreSound : {V H : Type 0} → Abstraction V H → Type 0
SolvedAreSound {V} m =
    (plan : Plan) (P : Program) (tree : Node) (values : List V) (verdicts : List (ℕ × Bool))
    (flagged : Option ℕ) → IsSolved m plan P tree values verdicts flagged → AreGoodGlobals P.globals
    → IsInlinedTree P tree → Agrees P tree → HoldsInRuns m P values verdicts

-- if all that is computed at a point is judged to fit by what is found, no run stops there by a number
abbrev pub FittingIsSound : {V H : Type 0} → Abstraction V H → Type 0
FittingIsSound {V} m =
    (plan : Plan) (P : Program) (tree : Node) (values : List V) (verdicts fitting : List (ℕ × Bool))
    (flagged behind : Option ℕ) → IsSolved m plan P tree values verdicts flagged → AreGoodGlobals P.globals
    → IsInlinedTree P tree → Agrees P tree → AgreesOnOverflows P tree
    → Judges m (lossy_operations m) tree values flagged fitting behind
    → (q : ℕ) (s : Site) → slice_get (sites_of P) q ≡ Some s → Contains fitting (q, true) → Overflows P (point_of s)
    → ⊥

-- if an access is judged to be inside its array by what is found, no run evaluates it outside
abbrev pub AccessesAreSound : {V H : Type 0} → Abstraction V H → Type 0
AccessesAreSound {V} m =
    (plan : Plan) (P : Program) (tree : Node) (values : List V) (verdicts : List (ℕ × Bool))
    (inside : List (ℕ × List (Place × Bool))) (flagged behind last : Option ℕ)
    → IsSolved m plan P tree values verdicts flagged → AreGoodGlobals P.globals
    → IsInlinedTree P tree → Agrees P tree → AgreesOnAccesses P tree
    → JudgesAccesses m (lossy_operations m) tree values behind inside last
    → (q : ℕ) (s : Site) (js : List (Place × Bool)) (n : ℕ) (place : Place) → slice_get (sites_of P) q ≡ Some s
    → Contains inside (q, js) → slice_get js n ≡ Some (place, true) → AccessesOutOfBounds P (point_of s) n → ⊥
