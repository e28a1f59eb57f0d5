-- What going back from an assertion must guarantee to the runs that fail there.
use Rattle.std.specs.Prelude.{◌≡◌, ℕ, ℤ, List, Some, Option, slice_get}
use Rattle.lra_back_sound.specs.Crates.lra_domain.Backward.{BackwardAbstraction}
use Rattle.lra_back_sound.specs.Crates.lra_operations.Agree.{IsInlinedTree, point_of}
use Rattle.lra_back_sound.specs.Crates.lra_program.Sites.{Site, sites_of}
use Rattle.lra_back_sound.specs.Crates.{lra_domain.Abstraction.Abstraction, lra_domain.Gammas.InGamma}
use Rattle.lra_back_sound.specs.Crates.{lra_operations.Tree.Node, lra_program.Program.Program, lra_program.Run.At}
use Rattle.lra_back_sound.specs.Crates.{lra_program.Run.Fails, lra_program.WellFormed.IsWellFormed}
use Rattle.lra_back.specs.BackwardAnalysis.{AreWide, BackwardAnalysis, FailsFrom, NothingLeftAtStart, PathsFit}
use Rattle.lra_back.specs.Operations.{lossy_back_operations}

-- whenever a run is at a point, its store is one of the value there
abbrev pub HoldsAtPoints : {V H : Type 0} → Abstraction V H → Program → List V → Type 0
HoldsAtPoints {V} m P values = (q : ℕ) (s : Site) (store : List ℤ) → slice_get (sites_of P) q ≡ Some s →
    At P (point_of s) store → (v : V) × (slice_get values q ≡ Some v) × InGamma m v store

-- from the assertion with this number
pub record CoverFailingRuns {V H : Type 0} (m : Abstraction V H) (P : Program) (g : Node) (p : ℕ) (values : List V)
    : Type 0 where
  -- with each store with which a run is at a point from which it goes on to fail there
  pub stores : (s r : Site) (q : ℕ) (store : List ℤ) → slice_get (sites_of P) p ≡ Some s →
      slice_get (sites_of P) q ≡ Some r → FailsFrom P (point_of s) (point_of r) store → (v : V) ×
      (slice_get values q ≡ Some v) × InGamma m v store
  -- if nothing is left at the points to which paths from the start lead, no run fails
  pub proved : (s : Site) → slice_get (sites_of P) p ≡ Some s →
      NothingLeftAtStart m P.globals (sites_of P) g values → Fails P (point_of s) → ⊥

-- what is found by going back over values that hold in all runs
abbrev pub BackwardIsSound : {V H : Type 0} → Abstraction V H → BackwardAbstraction V → Type 0
BackwardIsSound {V} m b = (P : Program) (g : Node) (forward values : List V) (f flag : Option ℕ) (p : ℕ) →
    IsWellFormed P → IsInlinedTree P g → PathsFit P.globals (sites_of P) g → AreWide m (sites_of P) forward →
    HoldsAtPoints m P forward →
    BackwardAnalysis (lossy_back_operations m b) P.globals (sites_of P) g forward f p values flag →
    CoverFailingRuns m P g p values
