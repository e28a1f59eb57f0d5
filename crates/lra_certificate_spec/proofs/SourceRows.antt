-- Rows of sources have the width of their points, and assertions that are false no row.
use Rattle.std.proofs.Common.{◌≡◌, ℕ, zero, suc, List, [], ◌∷◌, ◌++◌, map, refl, Some, None}
use Rattle.std.specs.{List.AllByRecursion, List.flat_map, Prelude.slice_get}
use Rattle.lra_certificate_spec.specs.Crates.lra_program.Sites.{Site, sites_of}
use Rattle.lra_certificate_spec.specs.Crates.{lra_domain.Actions.Action, lra_operations.Tree.Node, lra_path_segments.Segments.violates, lra_program.Program.Program}
use Rattle.lra_paths.specs.Paths.{Path, path_by, paths_between, actions_between, live_of, sources_of, violations_of}
use Rattle.lra_certificate_spec.specs.{Certificates.state_or_empty, Certificates.state_from, Certificates.state_to, Certificates.live_at_source, Certificates.AreStates, Judged.RowsAtPoint}
use Rattle.lra_certificate_spec.proofs.ReadPaths.{AreRows}

-- ---- the rows of sources, and goals of assertions
states_fit : (sites : List Site) (states : List RowsAtPoint) → AreStates sites states → (q : ℕ) →
    AreRows (live_of (slice_get sites q)) (state_or_empty (slice_get states q))
states_fit [] [] h q = tt
states_fit [] (s ∷ ss) h q = absurd h
states_fit (site ∷ sites) [] h q = absurd h
states_fit (site ∷ sites) (None ∷ ss) h zero = tt
states_fit (site ∷ sites) (Some rows ∷ ss) h zero = h.0
states_fit (site ∷ sites) (s ∷ ss) h (suc q) = states_fit sites ss h.1 q

pub sources_fit : (P : Program) (states : List RowsAtPoint) → AreStates (sites_of P) states → (p : ℕ) → AreRows (live_at_source P p) (state_from states p)
sources_fit P states h zero = tt
sources_fit P states h (suc q) = states_fit (sites_of P) states h q

module _ (P : Program) (g : Node) (states : List RowsAtPoint) (q : ℕ) where
  abbrev IsDenial : Path → Type 0
  IsDenial path = state_to states path.goal ≡ None

  between_denied : (p : ℕ) (xs : List (List Action)) → AllByRecursion IsDenial (map (path_by p (violates q)) xs)
  between_denied p [] = tt
  between_denied p (x ∷ xs) = (refl, between_denied p xs)

  all_behind : (xs ys : List Path) → AllByRecursion IsDenial xs → AllByRecursion IsDenial ys → AllByRecursion IsDenial (xs ++ ys)
  all_behind [] ys h k = k
  all_behind (x ∷ xs) ys h k = (h.0, all_behind xs ys h.1 k)

  from_denied : (ps : List ℕ) → AllByRecursion IsDenial (flat_map (λ p. paths_between P g p (violates q)) ps)
  from_denied [] = tt
  from_denied (p ∷ ps) =
      all_behind (paths_between P g p (violates q)) (flat_map (λ p. paths_between P g p (violates q)) ps)
      (between_denied p (actions_between P g p (violates q)))
      (from_denied ps)

  pub denials_denied : AllByRecursion IsDenial (violations_of P g q)
  denials_denied = from_denied (sources_of P)
