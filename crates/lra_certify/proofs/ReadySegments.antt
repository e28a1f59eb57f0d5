-- The segments of a program are ready to be gone through: its points as its graph has them, and the sources that are
-- found.
use Rattle.std.proofs.Common.{◌≡◌, ◌<◌, ◌≤◌, ◌^◌, ◌∙◌, ℕ, suc, [], List, length, map, refl, ap, sym, subst}
use Rattle.std.proofs.lemmas.List.{length-map}
use Rattle.std.specs.{List.All, Prelude.slice_get}
use Rattle.lra_certify.specs.Crates.lra_paths.Paths.{actions_between_in, AreFewIn}
use Rattle.lra_certify.specs.Crates.{lra_operations.Tree.Node, lra_operations.TreeViews.site_view, lra_path_disjuncts.Tables.IsTable, lra_path_segments.Segments.Goal}
use Rattle.lra_certify.specs.Crates.{lra_paths.declared.sources.Source.Source, lra_program.Program.Program, lra_program.Sites.sites_of, lra_program.declared.program.GlobalVariable.GlobalVariable}
use Rattle.lra_certify.specs.Crates.lra_operations.declared.tree.Site as declared
use Rattle.lra_verify.specs.EdgeViews.{IsAnnotatedProgram, actions_out_of, sites_in}
use Rattle.lra_verify.specs.{PointViews.HaveDims, SourceViews.AreSources, SourceViews.LeadAs, declared.annotated.AnnotatedProgram.AnnotatedProgram}
use Rattle.lra_verify.proofs.VerifySteps.{ways_ready, sources_ready, lead_ready}

ways_are : (w : AnnotatedProgram) (items : List declared.Site) → w.sites.now ≡ items → w.start.now.rows ≡ [] → w.start.now.dims ≡ 0 →
    length w.states.now ≡ length items → HaveDims (map site_view items) w.states.now → AreSources (length w.sites.now) w.sources.now →
    length items < 2 ^ 31 → All (λ s. s.live < 2 ^ 31) items → IsAnnotatedProgram w
ways_are w items is none no_dims count dims sources short live =
    ways_ready w w.states.now none no_dims refl (count ∙ ap (λ (l : List declared.Site). length l) (sym is))
    (subst (λ (l : List declared.Site). HaveDims (map site_view l) w.states.now) (sym is) dims) sources
    (subst (λ (l : List declared.Site). length l < 2 ^ 31) (sym is) short)
    (subst (λ (l : List declared.Site). All (λ s. s.live < 2 ^ 31) l) (sym is) live)

-- what is asked of segments that are written
pub record AreReady (P : Program) (g : Node) (w : AnnotatedProgram) : Type 0 where
  pub ways : IsAnnotatedProgram w
  pub sites : sites_in w ≡ sites_of P
  pub lead : LeadAs P g w.sources.now

pub many_points : (P : Program) (g : Node) (w : AnnotatedProgram) → AreReady P g w → length (sites_of P) ≡ length w.sites.now
many_points P g w ready = ap length (sym ready.sites) ∙ length-map w.sites.now site_view

-- of the points `all` of the graph, with the paths found over `globals` and `sites`, and the sources `items` of these
module _ (P : Program) (g : Node) (w : AnnotatedProgram) (globals given : List GlobalVariable) (sites all : List declared.Site) (items : List Source)
    (of_globals : globals ≡ given) (given_is : given ≡ P.globals) (of_sites : sites ≡ all) (seen : w.sites.now ≡ all)
    (sites_are : map site_view all ≡ sites_of P) (few : AreFewIn given (map site_view all) g) where
  pub are_ready : w.sources.now ≡ items → length items ≡ suc (length sites) → All (λ s. IsTable s.entries.items) items →
      ((p : ℕ) (goal : Goal) → p ≤ length sites → actions_out_of (slice_get items p) goal ≡ actions_between_in globals (map site_view sites) g p goal) →
      w.start.now.rows ≡ [] → w.start.now.dims ≡ 0 → length w.states.now ≡ length all → HaveDims (map site_view all) w.states.now →
      length all < 2 ^ 31 → All (λ s. s.live < 2 ^ 31) all → AreReady P g w
  are_ready same count tables leads none no_dims states dims short live = record {
    ways = ways_are w all seen none no_dims states dims
        (sources_ready g globals sites items w.sources.now same count leads given all w.sites.now of_globals of_sites seen tables few) short live;
    sites = ap (λ (l : List declared.Site). map site_view l) seen ∙ sites_are;
    lead = lead_ready g globals sites items w.sources.now same count leads P (of_globals ∙ given_is)
        (ap (λ (l : List declared.Site). map site_view l) of_sites ∙ sites_are);
  }
