-- From what is read of a source of several threads to what is reported about it.
use Rattle.std.proofs.Common.{◌≡◌, ◌∙◌, ◌≤◌, ℕ, ℤ, List, [], ◌∷◌, length, map, refl, sym, ap, ap₂, subst, arith}
use Rattle.std.proofs.{lemmas.List.length-map, lemmas.Option.get_or_from_slice_get, lemmas.Option.same_Some, lemmas.Option.slice_get_within}
use Rattle.std.specs.{List.AllZip, Prelude.Some, Prelude.slice_get}
use Rattle.lra_threads_source.specs.Crates.lra_resolution_spec.EntryPoint.{at_threads}
use Rattle.lra_threads_source.specs.Crates.{lra_analysis_spec.Instrumented.instrumented, lra_analysis_spec.Plan.Plan, lra_front_end.Stages.HasConstants, lra_front_end.Claims.IsAccepted}
use Rattle.lra_threads_source.specs.Crates.{lra_front_end.Claims.IsProgramTree, lra_front_end.ThreadsStages.IsInlinedOf, lra_front_end.ThreadsStages.IsThreadInlined}
use Rattle.lra_threads_source.specs.Crates.{lra_operations.Agree.IsInlinedTree, lra_operations.Tree.Node, lra_operations.TreeViews.node_view, lra_operations.TreeViews.site_view}
use Rattle.lra_threads_source.specs.Crates.{lra_operations.declared.tree.InlinedProgram.InlinedProgram, lra_program.Program.Function, lra_program.Program.Program, lra_program.ProgramViews.function_or}
use Rattle.lra_threads_source.specs.Crates.{lra_program.ProgramViews.program_view, lra_program.declared.program.GlobalVariable.GlobalVariable, lra_resolution_spec.Refuse.Accepts}
use Rattle.lra_threads_source.specs.Crates.{lra_resolution_spec.Resolve.resolved_functions, lra_resolution_spec.Threads.thread_places, lra_resolution_spec.Threads.thread_program}
use Rattle.lra_threads_source.specs.Crates.{lra_syntax.Grammar.Spells, lra_syntax.Trees.FileTree, lra_threads_fixpoint.Rounds.AllRounds, lra_threads_fixpoint.Rounds.ThreadsFixpoint}
use Rattle.lra_threads_source.specs.Crates.lra_program.declared.program.Program as declared
use Rattle.lra_analyse_source.proofs.Handing.{image_of}
use Rattle.lra_threads_analysis.specs.Found.{AreInstrumented, AreReady, IsThreadResultOf, thread_finding}
use Rattle.lra_threads_analysis.specs.{Holding.AllHold, Holding.AreFlagged, Interleaved.AreThreads, Interleaved.IsThread, Interleaved.ThreadsHold, declared.found.ThreadResult.ThreadResult}
use Rattle.lra_threads_source.specs.ThreadsReports.{IsThreadsReportOf, shared_program, thread_functions, threads_plan}
use Rattle.lra_threads_source.specs.{Listed.ShowsThreads, Listed.thread_place, Stages.AreGraphsOf, Stages.AreOfGraphs, Stages.IsFlagIn, Stages.IsInstrumented, ThreadsText.ThreadsReport}
use Rattle.lra_threads_source.proofs.Crates.lra_linear_spec.ListPlaces.{there_within}
use Rattle.lra_threads_source.proofs.{FlaggedPoints.flag_there, Handed.of_graphs, Readying.are_graphs, Readying.are_ready, Readying.graph_at, Readying.zip_at, Readying.zip_mapped, Readying.zip_viewed}

-- the globals as they are handed on
pub globals_seen : (t : FileTree) (p : declared.Program) (globals : List GlobalVariable) → program_view p ≡ thread_program t p.main → globals ≡ p.globals.items
    → globals ≡ (shared_program t).globals
globals_seen t p globals is same = same ∙ ap (λ (P : Program). P.globals) is

module _ (source : List ℕ) (t : FileTree) (accepted : Accepts at_threads Spells source t) (graphs others : List InlinedProgram)
    (read : AllZip (IsThreadInlined t) (thread_places t) graphs) (globals : List GlobalVariable) (is : globals ≡ (shared_program t).globals)
    (opens : AllZip (IsInstrumented (length globals)) graphs others) where
  abbrev P : Program
  P = shared_program t

  long : length globals ≡ length P.globals
  long = ap length is

  abbrev trees : List Node
  trees = map (λ (g : InlinedProgram). node_view g.tree) graphs

  abbrev program : IsAccepted at_threads source
  program = record {
    tree = t;
    accepted = accepted;
    operations = trees;
    are_graphs = zip_mapped IsProgramTree (thread_program t) (thread_places t) trees
        (zip_viewed (IsThreadInlined t) (λ place. IsProgramTree (thread_program t place)) (λ (g : InlinedProgram). node_view g.tree) (thread_places t) graphs
        (λ place g of. (of.is_graph, of.agrees)) read);
  }

  pub graphs_handed : AreGraphsOf t others
  graphs_handed = are_graphs t accepted.names accepted.within graphs others read (length globals) long opens

  pub ready : (delay narrow : ℕ) (constants : List ℤ) (plan : Plan) → plan ≡ threads_plan delay narrow constants → AreReady plan globals others
  ready delay narrow constants plan planned =
      are_ready t accepted.names accepted.within graphs others read (length globals) long opens plan globals
      (subst (λ (q : Plan). 1 ≤ q.parts) (sym planned) (omega arith)) is refl

  trees_opened : AreInstrumented (length P.globals) trees others
  trees_opened = go graphs others opens
    where
      go : (gs hs : List InlinedProgram) → AllZip (IsInstrumented (length globals)) gs hs
          → map (λ (g : InlinedProgram). node_view g.tree) hs ≡ map (instrumented (length P.globals)) (map (λ (g : InlinedProgram). node_view g.tree) gs)
      go [] [] z = refl
      go [] (h ∷ hs) z = absurd z
      go (g ∷ gs) [] z = absurd z
      go (g ∷ gs) (h ∷ hs) z =
          ap₂ (λ (h : Node) (hs : List Node). h ∷ hs) (z.0.0 ∙ ap (λ (n : ℕ). instrumented n (node_view g.tree)) long) (go gs hs z.1)

  -- the own tree of the k-th
  own_tree : (k : ℕ) (h : InlinedProgram) → slice_get others k ≡ Some h → (g : Node) × (node_view h.tree ≡ instrumented (length P.globals) g)
  own_tree k h there =
      let (g, here, is_opened, more) = graph_at t accepted.names accepted.within graphs others read (length globals) long opens k h there in
      (node_view g.tree, is_opened.0 ∙ ap (λ (n : ℕ). instrumented n (node_view g.tree)) long)

  are_threads : AreThreads P (thread_functions t) others
  are_threads k f there =
      let (place, at, same) = image_of (λ (p : ℕ). function_or (slice_get (resolved_functions t) p)) (thread_places t) k f there in
      let many = (graphs_handed).count in
      let (h, here) = there_within others k (let low = slice_get_within (thread_places t) k place at in omega (arith, low, many)) in
      let (g, own, is_opened, (place', at', of)) = graph_at t accepted.names accepted.within graphs others read (length globals) long opens k h here in
      let one : place' ≡ place = same_Some place' place (sym at' ∙ at) in
      let of' : IsInlinedOf (thread_program t place) g = subst (λ (p : ℕ). IsInlinedOf (thread_program t p) g) one of in (
        h,
        here,
        subst (λ (e : Function). IsThread P e h) same (record {
          well = of'.well;
          tree = node_view g.tree;
          is_graph = of'.is_graph;
          opens = is_opened.0 ∙ ap (λ (n : ℕ). instrumented n (node_view g.tree)) long;
        }),
      )

  module _ (plan : Plan) (end : ThreadsFixpoint ThreadResult)
      (rounds : (Q : Program) (ts : List Node) → Q.globals ≡ globals → AreInstrumented (length Q.globals) ts others →
      AllRounds thread_finding (length Q.globals) (IsThreadResultOf plan Q ts) (length ts) end)
      (flags : (Q : Program) (ts : List Node) → Q.globals ≡ globals → AreInstrumented (length Q.globals) ts others → AreFlagged plan Q ts end)
      (all : AllHold globals others end) where
    pub found_handed : AreOfGraphs others end.found
    found_handed = of_graphs P globals others end (sym is) own_tree all

    -- a flag is that of a point
    pub flag_handed : (k q : ℕ) → end.flag ≡ Some (k, q) → IsFlagIn others (k, q)
    flag_handed k q flagged =
        let (g, there, low) =
        flag_there plan P trees (λ j. thread_program t (thread_place t j)) graph_there end (rounds P trees (sym is) trees_opened) k q flagged in
        let (g', here, same) = image_of (λ (x : InlinedProgram). node_view x.tree) graphs k g there in
        let (place, at, of) = zip_at (IsThreadInlined t) (thread_places t) graphs k g' read here in
        let many = (graphs_handed).count in
        let (h, own) = there_within others k (let within = slice_get_within (thread_places t) k place at in omega (arith, within, many)) in
        let points = (graphs_handed).sites k h own in
        let long = length-map h.sites.items site_view in
        let same_points = ap length points in
        (h, own, omega (arith, low, long, same_points))
      where
        graph_there : (j : ℕ) (g : Node) → slice_get trees j ≡ Some g → IsInlinedTree (thread_program t (thread_place t j)) g
        graph_there j g there =
            let (g', here, same) = image_of (λ (x : InlinedProgram). node_view x.tree) graphs j g there in
            let (place, at, of) = zip_at (IsThreadInlined t) (thread_places t) graphs j g' read here in
            subst (λ (p : ℕ). IsInlinedTree (thread_program t p) g) (sym (get_or_from_slice_get (thread_places t) j place 0 at))
            (subst (IsInlinedTree (thread_program t place)) same of.is_graph)

    pub answered : (delay narrow : ℕ) (constants : List ℤ) (r : ThreadsReport) → ThreadsHold → plan ≡ threads_plan delay narrow constants
        → HasConstants source constants → r.delay ≡ delay → r.narrow ≡ narrow → ShowsThreads t end r → IsThreadsReportOf delay narrow source r
    answered delay narrow constants r hold planned own told_delay told_narrow shows = record {
      delay_told = told_delay;
      narrow_told = told_narrow;
      program = program;
      constants = constants;
      own = own;
      end = end;
      rounds = subst (λ (q : Plan). AllRounds thread_finding (length P.globals) (IsThreadResultOf q P trees) (length trees) end) planned
          (rounds P trees (sym is) trees_opened);
      flags = subst (λ (q : Plan). AreFlagged q P trees end) planned (flags P trees (sym is) trees_opened);
      holds = hold P (thread_functions t) others end are_threads (subst (λ (gs : List GlobalVariable). AllHold gs others end) is all);
      shows = shows;
    }
