-- What the rounds of threads end with.
use Rattle.std.proofs.Common.{◌≡◌, ◌∙◌, ℕ, List, length, Option, None, Some, refl, ap, sym, subst, inl, inr}
use Rattle.std.proofs.{lemmas.List.length-map, lemmas.Option.none-some, lemmas.Option.same_Some, lemmas.Option.slice_get-map}
use Rattle.std.specs.Prelude.{slice_get, option_map}
use Rattle.lra_threads_analysis.specs.Crates.lra_box.Abstraction.{box_abstraction}
use Rattle.lra_threads_analysis.specs.Crates.{lra_analysis_spec.Analysis.IsSolution, lra_analysis_spec.Instrumented.instrumented, lra_analysis_spec.Plan.Plan, lra_box.Content.BoxContent}
use Rattle.lra_threads_analysis.specs.Crates.{lra_domain.Interference.Interference, lra_fixpoint.Solved.IsSolvedUnder, lra_operations.Tree.Node, lra_operations.TreeViews.node_view}
use Rattle.lra_threads_analysis.specs.Crates.{lra_operations.declared.tree.InlinedProgram.InlinedProgram, lra_program.Program.Program, lra_program.declared.program.GlobalVariable.GlobalVariable}
use Rattle.lra_threads_fixpoint.specs.{Interference.threads_interference, Rounds.AreThreadResults, Rounds.AllRounds, Rounds.ThreadsFixpoint}
use Rattle.lra_threads_fixpoint.proofs.FlagLemmas.{unflagged, strained, settles}
use Rattle.lra_threads_analysis.specs.Found.{AreInstrumented, HoldsOf, IsThreadResultOf, IsExactResultOf, StrainsAt, thread_finding, thread_values, verdicts_of, notes_of, access_verdicts_of}
use Rattle.lra_threads_analysis.specs.Found.{flag_of_thread}
use Rattle.lra_threads_analysis.specs.{Analysed.IsAnalysed, Analysed.IsAnalysedOf, Holding.AllHold, Holding.AreFlagged, Holding.HoldsInRound, declared.found.ThreadResult.ThreadResult}
use Rattle.lra_threads_analysis.proofs.OwnAccesses.{judged_own, none_before, accessed_written, by_flag}
use Rattle.lra_threads_analysis.proofs.Crates.lra_linear_spec.ListPlaces.{also_there}
use Rattle.lra_threads_analysis.proofs.{ReadyValues.as_many_sites, RoundsOf.all_told, RoundsOf.all_fit}

-- an element there has its own in the list of which this is the image
own_there : {A B : Type 0} (f : A → B) (o : Option A) (y : B) → option_map f o ≡ Some y → (x : A) × (o ≡ Some x) × (y ≡ f x)
own_there f None y e = absurd (none-some y e)
own_there f (Some x) y e = (x, refl, sym (same_Some (f x) y e))

module _ (plan : Plan) (globals : List GlobalVariable) (graphs : List InlinedProgram) where
  abbrev Ends : ThreadsFixpoint ThreadResult → Type 0
  Ends end = AllRounds thread_finding (length globals) (IsAnalysedOf plan globals graphs) (length graphs) end

  holds_in_round : (P : Program) (k : ℕ) (graph : InlinedProgram) (g : Node) (end : ThreadsFixpoint ThreadResult)
      → AreThreadResults (length globals) (IsAnalysedOf plan globals graphs) (length graphs) end.table end.found → P.globals ≡ globals
      → slice_get graphs k ≡ Some graph → node_view graph.tree ≡ instrumented (length P.globals) g → HoldsInRound P k graph g end
  holds_in_round P k graph g end are same is opens =
      let (f, there) = also_there graphs end.found k graph are.all is in
      let (one, at, analysed) = are.each k f there in
      let own : one ≡ graph = same_Some one graph (sym at ∙ is) in
      of_graph f there (subst (λ (x : InlinedProgram). IsAnalysed plan globals x (threads_interference (length globals) k end.table) f) own analysed)
    where
      of_graph : (f : ThreadResult) → slice_get end.found k ≡ Some f → IsAnalysed plan globals graph (threads_interference (length globals) k end.table) f
          → HoldsInRound P k graph g end
      of_graph f there one = record {
        found = f;
        is_found = there;
        solved = (
          plan,
          subst (λ (zs : List GlobalVariable). IsSolvedUnder (threads_interference (length zs) k end.table) box_abstraction plan P
              (node_view graph.tree) (thread_values f) (notes_of f) (verdicts_of f) f.noted.solution.flagged) (sym same) (one.solved P same),
        );
        holds = subst (λ (zs : List GlobalVariable). HoldsOf (threads_interference (length zs) k end.table) P g f) (sym same) (one.sound P g same opens);
        wide = one.wide;
        notes = one.notes;
        points = as_many_sites graph (thread_values f) one.points;
        assertions = one.assertions;
        inside = (
          f.noted.solution.flagged,
          judged_own (length P.globals) g (node_view graph.tree) (thread_values f) f.noted.solution.flagged
              (flag_of_thread f) (access_verdicts_of f) opens one.accessed,
        );
      }

  pub all_hold : (end : ThreadsFixpoint ThreadResult) → Ends end → AllHold globals graphs end
  all_hold end rounds =
      let last = settles thread_finding (length globals) (IsAnalysedOf plan globals graphs) (length graphs) end rounds in
      let fit = all_fit thread_finding (length globals) (IsAnalysedOf plan globals graphs) (length graphs) end rounds in
      record {
        within = last.1;
        count = last.0.all;
        table = fit.1;
        wide = fit.0;
        each = λ P k graph g same is opens. holds_in_round P k graph g end last.0 same is opens;
      }

  module _ (P : Program) (trees : List Node) (same : P.globals ≡ globals) (opens : AreInstrumented (length P.globals) trees graphs) where
    as_many : length graphs ≡ length trees
    as_many = sym (length-map graphs (λ (x : InlinedProgram). node_view x.tree)) ∙ ap length opens ∙ length-map trees (instrumented (length P.globals))

    own_tree : (k : ℕ) (graph : InlinedProgram) → slice_get graphs k ≡ Some graph
        → (g : Node) × (slice_get trees k ≡ Some g) × (node_view graph.tree ≡ instrumented (length P.globals) g)
    own_tree k graph is =
        own_there (instrumented (length P.globals)) (slice_get trees k) (node_view graph.tree)
        (sym (slice_get-map (instrumented (length P.globals)) trees k) ∙ ap (λ (gs : List Node). slice_get gs k) (sym opens)
        ∙ slice_get-map (λ (x : InlinedProgram). node_view x.tree) graphs k ∙ ap (option_map (λ (x : InlinedProgram). node_view x.tree)) is)

    found_of : (k : ℕ) (o : Interference BoxContent) (f : ThreadResult) → IsAnalysedOf plan globals graphs k o f → IsThreadResultOf plan P trees k o f
    found_of k o f (graph, is, one) =
        let (g, at, tree) = own_tree k graph is in (
          g,
          at,
          record {
            solved = subst (λ (h : Node). IsSolvedUnder o box_abstraction plan P h (thread_values f) (notes_of f) (verdicts_of f) f.noted.solution.flagged)
                tree (one.solved P same);
            accessed = judged_own (length P.globals) g (node_view graph.tree) (thread_values f) f.noted.solution.flagged (flag_of_thread f)
                (access_verdicts_of f) tree one.accessed;
          },
        )

    pub all_found : (end : ThreadsFixpoint ThreadResult) → Ends end
        → AllRounds thread_finding (length P.globals) (IsThreadResultOf plan P trees) (length trees) end
    all_found end rounds =
        let told = all_told thread_finding (length globals) (IsAnalysedOf plan globals graphs) (IsThreadResultOf plan P trees) found_of (length graphs)
        end rounds in
        subst (λ (n : ℕ). AllRounds thread_finding (length P.globals) (IsThreadResultOf plan P trees) n end) as_many
        (subst (λ (zs : List GlobalVariable). AllRounds thread_finding (length zs) (IsThreadResultOf plan P trees) (length graphs) end) (sym same) told)

module _ (plan : Plan) (P : Program) (trees : List Node) where
  written_of : (k : ℕ) (o : Interference BoxContent) (f : ThreadResult) → IsThreadResultOf plan P trees k o f → flag_of_thread f ≡ None
      → IsExactResultOf plan P trees k o f
  written_of k o f (g, is, one) none =
      let first : f.noted.solution.flagged ≡ None =
      none_before g (thread_values f) f.noted.solution.flagged (flag_of_thread f) (access_verdicts_of f) one.accessed none in (
        g,
        is,
        record {
          result = one.solved.result;
          written = one.solved.written first;
          solves = subst (λ (q : Option ℕ). IsSolution box_abstraction one.solved.result (thread_values f) (verdicts_of f) q) first one.solved.solves;
          noted = one.solved.noted;
          accessed = accessed_written g (thread_values f) f.noted.solution.flagged (flag_of_thread f) (access_verdicts_of f) one.accessed none;
        },
      )

  strains_at : (k q : ℕ) (o : Interference BoxContent) (f : ThreadResult) → IsThreadResultOf plan P trees k o f → flag_of_thread f ≡ Some q
      → StrainsAt plan P trees k o q
  strains_at k q o f (g, is, one) some = (
    g,
    is,
    elim (by_flag g (thread_values f) f.noted.solution.flagged (flag_of_thread f) (access_verdicts_of f) one.accessed q some) [
      | inl first ↦ inl (one.solved.strained q first)
      | inr behind ↦ inr (record {
        result = one.solved.result;
        written = one.solved.written behind.0;
        values = thread_values f;
        verdicts = verdicts_of f;
        solves = subst (λ (p : Option ℕ). IsSolution box_abstraction one.solved.result (thread_values f) (verdicts_of f) p) behind.0 one.solved.solves;
        inside = access_verdicts_of f;
        judged = behind.1;
      })
    ],
  )

  pub are_flagged : (end : ThreadsFixpoint ThreadResult) → AllRounds thread_finding (length P.globals) (IsThreadResultOf plan P trees) (length trees) end
      → AreFlagged plan P trees end
  are_flagged end rounds = record {
    written = λ none. unflagged thread_finding (length P.globals) (IsThreadResultOf plan P trees) (IsExactResultOf plan P trees) written_of (length trees)
        end rounds none;
    strained = λ k q first. strained thread_finding (length P.globals) (IsThreadResultOf plan P trees) (IsExactResultOf plan P trees)
        (StrainsAt plan P trees) written_of strains_at (length trees) k q end rounds first;
  }
