-- Goals of `open_graphs`: one graph more is instrumented.
use Rattle.std.proofs.{Common.◌++◌, Common.◌∷◌, Common.[], Common.List, Common.sym, Common.subst, lemmas.List.Elements.AllZip-push}
use Rattle.std.specs.List.{AllZip}
use Rattle.lra_threads_source.specs.Crates.lra_operations.declared.tree.InlinedProgram.{InlinedProgram}
use Rattle.lra_threads_source.specs.Stages.{IsInstrumented}
use Rattle.lra_threads_source.proofs.threads_report.open_graphs.Goals as goal

pub graphs-preserved : goal.graphs-preserved
graphs-preserved c =
    subst (λ (hs : List InlinedProgram). AllZip (IsInstrumented c.args.globals) (c.graphs.yielded ++ c.in-Some.graph ∷ []) hs) (sym c.in_ok-push.ensures.items)
    (AllZip-push (IsInstrumented c.args.globals) c.graphs.yielded c.graphs.opened.items c.in-Some.graph c.in_ok-instrument_program.field-0 c.graphs.invariant
    (c.in_ok-instrument_program.ensures.tree, c.in_ok-instrument_program.ensures.sites))
