-- Goals of `read_source`: all that is read of a source, or its one refusal; memory may run out.
use Rattle.lra_front_end.specs.Crates.{lra_resolution_spec.EntryPoint.at_main, lra_syntax.Views.tree_view}
use Rattle.lra_front_end.proofs.{ReadSteps.exit_tree, ReadSteps.exit_unread, StageSteps.well}
use Rattle.lra_front_end.proofs.front.read_source.Goals as goal

pub inline_calls-requires-clause-well : goal.inline_calls-requires-clause-well
inline_calls-requires-clause-well c =
    well c.args.bytes.now (tree_view c.in_ok-reading.reading.tree) c.in_ok-reading.ensures.found c.in_ok-resolution.ensures.clean

pub returns-in_err-reading-clause-refused : goal.returns-in_err-reading-clause-refused
returns-in_err-reading-clause-refused c = exit_unread at_main c.args.bytes.now c.from_residual.result _ c.from_residual.ensures.1 c.in_err-reading.ensures.refused

pub returns-in_err-resolution-clause-refused : goal.returns-in_err-resolution-clause-refused
returns-in_err-resolution-clause-refused c =
    exit_tree at_main c.args.bytes.now (tree_view c.in_ok-reading.reading.tree) c.from_residual-in_err-resolution.result _ c.in_ok-reading.ensures.found c.from_residual-in_err-resolution.ensures.1
    c.in_err-resolution.ensures.refused

pub returns-in_err-graph-clause-refused : goal.returns-in_err-graph-clause-refused
returns-in_err-graph-clause-refused c =
    exit_tree at_main c.args.bytes.now (tree_view c.in_ok-reading.reading.tree) c.from_residual-in_err-graph.result _ c.in_ok-reading.ensures.found c.from_residual-in_err-graph.ensures.1
    c.in_err-graph.ensures.refused
