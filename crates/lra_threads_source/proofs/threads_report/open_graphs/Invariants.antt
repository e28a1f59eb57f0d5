-- So far the graphs that were taken are instrumented.
use Rattle.std.specs.List.{AllZip}
use Rattle.lra_threads_source.specs.Stages.{IsInstrumented}
use Rattle.lra_threads_source.proofs.threads_report.open_graphs.Given as goal

abbrev pub invariant-graphs : goal.invariant-graphs
invariant-graphs l = AllZip (IsInstrumented l.globals) l.yielded l.opened.items
