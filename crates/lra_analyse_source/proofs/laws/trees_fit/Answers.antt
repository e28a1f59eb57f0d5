-- Goals of `trees_fit`: the tree of operations of a well-formed program fits the iteration, and has each point
-- once.
use Rattle.lra_analyse_source.proofs.{Fitting.tree_fits, Flags.graph_below, Numbering.numbered}
use Rattle.lra_analyse_source.proofs.laws.trees_fit.Goals as goal

pub returns-clause-fit : goal.returns-clause-fit
returns-clause-fit c P g well few graph = tree_fits P g well few graph

pub returns-clause-numbered : goal.returns-clause-numbered
returns-clause-numbered c P g graph = (numbered P g graph, graph_below P g graph)
