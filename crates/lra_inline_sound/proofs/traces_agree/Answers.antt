-- Goals of `traces_agree`: does nothing.
use Rattle.lra_inline_sound.proofs.{Agreement.trees_have_traces, DistinctSites.distinct_sites}
use Rattle.lra_inline_sound.proofs.traces_agree.Goals as goal

pub returns : goal.returns
returns c = record {
  theorem = trees_have_traces;
  well_formed = λ P g well is. trees_have_traces P g (distinct_sites P well) is;
}
