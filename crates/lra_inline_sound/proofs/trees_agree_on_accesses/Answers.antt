-- Goals of `trees_agree_on_accesses`: does nothing.
use Rattle.lra_inline_sound.proofs.{CheckedOperations.trees_agree_on_accesses, DistinctSites.distinct_sites}
use Rattle.lra_inline_sound.proofs.trees_agree_on_accesses.Goals as goal

pub returns : goal.returns
returns c = record {
  theorem = trees_agree_on_accesses;
  well_formed = λ P g well is. trees_agree_on_accesses P g (distinct_sites P well) is;
}
