-- Goals of `trees_agree`: does nothing.
use Rattle.lra_inline_sound.proofs.{Agreement.trees_agree, DistinctSites.distinct_sites}
use Rattle.lra_inline_sound.proofs.trees_agree.Goals as goal

pub returns : goal.returns
returns c = record {
  theorem = trees_agree;
  distinct = distinct_sites;
  well_formed = λ P g well is. trees_agree P g (distinct_sites P well) is;
}
