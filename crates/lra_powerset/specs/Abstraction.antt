-- The meaning of sets of parts, from that of their parts.
use Rattle.std.specs.Prelude.{flat_map}
use Rattle.lra_domain.specs.{Abstraction.Abstraction, Actions.HoldsStores}
use Rattle.lra_powerset.specs.Heads.{SetHeadGamma, HeadCapped, form_rank, HeadCovered, HeadStarts, HeadStays}
use Rattle.lra_powerset.specs.Heads.{HeadAnswers, HeadGivenUp, HeadGrown, HeadLeft, HeadGrowStrains, HeadValued}
use Rattle.lra_powerset.specs.Values.{PartsBounded, WellFormedSet, SetKeeps, SetGamma, SetCapped, SetLeq, SetTop}
use Rattle.lra_powerset.specs.Values.{SetBottom, SetTransferred, SetStrains, SetJoined, SetJoinStrains, SetIncluded}
use Rattle.lra_powerset.specs.Values.{SetInclusionStrains}
use Rattle.lra_powerset.specs.{Content.SetContent, Content.SetHead, Forms.HeadFits, Heads.HeadFormValueStrains}

abbrev pub set_abstraction : {V H : Type 0} → Abstraction V H → Abstraction (SetContent V) (SetHead V H)
set_abstraction m = record {
  well_formed = WellFormedSet m;
  gamma = SetGamma m;
  dims = λ v. v.dims;
  parts = λ v. flat_map m.parts v.parts;
  capped = SetCapped;
  bounded = λ v. PartsBounded m v.parts;
  leq = SetLeq m;
  top = SetTop m;
  bottom = SetBottom;
  keeps = SetKeeps m;
  transferred = SetTransferred m;
  strains = SetStrains m;
  joined = SetJoined m;
  join_strains = SetJoinStrains m;
  included = SetIncluded m;
  inclusion_strains = SetInclusionStrains m;
  head_well_formed = HeadFits m;
  head_gamma = SetHeadGamma m;
  head_dims = λ h. h.dims;
  head_capped = HeadCapped;
  rank = λ h. form_rank m h.form;
  head_leq = HeadCovered m;
  started = HeadStarts m;
  stays = HeadStays m;
  answers = HeadAnswers m;
  holds_both = HoldsStores (SetGamma m) (SetHeadGamma m);
  left = HeadLeft m;
  given_up = HeadGivenUp m;
  grown = HeadGrown m;
  grow_strains = HeadGrowStrains m;
  valued = HeadValued m;
  value_strains = λ h. HeadFormValueStrains m h.form;
}
