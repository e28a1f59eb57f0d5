-- The meaning of octagons.
use Rattle.std.specs.Prelude.{◌≡◌, ◌≤◌, None, ⊤}
use Rattle.lra_domain.specs.{Abstraction.Abstraction, Actions.HoldsStores, Actions.KeepsStores}
use Rattle.lra_octagon.specs.Content.{OctagonContent, WellFormedOctagon, OctagonGamma, OctagonWithin, IsTopMatrix}
use Rattle.lra_octagon.specs.Heads.{joined_cells, grown_cells, octagon_rank, OctagonAnswers, ClosesTo, ValuePasses}
use Rattle.lra_octagon.specs.Tables.{OctagonTransfersTo, OctagonTransferPasses}
use Rattle.lra_octagon.specs.{FormBounds.CellsTell, Parts.octagon_parts}

abbrev pub octagon_abstraction : Abstraction OctagonContent OctagonContent
octagon_abstraction = record {
  well_formed = WellFormedOctagon;
  gamma = OctagonGamma;
  dims = λ a. a.dims;
  parts = λ a. octagon_parts a.dims a.cells;
  capped = λ a c. 1 ≤ c;
  bounded = λ a f l h. CellsTell a.dims a.cells f l h;
  leq = OctagonWithin;
  top = λ n cap a. (a.dims ≡ n) × IsTopMatrix n a.cells;
  bottom = λ n cap a. a ≡ record { dims = n; cells = None };
  keeps = KeepsStores OctagonGamma;
  transferred = OctagonTransfersTo;
  strains = OctagonTransferPasses;
  joined = λ a b c. c ≡ record a { cells = joined_cells a.cells b.cells };
  join_strains = λ a b. ⊥;
  included = OctagonWithin;
  inclusion_strains = λ a b. ⊥;
  head_well_formed = WellFormedOctagon;
  head_gamma = OctagonGamma;
  head_dims = λ h. h.dims;
  head_capped = λ h c. 1 ≤ c;
  rank = octagon_rank;
  head_leq = OctagonWithin;
  started = λ a given h. h ≡ a;
  stays = λ h a mode. OctagonWithin a h;
  answers = λ h a mode i. OctagonAnswers h a i;
  holds_both = HoldsStores OctagonGamma OctagonGamma;
  left = λ old mode new. ⊤;
  given_up = λ old mode new. ⊥;
  grown = λ h a mode g. g ≡ record h { cells = grown_cells mode h.cells a.cells };
  grow_strains = λ h a mode. ⊥;
  valued = λ h a. (a.dims ≡ h.dims) × ClosesTo h.dims h.cells a.cells;
  value_strains = λ h. ValuePasses h.dims h.cells;
}
