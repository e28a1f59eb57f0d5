-- The meaning of boxes.
use Rattle.std.specs.Prelude.{◌≡◌, ◌≤◌, ℕ, ℤ, List, length, replicate, Some, None, ⊤}
use Rattle.lra_domain.specs.Actions.{Action, HoldsStores, KeepsStores}
use Rattle.lra_domain.specs.declared.Included.TheVariants.{Yes, No, Wide}
use Rattle.lra_domain.specs.{Abstraction.Abstraction, declared.Included.Included}
use Rattle.lra_box.specs.Tables.{has_bounds, stepped, BoxTransferPasses, joined_bounds, BoundsWithin, grown_bounds}
use Rattle.lra_box.specs.{Bounds.full_interval, Content.WellFormedBox, Content.BoxContent, Ends.BoundsTell}
use Rattle.lra_box.specs.{Extremes.AssignsExtremes, Parts.box_parts, Tables.rank_of}

-- the table's result; of an assignment with the form's least and greatest value
pub record BoxTransfersTo (step : Action) (old new : BoxContent) : Type 0 where
  pub table : new ≡ stepped step old
  pub extremes : AssignsExtremes step old.bounds new.bounds

-- the list is a store of the box: a number for each dimension, within the bounds
abbrev pub BoxGamma : BoxContent → List ℤ → Type 0
BoxGamma b s = (length s ≡ b.dims) × has_bounds b.bounds s

-- the box of n dimensions without bounds
abbrev pub top_box : ℕ → BoxContent
top_box n = record { dims = n; bounds = Some (replicate n full_interval) }

-- the first lies in the second, bound by bound
abbrev pub BoxWithin : BoxContent → BoxContent → Type 0
BoxWithin a b = (a.dims ≡ b.dims) × BoundsWithin a.bounds b.bounds

-- an inclusion answers what is so, and never exceeds a limit
abbrev pub BoxAnswers : BoxContent → BoxContent → Included → Type 0
BoxAnswers h a Yes = BoxWithin a h
BoxAnswers h a No = ¬ BoxWithin a h
BoxAnswers h a Wide = ⊥

abbrev pub box_abstraction : Abstraction BoxContent BoxContent
box_abstraction = record {
  well_formed = WellFormedBox;
  gamma = BoxGamma;
  dims = λ b. b.dims;
  parts = λ b. box_parts b.dims b.bounds;
  capped = λ b c. 1 ≤ c;
  bounded = λ b f l h. BoundsTell b.bounds f l h;
  leq = BoxWithin;
  top = λ n cap b. b ≡ top_box n;
  bottom = λ n cap b. b ≡ record { dims = n; bounds = None };
  keeps = KeepsStores BoxGamma;
  transferred = BoxTransfersTo;
  strains = BoxTransferPasses;
  joined = λ a b c. c ≡ record a { bounds = joined_bounds a.bounds b.bounds };
  join_strains = λ a b. ⊥;
  included = BoxWithin;
  inclusion_strains = λ a b. ⊥;
  head_well_formed = WellFormedBox;
  head_gamma = BoxGamma;
  head_dims = λ b. b.dims;
  head_capped = λ b c. 1 ≤ c;
  rank = rank_of;
  head_leq = BoxWithin;
  started = λ a given h. h ≡ a;
  stays = λ h a mode. BoxWithin a h;
  answers = λ h a mode i. BoxAnswers h a i;
  holds_both = HoldsStores BoxGamma BoxGamma;
  left = λ old mode new. ⊤;
  given_up = λ old mode new. new ≡ top_box old.dims;
  grown = λ h a mode g. g ≡ record h { bounds = grown_bounds mode h.bounds a.bounds };
  grow_strains = λ h a mode. ⊥;
  valued = λ h a. a ≡ h;
  value_strains = λ h. ⊥;
}
