-- What the bounds of an assignment are.
use Rattle.std.specs.Prelude.{List, slice_index_or, Option, None, Some}
use Rattle.lra_domain.specs.Actions.{Action, assign, forget, test, embed, remove_last}
use Rattle.lra_box.specs.declared.interval.Side.TheVariants.{Low, High}
use Rattle.lra_box.specs.{Bounds.full_interval, Bounds.IsExtreme, declared.interval.Interval.Interval}

-- the bounds that an assignment gives are the least and the greatest value of its form over the old box
abbrev pub AssignsExtremes : Action → Option (List Interval) → Option (List Interval) → Type 0
AssignsExtremes (assign x e) None b = Unit {0}
AssignsExtremes (assign x e) (Some is) None = ⊥
AssignsExtremes (assign x e) (Some is) (Some js) =
    IsExtreme Low is e (slice_index_or js x full_interval).low ×
    IsExtreme High is e (slice_index_or js x full_interval).high
AssignsExtremes (forget x) a b = Unit {0}
AssignsExtremes (test kind e) a b = Unit {0}
AssignsExtremes (embed k) a b = Unit {0}
AssignsExtremes (remove_last k) a b = Unit {0}
