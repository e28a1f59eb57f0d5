-- What the changes of bounds answer.
use Rattle.std.specs.Prelude.{◌≡◌, ℕ, ℤ, List, slice_set, Option}
use Rattle.lra_box.specs.Crates.lra_linear_forms.Form.{Form, form_value}
use Rattle.lra_domain.specs.declared.Exactness.TheVariants.{Exact, Flagged}
use Rattle.lra_domain.specs.{Actions.assign, declared.Exactness.Exactness}
use Rattle.lra_box.specs.Content.{BoundsFit, BoundsAreValid}
use Rattle.lra_box.specs.Tables.{has_bounds, on_bounds, assigned_bounds, AssignPasses, BoundsWithin}
use Rattle.lra_box.specs.{Extremes.AssignsExtremes, declared.interval.Interval.Interval}

-- bounds tested to new ones: the table's unless flagged, and wider ones with each store that passes then
pub record TestedTo (table : Option (List Interval)) (passes : Type 0) (keeps : List ℤ → Type 0)
    (old new : Option (List Interval)) (e : Exactness) : Type 0 where
  pub exact : e ≡ Exact → new ≡ table
  pub flagged : e ≡ Flagged → passes
  pub covers : BoundsWithin table new
  pub stores : (s : List ℤ) → has_bounds old s → keeps s → has_bounds new s
  pub sound : BoundsAreValid new
  pub fit : (n : ℕ) → BoundsFit n old → BoundsFit n new

-- bounds to which a form was assigned at a place
pub record AssignedTo (x : ℕ) (f : Form) (old new : Option (List Interval)) (e : Exactness) : Type 0 where
  pub exact : e ≡ Exact → new ≡ on_bounds (assigned_bounds x f) old
  pub extremes : e ≡ Exact → AssignsExtremes (assign x f) old new
  pub flagged : e ≡ Flagged → AssignPasses f old
  pub covers : BoundsWithin (on_bounds (assigned_bounds x f) old) new
  pub stores : (s : List ℤ) → has_bounds old s → has_bounds new (slice_set s x (form_value f s))
  pub sound : BoundsAreValid new
  pub fit : (n : ℕ) → BoundsFit n old → BoundsFit n new
