-- What holds of a cone once a row was to be added, by what came of it.
use Rattle.std.proofs.Common.{◌≡◌, ◌++◌, ◌∷◌, [], suc, ap, Result, Ok, Err}
use Rattle.std.specs.Result.{OnErr, OnOk}
use Rattle.lra_cone.specs.Crates.{lra_linear_spec.ConeStrain.IsIntersection, lra_linear_spec.Cones.all_rows, lra_linear_spec.Descriptions.LinearRow}
use Rattle.lra_double_description.specs.declared.strained.ConeError.{ConeError}
use Rattle.lra_cone.specs.Cones.{ConeContent, IsTakenIn}

module _ {T : Type 0} (old : ConeContent) (g : LinearRow) (new : ConeContent) where
  pub dims_then : (r : Result T ConeError) → OnOk r (IsTakenIn old g new) → OnErr r (new ≡ old) → new.dims ≡ old.dims
  dims_then (Ok v) x _ = x.dims
  dims_then (Err e) _ same = ap (λ (s : ConeContent). s.dims) same

  pub taken_then : (r : Result T ConeError) → OnOk r (IsTakenIn old g new) → OnOk r (new.taken ≡ old.taken ++ g ∷ [])
  taken_then (Ok v) x = x.taken
  taken_then (Err e) _ = tt

  pub met_then : (r : Result T ConeError) → OnOk r (IsTakenIn old g new) → OnOk r (IsIntersection (suc old.dims) g.equal g.row (all_rows old.lines old.rays) (all_rows new.lines new.rays))
  met_then (Ok v) x = x.met
  met_then (Err e) _ = tt
