-- So far the states of the first values are there, with their dimensions.
use Rattle.std.proofs.Common.{◌≡◌, map, take}
use Rattle.std.specs.List.{AllByRecursion}
use Rattle.lra_certify_source.specs.Crates.{lra_linear_spec.Polyhedra.IsPolyhedron, lra_verify.PointViews.state_view}
use Rattle.lra_certify_source.specs.Extraction.{state_by, dims_by, dims_in}
use Rattle.lra_certify_source.proofs.extraction.states_of.Given as goal

abbrev pub invariant-values : goal.invariant-values
invariant-values l = record {
  states : map state_view l.states.items ≡ map state_by (take l.value-index l.values);
  dims : map dims_in l.states.items ≡ map dims_by (take l.value-index l.values);
  canonical : AllByRecursion IsPolyhedron (take l.value-index l.values);
}
