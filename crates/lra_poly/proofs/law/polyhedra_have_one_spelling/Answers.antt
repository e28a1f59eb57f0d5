-- Goals of `polyhedra_have_one_spelling`: does nothing.
use Rattle.lra_poly.proofs.Crates.{lra_linear_spec.OneSpelling.same_points_same_lists, lra_linear_spec.Polyhedra.con_gen}
use Rattle.lra_poly.proofs.law.polyhedra_have_one_spelling.Goals as goal

pub returns-clause-one : goal.returns-clause-one
returns-clause-one c = same_points_same_lists

pub returns-clause-both : goal.returns-clause-both
returns-clause-both c = con_gen
