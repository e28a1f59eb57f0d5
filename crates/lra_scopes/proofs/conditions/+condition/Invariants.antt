-- The faults of the operands that are left are those of the whole; what the first ones mean is there.
use Rattle.std.proofs.Common.{◌≡◌, map, take, drop}
use Rattle.std.specs.List.{flat_map}
use Rattle.lra_syntax.specs.{Views.conjunction_view, Views.cond_view as tree_cond_view, declared.trees.Cond.out-Cond, declared.trees.Conjunction.out-Conjunction}
use Rattle.lra_program.specs.ProgramViews.{cond_view}
use Rattle.lra_resolution_spec.specs.NameFaults.{conjunction_faults, cond_faults}
use Rattle.lra_scopes.proofs.CondLaws.{faults_of_test, test_means, faults_of_conjunction, conjunction_means}
use Rattle.lra_scopes.proofs.conditions.+condition.Given as goal

abbrev pub invariant-resolve_conjunction-tests : goal.invariant-resolve_conjunction-tests
invariant-resolve_conjunction-tests l = record {
  first : cond_view l.first ≡ test_means l.scope (out-Conjunction l.conjunction).first;
  clean : conjunction_faults l.scope (conjunction_view l.conjunction) ≡ flat_map (faults_of_test l.scope) (drop l.test-index l.test-items);
  found : map cond_view l.rest.items ≡ map (test_means l.scope) (take l.test-index l.test-items);
}

abbrev pub invariant-resolve_cond-conjunctions : goal.invariant-resolve_cond-conjunctions
invariant-resolve_cond-conjunctions l = record {
  first : cond_view l.first ≡ conjunction_means l.scope (out-Cond l.cond).first;
  clean : cond_faults l.scope (tree_cond_view l.cond) ≡ flat_map (faults_of_conjunction l.scope) (drop l.conjunction-index l.conjunction-items);
  found : map cond_view l.rest.items ≡ map (conjunction_means l.scope) (take l.conjunction-index l.conjunction-items);
}
