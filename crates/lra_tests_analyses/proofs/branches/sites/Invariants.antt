use Rattle.std.proofs.Common.{◌≡◌, map, take}
use Rattle.lra_tests_analyses.specs.Sample.{sample_asserts}
use Rattle.lra_tests_analyses.proofs.branches.sites.Given as goal

abbrev pub invariant-sites : goal.invariant-sites
invariant-sites l = map (λ s. s.asserts) l.sites.items ≡ take l.asserts-index sample_asserts
