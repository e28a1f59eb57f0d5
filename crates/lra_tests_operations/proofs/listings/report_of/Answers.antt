-- Goals of `report_of`.
use Rattle.lra_operations.specs.TreeViews.{site_view}
use Rattle.std.proofs.Common.{map}
use Rattle.lra_tests_operations.proofs.Silent.{none_inside}
use Rattle.lra_tests_operations.proofs.listings.report_of.Goals as goal

pub list-requires-clause-inside : goal.list-requires-clause-inside
list-requires-clause-inside c g graph = none_inside g (map site_view c.args.sites.now) (c.requires.silent g graph)
