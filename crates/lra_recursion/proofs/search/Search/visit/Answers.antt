-- Goals of `Search::visit`: meets a place.
use Rattle.std.proofs.Common.{rules}
use Rattle.lra_recursion.proofs.Visiting.{meets_one}
use Rattle.lra_recursion.proofs.search.Search.visit.Goals as goal

pub returns-in_ok-push : goal.returns-in_ok-push
returns-in_ok-push c =
    meets_one c.args.self.now.visited.items c.args.self.now.left.items c.push.new.self.items c.args.place (search rules) (search rules)
    c.in_ok-push.ensures.items
