-- Goals of `Search::visit_all`: meets places.
use Rattle.std.proofs.{Common.subst, Common.sym, lemmas.List.take_more}
use Rattle.lra_recursion.specs.Search.{MarksVisited}
use Rattle.lra_recursion.proofs.Visiting.{grows_then}
use Rattle.lra_recursion.proofs.search.Search.visit_all.Goals as goal

pub places-preserved : goal.places-preserved
places-preserved c =
    subst (λ ps. MarksVisited ps c.args.self.now.visited.items c.args.self.now.left.items c.visit.new.self.visited.items c.visit.new.self.left.items)
    (sym (take_more c.args.places.now c.places.place-index 0 c.places-test.true))
    (grows_then _ _ _ _ _ _ _ _ c.places.invariant c.in_ok-visit.ensures)
