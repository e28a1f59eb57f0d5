use Rattle.std.proofs.Common.{◌≡◌, ◌∷◌, map, drop, get_or}
use Rattle.lra_program.specs.ProgramViews.{cond_view}
use Rattle.lra_transfer.specs.Splits.{IsEitherSoFar}
use Rattle.lra_transfer.proofs.conditions.divide_lefts.Given as goal

abbrev pub invariant-operands : goal.invariant-operands
invariant-operands g l = record {
  either : IsEitherSoFar g.D.Domain.abstraction l.around.base l.wanted (cond_view l.first) (map cond_view l.rest) l.fn.from l.lefts.items l.off
      (cond_view l.last)
      (map cond_view (drop l.next-index l.rest));
  at : l.last ≡ get_or (l.first ∷ l.rest) l.next-index l.last;
}
