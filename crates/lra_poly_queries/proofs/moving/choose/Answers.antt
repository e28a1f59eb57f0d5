-- Goals of `choose`: the row with the columns of these dimensions.
use Rattle.std.proofs.{Common.rules, Common.◌≡◌, Common.◌++◌, Common.◌∷◌, Common.[], Common.FitsSigned, Common.subst, Common.sym, lemmas.Int.to_z-of_z, lemmas.List.Elements.All-push}
use Rattle.std.specs.{Int.w128, List.All}
use Rattle.lra_poly_queries.specs.Crates.lra_linear_spec.Range.{InRange}
use Rattle.lra_poly_queries.proofs.MovedSets.{one_chosen}
use Rattle.lra_poly_queries.proofs.moving.choose.Goals as goal

pub loop-dim-preserved : goal.loop-dim-preserved
loop-dim-preserved c =
    let items = c.loop-dim.numbers.items in
    let number = c.coordinate.result in
    let fits : FitsSigned w128 number = search rules in
    let e : c.push-in-loop-dim.new.self.items ≡ items ++ number ∷ [] =
    simp to_z-of_z at c.in_ok-push-2.ensures.items in
    record {
      items = one_chosen c.args.row.now items c.push-in-loop-dim.new.self.items c.args.dims.now c.loop-dim.dim-index
          number c.loop-dim.invariant.items c.loop-dim-test.true c.coordinate.ensures.entry e;
      range = subst (All InRange) (sym e)
          (All-push InRange items number c.loop-dim.invariant.range c.coordinate.ensures.in_range);
    }
