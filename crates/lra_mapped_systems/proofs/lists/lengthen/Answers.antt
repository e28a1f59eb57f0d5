-- Goals of `lengthen`: the row with k zeros after it.
use Rattle.std.proofs.{Common.◌≡◌, Common.◌++◌, Common.◌∷◌, Common.[], Common.arith, Common.pos, Common.subst, Common.sym, lemmas.List.Elements.All-push}
use Rattle.std.specs.List.{All}
use Rattle.lra_mapped_systems.specs.Crates.lra_linear_spec.Range.{InRange}
use Rattle.lra_mapped_systems.proofs.PushedLists.{zero_pushed}
use Rattle.lra_mapped_systems.proofs.lists.lengthen.Goals as goal

pub loop-preserved : goal.loop-preserved
loop-preserved c =
    let items = c.loop.numbers.items in
    let more = c.push.new.self.items in
    let e : more ≡ items ++ pos 0 ∷ [] = c.in_ok-push.ensures.items in
    record {
      items = zero_pushed c.args.row.now items more c.loop.counter c.loop.invariant.items e;
      range = subst (All InRange) (sym e) (All-push InRange items (pos 0) c.loop.invariant.range (omega arith));
    }
