-- Goals of `push_flattened`: each row combined with the line, after what is there.
use Rattle.std.proofs.{Common.arith, Common.◌<◌, Common.length, Common.rules, Common.FitsSigned, Common.subst, Common.get_or, Common.pos, Common.List, Common.ℤ, Common.[], lemmas.Int.to_z-of_z}
use Rattle.std.specs.Int.{w128}
use Rattle.lra_double_description.specs.Steps.{IsFlattened}
use Rattle.lra_double_description.proofs.Flattening.{flattened_more, at_place}
use Rattle.lra_double_description.proofs.line_step.push_flattened.Goals as goal

pub loop-place-preserved : goal.loop-place-preserved
loop-place-preserved c =
    let place = c.loop-place.place in
    let products = c.args.products.now in
    let rows = c.args.rows.now in
    let inside : place < length rows = omega (arith, c.loop-place-test.true, c.loop-place.auto.place-end) in
    let fits : FitsSigned w128 (get_or products place (pos 0)) = search rules in
    let none : List ℤ = [] in
    let flat = subst (λ (r : List ℤ). IsFlattened c.args.line.now (get_or products place (pos 0)) r c.in-Ok.flat) (at_place rows place c.index-rows-place.result none inside c.index-rows-place.is)
    (simp to_z-of_z at c.in-Ok.ensures.ok) in
    flattened_more c.args.line.now products rows c.args.out.now.items c.loop-place.out.items c.push.new.self.items place c.in-Ok.flat c.requires.each inside c.in_ok-push-in-Ok.ensures.items flat
    c.loop-place.invariant
