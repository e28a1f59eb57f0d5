-- Goals of `cut_rays`: takes the row with these products in.
use Rattle.std.proofs.Common.{arith, refl, sym, subst, length, ◌≡◌, ℕ}
use Rattle.std.specs.List.{All}
use Rattle.lra_double_description.specs.declared.pairs.Pair.{Pair}
use Rattle.lra_double_description.proofs.Cuts.{pairs_up, pairs_down, pairs_tight}
use Rattle.lra_double_description.proofs.ray_step.cut_rays.Goals as goal

pub overflow_add-count : goal.overflow_add-count
overflow_add-count c = omega (arith, c.count_inside.ensures.most, c.requires.each, c.requires.few, c.len.ensures, c.in_ok-pairs.pairs.small)

pub combine_pairs-requires-clause-up : goal.combine_pairs-requires-clause-up
combine_pairs-requires-clause-up c = pairs_up c.args.products.now c.args.saturation.now.rows
    (length c.args.rays.now) c.in_ok-pairs.pairs.items c.deref.result.now c.deref.ensures.value c.requires.each c.in_ok-pairs.ensures

pub combine_pairs-requires-clause-down : goal.combine_pairs-requires-clause-down
combine_pairs-requires-clause-down c = pairs_down c.args.products.now c.args.saturation.now.rows
    (length c.args.rays.now) c.in_ok-pairs.pairs.items c.deref.result.now c.deref.ensures.value c.requires.each c.in_ok-pairs.ensures

pub rows_of_pairs-requires : goal.rows_of_pairs-requires
rows_of_pairs-requires c =
    let pairs = c.in_ok-pairs.pairs.items in
    subst (λ (n : ℕ). All (λ (p : Pair). length p.tight ≡ n) pairs) (sym c.width.ensures.width)
    (pairs_tight c.args.products.now c.args.saturation.now pairs pairs refl c.requires.matrix c.requires.equal c.in_ok-pairs.ensures)
