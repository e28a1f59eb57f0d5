-- Goals of `SatMatrix::truncate`: keeps so many rows at the start.
use Rattle.std.proofs.{Common.List, Common.Bool, Common.length, Common.subst, Common.sym, Common.◌≡◌, lemmas.List.Elements.All-take}
use Rattle.std.specs.List.{All}
use Rattle.lra_bits.proofs.sat_matrix.SatMatrix.truncate.Goals as goal

pub invariant_of-self : goal.invariant_of-self
invariant_of-self c =
    let i = c.self.inside in
    subst (All (λ (r : List Bool). length r ≡ i.width)) (sym c.truncate.ensures.items)
    (All-take (λ (r : List Bool). length r ≡ i.width) c.args.count i.rows.items c.self.invariant)
