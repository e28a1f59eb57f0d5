-- Goals of `Poly::same`: whether both have the same dimensions and the same points.
use Rattle.std.proofs.Common.{◌≡◌, rules}
use Rattle.lra_poly.proofs.SameLemmas.{same_decides, same_points}
use Rattle.lra_poly.proofs.poly.Poly.same.Goals as goal

pub returns-clause-lists : goal.returns-clause-lists
returns-clause-lists c =
    let p = c.args.self.now in
    let q = c.args.other.now in
    let dims : q.dims ≡ p.dims = search rules in
    same_decides p q c.rows.result.now c.rows-2.result.now c.are_same.result c.rows.ensures.canonical c.rows-2.ensures.canonical dims c.rows.ensures.rows c.rows-2.ensures.rows c.are_same.ensures

pub returns-clause-points : goal.returns-clause-points
returns-clause-points c = λ same.
    let p = c.args.self.now in
    let q = c.args.other.now in
    let dims : q.dims ≡ p.dims = search rules in
    same_points p q c.are_same.result c.rows.ensures.canonical c.rows-2.ensures.canonical same
    (same_decides p q c.rows.result.now c.rows-2.result.now c.are_same.result c.rows.ensures.canonical c.rows-2.ensures.canonical dims c.rows.ensures.rows c.rows-2.ensures.rows c.are_same.ensures)
