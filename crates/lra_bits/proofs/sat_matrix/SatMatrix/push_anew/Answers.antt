-- Goals of `SatMatrix::push_anew`: a further column, by rows that are made again.
use Rattle.std.proofs.Common.{◌+◌, ◌≡◌, ◌∙◌, List, Bool, ap, arith, length, subst, suc, sym, ℕ}
use Rattle.std.specs.List.{All}
use Rattle.lra_bits.specs.Matrix.{Matrix, lengthened_rows}
use Rattle.lra_bits.proofs.Lengthening.{lengthened_widths}
use Rattle.lra_bits.proofs.sat_matrix.SatMatrix.push_anew.Goals as goal

pub invariant_of-self : goal.invariant_of-self
invariant_of-self c =
    let i = c.self.inside in
    let same : length c.args.last.now ≡ length i.rows.items = c.requires.each ∙ ap (λ (m : Matrix). length m.rows) (sym c.self.view_is) in
    let made = c.in_ok-rows.ensures ∙ ap (λ (m : Matrix). lengthened_rows m.rows c.args.last.now) (sym c.self.view_is) in
    subst (All (λ (r : List Bool). length r ≡ i.width + 1)) (sym made) (subst
    (λ (n : ℕ). All (λ (r : List Bool). length r ≡ n) (lengthened_rows i.rows.items c.args.last.now)) (one_more i.width)
    (lengthened_widths i.width i.rows.items c.args.last.now same c.self.invariant))
  where
    one_more : (n : ℕ) → suc n ≡ n + 1
    one_more n = omega arith
