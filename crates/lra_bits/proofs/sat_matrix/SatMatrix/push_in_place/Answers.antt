-- Goals of `SatMatrix::push_in_place`: a further column, in words that are there.
use Rattle.std.proofs.Common.{◌+◌, ◌≡◌, ◌≢◌, ◌∙◌, ◌%◌, ◌<◌, ◌^◌, List, Bool, ap, arith, length, subst, suc, sym, ℕ}
use Rattle.std.specs.List.{All}
use Rattle.lra_bits.specs.Matrix.{Matrix, lengthened_rows}
use Rattle.lra_bits.proofs.Lengthening.{are_few, have_room, kept_whole, lengthened_length, lengthened_widths}
use Rattle.lra_bits.proofs.sat_matrix.SatMatrix.push_in_place.Goals as goal

pub push_values-requires-clause-room : goal.push_values-requires-clause-room
push_values-requires-clause-room c =
    let i = c.self.inside in
    let room : i.width % 64 ≢ 0 = subst (λ (m : Matrix). m.width % 64 ≢ 0) (sym c.self.view_is) c.requires.room in
    subst (All (λ (r : List Bool). length r % 64 ≢ 0)) (sym c.as_mut_slice.ensures.value) (have_room i.width i.rows.items room c.self.invariant)

pub push_values-requires-clause-few : goal.push_values-requires-clause-few
push_values-requires-clause-few c =
    let i = c.self.inside in
    let few : i.width + 1 < 2 ^ 64 = subst (λ (m : Matrix). m.width + 1 < 2 ^ 64) (sym c.self.view_is) c.requires.few in
    subst (All (λ (r : List Bool). length r + 1 < 2 ^ 64)) (sym c.as_mut_slice.ensures.value) (are_few i.width (2 ^ 64) i.rows.items few c.self.invariant)

pub invariant_of-self : goal.invariant_of-self
invariant_of-self c =
    let i = c.self.inside in
    let same : length c.args.last.now ≡ length i.rows.items = c.requires.each ∙ ap (λ (m : Matrix). length m.rows) (sym c.self.view_is) in
    let made = c.push_values.ensures ∙ ap (λ (l : List (List Bool)). lengthened_rows l c.args.last.now) c.as_mut_slice.ensures.value in
    let many : length c.push_values.new.rows ≡ length i.rows.items = ap length made ∙ lengthened_length i.rows.items c.args.last.now same in
    let whole = kept_whole i.rows.len c.push_values.new.rows i.rows.items (sym (many ∙ sym (ap length c.as_mut_slice.ensures.value) ∙
    c.as_mut_slice.ensures.len)) in
    subst (All (λ (r : List Bool). length r ≡ i.width + 1)) (sym (whole ∙ made)) (subst
    (λ (n : ℕ). All (λ (r : List Bool). length r ≡ n) (lengthened_rows i.rows.items c.args.last.now)) (one_more i.width)
    (lengthened_widths i.width i.rows.items c.args.last.now same c.self.invariant))
  where
    one_more : (n : ℕ) → suc n ≡ n + 1
    one_more n = omega arith
