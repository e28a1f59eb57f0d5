-- Goals of `SatMatrix::remove_rows`: takes out the rows that are marked as gone; the others keep their order.
use Rattle.std.proofs.{Common.◌≡◌, Common.ℕ, Common.◌<◌, Common.List, Common.Bool, Common.length, Common.sym, Common.◌∙◌, Common.ap, Common.subst, Common.arith, Common.[], lemmas.Grind.common_steps}
use Rattle.std.specs.{List.All, Vec.vec_len}
use Rattle.lra_bits.specs.Matrix.{Matrix, unmarked}
use Rattle.lra_bits.proofs.Removal.{kept_gone, kept_stays, kept_end, ends_all}
use Rattle.lra_bits.proofs.sat_matrix.SatMatrix.remove_rows.Goals.{then-not-get, else-not-get}
use Rattle.lra_bits.proofs.sat_matrix.SatMatrix.remove_rows.Goals as goal

pub loop-k-preserved : goal.loop-k-preserved
loop-k-preserved c =
    let i = c.self.inside in
    let rows = i.rows.items in
    let long : vec_len i.rows ≡ length rows = grind (arith, common_steps) in
    let same : length c.args.gone.now ≡ length rows = c.requires ∙ ap (λ m. length m.rows) (sym c.self.view_is) in
    let inside : c.loop-k.k < length rows = omega (arith, c.loop-k-test.true, c.len-k-end.ensures, long) in
    let none : List Bool = [] in
    elim c.if-not-get.branch [
      | then-not-get w ↦ rw (w.self-inside-is, w.kept-is) (
        c.loop-k.invariant.0,
        kept_stays c.args.gone.now rows c.loop-k.self-inside.rows.items w.swap.new.self.items c.loop-k.kept c.loop-k.k none same inside
            (sym c.get.ensures ∙ w.if-not-get.true) w.swap.ensures.items c.loop-k.invariant.1,
      )
      | else-not-get w ↦ rw (w.self-inside-is, w.kept-is)
          (c.loop-k.invariant.0, kept_gone c.args.gone.now rows c.loop-k.self-inside.rows.items c.loop-k.kept c.loop-k.k none same inside (sym c.get.ensures ∙ w.if-not-get.false) c.loop-k.invariant.1)
    ]

pub invariant_of-self : goal.invariant_of-self
invariant_of-self c =
    let i = c.self.inside in
    let rows = i.rows.items in
    let long : vec_len i.rows ≡ length rows = grind (arith, common_steps) in
    let same : length c.args.gone.now ≡ length rows = c.requires ∙ ap (λ m. length m.rows) (sym c.self.view_is) in
    let all : c.loop-k.k ≡ length rows = omega (arith, c.loop-k-test.false, c.loop-k.auto.k-end, c.len-k-end.ensures, long) in
    let end = kept_end c.args.gone.now rows c.loop-k.self-inside.rows.items c.truncate.new.self.items c.loop-k.kept c.loop-k.k same all c.truncate.ensures.items c.loop-k.invariant.1 in
    let w : c.loop-k.self-inside.width ≡ i.width = c.loop-k.invariant.0 in
    subst (λ (n : ℕ). All (λ r. length r ≡ n) c.truncate.new.self.items) (sym w) (ends_all (λ r. length r ≡ i.width) c.args.gone.now rows c.truncate.new.self.items end c.self.invariant)

pub returns : goal.returns
returns c =
    let i = c.self.inside in
    let rows = i.rows.items in
    let long : vec_len i.rows ≡ length rows = grind (arith, common_steps) in
    let same : length c.args.gone.now ≡ length rows = c.requires ∙ ap (λ m. length m.rows) (sym c.self.view_is) in
    let all : c.loop-k.k ≡ length rows = omega (arith, c.loop-k-test.false, c.loop-k.auto.k-end, c.len-k-end.ensures, long) in
    let end = kept_end c.args.gone.now rows c.loop-k.self-inside.rows.items c.truncate.new.self.items c.loop-k.kept c.loop-k.k same all c.truncate.ensures.items c.loop-k.invariant.1 in
    let P : Matrix → Type 0 = λ m. record { width = c.loop-k.self-inside.width; rows = c.truncate.new.self.items } ≡ record { width = m.width; rows = unmarked c.args.gone.now m.rows } in
    subst P c.self.view_is (ap (λ n. record { width = n; rows = c.truncate.new.self.items }) c.loop-k.invariant.0 ∙ ap (λ xs. record { width = i.width; rows = xs }) end)
