-- Goals of `remove_marked`: takes out the rows that are marked; the others keep their order.
use Rattle.std.proofs.{Common.◌≡◌, Common.◌<◌, Common.List, Common.ℤ, Common.[], Common.length, Common.sym, Common.◌∙◌, Common.arith, lemmas.Grind.common_steps}
use Rattle.std.specs.Vec.{vec_len}
use Rattle.lra_bits.proofs.Removal.{kept_gone, kept_stays}
use Rattle.lra_canonical.proofs.redundancy.remove_marked.Goals as goal
use Rattle.lra_canonical.proofs.redundancy.remove_marked.Goals.{then-not-get, else-not-get}

pub loop-k-preserved : goal.loop-k-preserved
loop-k-preserved c =
    let rows = c.args.rows.now.items in
    let long : vec_len c.args.rows.now ≡ length rows = grind (arith, common_steps) in
    let inside : c.loop-k.k < length rows = omega (arith, c.loop-k-test.true, c.len-k-end.ensures, long) in
    let none : List ℤ = [] in
    elim c.if-not-get.branch [
      | then-not-get w ↦ rw (w.rows-is, w.kept-is)
          (kept_stays c.args.gone.now rows c.loop-k.rows.items w.swap.new.self.items c.loop-k.kept c.loop-k.k none c.requires inside
          (sym c.get.ensures ∙ w.if-not-get.true) w.swap.ensures.items c.loop-k.invariant)
      | else-not-get w ↦ rw (w.rows-is, w.kept-is)
          (kept_gone c.args.gone.now rows c.loop-k.rows.items c.loop-k.kept c.loop-k.k none c.requires inside (sym c.get.ensures ∙ w.if-not-get.false) c.loop-k.invariant)
    ]
