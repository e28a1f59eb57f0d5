-- Goals of `others`: the rows other than this one.
use Rattle.std.proofs.Common.{◌∙◌, ap, arith, sym, cond, Bool, [], ◌∷◌}
use Rattle.lra_descriptions.specs.ShownLists.{without}
use Rattle.lra_descriptions.proofs.{Parted.without_append, Parted.one_kept, Parted.one_left, shown.others.Goals.then-not-are_same+in_ok-copy+in_ok-push, shown.others.Goals.else-not-are_same}
use Rattle.lra_descriptions.proofs.shown.others.Goals as goal

pub loop-other-preserved : goal.loop-other-preserved
loop-other-preserved c =
    let r = c.other-item.result in
    let row = c.args.row.now in
    elim c.if-not-are_same.branch [
      | then-not-are_same+in_ok-copy+in_ok-push w ↦ rw (w.others-is)
          (one_kept (without row) (without_append row) c.args.rows.now c.loop-other.other-index r w.in_ok-copy.field-0 c.loop-other.others.items w.push.new.self.items
          (omega (arith, c.loop-other-test.true)) c.other-item.is (ap (λ (b : Bool). cond b [] (r ∷ [])) (sym c.are_same.ensures ∙ w.if-not-are_same.true)) w.in_ok-copy.ensures
          w.in_ok-push.ensures.items c.loop-other.invariant)
      | else-not-are_same w ↦ rw (w.others-is)
          (one_left (without row) (without_append row) c.args.rows.now c.loop-other.other-index r c.loop-other.others.items (omega (arith, c.loop-other-test.true)) c.other-item.is
          (ap (λ (b : Bool). cond b [] (r ∷ [])) (sym c.are_same.ensures ∙ w.if-not-are_same.false)) c.loop-other.invariant)
    ]
