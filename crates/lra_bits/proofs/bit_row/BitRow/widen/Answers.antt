-- Goals of `BitRow::widen`: one more value, false, after the others.
use Rattle.lra_bits.proofs.{Widening.widened_word, Widening.widened_within, bit_row.BitRow.widen.Goals.then-self-eq0+in_ok-push, bit_row.BitRow.widen.Goals.else-self-eq0}
use Rattle.lra_bits.proofs.bit_row.BitRow.widen.Goals as goal

pub returns-clause-widened : goal.returns-clause-widened
returns-clause-widened c =
    let i = c.self.inside in
    elim c.if-self-eq0.branch [
      | then-self-eq0+in_ok-push w ↦ rw (w.self-inside-is, c.in-Some.ensures.1)
          (widened_word i.width i.words.items w.push.new.self.items c.args.self.now c.self.view_is c.self.invariant.0 c.self.invariant.1 w.in_ok-push.ensures.items)
      | else-self-eq0 w ↦ rw (w.self-inside-is, c.in-Some.ensures.1) (widened_within i.width i.words.items c.args.self.now c.self.view_is c.self.invariant.0 c.self.invariant.1)
    ]
