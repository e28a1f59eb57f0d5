-- Goals of `Parts::push`: puts a row, tight where the values say, to its part.
use Rattle.lra_description_pair.proofs.TightRows.{part_tight, part_loose, not_both}
use Rattle.std.proofs.Common.{ap, arith, length, sym, ◌∙◌}
use Rattle.lra_description_pair.specs.Crates.lra_bits.Matrix.{Matrix}
use Rattle.lra_description_pair.proofs.Crates.lra_bits.AllTrue.{each_true, none_false}
use Rattle.lra_description_pair.proofs.own.Parts.push.Goals as goal

pub returns-in_ok-push-clause-parts : goal.returns-in_ok-push-clause-parts
returns-in_ok-push-clause-parts c = λ rays lines rows told before.
    let old = c.args.self.now in
    part_tight rays lines rows old.tight.items old.loose.items c.push.new.self.items old.saturation.rows c.args.row c.args.bits told
    (each_true c.args.bits (sym c.if-are_true.true ∙ c.are_true.ensures)) c.in_ok-push.ensures.items before

pub returns-in_ok-add_row-clause-parts : goal.returns-in_ok-add_row-clause-parts
returns-in_ok-add_row-clause-parts c = λ rays lines rows told before.
    let old = c.args.self.now in
    part_loose rays lines rows old.tight.items old.loose.items c.push-else-are_true.new.self.items old.saturation.rows c.add_row.new.self.rows c.args.row c.args.bits told
    (λ h. not_both c.are_true.result c.if-are_true.false (c.are_true.ensures ∙ sym (none_false c.args.bits (length c.args.bits) (omega arith) h))) c.in_ok-push-2.ensures.items
    (ap (λ (m : Matrix). m.rows) c.in_ok-add_row.ensures.added) before
