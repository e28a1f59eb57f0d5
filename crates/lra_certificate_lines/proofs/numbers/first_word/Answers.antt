-- Goals of `first_word`: the first word of a text that begins with a space.
use Rattle.std.proofs.Common.{sym, ◌∙◌}
use Rattle.lra_certificate_spec.proofs.NumberSteps.{no_word, word_cut}
use Rattle.lra_certificate_lines.proofs.numbers.first_word.Goals as goal

pub returns-then-not-starts_with : goal.returns-then-not-starts_with
returns-then-not-starts_with c = no_word c.args.text.now (sym c.starts_with.ensures.value ∙ c.if-not-starts_with.true)

pub returns : goal.returns
returns c =
    word_cut c.args.text.now c.split_at.result.1.now c.split_at-2.result.0.now c.place_of.result (sym c.starts_with.ensures.value ∙
    c.if-not-starts_with.false)
    c.split_at.ensures.back c.place_of.ensures.place c.split_at-2.ensures.front
