-- Goals of `after_text`: where the next line begins, if the line that begins here is this text.
use Rattle.std.proofs.Common.{sym, ◌∙◌, ap, nat_eq, List, ℕ, [], ◌∷◌}
use Rattle.std.specs.List.{starts_with}
use Rattle.lra_certificate_spec.proofs.LineSteps.{text_none, text_unended, text_found}
use Rattle.lra_certificate_lines.proofs.lines.after_text.Goals as goal

pub returns-then-not-starts_with : goal.returns-then-not-starts_with
returns-then-not-starts_with c =
    text_none c.args.bytes.now c.split_at.result.1.now c.args.text.now c.args.at c.split_at.ensures.back (sym c.starts_with.ensures.value ∙
    c.if-not-starts_with.true)

pub returns-then-not-starts_with-2 : goal.returns-then-not-starts_with-2
returns-then-not-starts_with-2 c =
    text_unended c.args.bytes.now c.split_at.result.1.now c.args.text.now c.args.at c.split_at.ensures.back
    (ap (λ (x : List ℕ). starts_with nat_eq x (10 ∷ [])) (sym c.split_at-2.ensures.back) ∙ sym c.starts_with-2.ensures.value ∙ c.if-not-starts_with-2.true)

pub returns : goal.returns
returns c =
    text_found c.args.bytes.now c.split_at.result.1.now c.args.text.now c.args.at c.split_at.ensures.back c.requires.place c.requires.text
    (sym c.starts_with.ensures.value ∙ c.if-not-starts_with.false)
    (ap (λ (x : List ℕ). starts_with nat_eq x (10 ∷ [])) (sym c.split_at-2.ensures.back) ∙ sym c.starts_with-2.ensures.value ∙ c.if-not-starts_with-2.false)
