-- Goals of `push_multipliers`: the line of this word with the multipliers.
use Rattle.std.proofs.{Common.◌++◌, Common.◌∙◌, Common.rules, Common.ap, Common.FitsSigned, Common.List, Common.ℤ, Common.string_bytes, lemmas.Int.to_z-of_z}
use Rattle.std.specs.Int.{w128}
use Rattle.lra_certify.specs.Crates.{lra_certificate_spec.CertificateText.numbers_text, lra_multipliers.MultiplierViews.multipliers_view}
use Rattle.lra_certify.proofs.TextSteps.{multipliers_line}
use Rattle.lra_certify.proofs.text.push_multipliers.Goals as goal

pub returns : goal.returns
returns c =
    let d : FitsSigned w128 c.args.m.now.divisor = search rules in
    let k : FitsSigned w128 c.args.m.now.constant = search rules in
    let written = simp to_z-of_z at c.in_ok-write.ensures.bytes in
    multipliers_line (string_bytes c.args.text.now) (string_bytes c.write.new.self) (string_bytes c.push_numbers.new.text) (string_bytes c.push_str.new.self)
    c.args.word.now (multipliers_view c.args.m.now) written
    (c.in_ok-push_numbers.ensures ∙ ap (λ (fs : List ℤ). string_bytes c.write.new.self ++ numbers_text fs) c.as_slice.ensures.value)
    c.in_ok-push_str.ensures.bytes
