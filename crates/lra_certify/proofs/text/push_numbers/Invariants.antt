use Rattle.std.proofs.Common.{◌≡◌, ◌++◌, take, string_bytes}
use Rattle.lra_certify.specs.Crates.lra_certificate_spec.CertificateText.{numbers_text}
use Rattle.lra_certify.proofs.text.push_numbers.Given as goal

abbrev pub invariant-loop-number : goal.invariant-loop-number
invariant-loop-number l = string_bytes l.text ≡ string_bytes l.initial.text ++ numbers_text (take l.number-index l.numbers)
