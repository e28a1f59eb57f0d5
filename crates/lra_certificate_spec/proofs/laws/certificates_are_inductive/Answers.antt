use Rattle.lra_certificate_spec.proofs.CertificatesKept.{certificates_are_inductive}
use Rattle.lra_certificate_spec.proofs.laws.certificates_are_inductive.Goals as goal

pub returns : goal.returns
returns c = λ P g d m. certificates_are_inductive P g d m
