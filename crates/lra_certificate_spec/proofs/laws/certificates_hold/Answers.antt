use Rattle.lra_certificate_spec.proofs.CertificatesHold.{certificates_hold}
use Rattle.lra_certificate_spec.proofs.laws.certificates_hold.Goals as goal

pub returns : goal.returns
returns c = λ bytes x. certificates_hold bytes x
