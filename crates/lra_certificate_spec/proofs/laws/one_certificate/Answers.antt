use Rattle.lra_certificate_spec.proofs.OneCertificate.{one_certificate}
use Rattle.lra_certificate_spec.proofs.laws.one_certificate.Goals as goal

pub returns : goal.returns
returns c = λ bytes x y. one_certificate bytes x y
