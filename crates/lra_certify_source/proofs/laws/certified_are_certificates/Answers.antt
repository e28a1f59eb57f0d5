-- Goals of `certified_are_certificates`.
use Rattle.lra_certify_source.proofs.Written.{certificates}
use Rattle.lra_certify_source.proofs.laws.certified_are_certificates.Goals as goal

pub returns : goal.returns
returns c = certificates
