-- Goals of `each_certificate_answer`: each input that is to be a certificate must get one text and one status.
use Rattle.lra_commands.proofs.CertificateOutcomes.{each_answer}
use Rattle.lra_commands.proofs.law.each_certificate_answer.Goals as goal

pub returns : goal.returns
returns c = λ bytes. each_answer bytes
