-- Failures of one path, and those of its program.
use Rattle.lra_certify.specs.declared.failures.CertifyFailure.{CertifyFailure}
use Rattle.lra_certify.specs.{declared.failures.PathFailure.PathFailure, declared.failures.StrainedAt.StrainedAt}
use Rattle.lra_certify.specs.declared.failures.PathFailure.TheVariants as of_path
use Rattle.lra_certify.specs.declared.failures.CertifyFailure.TheVariants as of_program

abbrev pub failed_at : StrainedAt → PathFailure → CertifyFailure
failed_at at of_path.Strained = of_program.Strained at
failed_at at of_path.Memory = of_program.Memory
