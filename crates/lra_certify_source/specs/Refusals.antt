-- What stands for the errors of the parts.
use Rattle.std.specs.Prelude.{⊤}
use Rattle.lra_certify_source.specs.Crates.lra_base.declared.error.SourceError.{SourceError}
use Rattle.lra_certify_source.specs.Crates.lra_base.declared.error.SourceError.TheVariants as of_source
use Rattle.lra_certify.specs.declared.failures.CertifyFailure.{CertifyFailure}
use Rattle.lra_certify.specs.declared.failures.CertifyFailure.TheVariants as of_paths
use Rattle.lra_certify_source.specs.declared.refusals.CertifyError.{CertifyError}
use Rattle.lra_certify_source.specs.declared.refusals.CertifyError.TheVariants.{Refused, Memory}
use Rattle.lra_certify_source.specs.declared.refusals.CertifyRefusal.{CertifyRefusal}
use Rattle.lra_certify_source.specs.declared.refusals.CertifyRefusal.TheVariants.{Source, Paths, Strained}

abbrev pub source_error : SourceError → CertifyError
source_error (of_source.Refused r) = Refused (Source r)
source_error of_source.Memory = Memory

abbrev pub error_by : CertifyFailure → CertifyError
error_by (of_paths.TooMany p) = Refused (Paths p)
error_by (of_paths.Strained at) = Refused (Strained at)
error_by of_paths.Memory = Memory

-- a fact of the refusal, if there is one
abbrev pub IfRefusal : (CertifyRefusal → Type 0) → CertifyError → Type 0
IfRefusal P (Refused r) = P r
IfRefusal P Memory = ⊤
