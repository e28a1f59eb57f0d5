-- What refusals of the code stand for, and what is reported about an answer that may be one.
use Rattle.std.specs.Prelude.{Result, Ok, Err, ⊤}
use Rattle.lra_certificate_lines.specs.declared.refusals.VerifyError.TheVariants.{Refused, Memory}
use Rattle.lra_certificate_lines.specs.declared.refusals.VerifyRefusal.{VerifyRefusal}
use Rattle.lra_certificate_lines.specs.declared.refusals.VerifyRefusal.TheVariants.{Source, Paths, Line}
use Rattle.lra_certificate_lines.specs.{Views.fault_view, declared.refusals.VerifyError.VerifyError}
use Rattle.lra_verify.specs.Crates.lra_certificate_spec.Claims as claims

abbrev pub refusal_view : VerifyRefusal → claims.VerifyAnswer
refusal_view (Source r) = claims.source_refused r.cause r.place
refusal_view (Paths p) = claims.paths_refused p
refusal_view (Line n fault) = claims.line_refused (record { line = n; fault = fault_view fault })

-- a fact of the refusal, if there is one
abbrev pub IfRefusal : (claims.VerifyAnswer → Type 0) → VerifyError → Type 0
IfRefusal P (Refused r) = P (refusal_view r)
IfRefusal P Memory = ⊤

abbrev pub IfRefused : {X : Type 0} → Result X VerifyError → (claims.VerifyAnswer → Type 0) → Type 0
IfRefused (Ok x) P = ⊤
IfRefused (Err e) P = IfRefusal P e
