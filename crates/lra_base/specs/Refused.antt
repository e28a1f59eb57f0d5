-- What is reported about an answer that may be a refusal.
use Rattle.std.specs.Prelude.{Result, Ok, Err, ⊤}
use Rattle.lra_base.specs.declared.error.SourceError.TheVariants.{Refused, Memory}
use Rattle.lra_base.specs.{declared.error.SourceError.SourceError, declared.refusals.Refusal.Refusal}

-- a fact of the refusal, if there is one
abbrev pub IfRefusal : (Refusal → Type 0) → SourceError → Type 0
IfRefusal P (Refused r) = P r
IfRefusal P Memory = ⊤

abbrev pub IfRefused : {X : Type 0} → Result X SourceError → (Refusal → Type 0) → Type 0
IfRefused (Ok x) P = ⊤
IfRefused (Err e) P = IfRefusal P e
