-- From a fact of one answer's refusal to a fact of another's.
use Rattle.std.proofs.{Common.◌≡◌, Common.Result, Common.Ok, Common.Err, lemmas.Result.err_from_is_err_and}
use Rattle.std.specs.Result.{IsErrAnd}
use Rattle.lra_base.specs.Refused.{IfRefusal, IfRefused}
use Rattle.lra_base.specs.{declared.error.SourceError.SourceError, declared.error.SourceError.TheVariants.Refused, declared.error.SourceError.TheVariants.Memory, declared.refusals.Refusal.Refusal}

pub refusal_by : (P Q : Refusal → Type 0) → ((r : Refusal) → P r → Q r) → (e : SourceError) → IfRefusal P e → IfRefusal Q e
refusal_by P Q by (Refused r) h = by r h
refusal_by P Q by Memory h = tt {0}

-- an answer that is handed on
pub refused_by : {X : Type 0} (P Q : Refusal → Type 0) → ((r : Refusal) → P r → Q r) → (x : Result X SourceError) → IfRefused x P → IfRefused x Q
refused_by P Q by (Ok v) h = tt {0}
refused_by P Q by (Err e) h = refusal_by P Q by e h

-- an exit by the error of a call
pub exit_refused : {X : Type 0} (P : Refusal → Type 0) (x : Result X SourceError) (e : SourceError) → IsErrAnd x (λ y. y ≡ e) → IfRefusal P e → IfRefused x P
exit_refused P x e is h = let p = err_from_is_err_and x is in rw (p.1, p.2) h
