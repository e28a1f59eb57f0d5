-- What the code says of lines.
use Rattle.std.specs.Prelude.{◌≡◌, Result, Ok, Err, ⊤}
use Rattle.lra_certificate_lines.specs.declared.refusals.VerifyError.TheVariants.{Refused, Memory}
use Rattle.lra_certificate_lines.specs.declared.refusals.VerifyRefusal.{VerifyRefusal}
use Rattle.lra_certificate_lines.specs.declared.refusals.VerifyRefusal.TheVariants.{Source, Paths, Line}
use Rattle.lra_certificate_lines.specs.{Views.fault_view, declared.refusals.VerifyError.VerifyError}
use Rattle.lra_certificate_spec.specs.Judged.{Judged}

-- the code's answer is that of the definition, unless memory runs out
abbrev pub IsLineRefusal : {B : Type 0} → Judged B → VerifyRefusal → Type 0
IsLineRefusal j (Line n fault) = j ≡ Err (record { line = n; fault = fault_view fault })
IsLineRefusal j (Source r) = ⊥
IsLineRefusal j (Paths p) = ⊥

abbrev pub IsFault : {B : Type 0} → Judged B → VerifyError → Type 0
IsFault j (Refused r) = IsLineRefusal j r
IsFault j Memory = ⊤

-- a line is refused, and memory doesn't run out
abbrev pub IsRefusal : VerifyError → Type 0
IsRefusal (Refused r) = ⊤
IsRefusal Memory = ⊥

abbrev pub IsJudgedAs : {A B : Type 0} → (A → B) → Judged B → Result A VerifyError → Type 0
IsJudgedAs view j (Ok x) = j ≡ Ok (view x)
IsJudgedAs view j (Err e) = IsFault j e
