-- What stands for the errors of the parts.
use Rattle.std.specs.Prelude.{⊤, ℕ}
use Rattle.lra_back_source.specs.Crates.{lra_back.declared.analysis.BackFailure.BackFailure}
use Rattle.lra_back_source.specs.Crates.{lra_base.declared.error.SourceError.SourceError, lra_operations.Tree.Node}
use Rattle.lra_back_source.specs.Crates.{lra_paths.Paths.HasTooManyPaths, lra_program.Assertions.IsAssertion}
use Rattle.lra_back_source.specs.Crates.{lra_program.Program.Program, lra_program.Sites.sites_of}
use Rattle.lra_back_source.specs.Crates.lra_base.declared.error.SourceError.TheVariants as of_source
use Rattle.lra_back_source.specs.Crates.lra_back.declared.analysis.BackFailure.TheVariants as of_back
use Rattle.lra_back_source.specs.declared.refusals.BackError.TheVariants.{Refused, Memory}
use Rattle.lra_back_source.specs.declared.refusals.BackRefusal.TheVariants.{Source, NoAssertion, Paths}
use Rattle.lra_back_source.specs.{declared.refusals.BackError.BackError, declared.refusals.BackRefusal.BackRefusal}

abbrev pub source_error : SourceError → BackError
source_error (of_source.Refused r) = Refused (Source r)
source_error of_source.Memory = Memory

abbrev pub error_by : BackFailure → BackError
error_by of_back.NoAssertion = Refused NoAssertion
error_by (of_back.TooMany q) = Refused (Paths q)
error_by of_back.Memory = Memory

-- why a program isn't gone back over from the point
abbrev pub IsFailure : Program → Node → ℕ → BackFailure → Type 0
IsFailure P g p of_back.NoAssertion = IsAssertion (sites_of P) p → ⊥
IsFailure P g p (of_back.TooMany q) = IsAssertion (sites_of P) p × HasTooManyPaths P g q
IsFailure P g p of_back.Memory = ⊤

-- a fact of the refusal, if there is one
abbrev pub IfRefusal : (BackRefusal → Type 0) → BackError → Type 0
IfRefusal P (Refused r) = P r
IfRefusal P Memory = ⊤
