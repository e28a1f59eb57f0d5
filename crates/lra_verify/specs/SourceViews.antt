-- Programs, with the segments from their sources, as the code judges them.
use Rattle.std.specs.List.{All}
use Rattle.std.specs.Prelude.{◌≡◌, ◌<◌, ℕ, suc, List, length, slice_get, Result, Ok, Err, ⊤}
use Rattle.lra_verify.specs.Crates.{lra_certificate_spec.Judged.judged, lra_path_disjuncts.Tables.IsTable}
use Rattle.lra_verify.specs.Crates.{lra_path_segments.Segments.Goal, lra_program.Program.Program}
use Rattle.lra_operations.specs.Tree.{Node}
use Rattle.lra_paths.specs.Paths.{actions_between, AreFewPaths, HasTooManyPaths}
use Rattle.lra_paths.specs.{Sources.AreFewTo, declared.sources.Source.Source}
use Rattle.lra_certificate_lines.specs.declared.refusals.VerifyRefusal.{VerifyRefusal}
use Rattle.lra_certificate_lines.specs.{Views.fault_view, declared.refusals.VerifyError.VerifyError}
use Rattle.lra_certificate_lines.specs.declared.refusals.VerifyError.TheVariants as of_error
use Rattle.lra_certificate_lines.specs.declared.refusals.VerifyRefusal.TheVariants as of_refusal
use Rattle.lra_verify.specs.EdgeViews.{actions_out_of}

-- a source more than there are points, from each no more paths to one goal than may be
pub record AreSources (points : ℕ) (sources : List Source) : Type 0 where
  pub count : length sources ≡ suc points
  pub tables : All (λ s. IsTable s.entries.items) sources
  pub few : All (λ s. AreFewTo s.entries.items s.segments.items) sources

-- the paths out of the tables are those of the program
abbrev pub LeadAs : Program → Node → List Source → Type 0
LeadAs P g sources = (p : ℕ) (goal : Goal) → p < length sources →
    actions_out_of (slice_get sources p) goal ≡ actions_between P g p goal

-- what is answered of a program, and of the lines after its source
abbrev pub IsRefusalOf : Program → Node → List ℕ → VerifyRefusal → Type 0
IsRefusalOf P g rest (of_refusal.Source r) = ⊥
IsRefusalOf P g rest (of_refusal.Paths p) = HasTooManyPaths P g p
IsRefusalOf P g rest (of_refusal.Line n fault) = AreFewPaths P g ×
    (judged P g rest ≡ Err (record { line = n; fault = fault_view fault }))

abbrev pub IsErrorOf : Program → Node → List ℕ → VerifyError → Type 0
IsErrorOf P g rest (of_error.Refused r) = IsRefusalOf P g rest r
IsErrorOf P g rest of_error.Memory = ⊤

abbrev pub IsAnswerTo : Program → Node → List ℕ → Result (ℕ × ℕ) VerifyError → Type 0
IsAnswerTo P g rest (Ok r) = AreFewPaths P g × (judged P g rest ≡ Ok r)
IsAnswerTo P g rest (Err e) = IsErrorOf P g rest e
