-- What a source must get that is gone back over from one of its assertions: what is left at each point of the stores
-- from which that may fail, or its refusal. Assertions are asked for by the number of their point, from 1.
use Rattle.std.specs.Fmt.{decimal}
use Rattle.std.specs.Prelude.{◌≡◌, ◌⊎◌, ℕ, suc, List, ◌++◌, codes, Bool, true, false}
use Rattle.lra_commands.specs.Crates.lra_row_text.Texts.{text_line}
use Rattle.lra_report.specs.{BackText.BackReport, BackText.back_text, RefusalText.refusal_text}
use Rattle.lra_back_source.specs.BackReports.{CanGoBack, IsBackReportOf, IsBackRefusalOf}
use Rattle.lra_back_source.specs.declared.refusals.BackRefusal.{BackRefusal}
use Rattle.lra_back_source.specs.declared.refusals.BackRefusal.TheVariants.{Source, NoAssertion, Paths}
use Rattle.lra_command_answers.specs.declared.status.Status.TheVariants.{Proved, Unknown, Refused}
use Rattle.lra_command_answers.specs.{Statuses.refused, Statuses.reported, declared.status.Status.Status}

-- the start is 0 among the sources of paths
abbrev pub back_refused_text : ℕ → BackRefusal → List ℕ
back_refused_text number (Source r) = refusal_text r.cause r.place
back_refused_text number NoAssertion = text_line (codes "refused point " ++ decimal number)
back_refused_text number (Paths q) = text_line (codes "refused paths at point " ++ decimal q)

abbrev pub back_status : Bool → Status
back_status true = Proved
back_status false = Unknown

-- the text is that of a refusal of the source, asked for the assertion at the point that stands for this number
pub record IsBackRefusal (number p : ℕ) (bytes text : List ℕ) : Type 0 where
  pub refusal : BackRefusal
  pub refused : IsBackRefusalOf bytes p refusal
  pub written : text ≡ back_refused_text number refusal

-- the text is that of a report which the source must get, and the status says whether the assertion is proved
pub record IsBackAnswer (p : ℕ) (bytes text : List ℕ) (status : Status) : Type 0 where
  pub report : BackReport
  pub answers : IsBackReportOf bytes p report
  pub written : text ≡ back_text report
  pub counted : status ≡ back_status report.proved

-- the text and the status that a source must get that is gone back over from the assertion of this number
pub record AnswersBack (number : ℕ) (bytes text : List ℕ) (status : Status) : Type 0 where
  pub point : ℕ
  pub numbered : number ≡ suc point
  pub answer : (IsBackRefusal number point bytes text × (status ≡ Refused)) ⊎ IsBackAnswer point bytes text status

-- a source is refused in one way
abbrev pub OneBackRefusal : Type 0
OneBackRefusal = (bytes : List ℕ) (p : ℕ) (one other : BackRefusal) → IsBackRefusalOf bytes p one →
    IsBackRefusalOf bytes p other → one ≡ other

-- it is refused if it is as a source, if no assertion has the number, and if its program has too many paths;
-- elsewhere it is answered
abbrev pub AllowedBackStatuses : ℕ → List ℕ → List Status → Type 0
AllowedBackStatuses number bytes among = (point : ℕ) × (number ≡ suc point) ×
    (((refusal : BackRefusal) × IsBackRefusalOf bytes point refusal × (among ≡ refused))
    ⊎ (CanGoBack bytes point × (among ≡ reported)))
