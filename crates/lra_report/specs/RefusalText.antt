-- The text of a refusal. The line ends with a line feed.
use Rattle.std.specs.{Fmt.decimal, Prelude.ℕ, Prelude.List, Prelude.◌++◌, Prelude.codes}
use Rattle.lra_base.specs.Causes.{cause_number, cause_name}
use Rattle.lra_base.specs.{declared.refusals.Cause.Cause, declared.refusals.Place.Place}
use Rattle.lra_row_text.specs.Texts.{text_line}
use Rattle.lra_report.specs.ReportText.{place_text}

-- refused K NAME at LINE:COLUMN
abbrev pub refusal_text : Cause → Place → List ℕ
refusal_text c at = text_line (codes "refused " ++ decimal (cause_number c) ++ codes " " ++ cause_name c ++
    codes " at " ++ place_text at)
