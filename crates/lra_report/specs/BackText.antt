-- What is written of going back from an assertion: at each point what is left there, as a report shows it, and whether
-- the assertion is proved.
use Rattle.std.specs.Prelude.{ℕ, List, ◌++◌, codes, Option, Bool}
use Rattle.std.specs.{Fmt.decimal, List.flat_map}
use Rattle.lra_row_text.specs.Texts.{text_line}
use Rattle.lra_report.specs.{Report.PointReport, ReportText.flag_text, ReportText.point_text, VerdictKinds.row_of}
use Rattle.lra_report.specs.{VerdictKinds.outcome_text, declared.verdict_kinds.VerdictKind.TheVariants.Assertion}

-- from the assertion at the point of this number; `flagged` is that of the point to which the first flagged operation
-- belongs
pub record BackReport : Type 0 where
  pub number : ℕ
  pub flagged : Option ℕ
  pub points : List PointReport
  pub proved : Bool

abbrev pub back_line : ℕ → List ℕ
back_line number = text_line (codes "back point " ++ decimal number)

-- without a path and a place: these are the point's
abbrev pub outcome_line : ℕ → Bool → List ℕ
outcome_line number proved = text_line ((row_of Assertion).word ++ codes " " ++ decimal number ++ codes " " ++
    outcome_text Assertion proved)

abbrev pub back_text : BackReport → List ℕ
back_text r =
    back_line r.number
    ++ flag_text r.flagged
    ++ flat_map point_text r.points
    ++ outcome_line r.number r.proved
