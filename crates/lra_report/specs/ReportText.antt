-- The text of a report. Every line ends with a line feed.
use Rattle.std.specs.Prelude.{ℕ, List, [], ◌∷◌, ◌++◌, codes, if◌then◌else◌, count_by, Option, Some, None, Bool, not}
use Rattle.std.specs.{Fmt.decimal, List.flat_map, Prelude.◌&&◌}
use Rattle.lra_options.specs.OptionRows.{number_row, number_value, number_options, is_number_reported, flag_row}
use Rattle.lra_options.specs.OptionRows.{flag_value, flag_options, is_reported}
use Rattle.lra_options.specs.{Domains.domain_name, declared.options.FlagOption.FlagOption}
use Rattle.lra_options.specs.{declared.options.NumberOption.NumberOption, declared.options.Options.Options}
use Rattle.lra_row_text.specs.{Part.Part, Texts.text_line, Texts.part_text}
use Rattle.lra_report.specs.Report.{Place, Invariant, PointReport, Verdict, Report}
use Rattle.lra_report.specs.VerdictKinds.{row_of, outcome_text}

abbrev pub place_text : Place → List ℕ
place_text p = decimal p.line ++ codes ":" ++ decimal p.column

-- paths ------------------------------------------------------------------------------------------------------------

-- a call on the way to a point: the called name and its place
pub record CallPlace : Type 0 where
  pub name : List ℕ
  pub place : Place

-- the calls that lead to a point, main's first
abbrev pub path_text : List CallPlace → List ℕ
path_text calls = codes "main" ++ flat_map (λ c. codes "/" ++ c.name ++ codes "@" ++ place_text c.place) calls

-- states -----------------------------------------------------------------------------------------------------------

abbrev pub further_parts_text : List (List ℕ) → List Part → List ℕ
further_parts_text names [] = []
further_parts_text names (part ∷ parts) = text_line (codes "  or") ++ part_text names part ++
    further_parts_text names parts

abbrev pub state_text : List (List ℕ) → Invariant → List ℕ
state_text names [] = text_line (codes "  unreachable")
state_text names (part ∷ parts) = part_text names part ++ further_parts_text names parts

-- the report -------------------------------------------------------------------------------------------------------

-- nothing if it isn't reported
abbrev pub number_text : Options → NumberOption → List ℕ
number_text o option = if is_number_reported option o then codes " " ++ (number_row option).name ++ codes " " ++
    decimal (number_value option o) else []

abbrev pub flag_option_text : Options → FlagOption → List ℕ
flag_option_text o option = if is_reported option o then codes " " ++ (flag_row option).name ++
    (if flag_value option o then codes " yes" else codes " no") else []

abbrev pub options_text : Options → List ℕ
options_text o = text_line (codes "analysis " ++ domain_name o.domain ++ flat_map (number_text o) number_options ++
    flat_map (flag_option_text o) flag_options)

abbrev pub flag_text : Option ℕ → List ℕ
flag_text None = text_line (codes "flagged 0")
flag_text (Some number) = text_line (codes "flagged at point " ++ decimal number)

-- with which the lines of a point and of a verdict begin
abbrev pub heading_text : List ℕ → ℕ → List ℕ → Place → List ℕ
heading_text word number path place = word ++ codes " " ++ decimal number ++ codes " " ++ path ++ codes " " ++
    place_text place

abbrev pub point_text : PointReport → List ℕ
point_text p = text_line (heading_text (codes "point") p.number p.path p.place) ++ state_text p.names p.state

abbrev pub verdict_text : Verdict → List ℕ
verdict_text v = text_line (heading_text (row_of v.kind).word v.number v.path v.place ++ codes " " ++
    outcome_text v.kind v.holds)

-- the last line, which counts the verdicts of the kinds that count ----------------------------------------------------

abbrev pub is_proved : Verdict → Bool
is_proved v = (row_of v.kind).counts && v.holds

abbrev pub is_unknown : Verdict → Bool
is_unknown v = (row_of v.kind).counts && not v.holds

abbrev pub proved_count : List Verdict → ℕ
proved_count vs = count_by is_proved vs

abbrev pub unknown_count : List Verdict → ℕ
unknown_count vs = count_by is_unknown vs

abbrev pub counts_line : List Verdict → List ℕ
counts_line vs = text_line (codes "verdicts proved " ++ decimal (proved_count vs) ++ codes " unknown " ++
    decimal (unknown_count vs))

abbrev pub report_text : Report → List ℕ
report_text r =
    options_text r.options
    ++ flag_text r.flagged
    ++ flat_map point_text r.points
    ++ flat_map verdict_text r.verdicts
    ++ counts_line r.verdicts
