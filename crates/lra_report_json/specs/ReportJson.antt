-- A report as one compact JSON object (RFC 8259), its keys in byte order, ended by a line feed.
use Rattle.std.specs.Prelude.{ℕ, List, map, filter, fold, Bool, codes, if◌then◌else◌, Option, Some, None}
use Rattle.std.specs.{List.list_any, Str.bytes_eq}
use Rattle.serde_json.specs.Data.{Data, Members, boolean, number, unsigned, string, array, object, member, no_members}
use Rattle.serde_json.specs.{Data.put, View.items_of, Written.compact_text}
use Rattle.lra_options.specs.Domains.{domain_name, shows_generators}
use Rattle.lra_options.specs.OptionRows.{number_row, number_value, number_options, is_number_reported, flag_row}
use Rattle.lra_options.specs.OptionRows.{flag_value, flag_options, is_reported}
use Rattle.lra_options.specs.{declared.options.Domain.Domain, declared.options.FlagOption.FlagOption}
use Rattle.lra_options.specs.{declared.options.NumberOption.NumberOption, declared.options.Options.Options}
use Rattle.lra_report.specs.ReportText.{place_text, proved_count, unknown_count}
use Rattle.lra_report.specs.{Report.PointReport, Report.Verdict, Report.Report, VerdictKinds.row_of, VerdictKinds.kinds}
use Rattle.lra_report.specs.{VerdictKinds.outcome_text, declared.verdict_kinds.VerdictKind.VerdictKind}
use Rattle.lra_row_text.specs.Texts.{text_line, row_text, generator_text}
use Rattle.lra_row_text.specs.{Part.ReportGenerator, Part.Part, Rows.ReportRow}

abbrev pub natural : ℕ → Data
natural n = number (unsigned n)

-- the list of what is written of each
abbrev pub list_of : {A : Type 0} → (A → Data) → List A → Data
list_of write xs = array (items_of (map write xs))

-- options, each in its place ---------------------------------------------------------------------------------------

abbrev pub with_number : Options → Members → NumberOption → Members
with_number o so option =
    if is_number_reported option o then put (number_row option).name (natural (number_value option o)) so else so

abbrev pub with_flag : Options → Members → FlagOption → Members
with_flag o so option =
    if is_reported option o then put (flag_row option).name (boolean (flag_value option o)) so else so

abbrev pub domain_alone : Options → Members
domain_alone o = member (codes "domain") (string (domain_name o.domain)) no_members

abbrev pub options_data : Options → Data
options_data o = object (fold (with_flag o) (fold (with_number o) (domain_alone o) number_options) flag_options)

-- verdicts ---------------------------------------------------------------------------------------------------------

abbrev pub outcome_members : Verdict → Members
outcome_members v = member (codes "point") (natural v.number) (
    member (codes "verdict") (string (outcome_text v.kind v.holds))
    no_members)

-- a verdict as an object, with its place if it has one of its own
abbrev pub verdict_data : Verdict → Data
verdict_data v = object (if (row_of v.kind).own_place then
    member (codes "place") (string (place_text v.place)) (outcome_members v) else outcome_members v)

-- the verdicts that stand under a key
abbrev pub is_under : List ℕ → Verdict → Bool
is_under key v = bytes_eq (row_of v.kind).key key

abbrev pub under : List ℕ → List Verdict → List Verdict
under key vs = filter (is_under key) vs

-- with those of a kind, if its key stands
abbrev pub with_verdicts : Report → Members → VerdictKind → Members
with_verdicts r so kind =
    if (row_of kind).stands r.options (list_any (is_under (row_of kind).key) r.verdicts)
    then put (row_of kind).key (list_of verdict_data (under (row_of kind).key r.verdicts)) so
    else so

-- points -----------------------------------------------------------------------------------------------------------

abbrev pub rows_data : List (List ℕ) → List ReportRow → Data
rows_data names rows = list_of (λ r. string (row_text names r)) rows

abbrev pub generators_data : List (List ℕ) → List ReportGenerator → Data
generators_data names generators = list_of (λ g. string (generator_text names g)) generators

abbrev pub rows_alone : List (List ℕ) → Part → Members
rows_alone names part = member (codes "rows") (rows_data names part.rows) no_members

abbrev pub part_data : Domain → List (List ℕ) → Part → Data
part_data domain names part = object (if shows_generators domain then
    member (codes "generators") (generators_data names part.generators) (rows_alone names part)
    else rows_alone names part)

-- no run reaches a point that has no part
abbrev pub point_data : Domain → PointReport → Data
point_data domain p = object (
    member (codes "number") (natural p.number) (
    member (codes "parts") (list_of (part_data domain p.names) p.state) (
    member (codes "path") (string p.path) (
    member (codes "place") (string (place_text p.place))
    no_members))))

-- 0, or the number of the point
abbrev pub flag_data : Option ℕ → Data
flag_data None = natural 0
flag_data (Some n) = natural n

-- the report -------------------------------------------------------------------------------------------------------

-- how many that count hold, and how many are unknown
abbrev pub counts_of : List Verdict → Members
counts_of vs = member (codes "proved") (natural (proved_count vs)) (
    member (codes "unknown") (natural (unknown_count vs))
    no_members)

-- what stands in every report
abbrev pub fixed_members : Report → Members
fixed_members r =
    member (codes "analysis") (options_data r.options) (
    member (codes "flagged") (flag_data r.flagged) (
    member (codes "points") (list_of (point_data r.options.domain) r.points)
    (counts_of r.verdicts)))

abbrev pub report_data : Report → Data
report_data r = object (fold (with_verdicts r) (fixed_members r) kinds)

abbrev pub report_json : Report → List ℕ
report_json r = text_line (compact_text (report_data r))
