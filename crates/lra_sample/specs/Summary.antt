-- What is reported about the report of a sample source: five lines.
use Rattle.std.specs.{Fmt.decimal, Prelude.ℕ, Prelude.List, Prelude.length, Prelude.◌++◌, Prelude.codes}
use Rattle.lra_report.specs.{Report.Report, ReportText.flag_text, ReportText.counts_line}
use Rattle.lra_sample.specs.Crates.lra_row_text.Texts.{text_line}
use Rattle.lra_sample.specs.Sample.{sample_source}

-- the first three: of a seed, a size, the source's bytes, the report's points
abbrev pub sizes_text : ℕ → ℕ → ℕ → ℕ → List ℕ
sizes_text seed size bytes points =
    text_line (codes "sample seed " ++ decimal seed ++ codes " size " ++ decimal size)
    ++ text_line (codes "bytes " ++ decimal bytes)
    ++ text_line (codes "points " ++ decimal points)

abbrev pub summary_text : ℕ → ℕ → Report → List ℕ
summary_text seed size report =
    sizes_text seed size (length (sample_source seed size)) (length report.points)
    ++ flag_text report.flagged
    ++ counts_line report.verdicts
