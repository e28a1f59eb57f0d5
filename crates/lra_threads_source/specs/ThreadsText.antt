-- What is written of several threads: the points of all of them, numbered on from thread to thread, each with its state
-- as a report shows it; what is judged of their assertions and accesses; and for each thread and global variable that
-- have one the interval of the values that the thread gives it.
use Rattle.std.specs.Prelude.{ℕ, ℤ, List, ◌++◌, codes, Option, None, Some}
use Rattle.std.specs.{Fmt.decimal, Fmt.signed_decimal, List.flat_map}
use Rattle.lra_threads_source.specs.Crates.lra_row_text.Texts.{text_line}
use Rattle.lra_report.specs.Report.{PointReport, Verdict}
use Rattle.lra_report.specs.ReportText.{counts_line, flag_text, point_text, verdict_text}

-- the thread of this number, from 1, gives the variable values of this interval alone; a bound may be absent
pub record Writes : Type 0 where
  pub thread : ℕ
  pub name : List ℕ
  pub low : Option ℤ
  pub high : Option ℤ

-- so many threads, analysed with these options; `flagged` is the number of the point to which the first flagged
-- operation belongs
pub record ThreadsReport : Type 0 where
  pub count : ℕ
  pub delay : ℕ
  pub narrow : ℕ
  pub flagged : Option ℕ
  pub points : List PointReport
  pub verdicts : List Verdict
  pub writes : List Writes

abbrev pub threads_line : ℕ → ℕ → ℕ → List ℕ
threads_line count delay narrow = text_line (codes "threads box count " ++ decimal count ++ codes " delay " ++
    decimal delay ++ codes " narrow " ++ decimal narrow)

abbrev pub bound_text : Option ℤ → List ℕ
bound_text None = codes "none"
bound_text (Some z) = signed_decimal z

abbrev pub writes_line : Writes → List ℕ
writes_line w = text_line (codes "writes t" ++ decimal w.thread ++ codes " " ++ w.name ++ codes " " ++
    bound_text w.low ++ codes " " ++ bound_text w.high)

abbrev pub threads_text : ThreadsReport → List ℕ
threads_text r =
    threads_line r.count r.delay r.narrow
    ++ flag_text r.flagged
    ++ flat_map point_text r.points
    ++ flat_map verdict_text r.verdicts
    ++ flat_map writes_line r.writes
    ++ counts_line r.verdicts
