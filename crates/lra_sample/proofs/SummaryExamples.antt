-- What is reported about reports. Which slip an example would catch stands beside it.
use Rattle.std.proofs.Common.{◌≡◌, ℕ, List, [], ◌∷◌, Option, Some, None, true, false, refl}
use Rattle.std.specs.{Fmt.digits, List.flat_map, Prelude.codes}
use Rattle.lra_sample.specs.Crates.{lra_options.declared.options.Options.Options, lra_row_text.Texts.text_line}
use Rattle.lra_report.specs.{Report.PointReport, Report.Verdict, Report.Report, declared.verdict_kinds.VerdictKind.TheVariants.Assertion}
use Rattle.lra_sample.specs.Summary.{summary_text}

abbrev lines : List (List ℕ) → List ℕ
lines = flat_map text_line

abbrev report : Options → Option ℕ → List PointReport → List Verdict → Report
report options flagged points verdicts = record { options = options; flagged = flagged; points = points; verdicts = verdicts }

-- the bytes of the report counted, or its points without the first
no_block : (o : Options) (p : PointReport) (v : Verdict) → summary_text 0 0
    (report o None (p ∷ p ∷ p ∷ p ∷ p ∷ p ∷ []) (record v { kind = Assertion; holds = true } ∷ []))
    ≡ lines (codes "sample seed 0 size 0" ∷ codes "bytes 78" ∷ codes "points 6" ∷ codes "flagged 0" ∷ codes "verdicts proved 1 unknown 0" ∷ [])
unfolding digits
no_block o p v = refl

-- the size written where the seed belongs, or a flag that is left out
flagged_report : (o : Options) (p : PointReport) (v : Verdict) →
    summary_text 5 1 (report o (Some 2) (p ∷ p ∷ []) (record v { kind = Assertion; holds = false } ∷ []))
    ≡ lines (codes "sample seed 5 size 1" ∷ codes "bytes 87" ∷ codes "points 2" ∷ codes "flagged at point 2" ∷ codes "verdicts proved 0 unknown 1" ∷ [])
unfolding digits
flagged_report o p v = refl
