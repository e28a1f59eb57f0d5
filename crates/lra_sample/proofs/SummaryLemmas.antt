-- The lines of a summary.
use Rattle.std.proofs.Common.{◌≡◌, ℕ, List, [], ◌∷◌, ◌++◌, length, map, codes, decimal, ap, sym, ◌∙◌, append_assoc}
use Rattle.std.proofs.lemmas.List.{length-map}
use Rattle.lra_report.specs.View.{point_report_of, verdict_of}
use Rattle.lra_report.specs.{Report.Report, ReportText.flag_text, ReportText.counts_line, declared.report.PointReport.PointReport, declared.report.Verdict.Verdict}
use Rattle.lra_sample.specs.{Sample.sample_source, Summary.sizes_text, Summary.summary_text}

-- the first three, written piece by piece
pub sizes_lines : (old new : List ℕ) (seed size bytes points : ℕ) →
    new ≡ old ++ (codes "sample seed " ++ (decimal seed ++ (codes " size " ++ (decimal size ++ (codes "\nbytes " ++ (decimal bytes ++ (codes "\npoints " ++ (decimal points ++ 10 ∷ [])))))))) →
    new ≡ old ++ sizes_text seed size bytes points
sizes_lines old new seed size bytes points written =
    written ∙ ap (λ t. old ++ t) (sym (pieces (codes "sample seed ") (decimal seed) (codes " size ") (decimal size) (codes "bytes ") (decimal bytes) (codes "points ") (decimal points) (10 ∷ [])))
  where
    pieces : (a s b n c m d k l : List ℕ) → (((((a ++ s) ++ b) ++ n) ++ l) ++ ((c ++ m) ++ l)) ++ ((d ++ k) ++ l) ≡ a ++ (s ++ (b ++ (n ++ (l ++ (c ++ (m ++ (l ++ (d ++ (k ++ l)))))))))
    pieces a s b n c m d k l = simp append_assoc

pub summary_lines : (seed size bytes count : ℕ) (points : List PointReport) (report : Report) (source first second third fourth : List ℕ) →
    source ≡ sample_source seed size → bytes ≡ length source → count ≡ length points → report.points ≡ map point_report_of points → first ≡ [] → second ≡ first ++ sizes_text seed size bytes count →
    third ≡ second ++ flag_text report.flagged → fourth ≡ third ++ counts_line report.verdicts → fourth ≡ summary_text seed size report
summary_lines seed size bytes count points report source first second third fourth made long counted listed none sizes flag counts =
    counts ∙ ap (λ t. t ++ counts_line report.verdicts) (flag ∙ ap (λ t. t ++ flag_text report.flagged)
    (sizes ∙ ap (λ t. t ++ sizes_text seed size bytes count) none ∙ ap (λ n. sizes_text seed size n count) (long ∙ ap length made) ∙ ap (sizes_text seed size (length (sample_source seed size)))
    (counted ∙ sym (ap length listed ∙ length-map points point_report_of))))

-- the verdicts that are counted are these
pub counted_verdicts : (old new : List ℕ) (vs ws : List Verdict) → new ≡ old ++ counts_line (map verdict_of ws) → ws ≡ vs
    → new ≡ old ++ counts_line (map verdict_of vs)
counted_verdicts old new vs ws is same = is ∙ ap (λ (xs : List Verdict). old ++ counts_line (map verdict_of xs)) same
