-- The assertions among a report's verdicts. Certificates say of these alone, and so does the status with which they
-- are written: of what fits, and of accesses, they say nothing.
use Rattle.std.specs.List.{filter}
use Rattle.std.specs.Prelude.{ℕ, List, Bool, true, false, ◌&&◌, not, map, count_by}
use Rattle.lra_report.specs.declared.verdict_kinds.VerdictKind.TheVariants.{Assertion, Fit, Access}
use Rattle.lra_report.specs.{Report.Verdict, declared.verdict_kinds.VerdictKind.VerdictKind}

abbrev pub is_assertion : VerdictKind → Bool
is_assertion Assertion = true
is_assertion Fit = false
is_assertion Access = false

-- one that is proved; one of which that isn't known
abbrev pub is_proved_assertion : Verdict → Bool
is_proved_assertion v = is_assertion v.kind && v.holds

abbrev pub is_unknown_assertion : Verdict → Bool
is_unknown_assertion v = is_assertion v.kind && not v.holds

-- the numbers of the points of those that are proved
abbrev pub proved_numbers : List Verdict → List ℕ
proved_numbers verdicts = map (λ (v : Verdict). v.number) (filter is_proved_assertion verdicts)

abbrev pub unknown_assertions : List Verdict → ℕ
unknown_assertions verdicts = count_by is_unknown_assertion verdicts
