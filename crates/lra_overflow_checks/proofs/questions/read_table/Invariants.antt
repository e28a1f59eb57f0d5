use Rattle.std.proofs.Common.{◌≡◌, length, map}
use Rattle.lra_overflow_checks.specs.Crates.lra_analysis_spec.Judging.{first_flagged, answer_of}
use Rattle.lra_overflow_checks.specs.Judged.{findings_from}
use Rattle.lra_overflow_checks.proofs.questions.read_table.Given as goal

-- what the places so far report
abbrev pub invariant-places : goal.invariant-places
invariant-places g l = record {
  count : l.point ≡ length l.yielded;
  told : l.answers.items ≡ map answer_of (findings_from 0 l.yielded);
  flags : l.behind ≡ first_flagged l.fn.flagged (findings_from 0 l.yielded);
}
