-- Two answers to one source that have the same text are the same report.
use Rattle.lra_analyse_source.specs.Crates.{lra_resolution_spec.EntryPoint.at_main, lra_resolution_spec.Refuse.OneAnswer, lra_syntax.Grammar.Spells}
use Rattle.lra_analyse_source.proofs.Crates.lra_report.SourceTexts.{one_source}
use Rattle.lra_analyse_source.specs.Claims.{OneAnsweredText}

pub one_text : OneAnswer Spells → OneAnsweredText
one_text one o source r s x y text =
    one_source Spells (λ t z h. h) r s o source (λ t u a b. (one at_main source).0 t u a b) x.report y.report x.readable y.readable text
