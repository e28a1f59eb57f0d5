-- Two reports that a source must get and that are written alike are the same.
use Rattle.lra_command_line.specs.declared.commands.Format.TheVariants.{Lines, Json}
use Rattle.lra_commands.specs.Crates.{lra_resolution_spec.EntryPoint.at_main, lra_resolution_spec.Refuse.OneAnswer, lra_syntax.Grammar.Spells}
use Rattle.lra_report_json.proofs.OneJson.{one_source_json}
use Rattle.lra_commands.proofs.Crates.lra_analyse_source.OneText.{one_text}
use Rattle.lra_commands.specs.SourceAnswer.{OneWrittenReport}

pub one_written : OneAnswer Spells → OneWrittenReport
one_written one Lines o source r s x y same = one_text one o source r s x y same
one_written one Json o source r s x y same =
    one_source_json Spells (λ t z h. h) r s o source (λ t u a b. (one at_main source).0 t u a b) x.report y.report x.readable y.readable same
