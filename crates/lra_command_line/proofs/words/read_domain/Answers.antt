-- Goals of `read_domain`.
use Rattle.std.proofs.Common.{◌∙◌, ap, codes, sym}
use Rattle.std.specs.Prelude.{option_and_then}
use Rattle.clap.specs.Words.{found_of}
use Rattle.lra_command_line.specs.ParsedCommand.{domain_named}
use Rattle.lra_command_line.proofs.Readings.{domain_got}
use Rattle.lra_command_line.proofs.words.read_domain.Goals as goal

pub returns-in_err-get_str : goal.returns-in_err-get_str
returns-in_err-get_str c =
    c.from_residual.ensures ∙ (ap (option_and_then (λ s. domain_named s.now)) (sym c.in_err-get_str.was) ∙ domain_got (found_of c.args.matches.now) (codes "domain") c.get_str.result c.get_str.ensures)

pub returns : goal.returns
returns c =
    c.find_domain.ensures ∙ (ap (option_and_then (λ s. domain_named s.now)) (sym c.in_ok-get_str.was) ∙ domain_got (found_of c.args.matches.now) (codes "domain") c.get_str.result c.get_str.ensures)
