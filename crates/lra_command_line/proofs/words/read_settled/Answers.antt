-- Goals of `read_settled`.
use Rattle.std.proofs.{Common.sym, Common.◌∙◌, lemmas.List.drop_more}
use Rattle.clap.specs.Words.{found_of, rows_of}
use Rattle.lra_options.specs.{OptionRows.best_options, OptionRows.flag_options, declared.options.FlagOption.TheVariants.Limited}
use Rattle.lra_command_line.specs.ParsedCommand.{with_beside}
use Rattle.lra_command_line.proofs.OptionLists.{read_on}
use Rattle.lra_command_line.proofs.words.read_settled.Goals as goal

pub loop-option-preserved : goal.loop-option-preserved
loop-option-preserved c =
    let rows = rows_of (found_of c.args.matches.now) in
    read_on (with_beside rows) _ _ best_options _ _ _ flag_options c.loop-option.invariant (drop_more flag_options _ Limited c.loop-option-test.true)
    (sym c.read_beside.ensures ∙ c.in_ok-read.was)
