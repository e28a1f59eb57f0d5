-- Goals of `read_flags`.
use Rattle.std.proofs.{Common.◌∙◌, Common.Some, Common.ap, Common.refl, Common.sym, lemmas.List.drop_more}
use Rattle.clap.specs.Words.{found_of, rows_of}
use Rattle.lra_options.specs.{OptionRows.flag_options, declared.options.FlagOption.TheVariants.Limited}
use Rattle.lra_command_line.specs.ParsedCommand.{flag_at, with_flag}
use Rattle.lra_command_line.proofs.OptionLists.{flag_read, read_on}
use Rattle.lra_command_line.proofs.words.read_flags.Goals as goal

pub loop-option-preserved : goal.loop-option-preserved
loop-option-preserved c =
    let rows = rows_of (found_of c.args.matches.now) in
    let text = ap (λ name. flag_at name rows) (sym c.name.ensures) ∙ sym c.read_flag.ensures ∙ c.in_ok-value.was in
    let found = flag_read rows _ c.loop-option.read _ _ refl text ∙ ap Some (sym c.set-read.ensures) in
    read_on (with_flag rows) _ _ c.args.options _ _ _ flag_options c.loop-option.invariant (drop_more flag_options _ Limited c.loop-option-test.true) found
