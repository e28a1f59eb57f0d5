-- Goals of `read_numbers`.
use Rattle.std.proofs.{Common.◌∙◌, Common.◌^◌, Common.Some, Common.ap, Common.refl, Common.sym, lemmas.List.drop_more}
use Rattle.clap.specs.Words.{found_of, rows_of}
use Rattle.lra_options.specs.{OptionRows.number_options, declared.options.NumberOption.TheVariants.Parts}
use Rattle.lra_command_line.specs.ParsedCommand.{number_at, with_number}
use Rattle.lra_command_line.proofs.OptionLists.{number_read, read_on}
use Rattle.lra_command_line.proofs.words.read_numbers.Goals as goal

pub loop-option-preserved : goal.loop-option-preserved
loop-option-preserved c =
    let rows = rows_of (found_of c.args.matches.now) in
    let text = ap (λ name. number_at name (2 ^ 32) rows) (sym c.name.ensures) ∙ sym c.read_number.ensures ∙ c.in_ok-value.was in
    let found = number_read rows _ c.loop-option.read _ _ refl text ∙ ap Some (sym c.set-read.ensures) in
    read_on (with_number rows) _ _ c.args.options _ _ _ number_options c.loop-option.invariant (drop_more number_options _ Parts c.loop-option-test.true) found
