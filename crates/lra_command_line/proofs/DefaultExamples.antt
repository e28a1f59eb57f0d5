-- A command line that names no option asks for the options that hold if none is named; what `--best` stands for, and which options can't be given together.
use Rattle.std.proofs.Common.{◌∷◌, [], List, true, refl, codes, inl, inr, map}
use Rattle.std.specs.Borrow.{Bor}
use Rattle.clap.specs.Words.{Text}
use Rattle.clap.specs.declared.builder.value_parser.ValueParser.TheVariants as vp
use Rattle.clap.proofs.OnLiterals.{clap_on_literals}
use Rattle.lra_options.specs.{OptionRows.best_options, declared.options.Domain.TheVariants.Box}
use Rattle.lra_command_line.specs.{ParsedCommand.Asks, ParsedCommand.AsksNone, ParsedCommand.default_options, declared.commands.Command.TheVariants.Analyse, declared.commands.Format.TheVariants.Lines}

the_names : Bor (List (Bor Text))
the_names = record {
  ref_ptr = (0, 0);
  now = map {B = Bor Text} (λ (name : Text). record { ref_ptr = (0, 0); now = name }) (codes "poly" ∷ (codes "box" ∷ (codes "oct" ∷ [])));
}

plain_analyse : Asks (codes "lra" ∷ (codes "analyse" ∷ [])) (Analyse default_options Lines)
unfolding the_names clap_on_literals
plain_analyse = (vp.Names the_names, (the_names, refl, refl), refl, refl)

best_analyse : Asks (codes "lra" ∷ (codes "analyse" ∷ (codes "--best" ∷ []))) (Analyse best_options Lines)
unfolding the_names clap_on_literals
best_analyse = (vp.Names the_names, (the_names, refl, refl), refl, refl)

threshold_analyse : Asks (codes "lra" ∷ (codes "analyse" ∷ (codes "--thresholds" ∷ []))) (Analyse (record default_options { thresholds = true }) Lines)
unfolding the_names clap_on_literals
threshold_analyse = (vp.Names the_names, (the_names, refl, refl), refl, refl)

fits_analyse : Asks (codes "lra" ∷ (codes "analyse" ∷ (codes "--fits" ∷ []))) (Analyse (record default_options { fits = true }) Lines)
unfolding the_names clap_on_literals
fits_analyse = (vp.Names the_names, (the_names, refl, refl), refl, refl)

-- what changes no state stands beside `--best`
best_fits : Asks (codes "lra" ∷ (codes "analyse" ∷ (codes "--best" ∷ (codes "--fits" ∷ [])))) (Analyse (record best_options { fits = true }) Lines)
unfolding the_names clap_on_literals
best_fits = (vp.Names the_names, (the_names, refl, refl), refl, refl)

-- `--best` beside an option that it stands for, be it with its default
best_beside : AsksNone (codes "lra" ∷ (codes "analyse" ∷ (codes "--best" ∷ (codes "--delay=1" ∷ []))))
unfolding the_names clap_on_literals
best_beside = (vp.Names the_names, (the_names, refl, refl), λ none. (refl, inl (refl, refl)))

both_limits : AsksNone (codes "lra" ∷ (codes "analyse" ∷ (codes "--limited" ∷ (codes "--thresholds" ∷ []))))
unfolding the_names clap_on_literals
both_limits = (vp.Names the_names, (the_names, refl, refl), λ none. (refl, inr (record default_options { limited = true; thresholds = true }, refl, refl, refl)))

boxes_with_thresholds : AsksNone (codes "lra" ∷ (codes "analyse" ∷ (codes "--domain=box" ∷ (codes "--thresholds" ∷ []))))
unfolding the_names clap_on_literals
boxes_with_thresholds = (vp.Names the_names, (the_names, refl, refl), λ none. (refl, inr (record default_options { domain = Box; thresholds = true }, refl, refl, refl)))
