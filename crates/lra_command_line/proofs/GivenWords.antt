-- Whether words give an option, by the source of its entry.
use Rattle.std.proofs.Common.{◌≡◌, ◌∙◌, Bool, true, false, Option, Some, None, ap, refl, sym}
use Rattle.std.specs.{Option.option_map_or, Prelude.is_some, Prelude.option_and_then}
use Rattle.clap.specs.{Facts.explicit_source, Takes.is_given, Words.Text, Words.matched_of, Words.rows_of, declared.parser.matches.Found.Found, declared.parser.matches.MatchedArg.MatchedArg}
use Rattle.clap.specs.{declared.parser.matches.ValueSource.ValueSource, declared.parser.matches.ValueSource.TheVariants.DefaultValue, declared.parser.matches.ValueSource.TheVariants.CommandLine}
use Rattle.clap.proofs.TakesLemmas.{present_row}

module _ (f : Found) (id : Text) (source : Option ValueSource) (is : source ≡ option_and_then (λ (a : MatchedArg). a.source) (matched_of f id)) where
  pub default_given : source ≡ Some DefaultValue → false ≡ is_given id (rows_of f)
  default_given e = by_entry (matched_of f id) (sym is ∙ e) ∙ present_row f id
    where
      by_entry : (o : Option MatchedArg) → option_and_then (λ (a : MatchedArg). a.source) o ≡ Some DefaultValue → false ≡ option_map_or (λ (a : MatchedArg). explicit_source a.source) o false
      by_entry None d = refl
      by_entry (Some a) d = sym (ap explicit_source d)

  pub words_given : source ≡ Some CommandLine → true ≡ is_given id (rows_of f)
  words_given e = by_entry (matched_of f id) (sym is ∙ e) ∙ present_row f id
    where
      by_entry : (o : Option MatchedArg) → option_and_then (λ (a : MatchedArg). a.source) o ≡ Some CommandLine → true ≡ option_map_or (λ (a : MatchedArg). explicit_source a.source) o false
      by_entry None d = let wrong : ⊥ = cc in absurd wrong
      by_entry (Some a) d = sym (ap explicit_source d)

  pub unknown_given : (there : Bool) → source ≡ None → there ≡ is_some (matched_of f id) → there ≡ is_given id (rows_of f)
  unknown_given there e has = has ∙ by_entry (matched_of f id) (sym is ∙ e) ∙ present_row f id
    where
      by_entry : (o : Option MatchedArg) → option_and_then (λ (a : MatchedArg). a.source) o ≡ None → is_some o ≡ option_map_or (λ (a : MatchedArg). explicit_source a.source) o false
      by_entry None d = refl
      by_entry (Some a) d = sym (ap explicit_source d)
