-- Options are declared and read one after the other.
use Rattle.std.proofs.Common.{◌≡◌, ◌∙◌, ◌<◌, ◌+◌, ◌^◌, ◌||◌, ℕ, Bool, true, false, List, [], ◌∷◌, Option, Some, length, take, get_or, refl, ap, ap₂, sym, fold}
use Rattle.std.proofs.{lemmas.Grind.take_at_read, lemmas.List.Sums.fold-append}
use Rattle.clap.specs.{Simple.Shape, Words.App, Words.Row, Words.Rule, Words.with_rule, Words.with_subcommand}
use Rattle.lra_options.specs.OptionRows.{number_row, set_number, flag_row, set_flag}
use Rattle.lra_options.specs.{declared.options.FlagOption.FlagOption, declared.options.NumberOption.NumberOption, declared.options.Options.Options}
use Rattle.lra_command_line.specs.ParsedCommand.{flag_at, number_at, with_number, with_flag}

-- ---- declared

-- one rule more
pub declared_on : {A : Type 0} (rule : A → Rule) (now next start : App) (own : Rule) (xs : List A) (i : ℕ) (d : A) → i < length xs
    → now ≡ fold (λ so x. with_rule so (rule x)) start (take i xs) → next ≡ with_rule now own → own ≡ rule (get_or xs i d)
    → next ≡ fold (λ so x. with_rule so (rule x)) start (take (i + 1) xs)
declared_on {A} rule now next start own xs i d within before more is =
    let step = λ (so : App) (x : A). with_rule so (rule x) in
    more ∙ ap₂ with_rule before is ∙ sym (fold-append step start (take i xs) (get_or xs i d ∷ [])) ∙ ap (fold step start) (sym (take_at_read xs i d within).1)

-- none of them is global
pub stays_local : (new old start own : Bool) → new ≡ (old || own) → own ≡ false → old ≡ start → new ≡ start
stays_local _ true _ _ is _ before = is ∙ before
stays_local _ false _ _ is local before = is ∙ local ∙ before

-- one subcommand more
pub commands_on : {A : Type 0} (shape : A → Shape) (now next start : App) (own : Shape) (xs : List A) (i : ℕ) (d : A) → i < length xs
    → now ≡ fold (λ so x. with_subcommand so (shape x)) start (take i xs) → next ≡ with_subcommand now own → own ≡ shape (get_or xs i d)
    → next ≡ fold (λ so x. with_subcommand so (shape x)) start (take (i + 1) xs)
commands_on {A} shape now next start own xs i d within before more is =
    let step = λ (so : App) (x : A). with_subcommand so (shape x) in
    more ∙ ap₂ with_subcommand before is ∙ sym (fold-append step start (take i xs) (get_or xs i d ∷ []))
    ∙ ap (fold step start) (sym (take_at_read xs i d within).1)

-- ---- read

pub number_read : (rows : List Row) (so : Option Options) (o : Options) (option : NumberOption) (value : ℕ) → so ≡ Some o
    → number_at (number_row option).name (2 ^ 32) rows ≡ Some value → with_number rows so option ≡ Some (set_number option value o)
number_read rows so o option value is read = rw (is, read) refl

pub flag_read : (rows : List Row) (so : Option Options) (o : Options) (option : FlagOption) (value : Bool) → so ≡ Some o
    → flag_at (flag_row option).name rows ≡ Some value → with_flag rows so option ≡ Some (set_flag option value o)
flag_read rows so o option value is read = rw (is, read) refl

-- `more` after `x` is still to be read
pub read_on : {A : Type 0} (step : Option Options → A → Option Options) (read next start : Options) (x : A) (xs more all : List A)
    → fold step (Some read) xs ≡ fold step (Some start) all → xs ≡ x ∷ more → step (Some read) x ≡ Some next
    → fold step (Some next) more ≡ fold step (Some start) all
read_on step read next start x xs more all before is found =
    ap (λ (so : Option Options). fold step so more) (sym found) ∙ ap (fold step (Some read)) (sym is) ∙ before
