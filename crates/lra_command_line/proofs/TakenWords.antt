-- Words without a fault give a command, each value of which lies in its option's range, or their options conflict.
use Rattle.std.proofs.Common.{◌≡◌, ◌∙◌, ◌<◌, ◌≤◌, ◌^◌, ◌&&◌, ◌||◌, ℕ, Bool, List, [], ◌∷◌, Option, Some, None, ap, arith, codes, inl, inr, lit<, map, not, refl, sym, ◌+◌, ◌++◌, length, subst, true}
use Rattle.std.proofs.{Common.false, Common.lt-ltb, Common.nat_le, Common.nat_lt, lemmas.Bool.leb-true, lemmas.Slice.Eq.bytes_eq-Decides}
use Rattle.std.specs.Prelude.{find, is_some, option_and_then, option_map}
use Rattle.std.specs.{List.AllByRecursion, List.list_any, Option.option_map_or, Str.bytes_eq, Str.Parse.digits_value, Str.Parse.without_leading_plus}
use Rattle.clap.specs.Faults.{check_fault, entered_fault, fault_of, level_fault}
use Rattle.clap.specs.Simple.{built_leaf, inherited, marked_built, with_leaf_noted, Shape, argument_words, built, entered, filled, label_of, names_of, help_rule, new_shape, rows_at, subcommand_of}
use Rattle.clap.specs.Walk.{Row, Rule, Text, answers_to, finished, nothing_held, one_of, rows_after, walk, walk_from}
use Rattle.clap.specs.{Facts.explicit_source, Kinds.check_kinds, Simple.with_index, Takes.is_given, ValueTests.accepts, ValueTests.is_numeral, declared.builder.value_parser.ValueParser.ValueParser}
use Rattle.clap.specs.declared.builder.value_parser.ValueParser.TheVariants as vp
use Rattle.clap.proofs.WalkLemmas.{both, list_any-map}
use Rattle.lra_command_line.specs.CommandLine.{TakesDomains, best_rule, command_line, domain_rule, file_rule, json_rule, flag, named_plain, number_rule, plain_commands, point_option, seed_option}
use Rattle.lra_command_line.specs.ParsedCommand.{HasInRange, IsWithinRanges, best_of, domain_at, domain_named, flag_at, format_of, gives_any, number_at, number_below, back_of, options_of, sample_of}
use Rattle.lra_command_line.specs.ParsedCommand.{threads_of, truth_of}
use Rattle.lra_command_line.specs.declared.commands.Command.TheVariants.{Analyse, Back, Plain, Sample, Threads}
use Rattle.lra_command_line.specs.{CommandLine.size_option, CommandLine.subcommand_app, declared.commands.Command.Command, declared.commands.PlainCommand.PlainCommand}
use Rattle.lra_command_line.specs.declared.command_line.Subcommand.TheVariants as sub
use Rattle.lra_options.specs.OptionRows.{NumberRow, IsInRange, are_compatible, best_options, number_options, number_row, flag_row, default_options}
use Rattle.lra_options.specs.declared.options.FlagOption.TheVariants.{Limited, Thresholds, Fits}
use Rattle.lra_options.specs.declared.options.NumberOption.TheVariants.{Parts, Delay, Narrow}
use Rattle.lra_options.specs.{Domains.domains, Domains.domain_name, declared.options.Domain.Domain, declared.options.Options.Options}
use Rattle.lra_command_line.proofs.OptionRows.{AllOwn, IsNoHelp, defaulted_value, flag_adds, given_there, help_adds, level_parts, level_rows, option_adds, value_there, walk_stop}
use Rattle.lra_command_line.proofs.{Conflicts.Gives, OptionLists.number_read, OptionLists.flag_read}

-- ---- values

-- a text that passed the parser of numbers from `low` to `high`
number_passed : (low high limit : ℕ) (text : Text) → high < limit → accepts false (vp.Unsigned low high) text ≡ true
    → (n : ℕ) × (number_below limit text ≡ Some n) × (low ≤ n) × (n ≤ high)
number_passed low high limit text fits passed =
    let number = digits_value 10 (without_leading_plus text) in
    let digits = is_numeral (without_leading_plus text) in
    let bounds = nat_le low number && nat_le number high in
    let one = both digits (nat_lt number (2 ^ 64) && bounds) passed in
    let two = both (nat_lt number (2 ^ 64)) bounds one.1 in
    let three = both (nat_le low number) (nat_le number high) two.1 in
    let least : low ≤ number = leb-true _ _ three.0 in
    let most : number ≤ high = leb-true _ _ three.1 in
    let small : nat_lt number limit ≡ true = lt-ltb number limit (omega arith) in
    (number, rw (one.0, small) refl, least, most)

is_text : (a b : Text) → bytes_eq a b ≡ true → a ≡ b
is_text a b e = (bytes_eq-Decides a b).0 e

unlike : (a b : Text) → bytes_eq b a ≡ false → bytes_eq a b ≡ false
unlike a b is = go (bytes_eq a b) refl
  where
    go : (e : Bool) → bytes_eq a b ≡ e → bytes_eq a b ≡ false
    go false t = t
    go true t =
        let same = is_text a b t in
        let both_b : bytes_eq b b ≡ true = subst (λ (x : Text). bytes_eq x b ≡ true) same t in
        let turned : bytes_eq b a ≡ true = subst (λ (x : Text). bytes_eq b x ≡ true) (sym same) both_b in
        let wrong : ⊥ = cc in
        absurd wrong

-- a text that is one of the names of domains names the first of them that has it
named_among : (text : Text) (ds : List Domain) → list_any (λ name. bytes_eq name text) (map domain_name ds) ≡ true
    → (d : Domain) × (find (λ d. bytes_eq text (domain_name d)) ds ≡ Some d)
named_among text [] any = cc
named_among text (d ∷ rest) any = go (bytes_eq text (domain_name d)) refl (λ later. named_among text rest later)
  where
    go : (b : Bool) → bytes_eq text (domain_name d) ≡ b
        → (list_any (λ name. bytes_eq name text) (map domain_name rest) ≡ true → (e : Domain) × (find (λ d. bytes_eq text (domain_name d)) rest ≡ Some e))
        → (e : Domain) × (find (λ d. bytes_eq text (domain_name d)) (d ∷ rest) ≡ Some e)
    go true is rec = (d, rw is refl)
    go false is rec =
        let other : bytes_eq (domain_name d) text ≡ false = unlike (domain_name d) text is in
        let later : list_any (λ name. bytes_eq name text) (map domain_name rest) ≡ true = rw other at any in
        let found = rec later in
        (found.0, rw is found.1)

-- a text that passed the parser of the domains' names
domain_passed : (parser : ValueParser) (text : Text) → TakesDomains parser → accepts false parser text ≡ true → (d : Domain) × (domain_named text ≡ Some d)
domain_passed parser text takes passed =
    let as_names : accepts false (vp.Names takes.0) text ≡ true = subst (λ (p : ValueParser). accepts false p text ≡ true) takes.1 passed in
    let any = sym (list_any-map (λ name. bytes_eq name text) (λ name. name.now) takes.0.now) ∙ as_names in
    named_among text domains (subst (λ (names : List Text). list_any (λ name. bytes_eq name text) names ≡ true) takes.2 any)

-- a text that passed the parser of truth values
truth_passed : (text : Text) → accepts false vp.Bool text ≡ true → (b : Bool) × (truth_of text ≡ Some b)
truth_passed text passed = go (bytes_eq text (codes "true")) refl (bytes_eq text (codes "false")) refl
  where
    go : (t : Bool) → bytes_eq text (codes "true") ≡ t → (f : Bool) → bytes_eq text (codes "false") ≡ f → (b : Bool) × (truth_of text ≡ Some b)
    go true et f ef = (true, rw et refl)
    go false et true ef = (false, rw (et, ef) refl)
    go false et false ef =
        let bad : false ≡ true = rw (et, ef) at passed in
        cc

number_of : (o : NumberRow) (limit : ℕ) (rows : List Row) (text : Text) → o.greatest < limit → one_of o.name rows ≡ Some text
    → accepts false (vp.Unsigned o.least o.greatest) text ≡ true → (n : ℕ) × (number_at o.name limit rows ≡ Some n) × IsInRange o n
number_of o limit rows text fits one passed =
    let n = number_passed o.least o.greatest limit text fits passed in
    (n.0, rw one n.1, (n.2, n.3))

truth_at : (id : Text) (rows : List Row) (text : Text) → one_of id rows ≡ Some text → accepts false vp.Bool text ≡ true → (b : Bool) × (flag_at id rows ≡ Some b)
truth_at id rows text one passed =
    let b = truth_passed text passed in
    (b.0, rw one b.1)

pub options_from : (rows : List Row) (options : Options) → domain_at (codes "domain") rows ≡ Some options.domain → number_at (codes "parts") (2 ^ 32) rows ≡ Some options.parts
    → number_at (codes "delay") (2 ^ 32) rows ≡ Some options.delay → number_at (codes "narrow") (2 ^ 32) rows ≡ Some options.narrow
    → flag_at (codes "limited") rows ≡ Some options.limited → flag_at (codes "thresholds") rows ≡ Some options.thresholds
    → flag_at (codes "fits") rows ≡ Some options.fits → options_of rows ≡ Some options
options_from rows options domain parts delay narrow limited thresholds fits =
    let begun = ap (option_map (λ (d : Domain). record default_options { domain = d })) domain in
    let one = number_read rows _ _ Parts options.parts begun parts in
    let two = number_read rows _ _ Delay options.delay one delay in
    let three = number_read rows _ _ Narrow options.narrow two narrow in
    let four = flag_read rows _ _ Limited options.limited three limited in
    let five = flag_read rows _ _ Thresholds options.thresholds four thresholds in
    flag_read rows _ _ Fits options.fits five fits

-- the ranges that options have are those of their command; `--best` stands for some within them, whatever flag stands
-- beside it
best_within : (fits : Bool) → AllByRecursion (HasInRange (record best_options { fits = fits })) number_options
best_within fits = ((omega arith, omega arith), ((omega arith, omega arith), ((omega arith, omega arith), tt)))

-- with the flags that stand beside it
best_from : (rows : List Row) (fits : Bool) → flag_at (codes "fits") rows ≡ Some fits → gives_any rows ≡ false
    → best_of rows ≡ Some (record best_options { fits = fits })
best_from rows fits is none = rw (none, is) refl

-- what is chosen of options that were read, with `--best` and without it
chosen_from : (rows : List Row) (options : Options) (best json : Bool) → options_of rows ≡ Some options → flag_at (codes "best") rows ≡ Some best
    → flag_at (codes "json") rows ≡ Some json → flag_at (codes "fits") rows ≡ Some options.fits → AllByRecursion (HasInRange options) number_options
    → Gives (Some (codes "analyse", rows))
chosen_from rows options true json taken is as_json fits within = beside (gives_any rows) refl
  where
    beside : (any : Bool) → gives_any rows ≡ any → Gives (Some (codes "analyse", rows))
    beside true any = inr (refl, inl (is, any))
    beside false any = inl (
      Analyse (record best_options { fits = options.fits }) (format_of json),
      rw (is, best_from rows options.fits fits any, as_json) refl,
      best_within options.fits,
    )
chosen_from rows options false json taken is as_json fits within = alone (are_compatible options) refl
  where
    alone : (so : Bool) → are_compatible options ≡ so → Gives (Some (codes "analyse", rows))
    alone true agreed = inl (Analyse options (format_of json), rw (is, taken, agreed, as_json) refl, within)
    alone false apart = inr (refl, inr (options, is, taken, apart))

sample_from : (rows : List Row) (seed size : ℕ) → number_at (codes "seed") (2 ^ 64) rows ≡ Some seed → number_at (codes "size") (2 ^ 32) rows ≡ Some size
    → sample_of rows ≡ Some (Sample seed size)
sample_from rows seed size e f = rw (e, f) refl

back_from : (rows : List Row) (point : ℕ) → number_at (codes "point") (2 ^ 32) rows ≡ Some point → back_of rows ≡ Some (Back point)
back_from rows point e = rw e refl

threads_from : (rows : List Row) (delay narrow : ℕ) → number_at (codes "delay") (2 ^ 32) rows ≡ Some delay → number_at (codes "narrow") (2 ^ 32) rows ≡ Some narrow
    → threads_of rows ≡ Some (Threads delay narrow)
threads_from rows delay narrow e f = rw (e, f) refl

-- ---- the subcommands as a parse builds them

abbrev built_rule : Rule → Rule
built_rule a = with_index 1 (filled a)

abbrev sub_at : ValueParser → ℕ → Shape
sub_at parser k = Rattle.std.specs.List.slice_index_or (built (command_line parser)).subs k (new_shape [])

analyse_own : (parser : ValueParser) → AllOwn (sub_at parser 0).rules (sub_at parser 0).rules
analyse_own parser = (
  (refl, option_adds (built_rule (domain_rule parser)) refl refl),
  (
    (refl, option_adds (built_rule (number_rule (number_row Parts))) refl refl),
    (
      (refl, option_adds (built_rule (number_rule (number_row Delay))) refl refl),
      (
        (refl, option_adds (built_rule (number_rule (number_row Narrow))) refl refl),
        (
          (refl, flag_adds (built_rule (flag (flag_row Limited).name)) (codes "true") refl refl),
          (
            (refl, flag_adds (built_rule (flag (flag_row Thresholds).name)) (codes "true") refl refl),
            (
              (refl, flag_adds (built_rule (flag (flag_row Fits).name)) (codes "true") refl refl),
              (
                (refl, flag_adds (built_rule best_rule) (codes "true") refl refl),
                (
                  (refl, flag_adds (built_rule json_rule) (codes "true") refl refl),
                  (
                    (refl, option_adds (built_rule file_rule) refl refl),
                    ((refl, help_adds (built_rule help_rule) refl), tt),
                  ),
                ),
              ),
            ),
          ),
        ),
      ),
    ),
  ),
)

analyse_taken : (parser : ValueParser) → TakesDomains parser → (words : List Text) → level_fault (sub_at parser 0) [] nothing_held words false [] ≡ []
    → Gives (Some (rows_at (sub_at parser 0) words))
analyse_taken parser takes words e =
    let shape = sub_at parser 0 in
    let rows = rows_after shape.rules [] words in
    let fit = level_rows shape refl (analyse_own parser) words e in
    let domain_text = defaulted_value shape words (built_rule (domain_rule parser)) fit refl refl refl in
    let parts_text = defaulted_value shape words (built_rule (number_rule (number_row Parts))) fit refl refl refl in
    let delay_text = defaulted_value shape words (built_rule (number_rule (number_row Delay))) fit refl refl refl in
    let narrow_text = defaulted_value shape words (built_rule (number_rule (number_row Narrow))) fit refl refl refl in
    let limited_text = defaulted_value shape words (built_rule (flag (flag_row Limited).name)) fit refl refl refl in
    let thresholds_text = defaulted_value shape words (built_rule (flag (flag_row Thresholds).name)) fit refl refl refl in
    let fits_text = defaulted_value shape words (built_rule (flag (flag_row Fits).name)) fit refl refl refl in
    let best_text = defaulted_value shape words (built_rule best_rule) fit refl refl refl in
    let json_text = defaulted_value shape words (built_rule json_rule) fit refl refl refl in
    let domain = domain_passed parser domain_text.text takes domain_text.passed in
    let parts = number_of (number_row Parts) (2 ^ 32) rows parts_text.text (lit< tt) parts_text.one parts_text.passed in
    let delay = number_of (number_row Delay) (2 ^ 32) rows delay_text.text (lit< tt) delay_text.one delay_text.passed in
    let narrow = number_of (number_row Narrow) (2 ^ 32) rows narrow_text.text (lit< tt) narrow_text.one narrow_text.passed in
    let limited = truth_at (codes "limited") rows limited_text.text limited_text.one limited_text.passed in
    let thresholds = truth_at (codes "thresholds") rows thresholds_text.text thresholds_text.one thresholds_text.passed in
    let fits = truth_at (codes "fits") rows fits_text.text fits_text.one fits_text.passed in
    let best = truth_at (codes "best") rows best_text.text best_text.one best_text.passed in
    let json = truth_at (codes "json") rows json_text.text json_text.one json_text.passed in
    let options : Options = record {
      domain = domain.0;
      parts = parts.0;
      delay = delay.0;
      narrow = narrow.0;
      limited = limited.0;
      thresholds = thresholds.0;
      fits = fits.0;
    } in
    let has_domain : domain_at (codes "domain") rows ≡ Some domain.0 = ap (option_and_then domain_named) domain_text.first ∙ domain.1 in
    let taken = options_from rows options has_domain parts.1 delay.1 narrow.1 limited.1 thresholds.1 fits.1 in
    chosen_from rows options best.0 json.0 taken best.1 json.1 fits.1 (parts.2, (delay.2, (narrow.2, tt)))

sample_own : (parser : ValueParser) → AllOwn (sub_at parser 1).rules (sub_at parser 1).rules
sample_own parser = (
  (refl, option_adds (built_rule (number_rule seed_option)) refl refl),
  (
    (refl, option_adds (built_rule (number_rule size_option)) refl refl),
    ((refl, help_adds (built_rule help_rule) refl), tt),
  ),
)

nothing_wanted : (help subcommand argument : Bool) → check_kinds help subcommand argument ≡ [] → (subcommand ≡ false) × (argument ≡ false)
nothing_wanted true subcommand argument e = cc
nothing_wanted false true argument e = cc
nothing_wanted false false true e = cc
nothing_wanted false false false e = (refl, refl)

both_given : (seed size : Bool) → (not seed || (not size || false)) ≡ false → (seed ≡ true) × (size ≡ true)
both_given true true e = (refl, refl)
both_given true false e = cc
both_given false size e = cc

sample_taken : (parser : ValueParser) (words : List Text) → level_fault (sub_at parser 1) [] nothing_held words false [] ≡ []
    → (c : Command) × (sample_of (rows_after (sub_at parser 1).rules [] words) ≡ Some c) × IsWithinRanges c
sample_taken parser words e =
    let shape = sub_at parser 1 in
    let rows = rows_after shape.rules [] words in
    let fit = level_rows shape refl (sample_own parser) words e in
    let checks = (level_parts shape [] words false [] e).4 in
    let wanted = nothing_wanted false false (not (is_given (codes "seed") rows) || (not (is_given (codes "size") rows) || false)) checks in
    let given = both_given (is_given (codes "seed") rows) (is_given (codes "size") rows) wanted.1 in
    let seed_text = value_there shape.rules rows (built_rule (number_rule seed_option)) fit refl (given_there (codes "seed") rows given.0) in
    let size_text = value_there shape.rules rows (built_rule (number_rule size_option)) fit refl (given_there (codes "size") rows given.1) in
    let seed = number_of seed_option (2 ^ 64) rows seed_text.text (lit< tt) seed_text.one seed_text.passed in
    let size = number_of size_option (2 ^ 32) rows size_text.text (lit< tt) size_text.one size_text.passed in
    (Sample seed.0 size.0, sample_from rows seed.0 size.0 seed.1 size.1, (seed.2, size.2))

back_own : (parser : ValueParser) → AllOwn (sub_at parser 2).rules (sub_at parser 2).rules
back_own parser = (
  (refl, option_adds (built_rule (number_rule point_option)) refl refl),
  (
    (refl, option_adds (built_rule file_rule) refl refl),
    ((refl, help_adds (built_rule help_rule) refl), tt),
  ),
)

one_given : (point : Bool) → (not point || false) ≡ false → point ≡ true
one_given true e = refl
one_given false e = cc

back_taken : (parser : ValueParser) (words : List Text) → level_fault (sub_at parser 2) [] nothing_held words false [] ≡ []
    → (c : Command) × (back_of (rows_after (sub_at parser 2).rules [] words) ≡ Some c) × IsWithinRanges c
back_taken parser words e =
    let shape = sub_at parser 2 in
    let rows = rows_after shape.rules [] words in
    let fit = level_rows shape refl (back_own parser) words e in
    let checks = (level_parts shape [] words false [] e).4 in
    let wanted = nothing_wanted false false (not (is_given (codes "point") rows) || false) checks in
    let given = one_given (is_given (codes "point") rows) wanted.1 in
    let point_text = value_there shape.rules rows (built_rule (number_rule point_option)) fit refl (given_there (codes "point") rows given) in
    let point = number_of point_option (2 ^ 32) rows point_text.text (lit< tt) point_text.one point_text.passed in
    (Back point.0, back_from rows point.0 point.1, point.2)

threads_own : (parser : ValueParser) → AllOwn (sub_at parser 3).rules (sub_at parser 3).rules
threads_own parser = (
  (refl, option_adds (built_rule (number_rule (number_row Delay))) refl refl),
  (
    (refl, option_adds (built_rule (number_rule (number_row Narrow))) refl refl),
    (
      (refl, option_adds (built_rule file_rule) refl refl),
      ((refl, help_adds (built_rule help_rule) refl), tt),
    ),
  ),
)

threads_taken : (parser : ValueParser) (words : List Text) → level_fault (sub_at parser 3) [] nothing_held words false [] ≡ []
    → (c : Command) × (threads_of (rows_after (sub_at parser 3).rules [] words) ≡ Some c) × IsWithinRanges c
threads_taken parser words e =
    let shape = sub_at parser 3 in
    let rows = rows_after shape.rules [] words in
    let fit = level_rows shape refl (threads_own parser) words e in
    let delay_text = defaulted_value shape words (built_rule (number_rule (number_row Delay))) fit refl refl refl in
    let narrow_text = defaulted_value shape words (built_rule (number_rule (number_row Narrow))) fit refl refl refl in
    let delay = number_of (number_row Delay) (2 ^ 32) rows delay_text.text (lit< tt) delay_text.one delay_text.passed in
    let narrow = number_of (number_row Narrow) (2 ^ 32) rows narrow_text.text (lit< tt) narrow_text.one narrow_text.passed in
    (Threads delay.0 narrow.0, threads_from rows delay.0 narrow.0 delay.1 narrow.1, (delay.2, narrow.2))

-- ---- the whole parse

-- the first of a list, or one after it
first_or : (C : Option Shape → Type 0) (test : Shape → Bool) (a : Shape) (rest : List Shape)
    → (test a ≡ true → C (Some a)) → C (find test rest) → C (find test (a ∷ rest))
first_or C test a rest on_a later = go (test a) refl
  where
    go : (t : Bool) → test a ≡ t → C (find test (a ∷ rest))
    go true is = rw is (on_a is)
    go false is = rw is later

-- one of the commands without options, or one after them
plain_or : (C : Option Shape → Type 0) (test : Shape → Bool) (shape : PlainCommand → Shape) (cs : List PlainCommand) (rest : List Shape)
    → ((c : PlainCommand) → test (shape c) ≡ true → C (Some (shape c))) → C (find test rest) → C (find test (map shape cs ++ rest))
plain_or C test shape [] rest on_each later = later
plain_or C test shape (c ∷ cs) rest on_each later = first_or C test (shape c) (map shape cs ++ rest) (on_each c) (plain_or C test shape cs rest on_each later)

-- a command without options as a parse builds it
abbrev plain_built : ValueParser → PlainCommand → Shape
plain_built parser c = built_leaf (inherited (with_leaf_noted (marked_built (command_line parser).top)) (subcommand_app parser (sub.Plain c)).top)

-- `help`
abbrev last_sub : ValueParser → Shape
last_sub parser = sub_at parser (4 + length plain_commands)

-- what the subcommand gives that a walk stopped at
abbrev GivesAt : List Text → Option Shape → Type 0
GivesAt words o = option_map_or (λ s. level_fault s [] nothing_held words false []) o [] ≡ [] → is_some (option_map (λ s. rows_at s words) o) ≡ true
    → Gives (option_map (λ s. rows_at s words) o)

stop_gives : (parser : ValueParser) → TakesDomains parser → (stop : Option (Text × List Text)) → IsNoHelp stop → entered_fault (built (command_line parser)) stop ≡ []
    → is_some (entered (built (command_line parser)) stop) ≡ true → Gives (entered (built (command_line parser)) stop)
stop_gives parser takes None no_help e some = cc
stop_gives parser takes (Some p) no_help e some =
    let test = λ (s : Shape). answers_to p.0 (label_of s) in
    let later = map (plain_built parser) plain_commands ++ last_sub parser ∷ [] in
    first_or (GivesAt p.1) test (sub_at parser 0) (sub_at parser 1 ∷ (sub_at parser 2 ∷ (sub_at parser 3 ∷ later))) analyse
    (first_or (GivesAt p.1) test (sub_at parser 1) (sub_at parser 2 ∷ (sub_at parser 3 ∷ later)) sample
    (first_or (GivesAt p.1) test (sub_at parser 2) (sub_at parser 3 ∷ later) back
    (first_or (GivesAt p.1) test (sub_at parser 3) later threads
    (plain_or (GivesAt p.1) test (plain_built parser) plain_commands (last_sub parser ∷ []) plain_one
    (first_or (GivesAt p.1) test (last_sub parser) [] help (λ f h. cc)))))) e some
  where
    analyse : answers_to p.0 (label_of (sub_at parser 0)) ≡ true → GivesAt p.1 (Some (sub_at parser 0))
    analyse named f h = analyse_taken parser takes p.1 f

    sample : answers_to p.0 (label_of (sub_at parser 1)) ≡ true → GivesAt p.1 (Some (sub_at parser 1))
    sample named f h = inl (sample_taken parser p.1 f)

    back : answers_to p.0 (label_of (sub_at parser 2)) ≡ true → GivesAt p.1 (Some (sub_at parser 2))
    back named f h = inl (back_taken parser p.1 f)

    threads : answers_to p.0 (label_of (sub_at parser 3)) ≡ true → GivesAt p.1 (Some (sub_at parser 3))
    threads named f h = inl (threads_taken parser p.1 f)

    plain_one : (c : PlainCommand) → answers_to p.0 (label_of (plain_built parser c)) ≡ true → GivesAt p.1 (Some (plain_built parser c))
    plain_one c named f h = inl (Plain c, rw (named_plain c) refl, tt)

    help : answers_to p.0 (label_of (last_sub parser)) ≡ true → GivesAt p.1 (Some (last_sub parser))
    help named f h =
        let is : codes "help" ≡ p.0 = is_text (codes "help") p.0 (only (bytes_eq (codes "help") p.0) named) in
        let bad : true ≡ false = rw (← is) at no_help in
        cc
      where
        only : (b : Bool) → (b || false) ≡ true → b ≡ true
        only true x = refl
        only false x = cc

-- if a subcommand is required, a level without a fault has met one
subcommand_met : (s : Shape) (rows : List Row) (has : Bool) → s.subcommand_required ≡ true → check_fault s rows has ≡ [] → has ≡ true
subcommand_met s rows true required e = refl
subcommand_met s rows false required e =
    let wanted = nothing_wanted (s.arg_required_else_help && not (list_any (λ r. explicit_source r.source) rows)) s.subcommand_required
    (not (s.subcommand_negates_reqs && false) && list_any (λ a. a.required && not (is_given a.id rows)) s.rules) e in
    let bad : true ≡ false = sym required ∙ wanted.0 in
    cc

-- words without a fault give a command within its ranges, or their options conflict
pub words_give : (parser : ValueParser) → TakesDomains parser → (words : List Text) → fault_of (command_line parser) words ≡ [] → Gives (subcommand_of (command_line parser) words)
words_give parser takes words e =
    let whole = built (command_line parser) in
    let rest = argument_words (command_line parser) words in
    let stop = (walk whole.top.rules (names_of whole) nothing_held rest).stopped in
    let parts = level_parts whole.top (names_of whole) rest (is_some (entered whole stop)) (entered_fault whole stop) e in
    let no_help = walk_stop whole.top (names_of whole) refl rest (walk_from nothing_held) parts.0 tt in
    let rows = finished whole.top.rules (walk whole.top.rules (names_of whole) nothing_held rest).held in
    stop_gives parser takes stop no_help parts.1 (subcommand_met whole.top rows (is_some (entered whole stop)) refl parts.4)
