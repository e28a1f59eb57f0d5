-- Words give one command or are refused, wherever in memory the names of the domains lie.
use Rattle.std.proofs.Common.{◌≡◌, ◌∙◌, ◌⊎◌, inl, inr, List, [], ◌∷◌, map, Option, Some, ap, refl, sym, drop, codes}
use Rattle.std.specs.{Borrow.Bor, Prelude.None, Prelude.unwrap_or}
use Rattle.clap.specs.Words.{App, Text, fault_of, subcommand_of}
use Rattle.clap.specs.{Faults.built_fault, Simple.built, Simple.entered, Simple.names_of, Walk.stop_after, Walk.nothing_held, declared.builder.value_parser.ValueParser.ValueParser}
use Rattle.clap.specs.declared.builder.value_parser.ValueParser.TheVariants as vp
use Rattle.clap.proofs.OnLiterals.{clap_on_literals}
use Rattle.lra_command_line.specs.ParsedCommand.{Asks, AsksNone, AsksOver, IsWithinRanges, command_of, named_file}
use Rattle.lra_command_line.specs.{CommandLine.TakesDomains, CommandLine.command_line, declared.commands.Command.Command}
use Rattle.lra_command_line.proofs.SameWalk.{placed, in_app, entered_same, stop_same}
use Rattle.lra_command_line.proofs.{Conflicts.Gives, Conflicts.no_command, Conflicts.within, SameFaults.built_same, TakenWords.words_give}

-- the parser of these names, each at one place
named : List Text → ValueParser
named names = vp.Names (record { ref_ptr = (0, 0); now = map {B = Bor Text} (λ (name : Text). record { ref_ptr = (0, 0); now = name }) names })

names_moved : (names : List (Bor Text)) → map {B = Bor Text} (λ (name : Bor Text). record { ref_ptr = (0, 0); now = name.now }) names ≡
    map {B = Bor Text} (λ (name : Text). record { ref_ptr = (0, 0); now = name }) (map (λ (name : Bor Text). name.now) names)
names_moved [] = refl
names_moved (name ∷ rest) = ap (λ (names : List (Bor Text)). record { ref_ptr = (0, 0); now = name.now } ∷ names) (names_moved rest)

placed_names : (names : Bor (List (Bor Text))) → placed (vp.Names names) ≡ named (map (λ (name : Bor Text). name.now) names.now)
unfolding named
placed_names names = ap (λ (moved : List (Bor Text)). vp.Names (record { ref_ptr = (0, 0); now = moved })) (names_moved names.now)

the_domains : ValueParser
the_domains = named (codes "poly" ∷ (codes "box" ∷ (codes "oct" ∷ [])))

placed_domains : (domains : ValueParser) → TakesDomains domains → placed domains ≡ the_domains
unfolding the_domains
placed_domains domains takes = ap placed takes.1 ∙ placed_names takes.0 ∙ ap named takes.2

built_placed : (domains : ValueParser) → built (command_line (placed domains)) ≡ in_app (built (command_line domains))
unfolding clap_on_literals
built_placed domains = refl

takes_the_domains : TakesDomains the_domains
unfolding the_domains named
takes_the_domains = (
  record {
    ref_ptr = (0, 0);
    now = map {B = Bor Text} (λ (name : Text). record { ref_ptr = (0, 0); now = name }) (codes "poly" ∷ (codes "box" ∷ (codes "oct" ∷ [])));
  },
  refl,
  refl,
)

-- a list of kinds is empty or isn't
no_fault : {A : Type 0} (ks : List A) → (ks ≡ []) ⊎ (ks ≡ [] → ⊥)
no_fault [] = inl refl
no_fault (k ∷ ks) = inr (λ e. cc)

module _ (words : List Text) where
  fault_placed : (domains : ValueParser) → fault_of (command_line (placed domains)) words ≡ fault_of (command_line domains) words
  fault_placed domains =
      ap (λ (a : App). built_fault a nothing_held (drop 1 words)) (built_placed domains) ∙ built_same (built (command_line domains)) nothing_held (drop 1 words)

  rows_placed : (domains : ValueParser) → subcommand_of (command_line (placed domains)) words ≡ subcommand_of (command_line domains) words
  rows_placed domains =
      ap (λ (a : App). entered a (stop_after a.top.rules (names_of a) (drop 1 words))) (built_placed domains)
      ∙ ap (entered (in_app (built (command_line domains)))) (stop_same (built (command_line domains)) nothing_held (drop 1 words))
      ∙ entered_same (built (command_line domains)) (stop_after (built (command_line domains)).top.rules (names_of (built (command_line domains))) (drop 1 words))

  -- the faults and the matches of any two such command lines
  one_fault : (d e : ValueParser) → TakesDomains d → TakesDomains e → fault_of (command_line d) words ≡ fault_of (command_line e) words
  one_fault d e p q = sym (fault_placed d) ∙ ap (λ (x : ValueParser). fault_of (command_line x) words) (placed_domains d p ∙ sym (placed_domains e q)) ∙ fault_placed e

  one_rows : (d e : ValueParser) → TakesDomains d → TakesDomains e → subcommand_of (command_line d) words ≡ subcommand_of (command_line e) words
  one_rows d e p q = sym (rows_placed d) ∙ ap (λ (x : ValueParser). subcommand_of (command_line x) words) (placed_domains d p ∙ sym (placed_domains e q)) ∙ rows_placed e

  -- words that ask for a command don't ask for none
  pub asks_not_none : (c : Command) → Asks words c → AsksNone words → ⊥
  asks_not_none c asks none =
      let nothing = no_command (subcommand_of (command_line none.0) words) (none.2 (one_fault none.0 asks.0 none.1 asks.1 ∙ asks.2)) in
      let both : Some c ≡ None = sym asks.3 ∙ ap command_of (one_rows asks.0 none.0 asks.1 none.1) ∙ nothing in
      let wrong : ⊥ = cc in
      absurd wrong

  -- and ask for one command
  pub one_asked : (c d : Command) → Asks words c → Asks words d → c ≡ d
  one_asked c d asks other =
      let both : Some c ≡ Some d = sym asks.3 ∙ ap command_of (one_rows asks.0 other.0 asks.1 other.1) ∙ other.3 in
      ap (λ (o : Option Command). unwrap_or o c) both

  -- over one file
  pub one_named : (c d : Command) (file other : Option Text) → AsksOver words c file → AsksOver words d other → file ≡ other
  one_named c d file other asks beside = sym asks.4 ∙ ap named_file (one_rows asks.0 beside.0 asks.1 beside.1) ∙ beside.4

  -- whose values lie in their ranges
  pub asks_within : (c : Command) → Asks words c → IsWithinRanges c
  asks_within c asks = within (subcommand_of (command_line asks.0) words) c (words_give asks.0 asks.1 words asks.2) asks.3

  -- they ask for one, or for none
  pub each_asks : AsksNone words ⊎ ((c : Command) × Asks words c × IsWithinRanges c × ((d : Command) → Asks words d → d ≡ c))
  each_asks = elim (no_fault (fault_of (command_line the_domains) words)) [
    | inl none ↦ by_given none (words_give the_domains takes_the_domains words none)
    | inr some ↦ inl (the_domains, takes_the_domains, λ none. absurd (some none))
  ]
    where
      by_given : fault_of (command_line the_domains) words ≡ [] → Gives (subcommand_of (command_line the_domains) words)
          → AsksNone words ⊎ ((c : Command) × Asks words c × IsWithinRanges c × ((d : Command) → Asks words d → d ≡ c))
      by_given none (inl (c, is, ranges)) =
          let asks : Asks words c = (the_domains, takes_the_domains, none, is) in
          inr (c, asks, ranges, λ d other. one_asked d c other asks)
      by_given none (inr conflicting) = inl (the_domains, takes_the_domains, λ e. conflicting)
