-- What the clauses of a parse say of the words.
use Rattle.std.proofs.Common.{◌≡◌, ◌∙◌, Bool, List, [], ◌∷◌, Option, Some, None, Result, Ok, Err, ap, inl, inr, refl, sym, true, false}
use Rattle.std.specs.{Borrow.Bor, Prelude.IfErr, Prelude.IfOk, Prelude.option_map, Prelude.unwrap_or, Prelude.if◌then◌else◌}
use Rattle.clap.specs.Words.{App, FailsBy, HasKind, HasMatchesOf, IsAmong, Row, Text, fault_of, found_of, is_simple, is_simple_and_free, kind_of, rows_of, subcommand_name_of, subcommand_of}
use Rattle.clap.specs.{Simple.subcommand_rows, Words.subcommand_rows_of, Words.takes, declared.builder.value_parser.ValueParser.ValueParser, declared.error.Error.Error}
use Rattle.clap.specs.{declared.error.kind.ErrorKind.ErrorKind, declared.parser.matches.ArgMatches.ArgMatches, declared.parser.matches.ArgMatches.TheViews.out-ArgMatches}
use Rattle.clap.specs.declared.error.kind.ErrorKind.TheVariants as kind
use Rattle.clap.proofs.OnLiterals.{clap_on_literals}
use Rattle.lra_command_line.specs.Requests.{IsConflict, IsFaulted, IsTakenAs, IsUnasked, is_shown, refusal, unasked_by}
use Rattle.lra_command_line.specs.{CommandLine.DeclaresCommandLine, CommandLine.command_line, ParsedCommand.AsksNone, ParsedCommand.AsksOver, ParsedCommand.IsRejected, ParsedCommand.IsWithinRanges}
use Rattle.lra_command_line.specs.{ParsedCommand.command_of, ParsedCommand.named_file, declared.commands.Command.Command, declared.words.Refusal.TheVariants.Usage, declared.words.Unasked.Unasked}
use Rattle.lra_command_line.specs.declared.words.Unasked.TheVariants as unasked
use Rattle.lra_command_line.proofs.{Conflicts.conflict, Conflicts.within, TakenWords.words_give}

line_is_simple_and_free : (domains : ValueParser) → is_simple_and_free (command_line domains) ≡ true
unfolding clap_on_literals
line_is_simple_and_free domains = refl

line_is_simple : (domains : ValueParser) → is_simple (command_line domains) ≡ true
unfolding clap_on_literals
line_is_simple domains = refl

-- ---- a parse that failed

-- an error is one of memory, a request that is shown, or a mistake
each_kind : (C : Unasked → Type 0) (e : Error) (k : ErrorKind) → (k ≡ kind.OutOfMemory → C unasked.Memory)
    → ((shown : Bool) → is_shown k ≡ shown → (k ≡ kind.OutOfMemory → ⊥) → C (if shown then unasked.Shown e else unasked.Refused e)) → C (unasked_by k e)
each_kind C e kind.OutOfMemory memory other = memory refl
each_kind C e kind.DisplayHelp memory other = other true refl (λ f. cc)
each_kind C e kind.DisplayVersion memory other = other true refl (λ f. cc)
each_kind C e kind.InvalidValue memory other = other false refl (λ f. cc)
each_kind C e kind.UnknownArgument memory other = other false refl (λ f. cc)
each_kind C e kind.InvalidSubcommand memory other = other false refl (λ f. cc)
each_kind C e kind.NoEquals memory other = other false refl (λ f. cc)
each_kind C e kind.ValueValidation memory other = other false refl (λ f. cc)
each_kind C e kind.TooManyValues memory other = other false refl (λ f. cc)
each_kind C e kind.TooFewValues memory other = other false refl (λ f. cc)
each_kind C e kind.WrongNumberOfValues memory other = other false refl (λ f. cc)
each_kind C e kind.ArgumentConflict memory other = other false refl (λ f. cc)
each_kind C e kind.MissingRequiredArgument memory other = other false refl (λ f. cc)
each_kind C e kind.MissingSubcommand memory other = other false refl (λ f. cc)
each_kind C e kind.DisplayHelpOnMissingArgumentOrSubcommand memory other = other false refl (λ f. cc)
each_kind C e kind.Io memory other = other false refl (λ f. cc)
each_kind C e kind.Format memory other = other false refl (λ f. cc)

-- memory ran out before the parse
pub out_of_memory : (words : List Text) (e : Error) → kind_of e ≡ kind.OutOfMemory → IsUnasked words (unasked_by (kind_of e) e)
out_of_memory words e is = rw is tt

failed : (a : App) (words : List Text) (e : Error) → DeclaresCommandLine a → (is_simple_and_free a ≡ true → HasKind (fault_of a words) e)
    → (takes a words ≡ true → kind_of e ≡ kind.OutOfMemory) → IsUnasked words (unasked_by (kind_of e) e)
failed a words e declares kinds passes = each_kind (IsUnasked words) e (kind_of e) (λ memory. tt) mistake
  where
    has : HasKind (fault_of (command_line declares.0) words) e
    has = (rw declares.2 at kinds) (line_is_simple_and_free declares.0)

    untaken : takes (command_line declares.0) words ≡ true → kind_of e ≡ kind.OutOfMemory
    untaken = rw declares.2 at passes

    is_one : (kind_of e ≡ kind.OutOfMemory → ⊥) → HasKind (fault_of (command_line declares.0) words) e → IsAmong (kind_of e) (fault_of (command_line declares.0) words)
    is_one other (inl memory) = absurd (other memory)
    is_one other (inr among) = among

    faulted : (shown : Bool) → is_shown (kind_of e) ≡ shown → (kind_of e ≡ kind.OutOfMemory → ⊥) → IsFaulted words shown
    faulted shown is other = record {
      parser = declares.0;
      domains = declares.1;
      kind = kind_of e;
      is_kind = is_one other has;
      is_such = is;
      rejected = λ t. other (untaken t);
    }

    mistake : (shown : Bool) → is_shown (kind_of e) ≡ shown → (kind_of e ≡ kind.OutOfMemory → ⊥) → IsUnasked words (if shown then unasked.Shown e else unasked.Refused e)
    mistake true is other = faulted true is other
    mistake false is other = faulted false is other

-- such words ask for no command
faulted_asks_none : (words : List Text) (shown : Bool) → IsFaulted words shown → AsksNone words × IsRejected words
faulted_asks_none words shown f =
    ((f.parser, f.domains, λ none. absurd (nowhere (fault_of (command_line f.parser) words) f.is_kind none)), (f.parser, f.domains, λ t. absurd (f.rejected t)))
  where
    nowhere : (ks : List ErrorKind) → IsAmong f.kind ks → ks ≡ [] → ⊥
    nowhere [] among none = among
    nowhere (k ∷ ks) among none = cc

-- nor do those whose options conflict
conflict_asks_none : (words : List Text) → IsConflict words → AsksNone words × IsRejected words
conflict_asks_none words c = ((c.parser, c.domains, λ e. c.conflicting), (c.parser, c.domains, λ e. c.conflicting))

-- so words that are refused for another cause than memory ask for none
pub unasked_asks_none : (words : List Text) (why : Unasked) → IsUnasked words why → refusal why ≡ Usage → AsksNone words × IsRejected words
unasked_asks_none words unasked.Memory is usage = cc
unasked_asks_none words (unasked.Shown e) is usage = faulted_asks_none words true is
unasked_asks_none words (unasked.Refused e) is usage = faulted_asks_none words false is
unasked_asks_none words unasked.Conflict is usage = conflict_asks_none words is

-- ---- a parse that succeeded

succeeded : (a : App) (words : List Text) (m : ArgMatches) → DeclaresCommandLine a → (is_simple_and_free a ≡ true → fault_of a words ≡ [])
    → HasMatchesOf a words m → IsTakenAs words m
succeeded a words m declares kinds matches =
    let line_kinds = rw declares.2 at kinds in
    let line_matches = rw declares.2 at matches in
    record {
      parser = declares.0;
      domains = declares.1;
      none = line_kinds (line_is_simple_and_free declares.0);
      rows = (line_matches (line_is_simple declares.0)).1;
    }

-- what a parse answers
pub parsed : (a : App) (words : List Text) (r : Result ArgMatches Error) → DeclaresCommandLine a → (is_simple_and_free a ≡ true → FailsBy (fault_of a words) r)
    → IfOk r (HasMatchesOf a words) → IfErr r (λ e. takes a words ≡ true → kind_of e ≡ kind.OutOfMemory)
    → IfOk r (IsTakenAs words) × IfErr r (λ e. IsUnasked words (unasked_by (kind_of e) e))
parsed a words (Ok m) declares kinds matches passes = (succeeded a words m declares kinds matches, tt)
parsed a words (Err e) declares kinds matches passes = (tt, failed a words e declares kinds passes)

option_map_map : {A B C : Type 0} (f : A → B) (g : B → C) (o : Option A) → option_map g (option_map f o) ≡ option_map (λ x. g (f x)) o
option_map_map f g None = refl
option_map_map f g (Some x) = refl

-- the name and the rows that `subcommand` hands out
pub handed_out : (m : ArgMatches) (r : Option (Bor Text × Bor ArgMatches)) (name : Bor Text) (inner : Bor ArgMatches)
    → option_map (λ p. p.0.now) r ≡ subcommand_name_of m → option_map (λ p. rows_of (found_of p.1.now)) r ≡ option_map (λ p. p.1) (subcommand_rows (out-ArgMatches m).subcommand)
    → r ≡ Some (name, inner) → Some (name.now, rows_of (found_of inner.now)) ≡ subcommand_rows_of m
handed_out m r name inner names rows is =
    let its_name = rw is at names in
    let its_rows = rw is at rows in
    whole name.now (rows_of (found_of inner.now)) (subcommand_rows_of m) (its_name ∙ sym (option_map_map _ (λ (q : Text × List Row). q.0) (out-ArgMatches m).subcommand)) its_rows
  where
    whole : (n : Text) (w : List Row) (o : Option (Text × List Row)) → Some n ≡ option_map (λ q. q.0) o → Some w ≡ option_map (λ q. q.1) o → Some (n, w) ≡ o
    whole n w None e f = cc
    whole n w (Some q) e f =
        let same_name : n ≡ q.0 = ap (λ (o : Option Text). unwrap_or o q.0) e in
        let same_rows : w ≡ q.1 = ap (λ (o : Option (List Row)). unwrap_or o q.1) f in
        rw (same_name, same_rows) refl

-- nothing is handed out if there is no subcommand
pub none_handed_out : (m : ArgMatches) (r : Option (Bor Text × Bor ArgMatches)) → option_map (λ p. p.0.now) r ≡ subcommand_name_of m → r ≡ None
    → command_of (subcommand_rows_of m) ≡ None
none_handed_out m r names is =
    let its_name = rw is at names in
    absent (subcommand_rows_of m) (its_name ∙ sym (option_map_map _ (λ (q : Text × List Row). q.0) (out-ArgMatches m).subcommand))
  where
    absent : (o : Option (Text × List Row)) → None ≡ option_map (λ q. q.0) o → command_of o ≡ None
    absent None e = refl
    absent (Some q) e = cc

module _ (words : List Text) (m : ArgMatches) (done : IsTakenAs words m) where
  given : (chosen : Option Command) → chosen ≡ command_of (subcommand_rows_of m) → chosen ≡ command_of (subcommand_of (command_line done.parser) words)
  given chosen is = is ∙ ap command_of done.rows

  pub taken_over : (c : Command) (file : Option Text) → Some c ≡ command_of (subcommand_rows_of m) → file ≡ named_file (subcommand_rows_of m) → AsksOver words c file × IsWithinRanges c
  taken_over c file is named =
      let same : command_of (subcommand_of (command_line done.parser) words) ≡ Some c = sym (given (Some c) is) in (
        (done.parser, done.domains, done.none, same, sym (named ∙ ap named_file done.rows)),
        within (subcommand_of (command_line done.parser) words) c (words_give done.parser done.domains words done.none) same,
      )

  -- options that can't be given together
  pub conflicts : None ≡ command_of (subcommand_rows_of m) → IsConflict words
  conflicts is = record {
    parser = done.parser;
    domains = done.domains;
    none = done.none;
    conflicting = conflict (subcommand_of (command_line done.parser) words) (words_give done.parser done.domains words done.none) (sym (given None is));
  }
