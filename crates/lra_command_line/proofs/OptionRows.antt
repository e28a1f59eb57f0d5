-- What a walk without a fault leaves in the rows, if each argument of the command is to be used
-- once.
use Rattle.std.proofs.Common.{◌≡◌, ◌∙◌, ◌++◌, ◌&&◌, ℕ, Bool, List, [], ◌∷◌, Option, Some, None, ap, codes, refl, sym, subst, true, false, zero, suc, append-nil, arith}
use Rattle.std.proofs.{lemmas.Bool.ne_eqb, lemmas.Slice.Eq.bytes_eq-Decides}
use Rattle.std.specs.{Option.option_map_or, Prelude.find, Prelude.fold, Prelude.is_some, Prelude.length, Prelude.slice_get, Prelude.unwrap_or, Prelude.if◌then◌else◌, Str.bytes_eq, Str.chars}
use Rattle.clap.specs.Faults.{action_fault, bundle_step_fault, check_fault, default_fault, level_fault, defaults_fault, flags_fault, given_default_fault, long_fault, option_fault, positional_fault}
use Rattle.clap.specs.Faults.{react_fault, repeat_fault, set_fault, settle_fault, short_fault, stray_fault, bundle_fault, flag_word_fault, other_fault, step_fault, turn_fault, use_fault, values_fault}
use Rattle.clap.specs.Walk.{Held, Names, Outcome, Row, Rule, Step, Text, Waiting, Walk, action_of, after_flag, after_step, arg_by_id, arg_by_index, arg_by_long, arg_by_short, at_row, attached_value}
use Rattle.clap.specs.Walk.{bundle, bundle_met, bundle_step, done, finished, first_of, has_row, idle, is_empty, is_pending, long_met, long_or_other, more_values, most_values, next, nothing_held}
use Rattle.clap.specs.Walk.{rows_after, short_or_plain, subcommand_or_other, to_positional, one_of, option, option_met, option_word, plain, plain_word, positional, reacted, reading_by, refused}
use Rattle.clap.specs.Walk.{settled, settled_rows, short_met, subcommand, subcommand_met, takes_several, takes_values, trailing, used, value, values_or_missing, waits, walk, walk_from, walked}
use Rattle.clap.specs.declared.builder.action.ArgAction.TheVariants.{Help, Set, SetTrue}
use Rattle.clap.specs.{Facts.parser_of_value, Facts.unwrap_or_range, Faults.walk_fault, Faults.word_fault, Kinds.Kinds, Kinds.or_else, Kinds.range_kinds, Lexer.long_of, Lexer.short_of, Simple.Shape}
use Rattle.clap.specs.{Takes.is_given, ValueTests.accepts, Values.read_as, Walk.walked_from, Walk.with_default, Walk.with_values, Walk.without, Walk.word_met}
use Rattle.clap.specs.{declared.parser.matches.ValueSource.ValueSource, declared.parser.matches.ValueSource.TheVariants.CommandLine, declared.parser.matches.ValueSource.TheVariants.DefaultValue}
use Rattle.clap.specs.declared.error.kind.ErrorKind.TheVariants as kind

pub or_both : (k n : Kinds) → or_else k n ≡ [] → (k ≡ []) × (n ≡ [])
or_both [] n e = (refl, e)
or_both (x ∷ xs) n e = cc

not_empty : (v : Text) (vs : List Text) → is_empty (v ∷ vs) ≡ false
not_empty v vs = ne_eqb _ _ (λ e. omega arith)

-- ---- rows

abbrev pub row_from : ValueSource → Rule → List Text → Row
row_from source a values =
    record { id = a.id; values = values; count = None; source = Some source; reading = reading_by a }

-- the row is of an argument of the command, with values that passed
pub record RowFits (c : List Rule) (r : Row) : Type 0 where
  pub rule : Rule
  pub found : arg_by_id c r.id ≡ Some rule
  pub passed : values_fault rule r.values ≡ []
  pub some : is_empty r.values ≡ false
  pub reads : r.reading ≡ reading_by rule

abbrev pub RowsFit : List Rule → List Row → Type 0
RowsFit c [] = Unit {0}
RowsFit c (r ∷ rs) = RowFits c r × RowsFit c rs

rows_more : (c : List Rule) (rs : List Row) (r : Row) → RowsFit c rs → RowFits c r → RowsFit c (rs ++ r ∷ [])
rows_more c [] r h fits = (fits, tt)
rows_more c (x ∷ xs) r h fits = (h.0, rows_more c xs r h.1 fits)

absent : (id : Text) (change : Row → List Row) (missing : List Row) (rows : List Row) → has_row id rows ≡ false → at_row id change missing rows ≡ rows ++ missing
absent id change missing [] e = refl
absent id change missing (r ∷ rs) e = go (bytes_eq r.id id) refl (λ rest. absent id change missing rs rest)
  where
    go : (b : Bool) → bytes_eq r.id id ≡ b → (has_row id rs ≡ false → at_row id change missing rs ≡ rs ++ missing) → at_row id change missing (r ∷ rs) ≡ (r ∷ rs) ++ missing
    go true t rec =
        let bad : true ≡ false = rw t at e in
        cc
    go false t rec = rw t (ap (λ xs. r ∷ xs) (rec (rw t at e)))

added : (source : ValueSource) (a : Rule) (values : List Text) (rows : List Row) → has_row a.id rows ≡ false
    → with_values a.id (reading_by a) source values rows ≡ rows ++ row_from source a values ∷ []
added source a values rows e = absent a.id (more_values source values) (row_from source a values ∷ []) rows e

replaced : (a : Rule) (values : List Text) (rows : List Row) → has_row a.id rows ≡ false
    → with_values a.id (reading_by a) CommandLine values (without a.id rows) ≡ rows ++ row_from CommandLine a values ∷ []
replaced a values rows e =
    let same : without a.id rows ≡ rows = absent a.id (λ r. []) [] rows e ∙ append-nil rows in
    ap (with_values a.id (reading_by a) CommandLine values) same ∙ added CommandLine a values rows e

not_repeated : (id : Text) (rows : List Row) → repeat_fault false id rows ≡ [] → has_row id rows ≡ false
not_repeated id rows e = go (has_row id rows) refl
  where
    go : (b : Bool) → has_row id rows ≡ b → has_row id rows ≡ false
    go false t = t
    go true t =
        let bad = rw t at e in
        cc

-- ---- one use of an argument

-- a use without a fault adds one row, of values that passed
abbrev pub AddsRow : Rule → Type 0
AddsRow a = (values : List Text) (rows : List Row) → use_fault false a values rows ≡ []
    → (vs : List Text) × (values_fault a vs ≡ []) × (is_empty vs ≡ false) × (used a values rows ≡ rows ++ row_from CommandLine a vs ∷ [])

set_once : (a : Rule) (vs : List Text) (rows : List Row) → set_fault false a vs rows ≡ []
    → (values_fault a vs ≡ []) × (with_values a.id (reading_by a) CommandLine vs (without a.id rows) ≡ rows ++ row_from CommandLine a vs ∷ [])
set_once a vs rows e =
    let parts = or_both (repeat_fault false a.id rows) (values_fault a vs) e in
    (parts.1, replaced a vs rows (not_repeated a.id rows parts.0))

pub option_adds : (a : Rule) → action_of a ≡ Set → a.range ≡ Some (record { start_inclusive = 1; end_inclusive = 1 }) → AddsRow a
option_adds a act range [] rows e =
    let bad = rw range at e in
    cc
option_adds a act range (v ∷ vs) rows e =
    let parts = or_both (range_kinds (unwrap_or_range a.range).start_inclusive (most_values a) (length (v ∷ vs))) (action_fault (action_of a) false a (v ∷ vs) rows) e in
    let fault : set_fault false a (v ∷ vs) rows ≡ [] = rw act at parts.1 in
    let once = set_once a (v ∷ vs) rows fault in
    (v ∷ vs, once.0, not_empty v vs, rw act once.1)

pub flag_adds : (a : Rule) (word : Text) → action_of a ≡ SetTrue → a.missing ≡ word ∷ [] → AddsRow a
flag_adds a word act missing [] rows e =
    let parts = or_both (range_kinds (unwrap_or_range a.range).start_inclusive (most_values a) 0) (action_fault (action_of a) false a a.missing rows) e in
    let fault : set_fault false a a.missing rows ≡ [] = rw act at parts.1 in
    let once = set_once a a.missing rows fault in
    (a.missing, once.0, rw missing refl, rw act once.1)
flag_adds a word act missing (v ∷ vs) rows e =
    let parts = or_both (range_kinds (unwrap_or_range a.range).start_inclusive (most_values a) (length (v ∷ vs))) (action_fault (action_of a) false a (v ∷ vs) rows) e in
    let fault : set_fault false a (v ∷ vs) rows ≡ [] = rw act at parts.1 in
    let once = set_once a (v ∷ vs) rows fault in
    (v ∷ vs, once.0, not_empty v vs, rw act once.1)

pub help_adds : (a : Rule) → action_of a ≡ Help → AddsRow a
help_adds a act values rows e =
    let parts = or_both (range_kinds (unwrap_or_range a.range).start_inclusive (most_values a) (length values)) (action_fault (action_of a) false a (values_or_missing a values) rows) e in
    let bad : kind.DisplayHelp ∷ [] ≡ [] = rw act at parts.1 in
    cc

-- the argument is the one of its id, and a use adds a row
abbrev pub IsOwn : List Rule → Rule → Type 0
IsOwn c a = (arg_by_id c a.id ≡ Some a) × AddsRow a

abbrev pub AllOwn : List Rule → List Rule → Type 0
AllOwn c [] = Unit {0}
AllOwn c (a ∷ rest) = IsOwn c a × AllOwn c rest

pub found_own : (c : List Rule) (p : Rule → Bool) (xs : List Rule) (a : Rule) → AllOwn c xs → find p xs ≡ Some a → IsOwn c a
found_own c p [] a h e = cc
found_own c p (x ∷ xs) a h e = go (p x) refl (λ rest. found_own c p xs a h.1 rest)
  where
    go : (b : Bool) → p x ≡ b → (find p xs ≡ Some a → IsOwn c a) → IsOwn c a
    go true t rec =
        let same : Some x ≡ Some a = rw t at e in
        subst (IsOwn c) (ap (λ (o : Option Rule). unwrap_or o x) same) h.0
    go false t rec = rec (rw t at e)

module _ (s : Shape) (once : s.args_override_self ≡ false) (own : AllOwn s.rules s.rules) where
  use_keeps : (a : Rule) → IsOwn s.rules a → (values : List Text) (rows : List Row) → use_fault s.args_override_self a values rows ≡ []
      → RowsFit s.rules rows → RowsFit s.rules (used a values rows)
  use_keeps a is values rows e fit =
      let more = is.1 values rows (rw once at e) in
      rw more.3 (rows_more s.rules rows _ fit (record { rule = a; found = is.0; passed = more.1; some = more.2; reads = refl }))

  settle_keeps : (h : Held) → settle_fault s.rules s.args_override_self h ≡ [] → RowsFit s.rules h.rows → RowsFit s.rules (settled s.rules h).rows
  settle_keeps h e fit = go h.pending e
    where
      at : (p : Text × List Text) (o : Option Rule) → arg_by_id s.rules p.0 ≡ o
          → option_map_or (λ a. use_fault s.args_override_self a p.1 h.rows) (arg_by_id s.rules p.0) [] ≡ [] → RowsFit s.rules (settled_rows s.rules (Some p) h.rows)
      at p None t f = rw t fit
      at p (Some a) t f = rw t (use_keeps a (found_own s.rules _ s.rules a own t) p.1 h.rows (rw t at f) fit)

      go : (o : Option (Text × List Text))
          → option_map_or (λ p. option_map_or (λ a. use_fault s.args_override_self a p.1 h.rows) (arg_by_id s.rules p.0) []) o [] ≡ []
          → RowsFit s.rules (settled_rows s.rules o h.rows)
      go None f = fit
      go (Some p) f = at p (arg_by_id s.rules p.0) refl f

  react_keeps : (a : Rule) → IsOwn s.rules a → (values : List Text) (h : Held) → react_fault s.rules s.args_override_self a values h ≡ []
      → RowsFit s.rules h.rows → RowsFit s.rules (reacted s.rules a values h).rows
  react_keeps a is values h e fit =
      let parts = or_both (settle_fault s.rules s.args_override_self h) (use_fault s.args_override_self a values (settled s.rules h).rows) e in
      use_keeps a is values (settled s.rules h).rows parts.1 (settle_keeps h parts.0 fit)

  option_keeps : (a : Rule) → IsOwn s.rules a → (v : Option Text) (h : Held) → option_fault s.rules s.args_override_self a v h ≡ []
      → RowsFit s.rules h.rows → RowsFit s.rules (option_met s.rules a v h).0.rows
  option_keeps a is (Some v) h e fit = react_keeps a is (v ∷ []) h e fit
  option_keeps a is None h e fit = settle_keeps h e fit

  long_keeps : (o : Option Rule) → ((a : Rule) → o ≡ Some a → IsOwn s.rules a) → (v : Option Text) (h : Held)
      → long_fault s.rules s.args_override_self o v h ≡ [] → RowsFit s.rules h.rows → RowsFit s.rules (long_met s.rules o v h).0.rows
  long_keeps None is v h e fit = fit
  long_keeps (Some a) is v h e fit = go (takes_values a) refl v e
    where
      go : (b : Bool) → takes_values a ≡ b → (w : Option Text) → long_fault s.rules s.args_override_self (Some a) w h ≡ [] → RowsFit s.rules (long_met s.rules (Some a) w h).0.rows
      go true t w f = rw t (option_keeps a (is a refl) w h (rw t at f) fit)
      go false t (Some w) f = rw t fit
      go false t None f = rw t (react_keeps a (is a refl) [] h (rw t at f) fit)

  short_keeps : (met : Held → Held × Outcome) (faults : Held → Kinds) → ((h : Held) → faults h ≡ [] → RowsFit s.rules h.rows → RowsFit s.rules (met h).0.rows)
      → (o : Option Rule) → ((a : Rule) → o ≡ Some a → IsOwn s.rules a) → (rest : Text) (h : Held)
      → short_fault s.rules s.args_override_self o rest h faults ≡ [] → RowsFit s.rules h.rows → RowsFit s.rules (short_met s.rules o rest h met).0.rows
  short_keeps met faults rec None is rest h e fit = fit
  short_keeps met faults rec (Some a) is rest h e fit = go (takes_values a) refl
    where
      go : (b : Bool) → takes_values a ≡ b → RowsFit s.rules (short_met s.rules (Some a) rest h met).0.rows
      go true t = rw t (option_keeps a (is a refl) (attached_value rest) h (rw t at e) fit)
      go false t =
          let parts = or_both (react_fault s.rules s.args_override_self a [] h) (faults (reacted s.rules a [] h)) (rw t at e) in
          rw t (rec (reacted s.rules a [] h) parts.1 (react_keeps a (is a refl) [] h parts.0 fit))

  step_keeps : (met : Text → ℕ → Outcome → Held → Held × Outcome) (faults : Text → ℕ → Held → Kinds)
      → ((flags : Text) (skip : ℕ) (so_far : Outcome) (h : Held) → faults flags skip h ≡ [] → RowsFit s.rules h.rows → RowsFit s.rules (met flags skip so_far h).0.rows)
      → (o : Option ℕ) (flags : Text) (skip : ℕ) (so_far : Outcome) (h : Held) → bundle_step_fault s.rules s.args_override_self o flags skip h faults ≡ []
      → RowsFit s.rules h.rows → RowsFit s.rules (bundle_step s.rules o flags skip so_far h met).0.rows
  step_keeps met faults rec None flags skip so_far h e fit = fit
  step_keeps met faults rec (Some x) flags zero so_far h e fit =
      short_keeps (met _ 0 done) (faults _ 0) (λ k f kept. rec _ 0 done k f kept) (arg_by_short s.rules x) (λ a t. found_own s.rules _ s.rules a own t) _ h e fit
  step_keeps met faults rec (Some x) flags (suc skip) so_far h e fit = rec _ skip so_far h e fit

  bundle_keeps : (k : ℕ) (flags : Text) (skip : ℕ) (so_far : Outcome) (h : Held) → flags_fault s.rules s.args_override_self k flags skip h ≡ []
      → RowsFit s.rules h.rows → RowsFit s.rules (bundle_met s.rules k flags skip so_far h).0.rows
  unfolding bundle_met flags_fault
  bundle_keeps zero flags skip so_far h e fit = fit
  bundle_keeps (suc k) flags skip so_far h e fit =
      step_keeps (bundle_met s.rules k) (flags_fault s.rules s.args_override_self k) (λ more left before held f kept. bundle_keeps k more left before held f kept)
      (slice_get (chars flags) 0) flags skip so_far h e fit

  plain_rows : (w : Waiting) (word : Text) (h : Held) → (plain_word s.rules w word h).0.rows ≡ h.rows
  plain_rows idle word h = refl
  plain_rows positional word h = refl
  plain_rows (option id) word h = go (arg_by_id s.rules id)
    where
      go : (o : Option Rule) → (option_word o id word h).0.rows ≡ h.rows
      go None = refl
      go (Some a) = refl

  flag_rows : (w : Waiting) (word : Text) (h : Held) (o : Outcome) → (after_flag s.rules w word h o).0.rows ≡ h.rows
  flag_rows w word h done = refl
  flag_rows w word h (waits id) = refl
  flag_rows w word h plain = plain_rows w word h
  flag_rows w word h refused = plain_rows w word h

  no_subcommand : (w : Waiting) (word : Text) → subcommand_met [] w word ≡ None
  no_subcommand idle word = refl
  no_subcommand (option id) word = refl
  no_subcommand positional word = refl

  flag_word_keeps : (w : Waiting) (word : Text) (h : Held) → flag_word_fault s.rules s.args_override_self (long_of word) word h ≡ []
      → RowsFit s.rules h.rows → RowsFit s.rules (long_or_other s.rules w word (long_of word) h).0.rows
  flag_word_keeps w word h e fit = long (long_of word) e
    where
      short : (o : Option Text) → option_map_or (λ flags. bundle_fault s.rules s.args_override_self flags h) o [] ≡ [] → RowsFit s.rules (short_or_plain s.rules w word o h).0.rows
      short None f = subst (RowsFit s.rules) (sym (plain_rows w word h)) fit
      short (Some flags) f =
          subst (RowsFit s.rules) (sym (flag_rows w word (bundle s.rules flags h).0 (bundle s.rules flags h).1)) (bundle_keeps (length flags) flags h.skip plain (record h { skip = 0 }) f fit)

      long : (o : Option (Text × Option Text)) → flag_word_fault s.rules s.args_override_self o word h ≡ [] → RowsFit s.rules (long_or_other s.rules w word o h).0.rows
      long None f = short (short_of word) f
      long (Some p) f =
          subst (RowsFit s.rules) (sym (flag_rows w word (long_met s.rules (arg_by_long s.rules p.0) p.1 h).0 (long_met s.rules (arg_by_long s.rules p.0) p.1 h).1))
          (long_keeps (arg_by_long s.rules p.0) (λ a t. found_own s.rules _ s.rules a own t) p.1 h f fit)

  word_keeps : (is_trailing : Bool) (w : Waiting) (position : ℕ) (word : Text) (h : Held) → word_fault s [] is_trailing w word h ≡ []
      → RowsFit s.rules h.rows → RowsFit s.rules (word_met s.rules [] is_trailing w position word h).0.rows
  word_keeps true w position word h e fit = fit
  word_keeps false w position word h e fit = rw (no_subcommand w word) (go (bytes_eq word (45 ∷ 45 ∷ [])) refl (rw (no_subcommand w word) at e))
    where
      go : (b : Bool) → bytes_eq word (45 ∷ 45 ∷ []) ≡ b → other_fault s None word h ≡ [] → RowsFit s.rules (subcommand_or_other s.rules None w position word h).0.rows
      go true t f = rw t fit
      go false t f = rw t (flag_word_keeps w word h (rw t at f) fit)

  stepped_keeps : (word : Text) (w : Walk) (h : Held) (step : Step) → step_fault s w.position h step ≡ [] → RowsFit s.rules h.rows
      → RowsFit s.rules (after_step s.rules word w h step).held.rows
  stepped_keeps word w h (next waiting) e fit = fit
  stepped_keeps word w h (trailing position) e fit = fit
  stepped_keeps word w h (subcommand name) e fit = fit
  stepped_keeps word w h value e fit = at (arg_by_index s.rules w.position) e
    where
      at : (o : Option Rule) → option_map_or (λ a. positional_fault s.rules s.args_override_self a h) o (stray_fault s) ≡ []
          → RowsFit s.rules (to_positional s.rules o word w h).held.rows
      at None f = fit
      at (Some a) f = more (is_pending a h.pending && takes_several a) refl
        where
          more : (b : Bool) → (is_pending a h.pending && takes_several a) ≡ b → RowsFit s.rules (to_positional s.rules (Some a) word w h).held.rows
          more true t = rw t fit
          more false t = rw t (settle_keeps h (rw t at f) fit)

  turn_keeps : (w : Walk) (word : Text) → turn_fault s [] w word ≡ [] → RowsFit s.rules w.held.rows → RowsFit s.rules (walked s.rules [] w word).held.rows
  unfolding walked
  turn_keeps w word e fit = go w.stopped e
    where
      met : Held × Step
      met = word_met s.rules [] w.is_trailing w.waiting w.position word w.held

      go : (o : Option (Text × List Text))
          → (if is_some o then [] else or_else (word_fault s [] w.is_trailing w.waiting word w.held) (step_fault s w.position met.0 met.1)) ≡ []
          → RowsFit s.rules (walked_from s.rules [] o w word).held.rows
      go (Some p) f = fit
      go None f =
          let parts = or_both (word_fault s [] w.is_trailing w.waiting word w.held) (step_fault s w.position met.0 met.1) f in
          stepped_keeps word w met.0 met.1 parts.1 (word_keeps w.is_trailing w.waiting w.position word w.held parts.0 fit)

  -- a walk over all the words
  pub walk_keeps : (words : List Text) (w : Walk) → walk_fault s [] w words ≡ [] → RowsFit s.rules w.held.rows → RowsFit s.rules (fold (walked s.rules []) w words).held.rows
  unfolding walk_fault
  walk_keeps [] w e fit = fit
  walk_keeps (word ∷ rest) w e fit =
      let parts = or_both (turn_fault s [] w word) (walk_fault s [] (walked s.rules [] w word) rest) e in
      walk_keeps rest (walked s.rules [] w word) parts.1 (turn_keeps w word parts.0 fit)

-- ---- defaults

default_keeps : (c : List Rule) (rows : List Row) (a : Rule) → IsOwn c a → default_fault rows a ≡ [] → RowsFit c rows → RowsFit c (with_default rows a)
default_keeps c rows a own e fit = go (has_row a.id rows) refl a.defaults refl
  where
    go : (b : Bool) → has_row a.id rows ≡ b → (values : List Text) → a.defaults ≡ values → RowsFit c (with_default rows a)
    go true t values is = rw t fit
    go false t [] is = rw (t, is) fit
    go false t (v ∷ vs) is =
        let fault : given_default_fault a (v ∷ vs) ≡ [] = rw (t, is, not_empty v vs) at e in
        let parts = or_both _ (values_fault a (v ∷ vs)) fault in
        rw (t, is) (rw (added DefaultValue a (v ∷ vs) rows t) (rows_more c rows _ fit (record { rule = a; found = own.0; passed = parts.1; some = not_empty v vs; reads = refl })))

pub defaults_keep : (c : List Rule) (xs : List Rule) (rows : List Row) → AllOwn c xs → defaults_fault rows xs ≡ [] → RowsFit c rows → RowsFit c (fold with_default rows xs)
unfolding defaults_fault
defaults_keep c [] rows own e fit = fit
defaults_keep c (a ∷ rest) rows own e fit =
    let parts = or_both (default_fault rows a) (defaults_fault (with_default rows a) rest) e in
    defaults_keep c rest (with_default rows a) own.1 parts.1 (default_keeps c rows a own.0 parts.0 fit)

has_more : (id : Text) (rows more : List Row) → has_row id rows ≡ true → has_row id (rows ++ more) ≡ true
has_more id [] more e = cc
has_more id (r ∷ rs) more e = go (bytes_eq r.id id) refl (λ rest. has_more id rs more rest)
  where
    go : (b : Bool) → bytes_eq r.id id ≡ b → (has_row id rs ≡ true → has_row id (rs ++ more) ≡ true) → has_row id ((r ∷ rs) ++ more) ≡ true
    go true t rec = rw t refl
    go false t rec = rw t (rec (rw t at e))

has_last : (id : Text) (rows : List Row) (r : Row) → bytes_eq r.id id ≡ true → has_row id (rows ++ r ∷ []) ≡ true
has_last id [] r e = rw e refl
has_last id (x ∷ xs) r e = go (bytes_eq x.id id) refl (has_last id xs r e)
  where
    go : (b : Bool) → bytes_eq x.id id ≡ b → has_row id (xs ++ r ∷ []) ≡ true → has_row id ((x ∷ xs) ++ r ∷ []) ≡ true
    go true t rec = rw t refl
    go false t rec = rw t rec

-- a row stays when the others get their defaults
default_holds : (id : Text) (rows : List Row) (a : Rule) → has_row id rows ≡ true → has_row id (with_default rows a) ≡ true
default_holds id rows a e = go (has_row a.id rows) refl a.defaults refl
  where
    go : (b : Bool) → has_row a.id rows ≡ b → (values : List Text) → a.defaults ≡ values → has_row id (with_default rows a) ≡ true
    go true t values is = rw t e
    go false t [] is = rw (t, is) e
    go false t (v ∷ vs) is = rw (t, is) (rw (added DefaultValue a (v ∷ vs) rows t) (has_more id rows _ e))

defaults_hold : (id : Text) (xs : List Rule) (rows : List Row) → has_row id rows ≡ true → has_row id (fold with_default rows xs) ≡ true
defaults_hold id [] rows e = e
defaults_hold id (a ∷ rest) rows e = defaults_hold id rest (with_default rows a) (default_holds id rows a e)

default_given : (rows : List Row) (a : Rule) → bytes_eq a.id a.id ≡ true → is_empty a.defaults ≡ false → has_row a.id (with_default rows a) ≡ true
default_given rows a self some = go (has_row a.id rows) refl a.defaults refl
  where
    go : (b : Bool) → has_row a.id rows ≡ b → (values : List Text) → a.defaults ≡ values → has_row a.id (with_default rows a) ≡ true
    go true t values is = rw t t
    go false t [] is =
        let bad : true ≡ false = rw is at some in
        cc
    go false t (v ∷ vs) is = rw (t, is) (rw (added DefaultValue a (v ∷ vs) rows t) (has_last a.id rows _ self))

-- an argument with a default has a row
pub default_there : (p : Rule → Bool) (xs : List Rule) (rows : List Row) (a : Rule) → find p xs ≡ Some a → bytes_eq a.id a.id ≡ true
    → is_empty a.defaults ≡ false → has_row a.id (fold with_default rows xs) ≡ true
default_there p [] rows a e self some = cc
default_there p (x ∷ xs) rows a e self some = go (p x) refl (λ rest. default_there p xs (with_default rows x) a rest self some)
  where
    go : (b : Bool) → p x ≡ b → (find p xs ≡ Some a → has_row a.id (fold with_default (with_default rows x) xs) ≡ true) → has_row a.id (fold with_default rows (x ∷ xs)) ≡ true
    go true t rec =
        let is : Some x ≡ Some a = rw t at e in
        let same : x ≡ a = ap (λ (o : Option Rule). unwrap_or o x) is in
        defaults_hold a.id xs (with_default rows x) (subst (λ (y : Rule). has_row a.id (with_default rows y) ≡ true) (sym same) (default_given rows a self some))
    go false t rec = rec (rw t at e)

-- a given argument has a row
pub given_there : (id : Text) (rows : List Row) → is_given id rows ≡ true → has_row id rows ≡ true
given_there id [] e = cc
given_there id (r ∷ rs) e = go (bytes_eq r.id id) refl (λ rest. given_there id rs rest)
  where
    go : (b : Bool) → bytes_eq r.id id ≡ b → (is_given id rs ≡ true → has_row id rs ≡ true) → has_row id (r ∷ rs) ≡ true
    go true t rec = rw t refl
    go false t rec = rw t (rec (rw t at e))

-- ---- what a row gives

row_at : (c : List Rule) (id : Text) (rows : List Row) → RowsFit c rows → has_row id rows ≡ true
    → (r : Row) × (find (λ x. bytes_eq x.id id) rows ≡ Some r) × (r.id ≡ id) × RowFits c r
row_at c id [] fit e = cc
row_at c id (r ∷ rs) fit e = go (bytes_eq r.id id) refl (λ rest. row_at c id rs fit.1 rest)
  where
    go : (b : Bool) → bytes_eq r.id id ≡ b
        → (has_row id rs ≡ true → (x : Row) × (find (λ y. bytes_eq y.id id) rs ≡ Some x) × (x.id ≡ id) × RowFits c x)
        → (x : Row) × (find (λ y. bytes_eq y.id id) (r ∷ rs) ≡ Some x) × (x.id ≡ id) × RowFits c x
    go true t rec = (r, rw t refl, (bytes_eq-Decides r.id id).0 t, fit.0)
    go false t rec =
        let found = rec (rw t at e) in
        (found.0, rw t found.1, found.2, found.3)

-- the option has a text, which passed its parser and is read as its parser says
pub record HasValue (a : Rule) (rows : List Row) : Type 0 where
  pub text : Text
  pub first : first_of a.id rows ≡ Some text
  pub one : one_of a.id rows ≡ Some (read_as (reading_by a) text)
  pub passed : accepts a.ignore_case (parser_of_value a.parser) text ≡ true

accepted : (a : Rule) (v : Text) (vs : List Text) → values_fault a (v ∷ vs) ≡ [] → accepts a.ignore_case (parser_of_value a.parser) v ≡ true
accepted a v vs e = go (accepts a.ignore_case (parser_of_value a.parser) v) refl
  where
    go : (b : Bool) → accepts a.ignore_case (parser_of_value a.parser) v ≡ b → accepts a.ignore_case (parser_of_value a.parser) v ≡ true
    go true t = t
    go false t =
        let bad = rw t at e in
        cc

pub value_there : (c : List Rule) (rows : List Row) (a : Rule) → RowsFit c rows → arg_by_id c a.id ≡ Some a → has_row a.id rows ≡ true → HasValue a rows
value_there c rows a fit own has = go (row_at c a.id rows fit has)
  where
    go : ((r : Row) × (find (λ x. bytes_eq x.id a.id) rows ≡ Some r) × (r.id ≡ a.id) × RowFits c r) → HasValue a rows
    go at =
        let fits = at.3 in
        let is : Some fits.rule ≡ Some a = sym fits.found ∙ (ap (arg_by_id c) at.2 ∙ own) in
        let same : fits.rule ≡ a = ap (λ (o : Option Rule). unwrap_or o a) is in
        text at.0.values refl (subst (λ (x : Rule). values_fault x at.0.values ≡ []) same fits.passed) fits.some (fits.reads ∙ ap reading_by same)
      where
        text : (values : List Text) → at.0.values ≡ values → values_fault a at.0.values ≡ [] → is_empty at.0.values ≡ false → at.0.reading ≡ reading_by a → HasValue a rows
        text [] is passed some reads =
            let bad : true ≡ false = rw is at some in
            cc
        text (v ∷ vs) is passed some reads = record {
          text = v;
          first = rw (at.1, is) refl;
          one = rw (at.1, is, reads) refl;
          passed = accepted a v vs (rw is at passed);
        }

-- ---- a whole level of the parse

pub level_parts : (s : Shape) (names : Names) (words : List Text) (has_subcommand : Bool) (below : Kinds) → level_fault s names nothing_held words has_subcommand below ≡ []
    → (walk_fault s names (walk_from nothing_held) words ≡ []) × (below ≡ [])
    × (settle_fault s.rules s.args_override_self (walk s.rules names nothing_held words).held ≡ [])
    × (defaults_fault (settled s.rules (walk s.rules names nothing_held words).held).rows s.rules ≡ [])
    × (check_fault s (finished s.rules (walk s.rules names nothing_held words).held) has_subcommand ≡ [])
level_parts s names words has_subcommand below e =
    let end = (walk s.rules names nothing_held words).held in
    let checks = check_fault s (finished s.rules end) has_subcommand in
    let defaults = defaults_fault (settled s.rules end).rows s.rules in
    let settles = settle_fault s.rules s.args_override_self end in
    let one = or_both (walk_fault s names (walk_from nothing_held) words) (or_else below (or_else settles (or_else defaults checks))) e in
    let two = or_both below (or_else settles (or_else defaults checks)) one.1 in
    let three = or_both settles (or_else defaults checks) two.1 in
    let four = or_both defaults checks three.1 in
    (one.0, two.0, three.0, four.0, four.1)

-- the rows of a level without a fault fit
pub level_rows : (s : Shape) → s.args_override_self ≡ false → AllOwn s.rules s.rules → (words : List Text) → level_fault s [] nothing_held words false [] ≡ [] →
    RowsFit s.rules (rows_after s.rules [] words)
level_rows s once own words e =
    let parts = level_parts s [] words false [] e in
    let end = (walk s.rules [] nothing_held words).held in
    let walked = walk_keeps s once own words (walk_from nothing_held) parts.0 tt in
    defaults_keep s.rules s.rules (settled s.rules end).rows own parts.3 (settle_keeps s once own end parts.2 walked)

-- an option with a default has a value
pub defaulted_value : (s : Shape) (words : List Text) (a : Rule) → RowsFit s.rules (rows_after s.rules [] words) → arg_by_id s.rules a.id ≡ Some a
    → bytes_eq a.id a.id ≡ true → is_empty a.defaults ≡ false → HasValue a (rows_after s.rules [] words)
defaulted_value s words a fit own self some =
    value_there s.rules (rows_after s.rules [] words) a fit own
    (default_there (λ x. bytes_eq x.id a.id) s.rules (settled s.rules (walk s.rules [] nothing_held words).held).rows a own self some)

-- ---- the subcommand at which a walk stops is not `help`

abbrev pub IsNoHelp : Option (Text × List Text) → Type 0
IsNoHelp None = Unit {0}
IsNoHelp (Some p) = bytes_eq p.0 (codes "help") ≡ false

abbrev StepsToNoHelp : Step → Type 0
StepsToNoHelp (subcommand name) = bytes_eq name (codes "help") ≡ false
StepsToNoHelp (next waiting) = Unit {0}
StepsToNoHelp (trailing position) = Unit {0}
StepsToNoHelp value = Unit {0}

module _ (s : Shape) (names : Names) (helps : s.disable_help_subcommand ≡ false) where
  plain_step : (w : Waiting) (word : Text) (h : Held) → StepsToNoHelp (plain_word s.rules w word h).1
  plain_step idle word h = tt
  plain_step positional word h = tt
  plain_step (option id) word h = tt

  flag_step : (w : Waiting) (word : Text) (h : Held) (o : Outcome) → StepsToNoHelp (after_flag s.rules w word h o).1
  flag_step w word h done = tt
  flag_step w word h (waits id) = tt
  flag_step w word h plain = plain_step w word h
  flag_step w word h refused = plain_step w word h

  other_step : (w : Waiting) (word : Text) (h : Held) → StepsToNoHelp (long_or_other s.rules w word (long_of word) h).1
  other_step w word h = long (long_of word)
    where
      short : (o : Option Text) → StepsToNoHelp (short_or_plain s.rules w word o h).1
      short None = plain_step w word h
      short (Some flags) = flag_step w word (bundle s.rules flags h).0 (bundle s.rules flags h).1

      long : (o : Option (Text × Option Text)) → StepsToNoHelp (long_or_other s.rules w word o h).1
      long None = short (short_of word)
      long (Some p) = flag_step w word (long_met s.rules (arg_by_long s.rules p.0) p.1 h).0 (long_met s.rules (arg_by_long s.rules p.0) p.1 h).1

  word_step : (is_trailing : Bool) (w : Waiting) (position : ℕ) (word : Text) (h : Held) → word_fault s names is_trailing w word h ≡ []
      → StepsToNoHelp (word_met s.rules names is_trailing w position word h).1
  word_step true w position word h e = tt
  word_step false w position word h e = met (subcommand_met names w word) e
    where
      name : (n : Text) (b : Bool) → bytes_eq n (codes "help") ≡ b → other_fault s (Some n) word h ≡ [] → bytes_eq n (codes "help") ≡ false
      name n false t f = t
      name n true t f =
          let bad : kind.DisplayHelp ∷ kind.InvalidSubcommand ∷ [] ≡ [] = rw (t, helps) at f in
          cc

      dashes : (b : Bool) → bytes_eq word (45 ∷ 45 ∷ []) ≡ b → StepsToNoHelp (subcommand_or_other s.rules None w position word h).1
      dashes true t = rw t tt
      dashes false t = rw t (other_step w word h)

      met : (o : Option Text) → other_fault s o word h ≡ [] → StepsToNoHelp (subcommand_or_other s.rules o w position word h).1
      met (Some n) f = name n (bytes_eq n (codes "help")) refl f
      met None f = dashes (bytes_eq word (45 ∷ 45 ∷ [])) refl

  stepped_stop : (word : Text) (w : Walk) (h : Held) (step : Step) → StepsToNoHelp step → IsNoHelp w.stopped → IsNoHelp (after_step s.rules word w h step).stopped
  stepped_stop word w h (next waiting) ok was = was
  stepped_stop word w h (trailing position) ok was = was
  stepped_stop word w h (subcommand n) ok was = ok
  stepped_stop word w h value ok was = at (arg_by_index s.rules w.position)
    where
      at : (o : Option Rule) → IsNoHelp (to_positional s.rules o word w h).stopped
      at None = was
      at (Some a) = tt

  turn_stop : (w : Walk) (word : Text) → turn_fault s names w word ≡ [] → IsNoHelp w.stopped → IsNoHelp (walked s.rules names w word).stopped
  unfolding walked
  turn_stop w word e was = go w.stopped e was
    where
      met : Held × Step
      met = word_met s.rules names w.is_trailing w.waiting w.position word w.held

      go : (o : Option (Text × List Text))
          → (if is_some o then [] else or_else (word_fault s names w.is_trailing w.waiting word w.held) (step_fault s w.position met.0 met.1)) ≡ []
          → IsNoHelp o → IsNoHelp (walked_from s.rules names o w word).stopped
      go (Some p) f ok = ok
      go None f ok =
          let parts = or_both (word_fault s names w.is_trailing w.waiting word w.held) (step_fault s w.position met.0 met.1) f in
          stepped_stop word w met.0 met.1 (word_step w.is_trailing w.waiting w.position word w.held parts.0) was

  pub walk_stop : (words : List Text) (w : Walk) → walk_fault s names w words ≡ [] → IsNoHelp w.stopped → IsNoHelp (fold (walked s.rules names) w words).stopped
  unfolding walk_fault
  walk_stop [] w e was = was
  walk_stop (word ∷ rest) w e was =
      let parts = or_both (turn_fault s names w word) (walk_fault s names (walked s.rules names w word) rest) e in
      walk_stop rest (walked s.rules names w word) parts.1 (turn_stop w word parts.0 was)
