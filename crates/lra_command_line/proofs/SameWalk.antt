-- Where in memory the names of the domains lie decides nothing: the matches of the words.
use Rattle.std.proofs.Common.{◌≡◌, ◌∙◌, ◌&&◌, ◌||◌, ℕ, Bool, List, [], ◌∷◌, map, length, Option, Some, None, ap, refl, sym, true, false, zero, suc, drop}
use Rattle.std.specs.{Borrow.Bor, Prelude.find, Prelude.fold, Prelude.option_map, Prelude.slice_get, Prelude.if◌then◌else◌, Prelude.encode_utf8, Str.bytes_eq, Str.chars}
use Rattle.clap.specs.Simple.{App, Shape, entered, label_of, names_of, rows_at}
use Rattle.clap.specs.Walk.{Held, Names, Outcome, Row, Rule, Step, Text, Waiting, Walk, action_of, after_flag, after_step, answers_to, arg_by_id, arg_by_index, arg_by_long, arg_by_short}
use Rattle.clap.specs.Walk.{attached_value, bundle, bundle_met, bundle_step, done, finished, flag_met, has_row, idle, is_multiple, is_pending, long_met, long_or_other, long_word, default_rows, next}
use Rattle.clap.specs.Walk.{next_position, nothing_held, rows_after, short_or_plain, short_word, subcommand_or_other, to_positional, option, option_met, option_word, plain, plain_word, positional}
use Rattle.clap.specs.Walk.{pushed, reacted, reading_by, refused, settled, settled_rows, short_met, subcommand, subcommand_met, takes_several, takes_values, trailing, used, used_as, used_by_id, value}
use Rattle.clap.specs.Walk.{values_or_missing, waits, walk, walk_from, walked, walked_from, with_default, word_met}
use Rattle.clap.specs.{Facts.parser_of_value, Lexer.long_of, Lexer.short_of, Values.reading_of, declared.builder.value_parser.ValueParser.ValueParser}
use Rattle.clap.specs.declared.builder.value_parser.ValueParser.TheVariants as vp
use Rattle.clap.proofs.WalkLemmas.{find-map}

-- the parser with its names at one place
abbrev pub placed : ValueParser → ValueParser
placed vp.String = vp.String
placed vp.NonEmptyString = vp.NonEmptyString
placed vp.Bool = vp.Bool
placed vp.Boolish = vp.Boolish
placed vp.Falsey = vp.Falsey
placed (vp.Signed low high) = vp.Signed low high
placed (vp.Unsigned low high) = vp.Unsigned low high
placed vp.Float = vp.Float
placed vp.Char = vp.Char
placed (vp.Names names) = vp.Names (record { ref_ptr = (0, 0); now = map (λ (name : Bor Text). record { ref_ptr = (0, 0); now = name.now }) names.now })
placed (vp.Values values) = vp.Values values

abbrev pub placed_in : Option ValueParser → Option ValueParser
placed_in None = None
placed_in (Some parser) = Some (placed parser)

abbrev pub in_rule : Rule → Rule
in_rule a = record a { parser = placed_in a.parser }

abbrev pub in_shape : Shape → Shape
in_shape s = record s { rules = map in_rule s.rules }

abbrev pub in_app : App → App
in_app a = record { top = in_shape a.top; subs = map in_shape a.subs }

pub if_same : {A : Type 0} (b : Bool) (x y u v : A) → x ≡ y → u ≡ v → (if b then x else u) ≡ (if b then y else v)
if_same true x y u v p q = p
if_same false x y u v p q = q

reading_placed : (p : ValueParser) → reading_of (placed p) ≡ reading_of p
reading_placed vp.String = refl
reading_placed vp.NonEmptyString = refl
reading_placed vp.Bool = refl
reading_placed vp.Boolish = refl
reading_placed vp.Falsey = refl
reading_placed (vp.Signed low high) = refl
reading_placed (vp.Unsigned low high) = refl
reading_placed vp.Float = refl
reading_placed vp.Char = refl
reading_placed (vp.Names names) = refl
reading_placed (vp.Values values) = refl

reading_same : (o : Option ValueParser) → reading_of (parser_of_value (placed_in o)) ≡ reading_of (parser_of_value o)
reading_same None = refl
reading_same (Some p) = reading_placed p

pub by_id : (c : List Rule) (id : Text) → arg_by_id (map in_rule c) id ≡ option_map in_rule (arg_by_id c id)
by_id c id = sym (find-map (λ a. bytes_eq a.id id) in_rule c)

pub by_long : (c : List Rule) (name : Text) → arg_by_long (map in_rule c) name ≡ option_map in_rule (arg_by_long c name)
by_long c name = sym (find-map _ in_rule c)

pub by_short : (c : List Rule) (x : ℕ) → arg_by_short (map in_rule c) x ≡ option_map in_rule (arg_by_short c x)
by_short c x = sym (find-map _ in_rule c)

pub by_index : (c : List Rule) (i : ℕ) → arg_by_index (map in_rule c) i ≡ option_map in_rule (arg_by_index c i)
by_index c i = sym (find-map _ in_rule c)

-- one use ---------------------------------------------------------------------------

pub missing_same : (a : Rule) (vs : List Text) → values_or_missing (in_rule a) vs ≡ values_or_missing a vs
missing_same a [] = refl
missing_same a (v ∷ vs) = refl

used_same : (a : Rule) (vs : List Text) (rows : List Row) → used (in_rule a) vs rows ≡ used a vs rows
used_same a vs rows =
    ap (λ r. used_as (action_of a) a.id r (values_or_missing (in_rule a) vs) rows) (reading_same a.parser)
    ∙ ap (λ (w : List Text). used_as (action_of a) a.id (reading_by a) w rows) (missing_same a vs)

used_by_id_same : (o : Option Rule) (vs : List Text) (rows : List Row) → used_by_id (option_map in_rule o) vs rows ≡ used_by_id o vs rows
used_by_id_same None vs rows = refl
used_by_id_same (Some a) vs rows = used_same a vs rows

settled_rows_same : (c : List Rule) (p : Option (Text × List Text)) (rows : List Row) → settled_rows (map in_rule c) p rows ≡ settled_rows c p rows
settled_rows_same c None rows = refl
settled_rows_same c (Some p) rows = ap (λ (o : Option Rule). used_by_id o p.1 rows) (by_id c p.0) ∙ used_by_id_same (arg_by_id c p.0) p.1 rows

pub settled_same : (c : List Rule) (h : Held) → settled (map in_rule c) h ≡ settled c h
settled_same c h = ap (λ (rows : List Row). record h { rows = rows; pending = None }) (settled_rows_same c h.pending h.rows)

pub reacted_same : (c : List Rule) (a : Rule) (vs : List Text) (h : Held) → reacted (map in_rule c) (in_rule a) vs h ≡ reacted c a vs h
reacted_same c a vs h =
    ap (λ (s : Held). record h { rows = used (in_rule a) vs s.rows; pending = None }) (settled_same c h)
    ∙ ap (λ (rows : List Row). record h { rows = rows; pending = None }) (used_same a vs (settled c h).rows)

-- flags and options -------------------------------------------------------------------

option_met_same : (c : List Rule) (a : Rule) (v : Option Text) (h : Held) → option_met (map in_rule c) (in_rule a) v h ≡ option_met c a v h
option_met_same c a (Some v) h = ap (λ (k : Held). (k, done)) (reacted_same c a (v ∷ []) h)
option_met_same c a None h = ap (λ (s : Held). (record s { pending = Some (a.id, []) }, waits a.id)) (settled_same c h)

flag_met_same : (c : List Rule) (a : Rule) (v : Option Text) (h : Held) → flag_met (map in_rule c) (in_rule a) v h ≡ flag_met c a v h
flag_met_same c a (Some v) h = refl
flag_met_same c a None h = ap (λ (k : Held). (k, done)) (reacted_same c a [] h)

long_met_same : (c : List Rule) (o : Option Rule) (v : Option Text) (h : Held) → long_met (map in_rule c) (option_map in_rule o) v h ≡ long_met c o v h
long_met_same c None v h = refl
long_met_same c (Some a) v h = if_same (takes_values a) _ _ _ _ (option_met_same c a v h) (flag_met_same c a v h)

short_met_same : (c : List Rule) (o : Option Rule) (rest : Text) (h : Held) (m n : Held → Held × Outcome) → ((k : Held) → m k ≡ n k)
    → short_met (map in_rule c) (option_map in_rule o) rest h m ≡ short_met c o rest h n
short_met_same c None rest h m n e = refl
short_met_same c (Some a) rest h m n e =
    if_same (takes_values a) _ _ _ _ (option_met_same c a (attached_value rest) h) (ap m (reacted_same c a [] h) ∙ e (reacted c a [] h))

bundle_step_same : (c : List Rule) (x : Option ℕ) (flags : Text) (skip : ℕ) (so_far : Outcome) (h : Held) (m n : Text → ℕ → Outcome → Held → Held × Outcome)
    → ((t : Text) (k : ℕ) (o : Outcome) (g : Held) → m t k o g ≡ n t k o g) → bundle_step (map in_rule c) x flags skip so_far h m ≡ bundle_step c x flags skip so_far h n
bundle_step_same c None flags skip so_far h m n e = refl
bundle_step_same c (Some x) flags zero so_far h m n e =
    ap (λ (o : Option Rule). short_met (map in_rule c) o (drop (length (encode_utf8 x)) flags) h (m (drop (length (encode_utf8 x)) flags) 0 done)) (by_short c x)
    ∙ short_met_same c (arg_by_short c x) _ h _ _ (e (drop (length (encode_utf8 x)) flags) 0 done)
bundle_step_same c (Some x) flags (suc skip) so_far h m n e = e (drop (length (encode_utf8 x)) flags) skip so_far h

bundle_met_same : (c : List Rule) (k : ℕ) (flags : Text) (skip : ℕ) (so_far : Outcome) (h : Held) → bundle_met (map in_rule c) k flags skip so_far h ≡ bundle_met c k flags skip so_far h
unfolding bundle_met
bundle_met_same c zero flags skip so_far h = refl
bundle_met_same c (suc k) flags skip so_far h =
    bundle_step_same c (slice_get (chars flags) 0) flags skip so_far h (bundle_met (map in_rule c) k) (bundle_met c k) (bundle_met_same c k)

-- words ---------------------------------------------------------------------------------

option_word_same : (o : Option Rule) (id word : Text) (h : Held) → option_word (option_map in_rule o) id word h ≡ option_word o id word h
option_word_same None id word h = refl
option_word_same (Some a) id word h = refl

plain_word_same : (c : List Rule) (w : Waiting) (word : Text) (h : Held) → plain_word (map in_rule c) w word h ≡ plain_word c w word h
plain_word_same c idle word h = refl
plain_word_same c (option id) word h =
    ap (λ (p : Held × Waiting). (p.0, next p.1)) (ap (λ (o : Option Rule). option_word o id word h) (by_id c id) ∙ option_word_same (arg_by_id c id) id word h)
plain_word_same c positional word h = refl

after_flag_same : (c : List Rule) (w : Waiting) (word : Text) (h : Held) (o : Outcome) → after_flag (map in_rule c) w word h o ≡ after_flag c w word h o
after_flag_same c w word h done = refl
after_flag_same c w word h (waits id) = refl
after_flag_same c w word h plain = plain_word_same c w word h
after_flag_same c w word h refused = plain_word_same c w word h

after_met_same : (c : List Rule) (w : Waiting) (word : Text) (p q : Held × Outcome) → p ≡ q → after_flag (map in_rule c) w word p.0 p.1 ≡ after_flag c w word q.0 q.1
after_met_same c w word p q e = ap (λ (m : Held × Outcome). after_flag (map in_rule c) w word m.0 m.1) e ∙ after_flag_same c w word q.0 q.1

long_word_same : (c : List Rule) (w : Waiting) (word name : Text) (v : Option Text) (h : Held) → long_word (map in_rule c) w word name v h ≡ long_word c w word name v h
long_word_same c w word name v h =
    after_met_same c w word _ _ (ap (λ (o : Option Rule). long_met (map in_rule c) o v h) (by_long c name) ∙ long_met_same c (arg_by_long c name) v h)

short_word_same : (c : List Rule) (w : Waiting) (word flags : Text) (h : Held) → short_word (map in_rule c) w word flags h ≡ short_word c w word flags h
short_word_same c w word flags h =
    after_met_same c w word (bundle (map in_rule c) flags h) (bundle c flags h) (bundle_met_same c (length flags) flags h.skip plain (record h { skip = 0 }))

short_or_plain_same : (c : List Rule) (w : Waiting) (word : Text) (o : Option Text) (h : Held) → short_or_plain (map in_rule c) w word o h ≡ short_or_plain c w word o h
short_or_plain_same c w word (Some flags) h = short_word_same c w word flags h
short_or_plain_same c w word None h = plain_word_same c w word h

long_or_other_same : (c : List Rule) (w : Waiting) (word : Text) (o : Option (Text × Option Text)) (h : Held) → long_or_other (map in_rule c) w word o h ≡ long_or_other c w word o h
long_or_other_same c w word (Some p) h = long_word_same c w word p.0 p.1 h
long_or_other_same c w word None h = short_or_plain_same c w word (short_of word) h

subcommand_or_other_same : (c : List Rule) (o : Option Text) (w : Waiting) (position : ℕ) (word : Text) (h : Held)
    → subcommand_or_other (map in_rule c) o w position word h ≡ subcommand_or_other c o w position word h
subcommand_or_other_same c (Some name) w position word h = refl
subcommand_or_other_same c None w position word h = if_same (bytes_eq word (45 ∷ 45 ∷ [])) _ _ _ _ refl (long_or_other_same c w word (long_of word) h)

pub word_met_same : (c : List Rule) (names : Names) (t : Bool) (w : Waiting) (position : ℕ) (word : Text) (h : Held)
    → word_met (map in_rule c) names t w position word h ≡ word_met c names t w position word h
word_met_same c names t w position word h = if_same t _ _ _ _ refl (subcommand_or_other_same c (subcommand_met names w word) w position word h)

to_positional_same : (c : List Rule) (o : Option Rule) (word : Text) (w : Walk) (h : Held) → to_positional (map in_rule c) (option_map in_rule o) word w h ≡ to_positional c o word w h
to_positional_same c None word w h = refl
to_positional_same c (Some a) word w h =
    ap (λ (s : Held). record {
      held = pushed a.id word (if is_pending a h.pending && takes_several a then h else s);
      waiting = if is_multiple a then positional else idle;
      position = next_position a w.position;
      is_trailing = w.is_trailing || a.trailing_var_arg;
      stopped = None;
    }) (settled_same c h)

after_step_same : (c : List Rule) (word : Text) (w : Walk) (h : Held) (s : Step) → after_step (map in_rule c) word w h s ≡ after_step c word w h s
after_step_same c word w h (next waiting) = refl
after_step_same c word w h (trailing position) = refl
after_step_same c word w h (subcommand name) = refl
after_step_same c word w h value = ap (λ (o : Option Rule). to_positional (map in_rule c) o word w h) (by_index c w.position) ∙ to_positional_same c (arg_by_index c w.position) word w h

walked_from_same : (c : List Rule) (names : Names) (o : Option (Text × List Text)) (w : Walk) (word : Text) → walked_from (map in_rule c) names o w word ≡ walked_from c names o w word
walked_from_same c names (Some p) w word = refl
walked_from_same c names None w word =
    ap (λ (m : Held × Step). after_step (map in_rule c) word w m.0 m.1) (word_met_same c names w.is_trailing w.waiting w.position word w.held)
    ∙ after_step_same c word w (word_met c names w.is_trailing w.waiting w.position word w.held).0 (word_met c names w.is_trailing w.waiting w.position word w.held).1

pub walked_same : (c : List Rule) (names : Names) (w : Walk) (word : Text) → walked (map in_rule c) names w word ≡ walked c names w word
unfolding walked
walked_same c names w word = walked_from_same c names w.stopped w word

walk_on_same : (c : List Rule) (names : Names) (w : Walk) (words : List Text) → fold (walked (map in_rule c) names) w words ≡ fold (walked c names) w words
walk_on_same c names w [] = refl
walk_on_same c names w (word ∷ rest) =
    ap (λ (v : Walk). fold (walked (map in_rule c) names) v rest) (walked_same c names w word) ∙ walk_on_same c names (walked c names w word) rest

pub walk_same : (c : List Rule) (names : Names) (h : Held) (words : List Text) → walk (map in_rule c) names h words ≡ walk c names h words
walk_same c names h words = walk_on_same c names (walk_from h) words

-- the matches ------------------------------------------------------------------------------

pub with_default_same : (rows : List Row) (a : Rule) → with_default rows (in_rule a) ≡ with_default rows a
with_default_same rows a = ap (λ r. if has_row a.id rows then rows else default_rows a.id r a.defaults rows) (reading_same a.parser)

defaults_same : (c : List Rule) (rows : List Row) → fold with_default rows (map in_rule c) ≡ fold with_default rows c
defaults_same [] rows = refl
defaults_same (a ∷ rest) rows =
    ap (λ (r : List Row). fold with_default r (map in_rule rest)) (with_default_same rows a) ∙ defaults_same rest (with_default rows a)

pub finished_same : (c : List Rule) (h : Held) → finished (map in_rule c) h ≡ finished c h
finished_same c h = ap (λ (s : Held). fold with_default s.rows (map in_rule c)) (settled_same c h) ∙ defaults_same c (settled c h).rows

rows_after_same : (c : List Rule) (names : Names) (words : List Text) → rows_after (map in_rule c) names words ≡ rows_after c names words
rows_after_same c names words =
    ap (λ (w : Walk). finished (map in_rule c) w.held) (walk_same c names nothing_held words) ∙ finished_same c (walk c names nothing_held words).held

pub label_found : (subs : List Shape) (word : Text) → find (λ s. answers_to word (label_of s)) (map in_shape subs) ≡ option_map in_shape (find (λ s. answers_to word (label_of s)) subs)
label_found subs word = sym (find-map (λ s. answers_to word (label_of s)) in_shape subs)

pub names_same : (subs : List Shape) → map label_of (map in_shape subs) ≡ map label_of subs
names_same [] = refl
names_same (s ∷ rest) = ap (λ (names : Names). label_of s ∷ names) (names_same rest)

entered_rows_same : (o : Option Shape) (words : List Text) → option_map (λ s. rows_at s words) (option_map in_shape o) ≡ option_map (λ s. rows_at s words) o
entered_rows_same None words = refl
entered_rows_same (Some s) words = ap (λ (rows : List Row). Some (s.name, rows)) (rows_after_same s.rules [] words)

pub entered_same : (a : App) (stop : Option (Text × List Text)) → entered (in_app a) stop ≡ entered a stop
entered_same a None = refl
entered_same a (Some p) =
    ap (option_map (λ s. rows_at s p.1)) (label_found a.subs p.0) ∙ entered_rows_same (find (λ s. answers_to p.0 (label_of s)) a.subs) p.1

pub stop_same : (a : App) (h : Held) (words : List Text) → (walk (map in_rule a.top.rules) (names_of (in_app a)) h words).stopped ≡ (walk a.top.rules (names_of a) h words).stopped
stop_same a h words =
    ap (λ (names : Names). (walk (map in_rule a.top.rules) names h words).stopped) (names_same a.subs)
    ∙ ap (λ (w : Walk). w.stopped) (walk_same a.top.rules (names_of a) h words)
