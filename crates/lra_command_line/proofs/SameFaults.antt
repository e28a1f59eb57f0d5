-- Where in memory the names of the domains lie decides nothing: the faults of the words.
use Rattle.std.proofs.Common.{◌≡◌, ◌∙◌, ◌+◌, ◌&&◌, ◌||◌, ℕ, Bool, List, [], ◌∷◌, map, length, Option, Some, None, ap, refl, sym, false, not, zero, suc, drop, min}
use Rattle.std.specs.Prelude.{find, is_some, option_map, slice_get, if◌then◌else◌, encode_utf8}
use Rattle.std.specs.{Borrow.Bor, List.list_any, Option.option_map_or, Str.bytes_eq, Str.chars}
use Rattle.clap.specs.Faults.{action_fault, bundle_fault, bundle_step_fault, built_fault, check_fault, count_fault, default_fault, defaults_fault, entered_fault, flag_word_fault, flags_fault}
use Rattle.clap.specs.Faults.{level_fault, long_fault, option_fault, other_fault, positional_fault, react_fault, repeat_fault, set_fault, settle_fault, short_fault, step_fault, stray_fault}
use Rattle.clap.specs.Faults.{turn_fault, use_fault, values_fault, walk_fault, word_fault}
use Rattle.clap.specs.Kinds.{Kinds, check_kinds, or_else, range_kinds, request_kinds, value_kinds, values_kinds}
use Rattle.clap.specs.Walk.{Held, Names, Row, Rule, Step, Text, Waiting, Walk, action_of, answers_to, arg_by_id, arg_by_index, arg_by_long, arg_by_short, attached_value, count_of, finished, has_row}
use Rattle.clap.specs.Walk.{is_empty, is_pending, most_values, next, nothing_held, reacted, settled, subcommand, subcommand_met, takes_several, takes_values, trailing, value, values_or_missing, walk}
use Rattle.clap.specs.Walk.{walk_from, walked, with_default, word_met}
use Rattle.clap.specs.declared.builder.action.ArgAction.TheVariants.{Set, Append, SetTrue, SetFalse, Count, Help, HelpShort, HelpLong, Version}
use Rattle.clap.specs.{Facts.explicit_source, Facts.parser_of_value, Facts.unwrap_or_range, Lexer.long_of, Lexer.short_of, Matches.count_text, Simple.App, Simple.Shape, Simple.entered}
use Rattle.clap.specs.{Simple.label_of, Simple.names_of, Takes.is_given, Values.same_text, declared.builder.action.ArgAction.ArgAction, declared.builder.value_parser.ValueParser.ValueParser}
use Rattle.clap.specs.declared.error.kind.ErrorKind.TheVariants as kind
use Rattle.clap.specs.declared.builder.value_parser.ValueParser.TheVariants as vp
use Rattle.clap.proofs.WalkLemmas.{list_any-map}
use Rattle.lra_command_line.proofs.SameWalk.{placed, placed_in, in_rule, in_shape, in_app, if_same, by_id, by_long, by_short, by_index, missing_same, settled_same, reacted_same, word_met_same}
use Rattle.lra_command_line.proofs.SameWalk.{walked_same, walk_same, with_default_same, finished_same, label_found, names_same, entered_same, stop_same}

or_same : (k l m n : Kinds) → k ≡ l → m ≡ n → or_else k m ≡ or_else l n
or_same k l m n p q = ap (λ (x : Kinds). or_else x m) p ∙ ap (λ (x : Kinds). or_else l x) q

-- values ---------------------------------------------------------------------------------

passes_placed : (i : Bool) (p : ValueParser) (text : Text) → value_kinds i (placed p) text ≡ value_kinds i p text
passes_placed i vp.String text = refl
passes_placed i vp.NonEmptyString text = refl
passes_placed i vp.Bool text = refl
passes_placed i vp.Boolish text = refl
passes_placed i vp.Falsey text = refl
passes_placed i (vp.Signed low high) text = refl
passes_placed i (vp.Unsigned low high) text = refl
passes_placed i vp.Float text = refl
passes_placed i vp.Char text = refl
passes_placed i (vp.Names names) text =
    ap (λ (b : Bool). if b then [] else kind.InvalidValue ∷ [])
    (sym (list_any-map (λ (name : Bor Text). same_text i name.now text) (λ (name : Bor Text). record { ref_ptr = (0, 0); now = name.now }) names.now))
passes_placed i (vp.Values values) text = refl

value_same : (i : Bool) (o : Option ValueParser) (text : Text) → value_kinds i (parser_of_value (placed_in o)) text ≡ value_kinds i (parser_of_value o) text
value_same i None text = refl
value_same i (Some p) text = passes_placed i p text

values_kinds_same : (i : Bool) (o : Option ValueParser) (vs : List Text) → values_kinds i (parser_of_value (placed_in o)) vs ≡ values_kinds i (parser_of_value o) vs
values_kinds_same i o [] = refl
values_kinds_same i o (v ∷ vs) = or_same _ _ _ _ (value_same i o v) (values_kinds_same i o vs)

values_same : (a : Rule) (vs : List Text) → values_fault (in_rule a) vs ≡ values_fault a vs
values_same a vs = values_kinds_same a.ignore_case a.parser vs

-- one use ----------------------------------------------------------------------------------

count_same : (a : Rule) (vs : List Text) (rows : List Row) → count_fault (in_rule a) vs rows ≡ count_fault a vs rows
count_same a [] rows = value_same a.ignore_case a.parser (count_text (min (count_of a.id rows + 1) 255))
count_same a (v ∷ vs) rows = values_same a (v ∷ vs)

set_same : (again : Bool) (a : Rule) (vs : List Text) (rows : List Row) → set_fault again (in_rule a) vs rows ≡ set_fault again a vs rows
set_same again a vs rows = ap (or_else (repeat_fault again a.id rows)) (values_same a vs)

action_same : (x : ArgAction) (again : Bool) (a : Rule) (vs : List Text) (rows : List Row) → action_fault x again (in_rule a) vs rows ≡ action_fault x again a vs rows
action_same Set again a vs rows = set_same again a vs rows
action_same SetTrue again a vs rows = set_same again a vs rows
action_same SetFalse again a vs rows = set_same again a vs rows
action_same Append again a vs rows = values_same a vs
action_same Count again a vs rows = count_same a vs rows
action_same Help again a vs rows = refl
action_same HelpShort again a vs rows = refl
action_same HelpLong again a vs rows = refl
action_same Version again a vs rows = refl

use_same : (again : Bool) (a : Rule) (vs : List Text) (rows : List Row) → use_fault again (in_rule a) vs rows ≡ use_fault again a vs rows
use_same again a vs rows =
    ap (or_else (range_kinds (unwrap_or_range a.range).start_inclusive (most_values a) (length vs)))
    (ap (λ (w : List Text). action_fault (action_of a) again (in_rule a) w rows) (missing_same a vs) ∙ action_same (action_of a) again a (values_or_missing a vs) rows)

-- the walk -----------------------------------------------------------------------------------

use_by_id_same : (o : Option Rule) (again : Bool) (vs : List Text) (rows : List Row)
    → option_map_or (λ a. use_fault again a vs rows) (option_map in_rule o) [] ≡ option_map_or (λ a. use_fault again a vs rows) o []
use_by_id_same None again vs rows = refl
use_by_id_same (Some a) again vs rows = use_same again a vs rows

settle_pending_same : (c : List Rule) (again : Bool) (p : Option (Text × List Text)) (rows : List Row)
    → option_map_or (λ q. option_map_or (λ a. use_fault again a q.1 rows) (arg_by_id (map in_rule c) q.0) []) p []
    ≡ option_map_or (λ q. option_map_or (λ a. use_fault again a q.1 rows) (arg_by_id c q.0) []) p []
settle_pending_same c again None rows = refl
settle_pending_same c again (Some p) rows =
    ap (λ (o : Option Rule). option_map_or (λ a. use_fault again a p.1 rows) o []) (by_id c p.0) ∙ use_by_id_same (arg_by_id c p.0) again p.1 rows

settle_same : (c : List Rule) (again : Bool) (h : Held) → settle_fault (map in_rule c) again h ≡ settle_fault c again h
settle_same c again h = settle_pending_same c again h.pending h.rows

react_same : (c : List Rule) (again : Bool) (a : Rule) (vs : List Text) (h : Held) → react_fault (map in_rule c) again (in_rule a) vs h ≡ react_fault c again a vs h
react_same c again a vs h =
    or_same _ _ _ _ (settle_same c again h)
    (ap (λ (s : Held). use_fault again (in_rule a) vs s.rows) (settled_same c h) ∙ use_same again a vs (settled c h).rows)

option_same : (c : List Rule) (again : Bool) (a : Rule) (v : Option Text) (h : Held) → option_fault (map in_rule c) again (in_rule a) v h ≡ option_fault c again a v h
option_same c again a (Some v) h = react_same c again a (v ∷ []) h
option_same c again a None h = settle_same c again h

long_same : (c : List Rule) (again : Bool) (o : Option Rule) (v : Option Text) (h : Held) → long_fault (map in_rule c) again (option_map in_rule o) v h ≡ long_fault c again o v h
long_same c again None v h = refl
long_same c again (Some a) v h =
    if_same (takes_values a) _ _ _ _ (option_same c again a v h) (if_same (is_some v) _ _ _ _ refl (react_same c again a [] h))

short_same : (c : List Rule) (again : Bool) (o : Option Rule) (rest : Text) (h : Held) (m n : Held → Kinds) → ((k : Held) → m k ≡ n k)
    → short_fault (map in_rule c) again (option_map in_rule o) rest h m ≡ short_fault c again o rest h n
short_same c again None rest h m n e = refl
short_same c again (Some a) rest h m n e =
    if_same (takes_values a) _ _ _ _ (option_same c again a (attached_value rest) h)
    (or_same _ _ _ _ (react_same c again a [] h) (ap m (reacted_same c a [] h) ∙ e (reacted c a [] h)))

bundle_step_same : (c : List Rule) (again : Bool) (x : Option ℕ) (flags : Text) (skip : ℕ) (h : Held) (m n : Text → ℕ → Held → Kinds)
    → ((t : Text) (k : ℕ) (g : Held) → m t k g ≡ n t k g) → bundle_step_fault (map in_rule c) again x flags skip h m ≡ bundle_step_fault c again x flags skip h n
bundle_step_same c again None flags skip h m n e = refl
bundle_step_same c again (Some x) flags zero h m n e =
    ap (λ (o : Option Rule). short_fault (map in_rule c) again o (drop (length (encode_utf8 x)) flags) h (m (drop (length (encode_utf8 x)) flags) 0)) (by_short c x)
    ∙ short_same c again (arg_by_short c x) _ h _ _ (e (drop (length (encode_utf8 x)) flags) 0)
bundle_step_same c again (Some x) flags (suc skip) h m n e = e (drop (length (encode_utf8 x)) flags) skip h

flags_same : (c : List Rule) (again : Bool) (k : ℕ) (flags : Text) (skip : ℕ) (h : Held) → flags_fault (map in_rule c) again k flags skip h ≡ flags_fault c again k flags skip h
unfolding flags_fault
flags_same c again zero flags skip h = refl
flags_same c again (suc k) flags skip h =
    bundle_step_same c again (slice_get (chars flags) 0) flags skip h (flags_fault (map in_rule c) again k) (flags_fault c again k) (flags_same c again k)

short_word_same : (c : List Rule) (again : Bool) (o : Option Text) (h : Held)
    → option_map_or (λ flags. bundle_fault (map in_rule c) again flags h) o [] ≡ option_map_or (λ flags. bundle_fault c again flags h) o []
short_word_same c again None h = refl
short_word_same c again (Some flags) h = flags_same c again (length flags) flags h.skip (record h { skip = 0 })

flag_word_same : (c : List Rule) (again : Bool) (o : Option (Text × Option Text)) (word : Text) (h : Held) → flag_word_fault (map in_rule c) again o word h ≡ flag_word_fault c again o word h
flag_word_same c again (Some p) word h =
    ap (λ (o : Option Rule). long_fault (map in_rule c) again o p.1 h) (by_long c p.0) ∙ long_same c again (arg_by_long c p.0) p.1 h
flag_word_same c again None word h = short_word_same c again (short_of word) h

other_same : (s : Shape) (o : Option Text) (word : Text) (h : Held) → other_fault (in_shape s) o word h ≡ other_fault s o word h
other_same s (Some name) word h = refl
other_same s None word h = if_same (bytes_eq word (45 ∷ 45 ∷ [])) _ _ _ _ refl (flag_word_same s.rules s.args_override_self (long_of word) word h)

word_same : (s : Shape) (names : Names) (t : Bool) (w : Waiting) (word : Text) (h : Held) → word_fault (in_shape s) names t w word h ≡ word_fault s names t w word h
word_same s names t w word h = if_same t _ _ _ _ refl (other_same s (subcommand_met names w word) word h)

positional_found_same : (c : List Rule) (again : Bool) (o : Option Rule) (h : Held) (stray : Kinds)
    → option_map_or (λ a. positional_fault (map in_rule c) again a h) (option_map in_rule o) stray ≡ option_map_or (λ a. positional_fault c again a h) o stray
positional_found_same c again None h stray = refl
positional_found_same c again (Some a) h stray = if_same (is_pending a h.pending && takes_several a) _ _ _ _ refl (settle_same c again h)

step_same : (s : Shape) (position : ℕ) (h : Held) (x : Step) → step_fault (in_shape s) position h x ≡ step_fault s position h x
step_same s position h value =
    ap (λ (o : Option Rule). option_map_or (λ a. positional_fault (map in_rule s.rules) s.args_override_self a h) o (stray_fault s)) (by_index s.rules position)
    ∙ positional_found_same s.rules s.args_override_self (arg_by_index s.rules position) h (stray_fault s)
step_same s position h (next waiting) = refl
step_same s position h (trailing p) = refl
step_same s position h (subcommand name) = refl

turn_same : (s : Shape) (names : Names) (w : Walk) (word : Text) → turn_fault (in_shape s) names w word ≡ turn_fault s names w word
turn_same s names w word =
    if_same (is_some w.stopped) _ _ _ _ refl
    (or_same _ _ _ _ (word_same s names w.is_trailing w.waiting word w.held)
    (ap (λ (m : Held × Step). step_fault (in_shape s) w.position m.0 m.1) (word_met_same s.rules names w.is_trailing w.waiting w.position word w.held)
    ∙ step_same s w.position (word_met s.rules names w.is_trailing w.waiting w.position word w.held).0 (word_met s.rules names w.is_trailing w.waiting w.position word w.held).1))

walk_fault_same : (s : Shape) (names : Names) (w : Walk) (words : List Text) → walk_fault (in_shape s) names w words ≡ walk_fault s names w words
unfolding walk_fault
walk_fault_same s names w [] = refl
walk_fault_same s names w (word ∷ rest) =
    or_same _ _ _ _ (turn_same s names w word)
    (ap (λ (v : Walk). walk_fault (in_shape s) names v rest) (walked_same s.rules names w word) ∙ walk_fault_same s names (walked s.rules names w word) rest)

-- after the walk ---------------------------------------------------------------------------------

default_same : (rows : List Row) (a : Rule) → default_fault rows (in_rule a) ≡ default_fault rows a
default_same rows a = if_same (has_row a.id rows || is_empty a.defaults) _ _ _ _ refl (ap (or_else (request_kinds (action_of a))) (values_same a a.defaults))

defaults_same : (c : List Rule) (rows : List Row) → defaults_fault rows (map in_rule c) ≡ defaults_fault rows c
unfolding defaults_fault
defaults_same [] rows = refl
defaults_same (a ∷ rest) rows =
    or_same _ _ _ _ (default_same rows a)
    (ap (λ (r : List Row). defaults_fault r (map in_rule rest)) (with_default_same rows a) ∙ defaults_same rest (with_default rows a))

check_same : (s : Shape) (rows : List Row) (has : Bool) → check_fault (in_shape s) rows has ≡ check_fault s rows has
check_same s rows has =
    ap (λ (b : Bool). check_kinds
    (not has && (s.arg_required_else_help && not (list_any (λ r. explicit_source r.source) rows)))
    (not has && s.subcommand_required)
    (not (s.subcommand_negates_reqs && has) && b))
    (sym (list_any-map (λ (a : Rule). a.required && not (is_given a.id rows)) in_rule s.rules))

ending_same : (s : Shape) (h : Held) (has : Bool) (below : Kinds)
    → or_else below (or_else (settle_fault (map in_rule s.rules) s.args_override_self h)
    (or_else (defaults_fault (settled (map in_rule s.rules) h).rows (map in_rule s.rules)) (check_fault (in_shape s) (finished (map in_rule s.rules) h) has)))
    ≡ or_else below (or_else (settle_fault s.rules s.args_override_self h) (or_else (defaults_fault (settled s.rules h).rows s.rules) (check_fault s (finished s.rules h) has)))
ending_same s h has below =
    ap (or_else below) (or_same _ _ _ _ (settle_same s.rules s.args_override_self h)
    (or_same _ _ _ _ (ap (λ (k : Held). defaults_fault k.rows (map in_rule s.rules)) (settled_same s.rules h) ∙ defaults_same s.rules (settled s.rules h).rows)
    (ap (λ (rows : List Row). check_fault (in_shape s) rows has) (finished_same s.rules h) ∙ check_same s (finished s.rules h) has)))

level_same : (s : Shape) (names : Names) (h : Held) (words : List Text) (has : Bool) (below : Kinds) → level_fault (in_shape s) names h words has below ≡ level_fault s names h words has below
level_same s names h words has below =
    or_same _ _ _ _ (walk_fault_same s names (walk_from h) words)
    (ap (λ (w : Walk). or_else below (or_else (settle_fault (map in_rule s.rules) s.args_override_self w.held)
    (or_else (defaults_fault (settled (map in_rule s.rules) w.held).rows (map in_rule s.rules)) (check_fault (in_shape s) (finished (map in_rule s.rules) w.held) has))))
    (walk_same s.rules names h words)
    ∙ ending_same s (walk s.rules names h words).held has below)

entered_level_same : (o : Option Shape) (words : List Text)
    → option_map_or (λ s. level_fault s [] nothing_held words false []) (option_map in_shape o) [] ≡ option_map_or (λ s. level_fault s [] nothing_held words false []) o []
entered_level_same None words = refl
entered_level_same (Some s) words = level_same s [] nothing_held words false []

entered_fault_same : (a : App) (stop : Option (Text × List Text)) → entered_fault (in_app a) stop ≡ entered_fault a stop
entered_fault_same a None = refl
entered_fault_same a (Some p) =
    ap (λ (o : Option Shape). option_map_or (λ s. level_fault s [] nothing_held p.1 false []) o []) (label_found a.subs p.0)
    ∙ entered_level_same (find (λ s. answers_to p.0 (label_of s)) a.subs) p.1

pub built_same : (a : App) (h : Held) (words : List Text) → built_fault (in_app a) h words ≡ built_fault a h words
built_same a h words =
    ap (λ (names : Names). level_fault (in_shape a.top) names h words (is_some (entered (in_app a) stop)) (entered_fault (in_app a) stop)) (names_same a.subs)
    ∙ ap (λ (t : Option (Text × List Text)). level_fault (in_shape a.top) (names_of a) h words (is_some (entered (in_app a) t)) (entered_fault (in_app a) t)) (stop_same a h words)
    ∙ level_same a.top (names_of a) h words (is_some (entered (in_app a) there)) (entered_fault (in_app a) there)
    ∙ ap (λ (e : Option (Text × List Row)). level_fault a.top (names_of a) h words (is_some e) (entered_fault (in_app a) there)) (entered_same a there)
    ∙ ap (level_fault a.top (names_of a) h words (is_some (entered a there))) (entered_fault_same a there)
  where
    stop : Option (Text × List Text)
    stop = (walk (map in_rule a.top.rules) (names_of (in_app a)) h words).stopped

    there : Option (Text × List Text)
    there = (walk a.top.rules (names_of a) h words).stopped
