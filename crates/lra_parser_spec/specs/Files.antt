-- The reader of a whole file, and the shape of the lists of tokens that are read.
use Rattle.std.specs.Prelude.{◌≡◌, ◌≢◌, ℕ, pos, ⊤, Bool, true, false, cond, List, [], IsTrue, ◌∷◌, ◌++◌, Option, Some}
use Rattle.std.specs.{List.AllByRecursion, Prelude.None, Prelude.option_map, Prelude.Result, Prelude.Ok, Prelude.Err}
use Rattle.lra_base.specs.declared.number_types.NumberType.{NumberType}
use Rattle.lra_base.specs.{NumberTypes.fits, declared.refusals.Cause.TheVariants.Syntax, declared.refusals.Place.Place}
use Rattle.lra_syntax.specs.Trees.{ItemsTree, FunctionTree, ScalarOrArrayTree, GlobalTree, ExternalTree, prototype}
use Rattle.lra_syntax.specs.Trees.{globals, function, FileTree}
use Rattle.lra_syntax.specs.declared.tokens.Kind.TheVariants.{Name, Number, Mark as MarkOf, Reserved, Unclosed, End}
use Rattle.lra_syntax.specs.declared.trees.SignedLiteral.{SignedLiteral}
use Rattle.lra_syntax.specs.{declared.tokens.Kind.Kind, declared.tokens.Mark.Mark, declared.tokens.Token.Token}
use Rattle.lra_syntax.specs.{declared.trees.Identifier.Identifier, declared.trees.Parameter.Parameter}
use Rattle.lra_syntax.specs.declared.tokens.Mark.TheVariants as mark
use Rattle.lra_parser_spec.specs.Reading.{Parse, stop, seq, map_read, done_with, expect, take_by, next_name, has}
use Rattle.lra_parser_spec.specs.Statements.{commas_from, commas, listed, type_words, shape_at, signed_at, body_of}
use Rattle.lra_parser_spec.specs.{Expressions.after_mark, Expressions.ended, Reading.one_of, Reading.list_of}
use Rattle.lra_parser_spec.specs.{Statements.items_at, Tests.first, Tests.is_mark, declared.lead.Lead.Lead}
use Rattle.lra_parser_spec.specs.declared.lead.Lead.TheVariants as lead

-- the last token, and no other, is the end
pub record EndsOnce (tokens : List Token) : Type 0 where
  pub front : List Token
  pub last : Token
  pub parts : tokens ≡ front ++ last ∷ []
  pub is_end : last.kind ≡ End
  pub no_other : AllByRecursion (λ (t : Token). t.kind ≢ End) front

-- each number is one of its type; with a sign, too, one of 64 bits
abbrev pub IsSmallKind : Kind → Type 0
IsSmallKind (Name w) = ⊤
IsSmallKind (Number t n) = IsTrue (fits t (pos n))
IsSmallKind (MarkOf m) = ⊤
IsSmallKind Reserved = ⊤
IsSmallKind Unclosed = ⊤
IsSmallKind End = ⊤

abbrev pub AreSmall : List Token → Type 0
AreSmall tokens = AllByRecursion (λ (t : Token). IsSmallKind t.kind) tokens

-- what a part begins with -------------------------------------------------------------------------------------------

-- the words that a part begins with, `extern` aside
pub data HeadMark : Type 0 where
  at_type : HeadMark
  at_void : HeadMark

abbrev pub head_marks : List (Mark × HeadMark)
head_marks = (mark.Int, at_type) ∷ (mark.Long, at_type) ∷ (mark.Void, at_void) ∷ []

abbrev pub head_mark : Option Token → Option HeadMark
head_mark o = one_of head_marks o

-- the words that a prototype may have in place of a name
pub data BuiltIn : Type 0 where
  of_input : BuiltIn
  of_assert : BuiltIn
  of_assume : BuiltIn

abbrev pub built_ins : List (Mark × BuiltIn)
built_ins = (mark.Input, of_input) ∷ (mark.Assert, of_assert) ∷ (mark.Assume, of_assume) ∷ []

abbrev pub next_built_in : Option Token → Option BuiltIn
next_built_in o = one_of built_ins o

-- after a type, or after `void`
abbrev pub named : Option NumberType → Identifier → Lead
named (Some t) x = lead.Typed t x
named None x = lead.Void x

abbrev pub lead_behind : Option NumberType → Parse Lead
lead_behind t T = cond (has (next_built_in (first T))) (map_read (λ w. lead.Bare) (take_by next_built_in) T)
    (map_read (named t) (take_by next_name) T)

abbrev pub lead_form : Option HeadMark → Parse Lead
lead_form (Some at_type) = seq type_words (λ t. lead_behind (Some t))
lead_form (Some at_void) = after_mark mark.Void (lead_behind None)
lead_form None = stop Syntax

-- without `extern`
abbrev pub plain_lead : Parse Lead
plain_lead T = lead_form (head_mark (first T)) T

-- what a part begins with
abbrev pub read_lead : Parse Lead
read_lead T = cond (is_mark mark.Extern (first T)) (after_mark mark.Extern (map_read (λ l. lead.Bare) plain_lead) T)
    (plain_lead T)

-- parameters --------------------------------------------------------------------------------------------------------

-- the marks after a parameter: a comma, or else the closing parenthesis
abbrev pub parameter_ends : List (Mark × Bool)
parameter_ends = (mark.Comma, true) ∷ (mark.CloseParen, false) ∷ []

abbrev pub ends_parameter : Option Token → Bool
ends_parameter o = has (one_of parameter_ends o)

-- nothing, if a parameter ends
abbrev pub no_name : Parse (Option Parameter)
no_name T = cond (ends_parameter (first T)) (done_with None T) (stop Syntax T)

abbrev pub parameter_of : NumberType → Identifier → Option Parameter
parameter_of t x = Some (record { number_type = t; name = x })

-- a name after a type, or nothing
abbrev pub name_or_none : NumberType → Parse (Option Parameter)
name_or_none t T = cond (has (next_name (first T))) (map_read (parameter_of t) (take_by next_name) T) (no_name T)

-- a type, and maybe a name
abbrev pub parameter_at : Parse (Option Parameter)
parameter_at = seq type_words name_or_none

-- parameters with commas between them, `void` or nothing, and the closing parenthesis
abbrev pub parameters_at : Parse (List (Option Parameter))
parameters_at T =
    cond (is_mark mark.CloseParen (first T)) (expect mark.CloseParen [] T)
    (cond (is_mark mark.Void (first T)) (after_mark mark.Void (expect mark.CloseParen []) T)
    (ended mark.CloseParen (map_read listed (commas parameter_at)) T))

-- the parameters, if each has a name
abbrev pub all_named : List (Option Parameter) → Option (List Parameter)
all_named [] = Some []
all_named (None ∷ ps) = None
all_named (Some p ∷ ps) = option_map (λ qs. p ∷ qs) (all_named ps)

-- functions and prototypes ------------------------------------------------------------------------------------------

-- the type of the result, if there is one, and the name
abbrev pub Heading : Type 0
Heading = Option NumberType × Identifier

abbrev pub signature_of : Option Heading → List (Option Parameter) → Option (Heading × List Parameter)
signature_of None ps = None
signature_of (Some h) ps = option_map (λ xs. (h, xs)) (all_named ps)

abbrev pub function_of : Heading × List Parameter → ItemsTree × Place → FunctionTree
function_of s b = record { result_type = s.0.0; name = s.0.1; parameters = s.1; body = b.0; end = b.1 }

-- after the parameters: a body, if the part may be a function, or a semicolon; d levels are left inside
abbrev pub ending : ℕ → Option (Heading × List Parameter) → Parse ExternalTree
ending d None = expect mark.Semicolon prototype
ending d (Some s) = λ T. cond (is_mark mark.OpenBrace (first T))
    (map_read (λ b. function (function_of s b)) (body_of (items_at d)) T) (expect mark.Semicolon prototype T)

-- after what it begins with
abbrev pub signature_at : ℕ → Option Heading → Parse ExternalTree
signature_at d h = after_mark mark.OpenParen (seq parameters_at (λ ps. ending d (signature_of h ps)))

-- globals -----------------------------------------------------------------------------------------------------------

abbrev pub global_of : Identifier → ScalarOrArrayTree SignedLiteral → GlobalTree
global_of x s = record { name = x; shape = s }

-- after the name of a global
abbrev pub global_rest : Identifier → Parse GlobalTree
global_rest x = map_read (global_of x) (shape_at signed_at)

abbrev pub global_at : Parse GlobalTree
global_at = seq (take_by next_name) global_rest

abbrev pub globals_of : NumberType → GlobalTree × List GlobalTree → ExternalTree
globals_of t gs = globals (record { number_type = t; first = gs.0; rest = gs.1 })

-- after their type and the name of the first
abbrev pub globals_at : NumberType → Identifier → Parse ExternalTree
globals_at t x = map_read (globals_of t)
    (ended mark.Semicolon (commas_from (global_rest x) global_at))

-- parts -------------------------------------------------------------------------------------------------------------

-- what a part may go on as: with a name after a type as a function or as globals, else with this head of a signature
abbrev pub split_lead : Lead → Result (NumberType × Identifier) (Option Heading)
split_lead (lead.Typed t x) = Ok (t, x)
split_lead (lead.Void x) = Err (Some (None, x))
split_lead lead.Bare = Err None

abbrev pub rest_of : ℕ → Result (NumberType × Identifier) (Option Heading) → Parse ExternalTree
rest_of d (Ok h) = λ T. cond (is_mark mark.OpenParen (first T)) (signature_at d (Some (Some h.0, h.1)) T)
    (globals_at h.0 h.1 T)
rest_of d (Err head) = signature_at d head

abbrev pub rest_at : ℕ → Lead → Parse ExternalTree
rest_at d l = rest_of d (split_lead l)

abbrev pub part_at : ℕ → Parse ExternalTree
part_at d = seq read_lead (rest_at d)

abbrev pub begins_part : Option Token → Bool
begins_part o = cond (is_mark mark.Extern o) true (has (head_mark o))

abbrev pub parts_at : ℕ → Parse (List ExternalTree)
parts_at d = list_of begins_part (part_at d)

abbrev pub end_of : Kind → Place → Option Place
end_of (Name w) at = None
end_of (Number t n) at = None
end_of (MarkOf m) at = None
end_of Reserved at = None
end_of Unclosed at = None
end_of End at = Some at

abbrev pub next_end : Option Token → Option Place
next_end None = None
next_end (Some t) = end_of t.kind t.place

abbrev pub file_of : List ExternalTree → Place → FileTree
file_of ps at = record { parts = ps; end = at }

-- a file, if the first level is one of n
abbrev pub file_at : ℕ → Parse FileTree
file_at d = seq (parts_at d) (λ ps. map_read (file_of ps) (take_by next_end))
