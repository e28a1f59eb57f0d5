-- Readers: functions from a text of tokens to a value and the text after it, or to the fault at which reading stops.
use Rattle.std.specs.Prelude.{◌≡◌, ℕ, zero, suc, nat_le, Bool, true, false, cond, drop, List, [], ◌∷◌, ◌++◌, length}
use Rattle.std.specs.Prelude.{Option, Some, None, Result, Ok, Err, ⊤}
use Rattle.lra_base.specs.declared.refusals.Cause.TheVariants.{Syntax}
use Rattle.lra_base.specs.{declared.refusals.Cause.Cause, declared.refusals.Place.Place}
use Rattle.lra_syntax.specs.declared.tokens.Kind.TheVariants.{Name, Number, Mark as MarkOf, Reserved, Unclosed, End}
use Rattle.lra_syntax.specs.{Lexeme.greatest_literal, declared.tokens.Kind.Kind, declared.tokens.Mark.Mark}
use Rattle.lra_syntax.specs.{declared.tokens.Token.Token, declared.trees.Identifier.Identifier}
use Rattle.lra_parser_spec.specs.Tests.{first, is_mark}
use Rattle.lra_parser_spec.specs.{declared.reading.Fault.Fault, declared.reading.Stopped.Stopped}
pub use Rattle.lra_parser_spec.specs.declared.reading.Literal.{Literal}
use Rattle.lra_parser_spec.specs.declared.reading.Stopped.TheVariants as stopped

abbrev pub Text : Type 0
Text = List Token

abbrev pub Read : Type 0 → Type 0
Read A = Result (A × Text) Fault

abbrev pub Parse : Type 0 → Type 0
Parse A = Text → Read A

-- the fault is the next token
abbrev pub stop : {A : Type 0} → Cause → Text → Read A
stop c T = Err (record { cause = c; left = length T })

infixl 10 ◌>>=◌
abbrev pub ◌>>=◌ : {A B : Type 0} → Read A → (A × Text → Read B) → Read B
(Ok x) >>= f = f x
(Err e) >>= f = Err e

-- one reader after the other
abbrev pub seq : {A B : Type 0} → Parse A → (A → Parse B) → Parse B
seq p q T = p T >>= λ r. q r.0 r.1

abbrev pub map_read : {A B : Type 0} → (A → B) → Parse A → Parse B
map_read f p T = p T >>= λ r. Ok (f r.0, r.1)

-- nothing is read
abbrev pub done_with : {A : Type 0} → A → Parse A
done_with a T = Ok (a, T)

abbrev pub tail : Text → Text
tail T = drop 1 T

-- turns as long as the next token passes the test, at most n
unfoldable pub loop : {A : Type 0} → (Option Token → Bool) → (A → Parse A) → ℕ → A → Parse A
loop more step zero a T = Ok (a, T)
loop more step (suc n) a T = cond (more (first T)) (step a T >>= λ r. loop more step n r.0 r.1) (Ok (a, T))

abbrev pub turns : {A : Type 0} → (Option Token → Bool) → (A → Parse A) → A → Parse A
turns more step a T = loop more step (length T) a T

-- single tokens ----------------------------------------------------------------------------------------------------

-- the mark, and nothing is kept of it
abbrev pub expect : {A : Type 0} → Mark → A → Parse A
expect m a T = cond (is_mark m (first T)) (Ok (a, tail T)) (stop Syntax T)

-- the mark's place
abbrev pub place_of : Option Token → Place
place_of None = record { line = 1; column = 1 }
place_of (Some t) = t.place

abbrev pub expect_at : Mark → Parse Place
expect_at m T = cond (is_mark m (first T)) (Ok (place_of (first T), tail T)) (stop Syntax T)

abbrev pub identifier_of : Kind → Place → Option Identifier
identifier_of (Name w) at = Some (record { word = w; place = at })
identifier_of (Number t n) at = None
identifier_of (MarkOf m) at = None
identifier_of Reserved at = None
identifier_of Unclosed at = None
identifier_of End at = None

abbrev pub next_name : Option Token → Option Identifier
next_name None = None
next_name (Some t) = identifier_of t.kind t.place

abbrev pub literal_of : Kind → Place → Option Literal
literal_of (Name w) at = None
literal_of (Number t n) at = Some (record { number_type = t; value = n; place = at })
literal_of (MarkOf m) at = None
literal_of Reserved at = None
literal_of Unclosed at = None
literal_of End at = None

abbrev pub next_literal : Option Token → Option Literal
next_literal None = None
next_literal (Some t) = literal_of t.kind t.place

-- a literal that has 64 bits with a sign too, as each of a source
abbrev pub small_of : Option Literal → Option Literal
small_of None = None
small_of (Some l) = cond (nat_le l.value greatest_literal) (Some l) None

abbrev pub next_small : Option Token → Option Literal
next_small o = small_of (next_literal o)

-- what the next token has, or a syntax fault there
abbrev pub taken : {A : Type 0} → Option A → Parse A
taken (Some a) T = Ok (a, tail T)
taken None T = stop Syntax T

abbrev pub take_by : {A : Type 0} → (Option Token → Option A) → Parse A
take_by pick T = taken (pick (first T)) T

-- what code gives --------------------------------------------------------------------------------------------------

abbrev pub ParsesAsErr : {Y : Type 0} → Stopped → Read Y → Type 0
ParsesAsErr stopped.Memory read = ⊤
ParsesAsErr (stopped.Fault f) read = read ≡ Err f

-- what a function returned, seen by view, is what reading gives, unless memory ran out
abbrev pub ParsesAs : {X Y : Type 0} → (X → Y × Text) → Result X Stopped → Read Y → Type 0
ParsesAs view (Ok x) read = read ≡ Ok (view x)
ParsesAs view (Err e) read = ParsesAsErr e read

-- chains and lists -------------------------------------------------------------------------------------------------

abbrev pub has : {A : Type 0} → Option A → Bool
has None = false
has (Some a) = true

-- the operator of the table whose mark the next token is
abbrev pub one_of : {A : Type 0} → List (Mark × A) → Option Token → Option A
one_of [] o = None
one_of (k ∷ ks) o = cond (is_mark k.0 o) (Some k.1) (one_of ks o)

-- an operator and an item
abbrev pub chain_step : {I A O : Type 0} → (Option Token → Option O) → (A → O → I → A) → Parse I → A → Parse A
chain_step op grow p a = seq (take_by op) (λ k. map_read (grow a k) p)

abbrev pub chain_rest : {I A O : Type 0} → (Option Token → Option O) → (A → O → I → A) → Parse I → A → Parse A
chain_rest op grow p a = turns (λ o. has (op o)) (chain_step op grow p) a

-- items with operators between them
abbrev pub chain : {I A O : Type 0} → (Option Token → Option O) → (I → A) → (A → O → I → A) → Parse I → Parse A
chain op start grow p = seq p (λ i. chain_rest op grow p (start i))

abbrev pub list_step : {I : Type 0} → Parse I → List I → Parse (List I)
list_step p is = map_read (λ i. is ++ i ∷ []) p

-- items one after the other
abbrev pub list_of : {I : Type 0} → (Option Token → Bool) → Parse I → Parse (List I)
list_of more p = turns more (list_step p) []
