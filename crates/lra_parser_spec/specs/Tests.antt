-- Tests of the next token.
use Rattle.std.specs.Prelude.{ℕ, Bool, false, ◌||◌, nat_eq, List, [], ◌∷◌, Option, Some, None}
use Rattle.lra_syntax.specs.declared.tokens.Kind.TheVariants.{Name, Number, Mark as MarkOf, Reserved, Unclosed, End}
use Rattle.lra_syntax.specs.{declared.tokens.Kind.Kind, declared.tokens.Mark.Mark, declared.tokens.Token.Token}
use Rattle.lra_syntax.specs.declared.tokens.Mark.TheVariants as mark

-- a number for each mark
abbrev pub mark_number : Mark → ℕ
mark_number mark.Plus = 0
mark_number mark.Minus = 1
mark_number mark.Star = 2
mark_number mark.Slash = 3
mark_number mark.Percent = 4
mark_number mark.Assign = 5
mark_number mark.Equal = 6
mark_number mark.Differs = 7
mark_number mark.Less = 8
mark_number mark.AtMost = 9
mark_number mark.Greater = 10
mark_number mark.AtLeast = 11
mark_number mark.And = 12
mark_number mark.Or = 13
mark_number mark.Not = 14
mark_number mark.Increment = 15
mark_number mark.Decrement = 16
mark_number mark.PlusAssign = 17
mark_number mark.MinusAssign = 18
mark_number mark.StarAssign = 19
mark_number mark.SlashAssign = 20
mark_number mark.PercentAssign = 21
mark_number mark.OpenParen = 22
mark_number mark.CloseParen = 23
mark_number mark.OpenBrace = 24
mark_number mark.CloseBrace = 25
mark_number mark.OpenBracket = 26
mark_number mark.CloseBracket = 27
mark_number mark.Semicolon = 28
mark_number mark.Comma = 29
mark_number mark.Colon = 30
mark_number mark.Assert = 31
mark_number mark.Assume = 32
mark_number mark.Input = 33
mark_number mark.Break = 34
mark_number mark.Case = 35
mark_number mark.Continue = 36
mark_number mark.Default = 37
mark_number mark.Else = 38
mark_number mark.Extern = 39
mark_number mark.For = 40
mark_number mark.If = 41
mark_number mark.Int = 42
mark_number mark.Long = 43
mark_number mark.Return = 44
mark_number mark.Switch = 45
mark_number mark.Void = 46
mark_number mark.While = 47

abbrev pub is_kind : Mark → Kind → Bool
is_kind m (Name word) = false
is_kind m (Number t n) = false
is_kind m (MarkOf k) = nat_eq (mark_number k) (mark_number m)
is_kind m Reserved = false
is_kind m Unclosed = false
is_kind m End = false

-- the token is there, and is the mark
abbrev pub is_mark : Mark → Option Token → Bool
is_mark m None = false
is_mark m (Some t) = is_kind m t.kind

abbrev pub first : List Token → Option Token
first [] = None
first (t ∷ T) = Some t

abbrev pub is_loop : Option Token → Bool
is_loop o = is_mark mark.While o || is_mark mark.For o

abbrev pub is_jump : Option Token → Bool
is_jump o = is_mark mark.Break o || is_mark mark.Continue o || is_mark mark.Return o

-- the words with which labels of a `switch` begin
abbrev pub begins_label : Option Token → Bool
begins_label o = is_mark mark.Case o || is_mark mark.Default o
