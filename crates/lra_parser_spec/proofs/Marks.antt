-- Marks distinguished by their numbers.
use Rattle.std.proofs.Common.{◌≡◌, ℕ, true, nat_eq, List, [], ◌∷◌, slice_get, Some, refl, ap, eq-eqb, ◌∙◌}
use denote.Enum.Declared.{tag_of}
use denote.Enum.Bare.{sameb, same_true}
use Rattle.lra_syntax.specs.declared.tokens.Kind.TheVariants.{Name, Number, Mark as MarkOf, Reserved, Unclosed, End}
use Rattle.lra_syntax.specs.{contracts.tokens.Mark.the_type, declared.tokens.Kind.Kind, declared.tokens.Mark.Mark, declared.tokens.Token.Token}
use Rattle.lra_syntax.specs.declared.tokens.Mark.TheVariants as mark
use Rattle.lra_parser_spec.specs.Tests.{mark_number, is_kind, is_mark, first}

tag_is : (m : Mark) → tag_of the_type m ≡ mark_number m
tag_is mark.Plus = refl
tag_is mark.Minus = refl
tag_is mark.Star = refl
tag_is mark.Slash = refl
tag_is mark.Percent = refl
tag_is mark.Assign = refl
tag_is mark.Equal = refl
tag_is mark.Differs = refl
tag_is mark.Less = refl
tag_is mark.AtMost = refl
tag_is mark.Greater = refl
tag_is mark.AtLeast = refl
tag_is mark.And = refl
tag_is mark.Or = refl
tag_is mark.Not = refl
tag_is mark.Increment = refl
tag_is mark.Decrement = refl
tag_is mark.PlusAssign = refl
tag_is mark.MinusAssign = refl
tag_is mark.StarAssign = refl
tag_is mark.SlashAssign = refl
tag_is mark.PercentAssign = refl
tag_is mark.OpenParen = refl
tag_is mark.CloseParen = refl
tag_is mark.OpenBrace = refl
tag_is mark.CloseBrace = refl
tag_is mark.OpenBracket = refl
tag_is mark.CloseBracket = refl
tag_is mark.Semicolon = refl
tag_is mark.Comma = refl
tag_is mark.Colon = refl
tag_is mark.Assert = refl
tag_is mark.Assume = refl
tag_is mark.Input = refl
tag_is mark.Break = refl
tag_is mark.Case = refl
tag_is mark.Continue = refl
tag_is mark.Default = refl
tag_is mark.Else = refl
tag_is mark.Extern = refl
tag_is mark.For = refl
tag_is mark.If = refl
tag_is mark.Int = refl
tag_is mark.Long = refl
tag_is mark.Return = refl
tag_is mark.Switch = refl
tag_is mark.Void = refl
tag_is mark.While = refl

-- what `==` answers
pub same_is : (m k : Mark) → sameb the_type m k ≡ nat_eq (mark_number m) (mark_number k)
same_is m k = ap (λ (i : ℕ). nat_eq i (tag_of the_type k)) (tag_is m) ∙ ap (λ (i : ℕ). nat_eq (mark_number m) i) (tag_is k)

pub same_mark : (m k : Mark) → nat_eq (mark_number m) (mark_number k) ≡ true → m ≡ k
same_mark m k e = same_true the_type tt m k (same_is m k ∙ e)

pub is_kind_mark : (m : Mark) (k : Kind) → is_kind m k ≡ true → k ≡ MarkOf m
is_kind_mark m (Name w) e = absurd cc
is_kind_mark m (Number t n) e = absurd cc
is_kind_mark m (MarkOf k) e = ap MarkOf (same_mark k m e)
is_kind_mark m Reserved e = absurd cc
is_kind_mark m Unclosed e = absurd cc
is_kind_mark m End e = absurd cc

pub is_mark_self : (m : Mark) (t : Token) → t.kind ≡ MarkOf m → is_mark m (Some t) ≡ true
is_mark_self m t e = rw e (eq-eqb (mark_number m) (mark_number m) refl)

-- the token is the mark at its place
pub is_mark_some : (m : Mark) (t : Token) → is_mark m (Some t) ≡ true → t ≡ record { kind = MarkOf m; place = t.place }
is_mark_some m t e = ap (λ (k : Kind). record { kind = k; place = t.place }) (is_kind_mark m t.kind e)

pub first_is : (T : List Token) → first T ≡ slice_get T 0
first_is [] = refl
first_is (t ∷ T) = refl

pub next_mark : (T : List Token) (t : Token) (m k : Mark) → t.kind ≡ MarkOf k → Some t ≡ slice_get T 0 → sameb the_type k m ≡ is_mark m (first T)
next_mark T t m k e f = rw (first_is T, ← f) (rw e (same_is k m))
