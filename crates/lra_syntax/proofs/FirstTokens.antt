-- How every text of the grammar begins: with a mark, or with the end.
use Rattle.std.proofs.Common.{◌≡◌, ℕ, ◌⊎◌, Option, Some, None, List, [], ◌∷◌, ◌++◌, ap, ◌∙◌, inl, inr}
use Rattle.lra_base.specs.declared.number_types.NumberType.{NumberType}
use Rattle.lra_base.specs.{declared.number_types.NumberType.TheVariants.Int, declared.number_types.NumberType.TheVariants.Long, declared.refusals.Place.Place}
use Rattle.lra_syntax.specs.Grammar.{IsType, IsHead, IsReservedHead, IsSomeHead, IsExternalDeclaration, AreExternalDeclarations, Spells}
use Rattle.lra_syntax.specs.Trees.{ExternalTree, prototype, globals, function, FileTree}
use Rattle.lra_syntax.specs.declared.tokens.Kind.TheVariants.{Mark as MarkOf, Unclosed, End}
use Rattle.lra_syntax.specs.{Faults.CanBegin, Texts.Pieces, Texts.opens, declared.tokens.Kind.Kind, declared.tokens.Mark.Mark, declared.tokens.Token.Token, declared.trees.Identifier.Identifier}
use Rattle.lra_syntax.specs.declared.tokens.Mark.TheVariants as mark

-- the first token is a mark
abbrev BeginsWithMark : Pieces → Type 0
BeginsWithMark z = (m : Mark) × (at : Place) × (o : ℕ) × (rest : Pieces) × (z ≡ (record { kind = MarkOf m; place = at }, o) ∷ rest)

begins_mark : (m : Mark) (o : ℕ) (z : Pieces) → opens m o z → BeginsWithMark z
begins_mark m o z s = (m, s.0, o, [], s.1)

begins_front : (x y z : Pieces) → z ≡ x ++ y → BeginsWithMark x → BeginsWithMark z
begins_front x y z e b = (b.0, b.1, b.2, b.3 ++ y, e ∙ ap (λ (w : Pieces). w ++ y) b.4)

begins_behind : (x y z : Pieces) → z ≡ x ++ y → x ≡ [] → BeginsWithMark y → BeginsWithMark z
begins_behind x y z e f b = (b.0, b.1, b.2, b.3, e ∙ ap (λ (w : Pieces). w ++ y) f ∙ b.4)

begins_type : (t : NumberType) (z : Pieces) → IsType t z → BeginsWithMark z
begins_type Int z s = begins_mark mark.Int 0 z s
begins_type Long z (x, y, e, s, t) = begins_front x y z e (begins_mark mark.Long 0 x s)

begins_head : (t : Option NumberType) (name : Identifier) (z : Pieces) → IsHead t name z → BeginsWithMark z
begins_head (Some w) name z (x, y, e, s, t) = begins_front x y z e (begins_type w x s)
begins_head None name z (x, y, e, s, t) = begins_front x y z e (begins_mark mark.Void 0 x s)

begins_reserved : (z : Pieces) → IsReservedHead z → BeginsWithMark z
begins_reserved z (x, y, e, inl s, t) = begins_front x y z e (begins_mark mark.Void 0 x s)
begins_reserved z (x, y, e, inr (w, s), t) = begins_front x y z e (begins_type w x s)

begins_either : (z : Pieces) → IsSomeHead z ⊎ IsReservedHead z → BeginsWithMark z
begins_either z (inl (b, name, s)) = begins_head b name z s
begins_either z (inr s) = begins_reserved z s

begins_part : (p : ExternalTree) (z : Pieces) → IsExternalDeclaration p z → BeginsWithMark z
begins_part prototype z (x, y, e, inl s, t) = begins_front x y z e (begins_mark mark.Extern 0 x s)
begins_part prototype z (x, y, e, inr s, (u, w, f, h, t)) = begins_behind x y z e s (begins_front u w y f (begins_either u h))
begins_part (globals g) z (x, y, e, s, t) = begins_front x y z e (begins_type g.number_type x s)
begins_part (function f) z (x, y, e, s, t) = begins_front x y z e (begins_head f.result_type f.name x s)

begins_parts : (ps : List ExternalTree) (x : Pieces) → AreExternalDeclarations ps x → (x ≡ []) ⊎ BeginsWithMark x
begins_parts [] x s = inl s
begins_parts (p ∷ ps) x (a, b, e, s, t) = inr (begins_front a b x e (begins_part p a s))

abbrev kind_of : Pieces → Kind
kind_of [] = End
kind_of (p ∷ ps) = p.0.kind

abbrev kind_in : List Token → Kind
kind_in [] = End
kind_in (t ∷ ts) = t.kind

-- the first token's kind
begins_spelled : (t : FileTree) (z a b : Pieces) → z ≡ a ++ b → (a ≡ []) ⊎ BeginsWithMark a → b ≡ (record { kind = End; place = t.end }, 0) ∷ [] → kind_of z ≡ Unclosed → ⊥
begins_spelled t z a b e (inl f) g k =
    let h : kind_of z ≡ End = ap kind_of (e ∙ ap (λ (w : Pieces). w ++ b) f ∙ g) in
    cc
begins_spelled t z a b e (inr m) g k =
    let h : kind_of z ≡ MarkOf m.0 = ap kind_of (e ∙ ap (λ (w : Pieces). w ++ b) m.4) in
    cc

-- no source begins with a comment that isn't closed
pub not_unclosed : (place : Place) → CanBegin Spells (record { kind = Unclosed; place = place } ∷ []) → ⊥
not_unclosed place (t, [], y, s, e) = cc
not_unclosed place (t, p ∷ x, y, (a, b, f, parts, end), e) =
    begins_spelled t ((p ∷ x) ++ y) a b f (begins_parts t.parts a parts) end (ap kind_in e)
