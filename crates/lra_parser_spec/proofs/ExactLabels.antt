-- The readers of literals with signs and of labels are exact.
use Rattle.std.proofs.Common.{◌≡◌, ℕ, true, false, ◌⊎◌, List, ◌++◌, Option, Some, None, refl, sym, ap, subst, ◌∙◌, arith, inl, inr}
use Rattle.std.specs.{Bool.⊤, Prelude.ℤ, Prelude.pos, Prelude.neg_ℤ}
use Rattle.lra_base.specs.declared.case_labels.CaseLabel.TheVariants.{Case, Default}
use Rattle.lra_base.specs.{declared.case_labels.CaseLabel.CaseLabel, declared.number_types.NumberType.NumberType, declared.number_types.NumberType.TheVariants.Int, declared.refusals.Place.Place}
use Rattle.lra_syntax.specs.declared.tokens.Mark.TheVariants as mark
use Rattle.lra_syntax.specs.Texts.{Pieces, Texts, ◌⋅◌, opens, opens_at}
use Rattle.lra_syntax.specs.{Grammar.IsSigned, Grammar.IsCase, Grammar.IsLabel, declared.tokens.Token.Token, declared.trees.PlacedLabel.PlacedLabel, declared.trees.SignedLiteral.SignedLiteral}
use Rattle.lra_parser_spec.specs.Statements.{positive, negative, signed_at, case_of, default_of, case_at, label_parser, labels_at}
use Rattle.lra_parser_spec.specs.{Reading.Literal, Tests.is_mark, Tests.begins_label}
use Rattle.lra_parser_spec.proofs.{Chain.regroup, Chain.Items, Chain.AfterLast, Chain.exact_list, Exact.Exact, Exact.Any, Exact.Free, Exact.first_or, ExactAssignments.placed_first}
use Rattle.lra_parser_spec.proofs.{ExactExpressions.Of, ExactExpressions.first_opened, Forms.widen, Forms.retell, Forms.entry, Forms.mapped, Forms.branch, Parts.token, Parts.exact_behind}
use Rattle.lra_parser_spec.proofs.{Parts.exact_ended, Tokens.IsInner, Tokens.exact_expect_at, Tokens.SmallText, Tokens.exact_small, Tokens.some_literal}

-- literals with signs ----------------------------------------------------------------------------------------------

abbrev NegativeText : SignedLiteral → Texts
NegativeText v = opens mark.Minus 0 ⋅ Of negative SmallText v

abbrev PositiveText : SignedLiteral → Texts
PositiveText v z = Of positive SmallText v z

abbrev EitherSign : SignedLiteral → Texts
EitherSign v z = NegativeText v z ⊎ PositiveText v z

to_signed : (v : SignedLiteral) (z : Pieces) → EitherSign v z → IsSigned v z
to_signed v z (inl (x, y, e, s, (l, f, (t, h)))) = subst (λ (c : SignedLiteral). IsSigned c z) f (l.number_type, l.value, h, inr (refl, (x, y, e, s, t)))
to_signed v z (inr (l, f, (t, h))) = subst (λ (c : SignedLiteral). IsSigned c z) f (l.number_type, l.value, h, inl (refl, t))

signed_same : (v : SignedLiteral) (i : ℤ) → v.value ≡ i → record { value = i; place = v.place } ≡ v
signed_same v i e = ap (λ (j : ℤ). record { value = j; place = v.place }) (sym e)

abbrev literal_at : NumberType → ℕ → Place → Literal
literal_at t n at = record { number_type = t; value = n; place = at }

from_signed : (v : SignedLiteral) (z : Pieces) → IsSigned v z → EitherSign v z
from_signed v z (t, n, h, inl (f, s)) = inr (literal_at t n v.place, signed_same v (pos n) f, (s, h))
from_signed v z (t, n, h, inr (f, (x, y, e, s, r))) = inl (x, y, e, s, (literal_at t n v.place, signed_same v (neg_ℤ (pos n)) f, (r, h)))

no_minus : (v : SignedLiteral) (z : Pieces) (o : Option Token) → PositiveText v z → is_mark mark.Minus (first_or z o) ≡ false
no_minus v z o (l, f, (e, h)) = rw e refl

pub exact_signed : (n : ℕ) → Exact n IsInner signed_at Any IsSigned IsSigned Free
exact_signed n =
    let behind_sign = exact_behind mark.Minus 0 (omega arith) (mapped (exact_small n) negative Free (λ i o f. tt) (λ i o f. tt))
    (negative some_literal, _, (some_literal, refl, (refl, omega arith))) in
    let without = mapped (exact_small n) positive Free (λ i o f. tt) (λ i o f. tt) in
    let b = branch (is_mark mark.Minus)
    (entry (widen behind_sign EitherSign (λ v z s. inl s)) (λ o. ⊤ × (is_mark mark.Minus o ≡ true)) (λ o i. tt))
    (entry (widen without EitherSign (λ v z s. inr s)) (λ o. ⊤ × (is_mark mark.Minus o ≡ false)) (λ o i. tt))
    (λ v z o s f. first_opened (λ i. is_mark mark.Minus i ≡ true) mark.Minus 0 s.0 s.1 z o s.2 s.3 (λ at. refl))
    (λ v z o s f. no_minus v z o s) in
    retell b IsSigned to_signed from_signed

-- labels -----------------------------------------------------------------------------------------------------------

abbrev CaseText : PlacedLabel → Texts
CaseText b = opens mark.Case 0 ⋅ Of case_of IsSigned b

abbrev DefaultText : PlacedLabel → Texts
DefaultText b z = Of default_of (λ at z. opens_at mark.Default at 0 z) b z

abbrev EitherCase : PlacedLabel → Texts
EitherCase b z = CaseText b z ⊎ DefaultText b z

abbrev BareText : PlacedLabel → Texts
BareText b = IsCase b.label b.place

to_case : (b : PlacedLabel) (z : Pieces) → EitherCase b z → BareText b z
to_case b z (inl (x, y, e, s, (v, f, r))) = subst (λ (c : PlacedLabel). BareText c z) f (x, y, e, s, r)
to_case b z (inr (at, f, s)) = subst (λ (c : PlacedLabel). BareText c z) f s

case_or_default : (l : CaseLabel) (at : Place) (z : Pieces) → IsCase l at z → EitherCase (record { label = l; place = at }) z
case_or_default (Case v) at z (x, y, e, s, r) = inl (x, y, e, s, (record { value = v; place = at }, refl, r))
case_or_default Default at z s = inr (at, refl, s)

from_case : (b : PlacedLabel) (z : Pieces) → BareText b z → EitherCase b z
from_case b z s = case_or_default b.label b.place z s

default_no_case : (b : PlacedLabel) (z : Pieces) (o : Option Token) → DefaultText b z → is_mark mark.Case (first_or z o) ≡ false
default_no_case b z o (at, f, s) = rw s refl

exact_case : (n : ℕ) → Exact n IsInner case_at Any BareText BareText Free
exact_case n =
    let behind_case = exact_behind mark.Case 0 (omega arith) (mapped (exact_signed n) case_of Free (λ v o f. tt) (λ v o f. tt))
    (case_of (positive some_literal), _, (positive some_literal, refl, (Int, 0, omega arith, inl (refl, refl)))) in
    let without = mapped (exact_expect_at n mark.Default 0 (omega arith)) default_of Free (λ at o f. tt) (λ at o f. tt) in
    let b = branch (is_mark mark.Case)
    (entry (widen behind_case EitherCase (λ v z s. inl s)) (λ o. ⊤ × (is_mark mark.Case o ≡ true)) (λ o i. tt))
    (entry (widen without EitherCase (λ v z s. inr s)) (λ o. ⊤ × (is_mark mark.Case o ≡ false)) (λ o i. tt))
    (λ v z o s f. first_opened (λ i. is_mark mark.Case i ≡ true) mark.Case 0 s.0 s.1 z o s.2 s.3 (λ at. refl))
    (λ v z o s f. default_no_case v z o s) in
    retell b BareText to_case from_case

pub exact_label : (n : ℕ) → Exact n IsInner label_parser Any IsLabel IsLabel Free
exact_label n = exact_ended mark.Colon (exact_case n) (λ b at. tt)

-- what holds of both words holds of a label's first token
pub label_begins : (P : Option Token → Type 0) → ((at : Place) → P (Some (token mark.Case at))) → ((at : Place) → P (Some (token mark.Default at)))
    → (b : PlacedLabel) (z : Pieces) (o : Option Token) → IsLabel b z → P (first_or z o)
label_begins P cases defaults b z o (x, y, e, s, r) = elim (from_case b x s) [
  | inl (u, v, f, m, t) ↦ first_opened P mark.Case 0 u (v ++ y) z o (e ∙ regroup x y u v f) m cases
  | inr (at, f, m) ↦ placed_first P mark.Default at 0 x y z o e m (defaults at)
]

pub label_first : (b : PlacedLabel) (z : Pieces) (o : Option Token) → IsLabel b z → begins_label (first_or z o) ≡ true
label_first b z o s = label_begins (λ i. begins_label i ≡ true) (λ at. refl) (λ at. refl) b z o s

pub some_label : (b : PlacedLabel) × (x : Pieces) × IsLabel b x
some_label = (default_of some_literal.place, _, (_, _, refl, refl, (some_literal.place, refl)))

abbrev pub AfterLabels : List PlacedLabel → Option Token → Type 0
AfterLabels bs o = AfterLast Free Any bs o × (begins_label o ≡ false)

pub exact_labels : (n : ℕ) → Exact n IsInner labels_at Any (λ bs z. Items IsLabel bs z) (λ bs z. Items IsLabel bs z) AfterLabels
exact_labels n = exact_list begins_label (entry (exact_label n) (λ o. begins_label o ≡ true) (λ o i. tt)) Any refl (λ b x s. label_first b x None s)
    (λ b o e. tt) (λ o e. tt)
