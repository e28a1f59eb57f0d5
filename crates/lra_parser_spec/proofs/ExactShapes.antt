-- The readers of an array's length, and of what comes after a declared name, are exact.
use Rattle.std.proofs.Common.{◌≡◌, ℕ, true, false, ◌⊎◌, [], Option, Some, None, refl, sym, subst, arith, inl, inr}
use Rattle.std.specs.Bool.{⊤}
use Rattle.lra_base.specs.declared.number_types.NumberType.TheVariants.{Int}
use Rattle.lra_syntax.specs.declared.tokens.Mark.TheVariants as mark
use Rattle.lra_syntax.specs.Grammar.{IsCount, IsLength, IsScalarOrArray}
use Rattle.lra_syntax.specs.{Texts.Pieces, Texts.Texts, Texts.◌⋅◌, Texts.opens, Trees.ScalarOrArrayTree, Trees.scalar, Trees.array, declared.tokens.Token.Token, declared.trees.ArrayLength.ArrayLength}
use Rattle.lra_parser_spec.specs.Statements.{length_of, length_at, given_at, shape_at}
use Rattle.lra_parser_spec.specs.{Reading.Parse, Reading.map_read, Reading.take_by, Reading.next_literal, Tests.is_mark}
use Rattle.lra_parser_spec.proofs.Forms.{widen, retell, entry, mapped, branch, exact_done}
use Rattle.lra_parser_spec.proofs.Tokens.{IsInner, LiteralText, exact_literal, some_literal, some_place}
use Rattle.lra_parser_spec.proofs.{Exact.Exact, Exact.Any, Exact.Free, Exact.first_or, ExactExpressions.Of, ExactExpressions.first_opened, Parts.exact_behind, Parts.exact_ended}

-- lengths ----------------------------------------------------------------------------------------------------------

to_count : (m : ArrayLength) (z : Pieces) → Of length_of LiteralText m z → IsCount m z
to_count m z (a, f, t) = subst (λ (c : ArrayLength). IsCount c z) f (a.number_type, t)

from_count : (m : ArrayLength) (z : Pieces) → IsCount m z → Of length_of LiteralText m z
from_count m z (t, s) = (record { number_type = t; value = m.value; place = m.place }, refl, s)

exact_count : (n : ℕ) → Exact n IsInner (map_read length_of (take_by next_literal)) Any IsCount IsCount Free
exact_count n = retell (mapped (exact_literal n) length_of Free (λ a o f. tt) (λ a o f. tt)) IsCount to_count from_count

pub exact_length : (n : ℕ) → Exact n IsInner length_at Any IsLength IsLength Free
exact_length n = exact_behind mark.OpenBracket 0 (omega arith) (exact_ended mark.CloseBracket (exact_count n) (λ a at. tt))
    (length_of some_literal, _, (_, _, refl, (Int, refl), (some_place, refl)))

-- after a declared name ----------------------------------------------------------------------------------------------

-- what may follow: a name alone is followed by no `=` and no bracket
abbrev AfterGiven : {A : Type 0} → (A → Option Token → Type 0) → Option A → Option Token → Type 0
AfterGiven F None o = (is_mark mark.Assign o ≡ false) × (is_mark mark.OpenBracket o ≡ false)
AfterGiven F (Some a) o = F a o

abbrev pub AfterShape : {A : Type 0} → (A → Option Token → Type 0) → ScalarOrArrayTree A → Option Token → Type 0
AfterShape F (scalar m) o = AfterGiven F m o
AfterShape F (array n) o = ⊤

-- a value after `=`, or nothing
abbrev pub GivenText : {A : Type 0} → (A → Texts) → Option A → Texts
GivenText S m z = (opens mark.Assign 0 ⋅ Of Some S m) z ⊎ ((m ≡ None) × (z ≡ []))

abbrev ShapeText : {A : Type 0} → (A → Texts) → ScalarOrArrayTree A → Texts
ShapeText S s z = Of array IsLength s z ⊎ Of scalar (GivenText S) s z

none_given : {A : Type 0} (F : A → Option Token → Type 0) (m : Option A) (z : Pieces) (o : Option Token) → m ≡ None → z ≡ [] → (z ≡ [] → AfterGiven F m o) →
    (is_mark mark.Assign (first_or z o) ≡ false) × (is_mark mark.OpenBracket (first_or z o) ≡ false)
none_given {A} F m z o e f h = rw f (let g : AfterGiven F None o = subst (λ (c : Option A). AfterGiven F c o) e (h f) in g)

given_no_bracket : {A : Type 0} (S : A → Texts) (F : A → Option Token → Type 0) (m : Option A) (z : Pieces) (o : Option Token) → GivenText S m z →
    (z ≡ [] → AfterGiven F m o) →
    is_mark mark.OpenBracket (first_or z o) ≡ false
given_no_bracket S F m z o (inl (u, v, e, s, t)) h = first_opened (λ i. is_mark mark.OpenBracket i ≡ false) mark.Assign 0 u v z o e s (λ at. refl)
given_no_bracket S F m z o (inr (e, f)) h = (none_given F m z o e f h).1

scalar_no_bracket : {A : Type 0} (S : A → Texts) (F : A → Option Token → Type 0) (s : ScalarOrArrayTree A) (z : Pieces) (o : Option Token) →
    Of scalar (GivenText S) s z →
    (z ≡ [] → AfterShape F s o) → is_mark mark.OpenBracket (first_or z o) ≡ false
scalar_no_bracket {A} S F s z o (m, e, t) h = given_no_bracket S F m z o t (λ i. subst (λ (c : ScalarOrArrayTree A). AfterShape F c o) (sym e) (h i))

array_begins : {A : Type 0} (s : ScalarOrArrayTree A) (z : Pieces) (o : Option Token) → Of array IsLength s z → is_mark mark.OpenBracket (first_or z o) ≡ true
array_begins s z o (n, e, (u, v, f, m, t)) = first_opened (λ i. is_mark mark.OpenBracket i ≡ true) mark.OpenBracket 0 u v z o f m (λ at. refl)

module _ {n : ℕ} {A : Type 0} {p : Parse A} {S : A → Pieces → Type 0} {F : A → Option Token → Type 0} (P : Exact n IsInner p Any S S F)
    (some : (a : A) × (x : Pieces) × S a x) where
  exact_given : Exact n IsInner (given_at p) (λ o. ⊤ × (is_mark mark.OpenBracket o ≡ false)) (GivenText S) (GivenText S) (AfterGiven F)
  exact_given =
      let given = exact_behind mark.Assign 0 (omega arith) (mapped P Some (AfterGiven F) (λ a o f. f) (λ a o f. f))
      (Some some.0, some.1, (some.0, refl, some.2)) in
      branch (is_mark mark.Assign) {E = λ o. ⊤ × (is_mark mark.OpenBracket o ≡ false)}
      (entry (widen given (GivenText S) (λ m z s. inl s)) (λ o. (⊤ × (is_mark mark.OpenBracket o ≡ false)) × (is_mark mark.Assign o ≡ true)) (λ o i. tt))
      (widen (exact_done n IsInner None (λ o. (⊤ × (is_mark mark.OpenBracket o ≡ false)) × (is_mark mark.Assign o ≡ false)) (λ m z. (m ≡ None) × (z ≡ []))
      (AfterGiven F)
      (λ o i. (i.1, i.0.1))) (GivenText S) (λ m z s. inr s))
      (λ m z o s f. first_opened (λ i. is_mark mark.Assign i ≡ true) mark.Assign 0 s.0 s.1 z o s.2 s.3 (λ at. refl))
      (λ m z o s f. (none_given F m z o s.0 s.1 f).0)

  exact_either_shape : Exact n IsInner (shape_at p) Any (ShapeText S) (ShapeText S) (AfterShape F)
  exact_either_shape =
      let arrays = mapped (exact_length n) array (AfterShape F) (λ k o f. tt) (λ k o f. tt) in
      let scalars = mapped exact_given scalar (AfterShape F) (λ m o f. f) (λ m o f. f) in
      branch (is_mark mark.OpenBracket)
      (entry (widen arrays (ShapeText S) (λ s z t. inl t)) (λ o. ⊤ × (is_mark mark.OpenBracket o ≡ true)) (λ o i. tt))
      (widen scalars (ShapeText S) (λ s z t. inr t))
      (λ s z o t f. array_begins s z o t) (λ s z o t f. scalar_no_bracket S F s z o t f)

  -- as the grammar has it
  module _ (R : Option A → Texts) (out : (m : Option A) (z : Pieces) → GivenText S m z → R m z) (into : (m : Option A) (z : Pieces) → R m z → GivenText S m z)
    where
      shape_out : (s : ScalarOrArrayTree A) (z : Pieces) → ShapeText S s z → IsScalarOrArray R s z
      shape_out s z (inl (k, e, t)) = subst (λ (c : ScalarOrArrayTree A). IsScalarOrArray R c z) e t
      shape_out s z (inr (m, e, t)) = subst (λ (c : ScalarOrArrayTree A). IsScalarOrArray R c z) e (out m z t)

      shape_in : (s : ScalarOrArrayTree A) (z : Pieces) → IsScalarOrArray R s z → ShapeText S s z
      shape_in (array k) z t = inl (k, refl, t)
      shape_in (scalar m) z t = inr (m, refl, into m z t)

      pub exact_shape : Exact n IsInner (shape_at p) Any (IsScalarOrArray R) (IsScalarOrArray R) (AfterShape F)
      exact_shape = retell exact_either_shape (IsScalarOrArray R) shape_out shape_in
