-- Exact readers of single tokens.
use Rattle.std.proofs.Common.{◌≡◌, ℕ, ◌≤◌, Bool, true, false, cond, List, [], ◌∷◌, Option, Some, None, Ok, refl, sym, ap, subst, ◌∙◌, arith, inl, inr, nat_le, le-leb, leb-true}
use Rattle.lra_base.specs.{declared.number_types.NumberType.TheVariants.Int, declared.refusals.Cause.TheVariants.Syntax, declared.refusals.Place.Place}
use Rattle.lra_syntax.specs.Texts.{Texts, opens, opens_at, mark, name, number_at}
use Rattle.lra_syntax.specs.declared.tokens.Kind.TheVariants.{Name, Number, Mark as MarkOf, Reserved, Unclosed, End}
use Rattle.lra_syntax.specs.{Lexeme.greatest_literal, declared.tokens.Kind.Kind, declared.tokens.Mark.Mark, declared.tokens.Token.Token, declared.trees.Identifier.Identifier}
use Rattle.lra_parser_spec.specs.Reading.{Text, stop, tail, expect, expect_at, place_of, take_by, taken, next_name, identifier_of, Literal, next_literal, literal_of, small_of, next_small, one_of}
use Rattle.lra_parser_spec.specs.Tests.{first, is_mark}
use Rattle.lra_parser_spec.proofs.{Exact.Exact, Exact.Any, Exact.Free, Exact.test, Forms.retell, Forms.same_where, Forms.exact_take, Marks.is_mark_some, Marks.is_mark_self}

-- it isn't the end
abbrev pub IsInner : Token → Type 0
IsInner t = t.kind ≡ End → ⊥

mark_inner : (m : Mark) (t : Token) → is_mark m (Some t) ≡ true → IsInner t
mark_inner m t e = λ f. let k : record { kind = MarkOf m; place = t.place } ≡ t = sym (is_mark_some m t e) in let k' : MarkOf m ≡ End = ap (λ (u : Token). u.kind) k ∙ f in cc

-- marks ------------------------------------------------------------------------------------------------------------

abbrev pick_mark : {A : Type 0} → Mark → A → Option Token → Option A
pick_mark m a o = cond (is_mark m o) (Some a) None

picked_mark : {A : Type 0} (m : Mark) (a b : A) (v : Bool) → (let o : Option A = cond v (Some a) None in o) ≡ Some b → (v ≡ true) × (b ≡ a)
picked_mark m a b true e = (refl, cc)
picked_mark m a b false e = absurd cc

some_mark : Mark → Token
some_mark m = record { kind = MarkOf m; place = record { line = 1; column = 1 } }

some_mark_is : (m : Mark) → is_mark m (Some (some_mark m)) ≡ true
unfolding some_mark
some_mark_is m = is_mark_self m (some_mark m) refl

expect_is : {A : Type 0} (m : Mark) (a : A) (T : Text) (v : Bool) → taken (let o : Option A = cond v (Some a) None in o) T ≡ cond v (Ok (a, tail T)) (stop Syntax T)
expect_is m a T true = refl
expect_is m a T false = refl

module _ (n : ℕ) (m : Mark) (o : ℕ) (low : o ≤ n) where
  pub exact_expect : {A : Type 0} (a : A) → Exact n IsInner (expect m a) Any (λ b z. (b ≡ a) × opens m o z) (λ b z. (b ≡ a) × opens m o z) Free
  exact_expect {A} a =
      let t = exact_take n IsInner (pick_mark m a) o low refl (λ t b e. mark_inner m t (picked_mark m a b (is_mark m (Some t)) e).0) a (some_mark m) (rw (some_mark_is m) refl) in
      let s = same_where t (expect m a) (λ T i. expect_is m a T (is_mark m (first T))) in
      retell s (λ b z. (b ≡ a) × opens m o z)
      (λ b z s. let k = picked_mark m a b (is_mark m (Some s.0)) s.2 in (k.1, (s.0.place, s.1 ∙ ap (λ (t : Token). (t, o) ∷ []) (is_mark_some m s.0 k.0))))
      (λ b z s. (record { kind = MarkOf m; place = s.1.0 }, s.1.1, rw (is_mark_self m (record { kind = MarkOf m; place = s.1.0 }) refl) (ap Some (sym s.0))))

  abbrev pick_place : Option Token → Option Place
  pick_place k = cond (is_mark m k) (Some (place_of k)) None

  picked_place : (b at : Place) (v : Bool) → (let o : Option Place = cond v (Some at) None in o) ≡ Some b → (v ≡ true) × (at ≡ b)
  picked_place b at true e = (refl, cc)
  picked_place b at false e = absurd cc

  place_is : (T : Text) (at : Place) (v : Bool) → taken (let o : Option Place = cond v (Some at) None in o) T ≡ cond v (Ok (at, tail T)) (stop Syntax T)
  place_is T at true = refl
  place_is T at false = refl

  pub exact_expect_at : Exact n IsInner (expect_at m) Any (λ at z. opens_at m at o z) (λ at z. opens_at m at o z) Free
  unfolding some_mark
  exact_expect_at =
      let t = exact_take n IsInner pick_place o low refl (λ t b e. mark_inner m t (picked_place b t.place (is_mark m (Some t)) e).0) (some_mark m).place (some_mark m) (rw (some_mark_is m) refl) in
      let s = same_where t (expect_at m) (λ T i. place_is T (place_of (first T)) (is_mark m (first T))) in
      retell s (λ at z. opens_at m at o z)
      (λ b z s. let k = picked_place b s.0.place (is_mark m (Some s.0)) s.2 in s.1 ∙ ap (λ (t : Token). (t, o) ∷ [])
      (is_mark_some m s.0 k.0 ∙ ap (λ (at : Place). record { kind = MarkOf m; place = at }) k.1))
      (λ b z s. (record { kind = MarkOf m; place = b }, s, rw (is_mark_self m (record { kind = MarkOf m; place = b }) refl) refl))

-- names and literals -----------------------------------------------------------------------------------------------

pub name_is : (k : Kind) (at : Place) (x : Identifier) → identifier_of k at ≡ Some x → (k ≡ Name x.word) × (at ≡ x.place)
name_is (Name w) at x e = let f : record { word = w; place = at } ≡ x = cc in (ap (λ (i : Identifier). Name i.word) f, ap (λ (i : Identifier). i.place) f)
name_is (Number t n) at x e = absurd cc
name_is (MarkOf m) at x e = absurd cc
name_is Reserved at x e = absurd cc
name_is Unclosed at x e = absurd cc
name_is End at x e = absurd cc

token_is : (t : Token) (k : Kind) (at : Place) → t.kind ≡ k → t.place ≡ at → t ≡ record { kind = k; place = at }
token_is t k at e f = ap (λ (j : Kind). record { kind = j; place = t.place }) e ∙ ap (λ (p : Place). record { kind = k; place = p }) f

pub some_place : Place
some_place = record { line = 1; column = 1 }

-- a name that stands for any
pub some_name : Identifier
some_name = record { word = 120 ∷ []; place = some_place }

pub exact_name : (n o : ℕ) → o ≤ n → Exact n IsInner (take_by next_name) Any (λ x z. name x o z) (λ x z. name x o z) Free
unfolding some_name
exact_name n o low =
    let t = exact_take n IsInner next_name o low refl (λ t x e. λ f. let k = (name_is t.kind t.place x e).0 in let g : Name x.word ≡ End = sym k ∙ f in cc)
    some_name (record { kind = Name some_name.word; place = some_name.place }) refl in
    retell t (λ x z. name x o z)
    (λ x z s. let k = name_is s.0.kind s.0.place x s.2 in s.1 ∙ ap (λ (t : Token). (t, o) ∷ []) (token_is s.0 (Name x.word) x.place k.0 k.1))
    (λ x z s. (record { kind = Name x.word; place = x.place }, s, refl))

literal_is : (k : Kind) (at : Place) (l : Literal) → literal_of k at ≡ Some l → (k ≡ Number l.number_type l.value) × (at ≡ l.place)
literal_is (Name w) at l e = absurd cc
literal_is (Number t n) at l e =
    let f : record { number_type = t; value = n; place = at } ≡ l = cc in
    (ap (λ (i : Literal). Number i.number_type i.value) f, ap (λ (i : Literal). i.place) f)
literal_is (MarkOf m) at l e = absurd cc
literal_is Reserved at l e = absurd cc
literal_is Unclosed at l e = absurd cc
literal_is End at l e = absurd cc

-- a literal that stands for any
abbrev pub some_literal : Literal
some_literal = record { number_type = Int; value = 0; place = some_place }

abbrev pub LiteralText : Literal → Texts
LiteralText l z = number_at l.number_type l.value l.place z

pub exact_literal : (n : ℕ) → Exact n IsInner (take_by next_literal) Any LiteralText LiteralText Free
exact_literal n =
    let t = exact_take n IsInner next_literal 0 (omega arith) refl
    (λ t l e. λ f. let k = (literal_is t.kind t.place l e).0 in let g : Number l.number_type l.value ≡ End = sym k ∙ f in cc)
    some_literal (record { kind = Number Int 0; place = some_place }) refl in
    retell t LiteralText
    (λ l z s. let k = literal_is s.0.kind s.0.place l s.2 in s.1 ∙ ap (λ (t : Token). (t, 0) ∷ []) (token_is s.0 (Number l.number_type l.value) l.place k.0 k.1))
    (λ l z s. (record { kind = Number l.number_type l.value; place = l.place }, s, refl))

small_is : (m : Option Literal) (l : Literal) → small_of m ≡ Some l → (m ≡ Some l) × (l.value ≤ greatest_literal)
small_is None l e = absurd cc
small_is (Some k) l e = elim (test (nat_le k.value greatest_literal)) [
  | inl on ↦
      let f : (let o : Option Literal = Some k in o) ≡ Some l = rw on at e in
      let same : k ≡ l = cc in
      (f, subst (λ (i : Literal). i.value ≤ greatest_literal) same (leb-true k.value greatest_literal on))
  | inr off ↦ let f : (let o : Option Literal = None in o) ≡ Some l = rw off at e in absurd cc
]

abbrev pub SmallText : Literal → Texts
SmallText l z = LiteralText l z × (l.value ≤ greatest_literal)

pub exact_small : (n : ℕ) → Exact n IsInner (take_by next_small) Any SmallText SmallText Free
exact_small n =
    let is = λ (t : Token) (l : Literal) (e : next_small (Some t) ≡ Some l). literal_is t.kind t.place l (small_is (literal_of t.kind t.place) l e).0 in
    let t = exact_take n IsInner next_small 0 (omega arith) refl
    (λ t l e. λ f. let k = (is t l e).0 in let g : Number l.number_type l.value ≡ End = sym k ∙ f in cc)
    some_literal (record { kind = Number Int 0; place = some_place }) refl in
    retell t SmallText
    (λ l z s.
    let k = is s.0 l s.2 in
    (s.1 ∙ ap (λ (t : Token). (t, 0) ∷ []) (token_is s.0 (Number l.number_type l.value) l.place k.0 k.1), (small_is (literal_of s.0.kind s.0.place) l s.2).1))
    (λ l z s. (record { kind = Number l.number_type l.value; place = l.place }, s.0, rw (le-leb l.value greatest_literal s.1) refl))

-- tables of operators ----------------------------------------------------------------------------------------------

-- each operator of the table has its mark
abbrev pub AreMarks : {A : Type 0} → (A → Mark) → List (Mark × A) → Type 0
AreMarks mark_of [] = Unit {0}
AreMarks mark_of (k ∷ ks) = (mark_of k.1 ≡ k.0) × AreMarks mark_of ks

pub table_is : {A : Type 0} (mark_of : A → Mark) (ks : List (Mark × A)) → AreMarks mark_of ks → (o : Option Token) (a : A) → one_of ks o ≡ Some a → is_mark (mark_of a) o ≡ true
table_is mark_of [] h o a e = absurd cc
table_is {A} mark_of (k ∷ ks) h o a e = elim (test (is_mark k.0 o)) [
  | inl on ↦ let e' : (let r : Option A = Some k.1 in r) ≡ Some a = rw on at e in let f : k.1 ≡ a = cc in subst (λ (m : Mark). is_mark m o ≡ true) (sym h.0 ∙ ap mark_of f) on
  | inr off ↦ let e' : one_of ks o ≡ Some a = rw off at e in table_is mark_of ks h.1 o a e'
]

pub exact_operator : {A : Type 0} (n : ℕ) (mark_of : A → Mark) (ks : List (Mark × A)) → AreMarks mark_of ks →
    (self : (a : A) (at : Place) → one_of ks (Some (record { kind = MarkOf (mark_of a); place = at })) ≡ Some a)
    → one_of ks None ≡ None → A → Exact n IsInner (take_by (one_of ks)) Any (λ a z. mark (mark_of a) z) (λ a z. mark (mark_of a) z) Free
exact_operator n mark_of ks h self none w =
    let t = exact_take n IsInner (one_of ks) 0 (omega arith) none (λ t a e. mark_inner (mark_of a) t (table_is mark_of ks h (Some t) a e)) w (record { kind = MarkOf (mark_of w); place = some_place })
    (self w some_place) in
    retell t (λ a z. mark (mark_of a) z)
    (λ a z s. (s.0.place, s.1 ∙ ap (λ (t : Token). (t, 0) ∷ []) (is_mark_some (mark_of a) s.0 (table_is mark_of ks h (Some s.0) a s.2))))
    (λ a z s. (record { kind = MarkOf (mark_of a); place = s.0 }, s.1, self a s.0))
