-- Exact readers after and before a mark, and what a table says of the next token.
use Rattle.std.proofs.Common.{◌≡◌, ℕ, ◌≤◌, true, List, [], ◌∷◌, Option, Some, None, refl, sym, ap, subst, arith}
use Rattle.lra_base.specs.declared.refusals.Place.{Place}
use Rattle.lra_syntax.specs.{Texts.Pieces, Texts.◌⋅◌, Texts.opens, Texts.mark, declared.tokens.Kind.TheVariants.Mark as MarkOf, declared.tokens.Mark.Mark, declared.tokens.Token.Token}
use Rattle.lra_parser_spec.specs.{Expressions.after_mark, Expressions.ended, Reading.Parse, Reading.has, Reading.one_of, Tests.is_mark}
use Rattle.lra_parser_spec.proofs.Tokens.{IsInner, exact_expect, some_place, AreMarks, table_is}
use Rattle.lra_parser_spec.proofs.{Exact.Exact, Exact.Any, Exact.Free, Exact.then, Exact.first_or, Forms.rename, Forms.entry, Marks.is_mark_some}

abbrev pub token : Mark → Place → Token
token m at = record { kind = MarkOf m; place = at }

pub exact_behind : {n : ℕ} {A : Type 0} {p : Parse A} {S : A → Pieces → Type 0} {F : A → Option Token → Type 0} (m : Mark) (o : ℕ) → o ≤ n → Exact n IsInner p Any S S F →
    ((a : A) × (x : Pieces) × S a x)
    → Exact n IsInner (after_mark m p) Any (λ b. opens m o ⋅ S b) (λ b. opens m o ⋅ S b) F
exact_behind {n} {S = S} m o low P some =
    let t = then (exact_expect n m o low (tt {0})) (λ u. P) (λ b. opens m o ⋅ S b)
    (λ u b y o s f. tt)
    (λ u z v. (some.0, some.1, (z, some.1, refl, v.1, some.2)))
    (λ u b x y s r. (x, y, refl, s.1, r)) in
    rename t (λ b. opens m o ⋅ S b) (λ b z s. (s.1.0, s.1.1, s.1.2, s.1.3.1, s.1.4)) (λ b z s. (tt, (s.0, s.1, s.2, (refl, s.3), s.4)))

pub mark_follows : (F : Option Token → Type 0) (m : Mark) (o : ℕ) (k : Option Token) (y : Pieces) → opens m o y → ((at : Place) → F (Some (token m at))) → F (first_or y k)
mark_follows F m o k y s h = subst (λ (x : Pieces). F (first_or x k)) (sym s.1) (h s.0)

pub exact_ended : {n : ℕ} {A : Type 0} {p : Parse A} {E : Option Token → Type 0} {S : A → Pieces → Type 0} {F : A → Option Token → Type 0} (m : Mark) → Exact n IsInner p E S S F →
    (fine : (a : A) (at : Place) → F a (Some (token m at)))
    → Exact n IsInner (ended m p) E (λ b. S b ⋅ mark m) (λ b. S b ⋅ mark m) Free
exact_ended {n} {A} {S = S} {F = F} m P fine =
    let t = then P (λ a. entry (exact_expect n m 0 (omega arith) a) (F a) (λ o h. tt)) (λ b. S b ⋅ mark m)
    (λ a b y o s f. mark_follows (F a) m 0 o y s.1 (fine a))
    (λ a z v. (a, (token m some_place, 0) ∷ [], (z, _, refl, v, (some_place, refl))))
    (λ a b x y s r. (x, y, refl, subst (λ (c : A). S c x) (sym r.0) s, r.1)) in
    rename t (λ b. S b ⋅ mark m)
    (λ b z s. (s.1.0, s.1.1, s.1.2, subst (λ (c : A). S c s.1.0) (sym s.1.4.0) s.1.3, s.1.4.1)) (λ b z s. (b, (s.0, s.1, s.2, s.3, (refl, s.4))))

-- the token that a table says of
some_is : {A : Type 0} (o : Option A) → has o ≡ true → (a : A) × (o ≡ Some a)
some_is None e = absurd cc
some_is (Some a) e = (a, refl)

mark_is : (m : Mark) (o : Option Token) → is_mark m o ≡ true → (at : Place) × (o ≡ Some (token m at))
mark_is m None e = absurd cc
mark_is m (Some t) e = (t.place, ap Some (is_mark_some m t e))

pub table_mark : {A : Type 0} (mark_of : A → Mark) (ks : List (Mark × A)) → AreMarks mark_of ks → (o : Option Token) (a : A) → one_of ks o ≡ Some a → (at : Place) × (o ≡ Some (token (mark_of a) at))
table_mark mark_of ks h o a e = mark_is (mark_of a) o (table_is mark_of ks h o a e)

-- what holds of each mark of the table holds of the next token
pub by_table : {A : Type 0} (mark_of : A → Mark) (ks : List (Mark × A)) → AreMarks mark_of ks → (F : Option Token → Type 0) → ((a : A) (at : Place) → F (Some (token (mark_of a) at))) →
    (o : Option Token) → has (one_of ks o) ≡ true → F o
by_table mark_of ks h F f o e =
    let s = some_is (one_of ks o) e in
    let m = table_mark mark_of ks h o s.0 s.1 in
    subst F (sym m.1) (f s.0 m.0)
