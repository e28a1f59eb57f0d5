-- The readers of marks that may be missing, and of lists with commas, are exact.
use Rattle.std.proofs.Common.{◌≡◌, ℕ, Bool, true, false, cond, ◌⊎◌, List, [], ◌∷◌, ◌++◌, Option, Some, None, refl, sym, ap, subst, ◌∙◌, arith, inl, inr}
use Rattle.std.specs.Bool.{⊤}
use Rattle.lra_base.specs.declared.refusals.Place.{Place}
use Rattle.lra_syntax.specs.Texts.{Pieces, Texts, ◌⋅◌, ◌∣◌, empty, opens, mark as spells, further, separated}
use Rattle.lra_syntax.specs.{declared.tokens.Mark.Mark, declared.tokens.Token.Token}
use Rattle.lra_syntax.specs.declared.tokens.Mark.TheVariants as mark
use Rattle.lra_parser_spec.specs.{Expressions.after_mark, Reading.Text, Reading.Parse, Reading.tail, Statements.skip, Statements.commas_from, Statements.commas, Tests.first, Tests.is_mark}
use Rattle.lra_parser_spec.proofs.Chain.{regroup, joined_left, joined_right, Items, AfterLast, exact_list}
use Rattle.lra_parser_spec.proofs.{Exact.Exact, Exact.Any, Exact.first_or, Exact.then, ExactExpressions.first_opened, Forms.rename, Forms.widen, Forms.entry, Forms.mapped, Forms.branch}
use Rattle.lra_parser_spec.proofs.{Forms.same_where, Marks.is_mark_self, Parts.token, Parts.exact_behind, Parts.by_table, Tokens.IsInner}

-- marks that may be there ----------------------------------------------------------------------------------------------

skip_is : {A : Type 0} (m : Mark) (p : Parse A) (T : Text) (v : Bool) → is_mark m (first T) ≡ v → cond v (after_mark m p T) (p T) ≡ p (cond v (tail T) T)
skip_is m p T true e = rw e refl
skip_is m p T false e = refl

skip_sides : {A : Type 0} (m : Mark) (S : A → Pieces → Type 0) (b : A) (z : Pieces) → ((spells m ∣ empty) ⋅ S b) z → (opens m 0 ⋅ S b) z ⊎ S b z
skip_sides m S b z (x, y, e, inl s, t) = inl (x, y, e, s, t)
skip_sides m S b z (x, y, e, inr s, t) = inr (subst (S b) (sym (e ∙ ap (λ (k : Pieces). k ++ y) s)) t)

-- a mark that may be there
pub exact_skip : {n : ℕ} {A : Type 0} {p : Parse A} {S : A → Pieces → Type 0} {F : A → Option Token → Type 0} (m : Mark) → Exact n IsInner p Any S S F → (some : (a : A) × (x : Pieces) × S a x)
    → (begins : (a : A) (x : Pieces) (o : Option Token) → S a x → (x ≡ [] → F a o) → is_mark m (first_or x o) ≡ false)
    → Exact n IsInner (λ T. p (skip m T)) Any (λ b. (spells m ∣ empty) ⋅ S b) (λ b. (spells m ∣ empty) ⋅ S b) F
exact_skip {n} {A} {p} {S = S} {F = F} m P some begins =
    let q = exact_behind m 0 (omega arith) P some in
    let W : A → Pieces → Type 0 = λ b. (spells m ∣ empty) ⋅ S b in
    let t = branch (is_mark m) (entry (widen q W (λ b z s. (s.0, s.1, s.2, inl s.3, s.4))) (λ o. ⊤ × (is_mark m o ≡ true)) (λ o h. tt))
    (entry (widen P W (λ b z s. ([], z, refl, inr refl, s))) (λ o. ⊤ × (is_mark m o ≡ false)) (λ o h. tt))
    (λ b z o s f. first_opened (λ i. is_mark m i ≡ true) m 0 s.0 s.1 z o s.2 s.3 (λ at. is_mark_self m (token m at) refl)) begins in
    let s = same_where t (λ T. p (skip m T)) (λ T i. skip_is m p T (is_mark m (first T)) refl) in
    rename s W
    (λ b z s. elim s [ inl k ↦ (k.0, k.1, k.2, inl k.3, k.4) | inr k ↦ ([], z, refl, inr refl, k) ])
    (λ b z s. skip_sides m S b z s)

-- lists with commas ----------------------------------------------------------------------------------------------------

items_further : {A : Type 0} (S : A → Texts) (is : List A) (z : Pieces) → Items (λ a. opens mark.Comma 0 ⋅ S a) is z → further S is z
items_further S [] z e = e
items_further S (i ∷ is) z (x, y, e, s, r) = joined_right (opens mark.Comma 0) (S i) (further S is) z (x, y, e, s, items_further S is y r)

further_items : {A : Type 0} (S : A → Texts) (is : List A) (z : Pieces) → further S is z → Items (λ a. opens mark.Comma 0 ⋅ S a) is z
further_items S [] z e = e
further_items S (i ∷ is) z (x, y, e, s, (u, v, f, r, t)) = joined_left (opens mark.Comma 0) (S i) (Items (λ a. opens mark.Comma 0 ⋅ S a) is) z (x, y, e, s, (u, v, f, r, further_items S is v t))

abbrev pub AfterCommas : {A : Type 0} → (A → Option Token → Type 0) → A × List A → Option Token → Type 0
AfterCommas F b o = AfterLast F (F b.0) b.1 o × (is_mark mark.Comma o ≡ false)

commas_first : {A : Type 0} (S : A → Texts) (F : A → Option Token → Type 0) (fine : (a : A) (at : Place) → F a (Some (token mark.Comma at))) (a : A) (is : List A) (y : Pieces) (o : Option Token)
    → Items (λ a. opens mark.Comma 0 ⋅ S a) is y → (y ≡ [] → AfterLast F (F a) is o) → F a (first_or y o)
commas_first S F fine a [] y o e f = rw e (f e)
commas_first S F fine a (i ∷ is) y o (u, v, e, (p, q, g, s, t), r) f = first_opened (F a) mark.Comma 0 p (q ++ v) y o (e ∙ regroup u v p q g) s (fine a)

-- if q reads the items after the first
pub exact_commas_from : {n : ℕ} {A : Type 0} {p q : Parse A} {S S' : A → Pieces → Type 0} {F : A → Option Token → Type 0} → Exact n IsInner p Any S S F → Exact n IsInner q Any S' S' F
    → (some : (a : A) × (x : Pieces) × S' a x) → (fine : (a : A) (at : Place) → F a (Some (token mark.Comma at)))
    → Exact n IsInner (commas_from p q) Any (λ b. S b.0 ⋅ further S' b.1) (λ b. S b.0 ⋅ further S' b.1) (AfterCommas F)
exact_commas_from {n} {A} {p} {q} {S = S} {S' = S'} {F = F} P P' some fine =
    let item = entry (exact_behind mark.Comma 0 (omega arith) P' some) (λ o. is_mark mark.Comma o ≡ true) (λ o h. tt) in
    let goes : (a : A) (o : Option Token) → is_mark mark.Comma o ≡ true → F a o = λ a o e. by_table (λ (u : Unit {0}). mark.Comma) ((mark.Comma, tt {0}) ∷ []) (refl, tt) (F a) (λ u at. fine a at) o
    (rw e refl) in
    let list = λ (a : A). exact_list (is_mark mark.Comma) item (F a) refl (λ i x s. first_opened (λ i. is_mark mark.Comma i ≡ true) mark.Comma 0 s.0 s.1 x None s.2 s.3 (λ at. refl)) goes
    (λ o e. goes a o e) in
    let t = then P (λ a. mapped (list a) (λ further. (a, further)) (AfterCommas F) (λ i o f. f) (λ i o f. f)) (λ b z. (S b.0 ⋅ further S' b.1) z)
    (λ a b y o s f. commas_first S' F fine a s.0 y o s.2 (λ e. let g : AfterCommas F (a, s.0) o = subst (λ (c : A × List A). AfterCommas F c o) (sym s.1) (f e) in g.0))
    (λ a z v. ((a, []), [], (z, [], refl, v, refl)))
    (λ a b x y s r. subst (λ (c : A × List A). (S c.0 ⋅ further S' c.1) (x ++ y)) r.1 (x, y, refl, s, items_further S' r.0 y r.2)) in
    rename t (λ b. S b.0 ⋅ further S' b.1)
    (λ b z s. subst (λ (c : A × List A). (S c.0 ⋅ further S' c.1) z) s.1.4.1 (s.1.0, s.1.1, s.1.2, s.1.3, items_further S' s.1.4.0 s.1.1 s.1.4.2))
    (λ b z s. (b.0, (s.0, s.1, s.2, s.3, (b.1, refl, further_items S' b.1 s.1 s.4))))

pub exact_commas : {n : ℕ} {A : Type 0} {p : Parse A} {S : A → Pieces → Type 0} {F : A → Option Token → Type 0} → Exact n IsInner p Any S S F → (some : (a : A) × (x : Pieces) × S a x)
    → (fine : (a : A) (at : Place) → F a (Some (token mark.Comma at)))
    → Exact n IsInner (commas p) Any (λ b z. separated S (b.0 ∷ b.1) z) (λ b z. separated S (b.0 ∷ b.1) z) (AfterCommas F)
exact_commas P some fine = exact_commas_from P P some fine
