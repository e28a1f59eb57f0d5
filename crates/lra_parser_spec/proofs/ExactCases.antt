-- The reader of the braces of a `switch` is exact.
use Rattle.std.proofs.Common.{◌≡◌, ℕ, ◌≤◌, true, false, ◌⊎◌, List, [], ◌∷◌, ◌++◌, Option, Some, None, refl, sym, ap, subst, ◌∙◌, append_assoc, inl, inr}
use Rattle.std.proofs.lemmas.Bool.{or_left, or_right}
use Rattle.std.specs.Bool.{⊤}
use Rattle.lra_base.specs.declared.refusals.Place.{Place}
use Rattle.lra_syntax.specs.declared.tokens.Mark.TheVariants as mark
use Rattle.lra_syntax.specs.{Grammar.IsLabel, Grammar.AreCases, Grammar.AreLabelled, Grammar.AreStated, Texts.Pieces, Texts.Texts, Texts.◌⋅◌, Texts.opens, Texts.mark as spells, Trees.StmtTree}
use Rattle.lra_syntax.specs.{Trees.nothing, Trees.CasesTree, Trees.no_cases, Trees.labelled, Trees.stated, declared.tokens.Token.Token, declared.trees.PlacedLabel.PlacedLabel}
use Rattle.lra_parser_spec.specs.Statements.{begins_stmt, stated_of, LabelledTree, with_labels, cases_from, begins_case, labelled_of, add_label, first_labelled, some_cases, cases_parser, braces_of}
use Rattle.lra_parser_spec.specs.{Reading.Parse, Reading.list_of, Tests.is_mark, Tests.begins_label}
use Rattle.lra_parser_spec.proofs.Exact.{Exact, Any, Free, Both, test, first_or, first_or-both, then}
use Rattle.lra_parser_spec.proofs.ExactBlocks.{StatedText, stated_first, stated_no_label}
use Rattle.lra_parser_spec.proofs.{Chain.regroup, Chain.Items, Chain.AfterLast, Chain.all_last, Chain.exact_list, ExactExpressions.Of, ExactLabels.label_first, ExactLabels.exact_label}
use Rattle.lra_parser_spec.proofs.{ExactLabels.AfterLabels, ExactLabels.exact_labels, ExactStatements.AfterStmt, ExactStatements.BracesText, Forms.widen, Forms.retell, Forms.entry, Forms.mapped}
use Rattle.lra_parser_spec.proofs.{Forms.branch, Forms.exact_done, Marks.is_mark_some, Parts.token, Parts.exact_behind, Parts.exact_ended, Tokens.IsInner, Tokens.some_place}

-- a statement after labels -----------------------------------------------------------------------------------------

abbrev pub LabelledText : ℕ → LabelledTree → Texts
LabelledText l c z = Both (λ bs z. Items IsLabel bs z) (λ bs c. Of (λ t. (bs, t)) (StatedText l) c) c z

abbrev AfterCase : LabelledTree → Option Token → Type 0
AfterCase c o = AfterStmt c.1 o

-- the first token of a text whose first part has a label at its start
front_label : (b : PlacedLabel) (u v x y z : Pieces) (o : Option Token) → IsLabel b u → x ≡ u ++ v → z ≡ x ++ y → begins_label (first_or z o) ≡ true
front_label b u v x y z o s f e =
    let same : first_or z o ≡ first_or u (first_or (v ++ y) o) = ap (λ (w : Pieces). first_or w o) (e ∙ regroup x y u v f) ∙ first_or-both u (v ++ y) o in
    ap begins_label same ∙ label_first b u (first_or (v ++ y) o) s

labelled_first : (l : ℕ) (c : LabelledTree) (z : Pieces) (o : Option Token) → LabelledText l c z → begins_case (first_or z o) ≡ true
labelled_first l c z o ([], (x, y, e, s, (t, g, r))) =
    or_right (begins_label (first_or z o)) (begins_stmt (first_or z o))
    (subst (λ (w : Pieces). begins_stmt (first_or w o) ≡ true) (sym (e ∙ ap (λ (w : Pieces). w ++ y) s)) (stated_first l t y o r))
labelled_first l c z o (b ∷ bs, (x, y, e, (u, v, f, s, q), r)) = or_left (begins_label (first_or z o)) (begins_stmt (first_or z o))
    (front_label b u v x y z o s f e)

-- no statement and no label begins with `else`
case_not_else : (o : Option Token) → begins_case o ≡ true → is_mark mark.Else o ≡ false
case_not_else None e = refl
case_not_else (Some t) e = elim (test (is_mark mark.Else (Some t))) [
  | inl on ↦ let same : begins_case (Some t) ≡ false = ap (λ (u : Token). begins_case (Some u)) (is_mark_some mark.Else t on) in absurd cc
  | inr off ↦ off
]

case_allowed : (c : LabelledTree) (o : Option Token) → begins_case o ≡ true → AfterCase c o
case_allowed c o e = λ k. case_not_else o e

-- the first has a label --------------------------------------------------------------------------------------------

abbrev FirstText : ℕ → LabelledTree → Texts
FirstText l c z = Both IsLabel (λ b c. Of (add_label b) (LabelledText l) c) c z

abbrev SomeText : ℕ → List LabelledTree → Texts
SomeText l cs z = Both (FirstText l) (λ c cs. Of (λ ds. c ∷ ds) (λ ds z. Items (LabelledText l) ds z) cs) cs z

abbrev CasesText : ℕ → List LabelledTree → Texts
CasesText l cs z = SomeText l cs z ⊎ ((cs ≡ []) × (z ≡ []))

abbrev AfterCases : List LabelledTree → Option Token → Type 0
AfterCases [] o = begins_label o ≡ false
AfterCases (c ∷ cs) o = AfterLast AfterCase (AfterCase c) cs o × (begins_case o ≡ false)

-- what comes after the first
behind_first : (l : ℕ) (c : LabelledTree) (ds : List LabelledTree) (y : Pieces) (o : Option Token) → Items (LabelledText l) ds y
    → (y ≡ [] → AfterCases (c ∷ ds) o) → AfterCase c (first_or y o)
behind_first l c [] y o e f = subst (λ (w : Pieces). AfterCase c (first_or w o)) (sym e) (f e).0
behind_first l c (d ∷ ds) y o (u, v, e, s, r) f =
    let same : first_or y o ≡ first_or u (first_or v o) = ap (λ (w : Pieces). first_or w o) e ∙ first_or-both u v o in
    case_allowed c (first_or y o) (ap begins_case same ∙ labelled_first l d u (first_or v o) s)

some_first : (l : ℕ) (cs : List LabelledTree) (z : Pieces) (o : Option Token) → SomeText l cs z → begins_label (first_or z o) ≡ true
some_first l cs z o (c, (x, y, e, (b, (u, v, f, s, g)), r)) = front_label b u v x y z o s f e

none_first : (cs : List LabelledTree) (z : Pieces) (o : Option Token) → cs ≡ [] → z ≡ [] → (z ≡ [] → AfterCases cs o) → begins_label (first_or z o) ≡ false
none_first cs z o e f g = rw f (let k : AfterCases [] o = subst (λ (ds : List LabelledTree). AfterCases ds o) e (g f) in k)

case_closes : (c : LabelledTree) (at : Place) → AfterCase c (Some (token mark.CloseBrace at))
case_closes c at = λ k. refl

cases_close : (cs : List LabelledTree) (at : Place) → AfterCases cs (Some (token mark.CloseBrace at))
cases_close [] at = refl
cases_close (c ∷ cs) at = (all_last AfterCase (AfterCase c) cs (Some (token mark.CloseBrace at)) (case_closes c at) (λ i. case_closes i at), refl)

-- the tree of the braces -------------------------------------------------------------------------------------------

behind_labels : (l : ℕ) (bs : List PlacedLabel) (t : StmtTree) (cs : CasesTree) (u w y : Pieces) → Items IsLabel bs u → StatedText l t w → AreStated l cs y
    → AreLabelled l (with_labels bs (stated t cs)) (u ++ (w ++ y))
behind_labels l [] t cs u w y e s r = subst (λ (v : Pieces). AreLabelled l (stated t cs) (v ++ (w ++ y))) (sym e) (w, y, refl, s, r)
behind_labels l (b ∷ bs) t cs u w y (p, q, e, m, h) s r = (p, q ++ (w ++ y), regroup u (w ++ y) p q e, m, behind_labels l bs t cs q w y h s r)

-- a text of a list that begins with this statement and its labels
abbrev BeginsWith : (CasesTree → Texts) → CasesTree → Pieces → LabelledTree → Type 0
BeginsWith are cs z c = are (with_labels c.0 (stated c.1 cs)) z

behind_label : (l : ℕ) (c : LabelledTree) (cs : CasesTree) (x y : Pieces) → LabelledText l c x → AreStated l cs y
    → BeginsWith (AreLabelled l) cs (x ++ y) c
behind_label l c cs x y (bs, (u, v, e, s, (t, g, r))) h =
    subst (λ (d : LabelledTree). BeginsWith (AreLabelled l) cs (x ++ y) d) g
    (subst (λ (z : Pieces). AreLabelled l (with_labels bs (stated t cs)) z) (sym (regroup x y u v e)) (behind_labels l bs t cs u v y s r h))

further_cases : (l : ℕ) (bs : List PlacedLabel) (t : StmtTree) (cs : CasesTree) (u v x y z : Pieces) → z ≡ x ++ y → x ≡ u ++ v → Items IsLabel bs u
    → StatedText l t v → AreStated l cs y
    → AreStated l (with_labels bs (stated t cs)) z
further_cases l [] t cs u v x y z e f s r h = (v, y, e ∙ regroup x y u v f ∙ ap (λ (w : Pieces). w ++ (v ++ y)) s, r, h)
further_cases l (b ∷ bs) t cs u v x y z e f (p, q, g, m, s) r h =
    (p, q ++ (v ++ y), e ∙ regroup x y u v f ∙ regroup u (v ++ y) p q g, m, behind_labels l bs t cs q v y s r h)

to_further : (l : ℕ) (cs : List LabelledTree) (z : Pieces) → Items (LabelledText l) cs z → AreStated l (cases_from cs) z
to_further l [] z e = e
to_further l (c ∷ cs) z (x, y, e, (bs, (u, v, f, s, (t, g, r))), q) =
    subst (λ (d : LabelledTree). BeginsWith (AreStated l) (cases_from cs) z d) g (further_cases l bs t (cases_from cs) u v x y z e f s r (to_further l cs y q))

some_to_cases : (l : ℕ) (cs : List LabelledTree) (z : Pieces) → SomeText l cs z → AreCases l (cases_from cs) z
some_to_cases l cs z (c, (x, y, e, (b, (u, v, f, s, (d, g, r))), (ds, h, q))) =
    let whole : BeginsWith (AreCases l) (cases_from ds) z (add_label b d) =
    (u, v ++ y, e ∙ regroup x y u v f, s, behind_label l d (cases_from ds) v y r (to_further l ds y q)) in
    subst (λ (is : List LabelledTree). AreCases l (cases_from is) z) h (subst (λ (i : LabelledTree). BeginsWith (AreCases l) (cases_from ds) z i) g whole)

to_cases : (l : ℕ) (cs : List LabelledTree) (z : Pieces) → CasesText l cs z → AreCases l (cases_from cs) z
to_cases l cs z (inl s) = some_to_cases l cs z s
to_cases l cs z (inr (e, f)) = subst (λ (ds : List LabelledTree). AreCases l (cases_from ds) z) (sym e) f

-- and back: what comes after a label, and after a statement
pub record Split (l : ℕ) (cs : CasesTree) (z : Pieces) : Type 0 where
  pub first : LabelledTree
  pub further : List LabelledTree
  pub is : cases_from (first ∷ further) ≡ cs
  pub front : Pieces
  pub back : Pieces
  pub parts : z ≡ front ++ back
  pub text : LabelledText l first front
  pub items : Items (LabelledText l) further back

one_more : (l : ℕ) (b : PlacedLabel) (cs : CasesTree) (x y z : Pieces) → z ≡ x ++ y → IsLabel b x → Split l cs y → Split l (labelled b cs) z
one_more l b cs x y z e s k =
    let (bs, (u, v, f, m, (t, g, r))) = k.text in
    record {
      first = add_label b k.first;
      further = k.further;
      is = ap (λ (ds : CasesTree). labelled b ds) k.is;
      front = x ++ k.front;
      back = k.back;
      parts = e ∙ ap (λ (w : Pieces). x ++ w) k.parts ∙ sym (append_assoc x k.front k.back);
      text = (b ∷ bs, (x ++ u, v, ap (λ (w : Pieces). x ++ w) f ∙ sym (append_assoc x u v), (x, u, refl, s, m), (t, ap (add_label b) g, r)));
      items = k.items;
    }

alone : (l : ℕ) (t : StmtTree) (cs : CasesTree) (ds : List LabelledTree) (x y z : Pieces) → z ≡ x ++ y → StatedText l t x → cases_from ds ≡ cs
    → Items (LabelledText l) ds y → Split l (stated t cs) z
alone l t cs ds x y z e s g r = record {
  first = ([], t);
  further = ds;
  is = ap (λ (is : CasesTree). stated t is) g;
  front = x;
  back = y;
  parts = e;
  text = ([], ([], x, refl, refl, (t, refl, s)));
  items = r;
}

abbrev Listed : ℕ → CasesTree → Pieces → Type 0
Listed l cs z = (ds : List LabelledTree) × (cases_from ds ≡ cs) × Items (LabelledText l) ds z

as_listed : (l : ℕ) (cs : CasesTree) (z : Pieces) → Split l cs z → Listed l cs z
as_listed l cs z k = (k.first ∷ k.further, k.is, (k.front, k.back, k.parts, k.text, k.items))

mutual
  from_labelled : (l : ℕ) (cs : CasesTree) (z : Pieces) → AreLabelled l cs z → Split l cs z
  from_labelled l no_cases z s = absurd s
  from_labelled l (labelled b cs) z (x, y, e, s, r) = one_more l b cs x y z e s (from_labelled l cs y r)
  from_labelled l (stated t cs) z (x, y, e, s, r) = let k = from_further l cs y r in alone l t cs k.0 x y z e s k.1 k.2

  from_further : (l : ℕ) (cs : CasesTree) (z : Pieces) → AreStated l cs z → Listed l cs z
  from_further l no_cases z e = ([], refl, e)
  from_further l (labelled b cs) z (x, y, e, s, r) = as_listed l (labelled b cs) z (one_more l b cs x y z e s (from_labelled l cs y r))
  from_further l (stated t cs) z (x, y, e, s, r) = let k = from_further l cs y r in as_listed l (stated t cs) z (alone l t cs k.0 x y z e s k.1 k.2)

from_cases : (l : ℕ) (cs : CasesTree) (z : Pieces) → AreCases l cs z → (ds : List LabelledTree) × (cases_from ds ≡ cs) × CasesText l ds z
from_cases l no_cases z e = ([], refl, inr (refl, e))
from_cases l (labelled b cs) z (x, y, e, s, r) =
    let k = from_labelled l cs y r in
    let parts : z ≡ (x ++ k.front) ++ k.back = e ∙ ap (λ (w : Pieces). x ++ w) k.parts ∙ sym (append_assoc x k.front k.back) in
    let c = add_label b k.first in (
      c ∷ k.further,
      ap (λ (ds : CasesTree). labelled b ds) k.is,
      inl (c, (x ++ k.front, k.back, parts, (b, (x, k.front, refl, s, (k.first, refl, k.text))), (k.further, refl, k.items))),
    )
from_cases l (stated t cs) z s = absurd s

abbrev ReadText : ℕ → ℕ → CasesTree → Texts
ReadText o l cs = opens mark.OpenBrace o ⋅ Of cases_from (λ ds. CasesText l ds ⋅ spells mark.CloseBrace) cs

to_braces : (o l : ℕ) (cs : CasesTree) (z : Pieces) → ReadText o l cs z → BracesText o l cs z
to_braces o l cs z (x, y, e, s, (ds, g, (u, v, f, r, t))) = subst (λ (is : CasesTree). BracesText o l is z) g (x, y, e, s, (u, v, f, to_cases l ds u r, t))

from_braces : (o l : ℕ) (cs : CasesTree) (z : Pieces) → BracesText o l cs z → ReadText o l cs z
from_braces o l cs z (x, y, e, s, (u, v, f, r, t)) = let k = from_cases l cs u r in (x, y, e, s, (k.0, k.1, (u, v, f, k.2, t)))

-- the reader -------------------------------------------------------------------------------------------------------

module _ (n l : ℕ) (simple inner : Parse StmtTree) (T : Exact n IsInner (stated_of simple inner) Any (StatedText l) (StatedText l) AfterStmt) where
  exact_labelled : Exact n IsInner (labelled_of simple inner) Any (LabelledText l) (LabelledText l) AfterCase
  exact_labelled = then (exact_labels n) (λ bs. entry (mapped T (λ t. (bs, t)) AfterCase (λ t o f. f) (λ t o f. f)) (AfterLabels bs) (λ o i. tt))
      (LabelledText l)
      (λ bs c y o s f. (all_last Free Any bs (first_or y o) tt (λ b. tt), stated_no_label l s.0 y o s.2))
      (λ bs z v. ((bs, nothing some_place), _, (bs, (z, _, refl, v, (nothing some_place, refl, refl)))))
      (λ bs c x y s r. (bs, (x, y, refl, s, r)))

  exact_first : Exact n IsInner (first_labelled simple inner) Any (FirstText l) (FirstText l) AfterCase
  exact_first = then (exact_label n) (λ b. mapped exact_labelled (add_label b) AfterCase (λ c o f. f) (λ c o f. f)) (FirstText l)
      (λ b c y o s f. tt)
      (λ b z v. (
        add_label b ([], nothing some_place),
        _,
        (
          b,
          (z, _, refl, v, (([], nothing some_place), refl, ([], ([], _, refl, refl, (nothing some_place, refl, refl))))),
        ),
      ))
      (λ b c x y s r. (b, (x, y, refl, s, r)))

  exact_further : (c : LabelledTree) → Exact n IsInner (list_of begins_case (labelled_of simple inner)) (AfterCase c) (λ ds z. Items (LabelledText l) ds z)
      (λ ds z. Items (LabelledText l) ds z)
      (λ ds o. AfterLast AfterCase (AfterCase c) ds o × (begins_case o ≡ false))
  exact_further c = exact_list begins_case (entry exact_labelled (λ o. begins_case o ≡ true) (λ o i. tt)) (AfterCase c) refl
      (λ d x s. labelled_first l d x None s) case_allowed (λ o e. case_allowed c o e)

  exact_some : Exact n IsInner (some_cases simple inner) Any (SomeText l) (SomeText l) AfterCases
  exact_some = then exact_first (λ c. mapped (exact_further c) (λ ds. c ∷ ds) AfterCases (λ ds o f. f) (λ ds o f. f)) (SomeText l)
      (λ c cs y o s f. behind_first l c s.0 y o s.2 (λ e. subst (λ (ds : List LabelledTree). AfterCases ds o) (sym s.1) (f e)))
      (λ c z v. (c ∷ [], [], (c, (z, [], refl, v, ([], refl, refl)))))
      (λ c cs x y s r. (c, (x, y, refl, s, r)))

  exact_cases : Exact n IsInner (cases_parser simple inner) Any (CasesText l) (CasesText l) AfterCases
  exact_cases = branch begins_label
      (entry (widen exact_some (CasesText l) (λ cs z s. inl s)) (λ o. ⊤ × (begins_label o ≡ true)) (λ o i. tt))
      (widen (exact_done n IsInner [] (λ o. ⊤ × (begins_label o ≡ false)) (λ cs z. (cs ≡ []) × (z ≡ [])) AfterCases (λ o i. i.1)) (CasesText l)
      (λ cs z s. inr s))
      (λ cs z o s f. some_first l cs z o s)
      (λ cs z o s f. none_first cs z o s.0 s.1 f)

  pub exact_braces : (o : ℕ) → o ≤ n → Exact n IsInner (braces_of (cases_parser simple inner)) Any (BracesText o l) (BracesText o l) Free
  exact_braces o low =
      let inside = mapped (exact_ended mark.CloseBrace exact_cases cases_close) cases_from Free (λ cs k f. tt) (λ cs k f. tt) in
      let whole = exact_behind mark.OpenBrace o low inside (no_cases, _, ([], refl, ([], _, refl, inr (refl, refl), (some_place, refl)))) in
      retell whole (BracesText o l) (λ cs z s. to_braces o l cs z s) (λ cs z s. from_braces o l cs z s)
