-- Whatever is reported of operations: if each operation has one result and one thing is reported about it, the same
-- values report one thing; and what is judged with drops is judged so by other operations, as far as what is flagged
-- matters.
use Rattle.std.proofs.Common.{◌≡◌, ◌∙◌, ℕ, List, [], ◌∷◌, Option, Some, None, Bool, true, false, refl, sym, subst, inl, inr}
use Rattle.std.proofs.lemmas.Option.{same_Some}
use Rattle.std.specs.Prelude.{Contains}
use Rattle.lra_analysis_spec.proofs.Crates.lra_linear_spec.Membership.{contains_cases, contains_none}
use Rattle.lra_domain.specs.{Abstraction.Abstraction, Abstraction.worse, declared.Exactness.Exactness}
use Rattle.lra_analysis_spec.specs.Crates.lra_program.Program.{Expr, Cond, compare, nonzero, opposite, both_of, either_of}
use Rattle.lra_analysis_spec.specs.Crates.{lra_base.declared.number_types.NumberType.NumberType, lra_program.Step.Op, lra_program.Step.append}
use Rattle.lra_operations.specs.CheckedOperations.{OpAtPoint}
use Rattle.lra_analysis_spec.specs.Judging.{Finding, first_flagged, CondAnswers, Declares, AnswerAtPoint, Finds}
use Rattle.lra_analysis_spec.specs.{MovesOf.moves_of, Operations.Operations, Operations.lossy_operations, Pass.noted, Pass.Filters}
use Rattle.lra_analysis_spec.proofs.{OneIteration.Single, OneIteration.one_made, OneIteration.one_left, Transfer.Matters, Transfer.Transfers, Transfer.made, Transfer.leaves}

-- what is reported about both sides of a comparison, and of what is compared with 0
abbrev pub OfBoth : Type 0 → Type 0 → Type 1
OfBoth V A = ℕ → Expr → Expr → V → List A → Exactness → Type 0

abbrev pub OfOne : Type 0 → Type 0 → Type 1
OfOne V A = ℕ → Expr → V → List A → Exactness → Type 0

-- and of an operation
abbrev pub OfOp : Type 0 → Type 0 → Type 1
OfOp V A = Op → V → A → Exactness → Type 0

-- one thing --------------------------------------------------------------------------------------------------------------

module _ {V H : Type 0} (ops : Operations V H) (single : Single ops) where
  module _ {A : Type 0} (Both : OfBoth V A) (One : OfOne V A)
      (one_both : (base : ℕ) (a b : Expr) (v : V) (xs ys : List A) (e f : Exactness) → Both base a b v xs e → Both base a b v ys f → xs ≡ ys)
      (one_one : (base : ℕ) (a : Expr) (v : V) (xs ys : List A) (e f : Exactness) → One base a v xs e → One base a v ys f → xs ≡ ys) where
    pub one_cond : (base : ℕ) (c : Cond) (v : V) (bs cs : List A) (e f : Exactness) → CondAnswers ops Both One base c v bs e →
        CondAnswers ops Both One base c v cs f
        → bs ≡ cs
    one_cond base (compare op a b) v bs cs e f x y = one_both base a b v bs cs e f x y
    one_cond base (nonzero a) v bs cs e f x y = one_one base a v bs cs e f x y
    one_cond base (opposite c) v bs cs e f x y = one_cond base c v bs cs e f x y
    one_cond base (both_of c d) v bs cs e f (xs, us, w, g, h, i, one, left, two, is, flags) (ys, ws, z, j, k, l, first, off, second, same, also) =
        let (p, q) = one_left V H ops single base c true v h k w z left off in
        let there : CondAnswers ops Both One base d w ws l = subst (λ (x : V). CondAnswers ops Both One base d x ws l) (sym q) second in
        is ∙ rw (one_cond base c v xs ys g j one first, one_cond base d w us ws i l two there) refl ∙ sym same
    one_cond base (either_of c d) v bs cs e f (xs, us, w, g, h, i, one, left, two, is, flags) (ys, ws, z, j, k, l, first, off, second, same, also) =
        let (p, q) = one_left V H ops single base c false v h k w z left off in
        let there : CondAnswers ops Both One base d w ws l = subst (λ (x : V). CondAnswers ops Both One base d x ws l) (sym q) second in
        is ∙ rw (one_cond base c v xs ys g j one first, one_cond base d w us ws i l two there) refl ∙ sym same

  one_declared : (fresh : Option NumberType) (v : V) (e f : Exactness) (w x : V) → Declares ops fresh v e w → Declares ops fresh v f x → w ≡ x
  one_declared None v e f w x a b = a.0 ∙ sym b.0
  one_declared (Some t) v e f w x a b = (one_made V H ops single (moves_of (ops.dims v) (append t)) v e f w x a b).1

  module _ {A : Type 0} (Told : OfOp V A) (one_told : (op : Op) (v : V) (x y : A) (e f : Exactness) → Told op v x e → Told op v y f → x ≡ y) where
    pub one_asked_told : (values : List V) (a : OpAtPoint) (x y : A) (e f : Exactness) → AnswerAtPoint ops Told values a x e →
        AnswerAtPoint ops Told values a y f → x ≡ y
    one_asked_told values a x y e f (v, w, g, h, at, behind, told, flags) (u, z, i, j, there, after, also, too) =
        let first : v ≡ u = same_Some v u (sym at ∙ there) in
        let after_too : Declares ops a.fresh v i z = subst (λ (k : V). Declares ops a.fresh k i z) (sym first) after in
        let second : w ≡ z = one_declared a.fresh v g i w z behind after_too in
        one_told a.op w x y h j told (subst (λ (k : V). Told a.op k y j) (sym second) also)

-- from drops to other operations -----------------------------------------------------------------------------------------

module _ {V H : Type 0} (m : Abstraction V H) (b : Operations V H) (Keeps : Exactness → Type 0) (Fine : Option ℕ → Type 0) (matters : Matters Keeps Fine)
    (moves : Transfers Keeps (lossy_operations m) b)
    (same_dims : (p : Operations V H → Type 0) → p (record b { dims = m.dims }) → p b) where
  moved_left : (base : ℕ) (c : Cond) (wanted : Bool) (v : V) (e : Exactness) (w : V) → Keeps e → Filters (lossy_operations m) base c wanted v e w →
      Filters b base c
      wanted v e w
  moved_left base c wanted v e w k h = same_dims (λ ops. Filters ops base c wanted v e w)
      (leaves V H (lossy_operations m) b Keeps Fine matters moves base c wanted v e w k h)

  module _ {A : Type 0} (Both NewBoth : OfBoth V A) (One NewOne : OfOne V A)
      (both_moved : (base : ℕ) (x y : Expr) (v : V) (bs : List A) (e : Exactness) → Keeps e → Both base x y v bs e → NewBoth base x y v bs e)
      (one_moved : (base : ℕ) (x : Expr) (v : V) (bs : List A) (e : Exactness) → Keeps e → One base x v bs e → NewOne base x v bs e) where
    pub cond_moved : (base : ℕ) (c : Cond) (v : V) (bs : List A) (e : Exactness) → Keeps e → CondAnswers (lossy_operations m) Both One base c v bs e →
        CondAnswers b NewBoth NewOne base c v bs e
    cond_moved base (compare op x y) v bs e k h = both_moved base x y v bs e k h
    cond_moved base (nonzero x) v bs e k h = one_moved base x v bs e k h
    cond_moved base (opposite c) v bs e k h = cond_moved base c v bs e k h
    cond_moved base (both_of c d) v bs e k (xs, ys, w, f, g, h, one, left, two, is, flags) =
        let parts = matters.parts (worse f g) h (subst Keeps flags k) in
        let inner = matters.parts f g parts.0 in
        (xs, ys, w, f, g, h, cond_moved base c v xs f inner.0 one, moved_left base c true v g w inner.1 left, cond_moved base d w ys h parts.1 two, is, flags)
    cond_moved base (either_of c d) v bs e k (xs, ys, w, f, g, h, one, left, two, is, flags) =
        let parts = matters.parts (worse f g) h (subst Keeps flags k) in
        let inner = matters.parts f g parts.0 in
        (xs, ys, w, f, g, h, cond_moved base c v xs f inner.0 one, moved_left base c false v g w inner.1 left, cond_moved base d w ys h parts.1 two, is, flags)

  declared_moved : (fresh : Option NumberType) (v : V) (e : Exactness) (w : V) → Keeps e → Declares (lossy_operations m) fresh v e w → Declares b fresh v e w
  declared_moved None v e w k h = h
  declared_moved (Some t) v e w k h =
      same_dims (λ ops. Declares ops (Some t) v e w) (made V H (lossy_operations m) b Keeps Fine matters moves (moves_of (m.dims v) (append t)) v e w k h)

  -- what is flagged after the first of them
  all_kept : {A : Type 0} (js : List (Finding A)) (f : Option ℕ) → Fine (first_flagged f js) → Fine f × ((j : Finding A) → Contains js j → Keeps j.exactness)
  all_kept [] f k = (k, λ j h. absurd (contains_none j h))
  all_kept {A} (x ∷ js) f k =
      let rest = all_kept js (noted x.point x.exactness f) k in
      let here = matters.before x.point x.exactness f rest.0 in
      (here.1, λ j h. elim (contains_cases x j js h) [ inl same ↦ subst (λ (y : Finding A). Keeps y.exactness) same here.0 | inr later ↦ rest.1 j later ])

  module _ {A : Type 0} (Told NewTold : OfOp V A) (told_moved : (op : Op) (v : V) (x : A) (e : Exactness) → Keeps e → Told op v x e → NewTold op v x e) where
    asked_moved : (values : List V) (a : OpAtPoint) (x : A) (e : Exactness) → Keeps e → AnswerAtPoint (lossy_operations m) Told values a x e →
        AnswerAtPoint b NewTold values a x e
    asked_moved values a x e k (v, w, c, d, at, behind, told, flags) =
        let parts = matters.parts c d (subst Keeps flags k) in
        (v, w, c, d, at, declared_moved a.fresh v c w parts.0 behind, told_moved a.op w x d parts.1 told, flags)

    pub finds_moved : (asked : List OpAtPoint) (values : List V) (flagged : Option ℕ) (answers : List (ℕ × A)) (behind : Option ℕ) → Fine behind →
        Finds (lossy_operations m) Told asked values flagged answers behind → Finds b NewTold asked values flagged answers behind
    finds_moved asked values flagged answers behind fine j =
        let kept = all_kept j.found flagged (subst Fine j.flags fine) in
        record {
          found = j.found;
          is_asked = λ x there. let (a, among, point, judged) = j.is_asked x there in
              (a, among, point, asked_moved values a x.answer x.exactness (kept.1 x there) judged);
          has_asked = j.has_asked;
          in_order = j.in_order;
          told = j.told;
          flags = j.flags;
        }
