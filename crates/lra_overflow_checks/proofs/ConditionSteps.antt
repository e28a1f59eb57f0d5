-- Steps of the proofs on what is reported about conditions.
use Rattle.std.proofs.Common.{Box, Vec, Global, ◌≡◌, ℕ, ◌+◌, ◌<◌, ◌≤◌, List, [], ◌∷◌, ◌++◌, Bool, true, false, length, map, drop, get_or, refl, sym, ap, subst, ◌∙◌, append_assoc, append-nil, arith}
use Rattle.std.proofs.lemmas.List.{drop_more, drop_all}
use Rattle.std.specs.Prelude.{IfOk}
use Rattle.std.specs.Prelude as handed
use Rattle.lra_overflow_checks.specs.Crates.{lra_analysis_spec.Judging.CondAnswers, lra_analysis_spec.Moves.Takes, lra_analysis_spec.MovesOf.guard, lra_analysis_spec.Operations.lossy_operations}
use Rattle.lra_overflow_checks.specs.Crates.{lra_analysis_spec.Pass.Filters, lra_base.OperatorViews.comparison_view, lra_domain.Abstraction.Abstraction, lra_domain.Abstraction.worse}
use Rattle.lra_overflow_checks.specs.Crates.{lra_domain.declared.Exactness.Exactness, lra_domain.declared.Exactness.TheVariants.Exact, lra_domain.declared.Exactness.TheVariants.Flagged}
use Rattle.lra_overflow_checks.specs.Crates.lra_base.declared.operators.Comparison as declared_comparison
use Rattle.lra_program.specs.declared.program.Cond as declared_cond
use Rattle.lra_program.specs.declared.program.Cond.{Compare, Nonzero, Opposite, All, Any, the_lemmas}
use Rattle.lra_program.specs.{Program.Expr, Program.Cond, Program.compare, Program.nonzero, ProgramViews.cond_view, ProgramViews.expr_view}
use Rattle.lra_program.specs.declared.program.Expr as declared_expr
use Rattle.lra_transfer.proofs.SideSteps.{compare_view, nonzero_view, opposite_shown, all_shown, any_shown}
use Rattle.lra_overflow_checks.proofs.Crates.lra_linearize.CondSizes.{cond_size, chain_size}
use Rattle.lra_overflow_checks.specs.{Judged.IsCondJudged, Judged.sides_of, Operands.IsPassed}

-- answers handed on -------------------------------------------------------------------------------------------------

-- what led to a left side, its own answers, what it leaves, and what comes after it
worst_in_turn : (so_far left leaves right : Exactness)
    → worse so_far (worse (worse left leaves) right) ≡ worse (worse (worse so_far left) leaves) right
worst_in_turn Exact left leaves right = refl
worst_in_turn Flagged left leaves right = refl

sides_one : (wanted : Bool) (c : Cond) → sides_of wanted c [] ≡ c
sides_one true c = refl
sides_one false c = refl

module _ {V H A : Type 0} (m : Abstraction V H) (Both : ℕ → Expr → Expr → V → List A → Exactness → Type 0)
    (One : ℕ → Expr → V → List A → Exactness → Type 0) (base : ℕ) where
  abbrev Told : Cond → V → List A → Exactness → Type 0
  Told c v xs e = CondAnswers (lossy_operations m) Both One base c v xs e

  abbrev IsJudged : Cond → V → List A → Exactness → List A → Type 0
  IsJudged c v old e new = IsCondJudged (lossy_operations m) Both One base c v old e new

  pub compare_judged : {E : Type 0} (R : handed.Result Exactness E) (op : declared_comparison.Comparison)
      (a b : declared_expr.Expr) (c : declared_cond.Cond) (v : V) (old new : List A) → c ≡ Compare op a b
      → IfOk R (λ e. IsJudged (compare (comparison_view op) (expr_view a) (expr_view b)) v old e new)
      → IfOk R (λ e. IsJudged (cond_view c) v old e new)
  compare_judged R op a b c v old new is judged =
      subst (λ (d : Cond). IfOk R (λ e. IsJudged d v old e new)) (sym (ap cond_view is ∙ compare_view op a b)) judged

  pub nonzero_judged : {E : Type 0} (R : handed.Result Exactness E) (a : declared_expr.Expr) (c : declared_cond.Cond)
      (v : V) (old new : List A) → c ≡ Nonzero a → IfOk R (λ e. IsJudged (nonzero (expr_view a)) v old e new)
      → IfOk R (λ e. IsJudged (cond_view c) v old e new)
  nonzero_judged R a c v old new is judged =
      subst (λ (d : Cond). IfOk R (λ e. IsJudged d v old e new)) (sym (ap cond_view is ∙ nonzero_view a)) judged

  pub opposite_judged : {E : Type 0} (R : handed.Result Exactness E) (c x : declared_cond.Cond)
      (inner : Box declared_cond.Cond Global) (v : V) (old new : List A) → c ≡ Opposite inner → x ≡ inner.value
      → IfOk R (λ e. IsJudged (cond_view x) v old e new)
      → IfOk R (λ e. IsJudged (cond_view c) v old e new)
  opposite_judged R c x inner v old new is one judged =
      subst (λ (d : Cond). IfOk R (λ e. IsJudged d v old e new)) (sym (opposite_shown c x inner is one)) judged

  -- those on a chain are those on its operands in turn
  module _ (c x : declared_cond.Cond) (xs : List declared_cond.Cond) (first : Box declared_cond.Cond Global)
      (rest : Vec declared_cond.Cond Global) (one : x ≡ first.value) (others : xs ≡ rest.items) where
    module _ {E : Type 0} (R : handed.Result Exactness E) (v : V) (old new : List A) where
      sides_judged : (d : Cond) → cond_view c ≡ d → IfOk R (λ e. IsJudged d v old e new)
          → IfOk R (λ e. IsJudged (cond_view c) v old e new)
      sides_judged d shown judged = subst (λ (k : Cond). IfOk R (λ e. IsJudged k v old e new)) (sym shown) judged

      pub all_judged : c ≡ All first rest
          → IfOk R (λ e. IsJudged (sides_of true (cond_view x) (map cond_view xs)) v old e new)
          → IfOk R (λ e. IsJudged (cond_view c) v old e new)
      all_judged is judged = sides_judged (sides_of true (cond_view x) (map cond_view xs))
          (all_shown c x xs first rest one others is) judged

      pub any_judged : c ≡ Any first rest
          → IfOk R (λ e. IsJudged (sides_of false (cond_view x) (map cond_view xs)) v old e new)
          → IfOk R (λ e. IsJudged (cond_view c) v old e new)
      any_judged is judged = sides_judged (sides_of false (cond_view x) (map cond_view xs))
          (any_shown c x xs first rest one others is) judged

  -- chains along their operands ---------------------------------------------------------------------------------------

  -- the first of them, and those after it by what it leaves
  sides_more : (wanted : Bool) (c d : Cond) (ds : List Cond) (v w : V) (xs ys : List A) (f g h : Exactness)
      → Told c v xs f → Filters (lossy_operations m) base c wanted v g w
      → Told (sides_of wanted d ds) w ys h
      → Told (sides_of wanted c (d ∷ ds)) v (xs ++ ys) (worse (worse f g) h)
  sides_more true c d ds v w xs ys f g h one left rest = (xs, ys, w, f, g, h, one, left, rest, refl, refl)
  sides_more false c d ds v w xs ys f g h one left rest = (xs, ys, w, f, g, h, one, left, rest, refl, refl)

  -- an operand is judged, and then left
  pub operand_passed : {E : Type 0} (R : handed.Result Exactness E) (c : Cond) (wanted : Bool) (v w : V)
      (before judged led : Exactness) (old new : List A) → IsJudged c v old judged new
      → led ≡ worse before judged → IfOk R (λ e. Takes (lossy_operations m) (guard (m.dims v) base wanted c) v led w e)
      → IfOk R (λ e. IsPassed (lossy_operations m) Both One base c wanted v before old w e new)
  operand_passed (handed.Ok e) c wanted v w before judged led old new one is (g, left, worst) =
      (judged, g, one, left, worst ∙ ap (λ (d : Exactness). worse d g) is)
  operand_passed (handed.Err e) c wanted v w before judged led old new one is left = tt

  -- the operands before this one are judged: with the answers on it and on those after it, by what is left of the
  -- value, the whole chain is
  pub record AreJudgedSoFar (wanted : Bool) (c : Cond) (cs : List Cond) (from : V) (old : List A) (last : Cond)
      (left : List Cond) (value : V) (so_far : Exactness) (answers : List A) : Type 0 where
    pub before : List A
    pub are : answers ≡ old ++ before
    pub whole : (ys : List A) (h : Exactness)
        → Told (sides_of wanted last left) value ys h
        → Told (sides_of wanted c cs) from (before ++ ys) (worse so_far h)
    pub same : m.dims value ≡ m.dims from

  pub judged_first : (wanted : Bool) (c : Cond) (cs : List Cond) (from value : V) (old : List A) → value ≡ from
      → AreJudgedSoFar wanted c cs from old c cs value Exact old
  judged_first wanted c cs from value old is =
      let none : AreJudgedSoFar wanted c cs from old c cs from Exact old =
      record { before = []; are = sym (append-nil old); whole = λ ys h rest. rest; same = refl } in
      subst (λ (v : V). AreJudgedSoFar wanted c cs from old c cs v Exact old) (sym is) none

  module _ (wanted : Bool) (c : Cond) (cs : List Cond) (from : V) (old : List A) (last : Cond) (v w : V)
      (so_far after : Exactness) (answers now : List A) where
    judged_more : (next : Cond) (ds : List Cond)
        → AreJudgedSoFar wanted c cs from old last (next ∷ ds) v so_far answers
        → IsPassed (lossy_operations m) Both One base last wanted v so_far answers w after now → m.dims w ≡ m.dims v
        → AreJudgedSoFar wanted c cs from old next ds w after now
    judged_more next ds held (f, g, (xs, one, behind), left, worst) dims = record {
      before = held.before ++ xs;
      are = behind ∙ ap (λ (bs : List A). bs ++ xs) held.are ∙ append_assoc old held.before xs;
      whole = λ ys h rest.
          let all = held.whole (xs ++ ys) (worse (worse f g) h)
          (sides_more wanted last next ds v w xs ys f g h one left rest) in
          let flags : worse so_far (worse (worse f g) h) ≡ worse after h =
          worst_in_turn so_far f g h ∙ ap (λ (e : Exactness). worse e h) (sym worst) in
          let there = subst (Told (sides_of wanted c cs) from (held.before ++ (xs ++ ys)))
          flags all in
          subst (λ (bs : List A). Told (sides_of wanted c cs) from bs (worse after h))
          (sym (append_assoc held.before xs ys)) there;
      same = dims ∙ held.same;
    }

    -- by places of the code's operands
    pub judged_on : (xs : List declared_cond.Cond) (i : ℕ) (x : declared_cond.Cond) → i < length xs → x ≡ get_or xs i x
        → AreJudgedSoFar wanted c cs from old last (map cond_view (drop i xs)) v so_far answers
        → IsPassed (lossy_operations m) Both One base last wanted v so_far answers w after now → m.dims w ≡ m.dims v
        → AreJudgedSoFar wanted c cs from old (cond_view x) (map cond_view (drop (i + 1) xs)) w after now
    judged_on xs i x h at held passed dims =
        let there : drop i xs ≡ x ∷ drop (i + 1) xs =
        drop_more xs i x h ∙ ap (λ (y : declared_cond.Cond). y ∷ drop (i + 1) xs) (sym at) in
        let here = subst (λ (ys : List declared_cond.Cond).
        AreJudgedSoFar wanted c cs from old last (map cond_view ys) v so_far answers) there held in
        judged_more (cond_view x) (map cond_view (drop (i + 1) xs)) here passed dims

  -- the last one too
  pub judged_all : (wanted : Bool) (c : Cond) (cs : List Cond) (from : V) (old : List A) (last : Cond)
      (xs : List declared_cond.Cond) (i : ℕ) (v : V) (so_far judged all : Exactness) (answers now : List A)
      → length xs ≤ i → AreJudgedSoFar wanted c cs from old last (map cond_view (drop i xs)) v so_far answers
      → IsJudged last v answers judged now → all ≡ worse so_far judged
      → IsJudged (sides_of wanted c cs) from old all now
  judged_all wanted c cs from old last xs i v so_far judged all answers now h held (bs, one, behind) is =
      let end = subst (λ (ys : List declared_cond.Cond).
      AreJudgedSoFar wanted c cs from old last (map cond_view ys) v so_far answers) (drop_all i xs h) held in
      let alone = subst (λ (d : Cond). Told d v bs judged) (sym (sides_one wanted last)) one in (
        end.before ++ bs,
        subst (Told (sides_of wanted c cs) from (end.before ++ bs)) (sym is)
            (end.whole bs judged alone),
        behind ∙ ap (λ (zs : List A). zs ++ bs) end.are ∙ append_assoc old end.before bs,
      )

-- the first operand is smaller than the chain
pub first_smaller : (c : declared_cond.Cond) (cs : List declared_cond.Cond) → cond_size c < chain_size c cs
first_smaller c cs = omega arith
