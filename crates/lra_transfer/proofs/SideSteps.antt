-- Steps of the proofs on both sides of a condition.
use Rattle.std.proofs.Common.{rules, Box, Vec, Global, map, ◌≡◌, ℕ, List, ◌∷◌, Bool, true, false, sym, ap, subst, ◌∙◌}
use Rattle.std.specs.Prelude.{not, IfOk}
use Rattle.std.specs.Prelude as handed
use Rattle.lra_transfer.specs.Crates.lra_base.declared.operators.Comparison as declared_comparison
use Rattle.lra_transfer.specs.Crates.{lra_analysis_spec.Moves.Takes, lra_analysis_spec.MovesOf.guard, lra_analysis_spec.Operations.lossy_operations, lra_base.OperatorViews.comparison_view}
use Rattle.lra_transfer.specs.Crates.{lra_domain.Abstraction.Abstraction, lra_domain.Moves.Moves, lra_domain.Moves.first_then, lra_domain.Moves.join_of, lra_domain.declared.Exactness.Exactness}
use Rattle.lra_program.specs.declared.program.Cond as declared_cond
use Rattle.lra_program.specs.declared.program.Cond.{Compare, Nonzero, Opposite, All, Any, the_lemmas}
use Rattle.lra_program.specs.{Program.compare, Program.nonzero, Program.opposite, Program.Cond, ProgramViews.all_of, ProgramViews.any_of, ProgramViews.cond_view, ProgramViews.expr_view}
use Rattle.lra_program.specs.declared.program.Expr as declared_expr
use Rattle.lra_linearize.proofs.CondSteps.{all_view, any_view}
use Rattle.lra_transfer.proofs.Crates.lra_analysis_spec.Takes.{then_takes, join_takes}
use Rattle.lra_transfer.specs.{Splits.TakesTo, Splits.SplitsBy, Splits.AreJoinedTo, declared.splits.ConditionSplit.ConditionSplit, declared.splits.Kept.Kept}

-- the views of the forms, by the conditions in them
pub compare_view : (op : declared_comparison.Comparison) (a b : declared_expr.Expr)
    → cond_view (Compare op a b) ≡ compare (comparison_view op) (expr_view a) (expr_view b)
compare_view op a b = search (rules, the_lemmas)

pub nonzero_view : (e : declared_expr.Expr) → cond_view (Nonzero e) ≡ nonzero (expr_view e)
nonzero_view e = search (rules, the_lemmas)

opposite_view : (c : Box declared_cond.Cond Global) → cond_view (Opposite c) ≡ opposite (cond_view c.value)
opposite_view c = search (rules, the_lemmas)

pub opposite_shown : (c x : declared_cond.Cond) (inner : Box declared_cond.Cond Global) → c ≡ Opposite inner
    → x ≡ inner.value → cond_view c ≡ opposite (cond_view x)
opposite_shown c x inner is one = ap cond_view is ∙ opposite_view inner ∙ ap (λ z. opposite (cond_view z)) (sym one)

module _ (c x : declared_cond.Cond) (xs : List declared_cond.Cond) (first : Box declared_cond.Cond Global)
    (rest : Vec declared_cond.Cond Global) (one : x ≡ first.value) (two : xs ≡ rest.items) where
  pub all_shown : c ≡ All first rest → cond_view c ≡ all_of (cond_view x) (map cond_view xs)
  all_shown is = ap cond_view is ∙ all_view first rest ∙ ap (λ z. all_of (cond_view z) (map cond_view rest.items)) (sym one)
      ∙ ap (λ (zs : List declared_cond.Cond). all_of (cond_view x) (map cond_view zs)) (sym two)

  pub any_shown : c ≡ Any first rest → cond_view c ≡ any_of (cond_view x) (map cond_view xs)
  any_shown is = ap cond_view is ∙ any_view first rest ∙ ap (λ z. any_of (cond_view z) (map cond_view rest.items)) (sym one)
      ∙ ap (λ (zs : List declared_cond.Cond). any_of (cond_view x) (map cond_view zs)) (sym two)

-- what is handed on as both sides of this condition, or as the one side
pub sides_as : {V H E : Type 0} (m : Abstraction V H) (base : ℕ) (R : handed.Result (ConditionSplit V) E) (from : Kept V) (c d : Cond) → d ≡ c
    → IfOk R (λ s. SplitsBy m base true c from s) → IfOk R (λ s. SplitsBy m base true d from s)
sides_as m base R from c d same h = subst (λ (e : Cond). IfOk R (λ s. SplitsBy m base true e from s)) (sym same) h

pub leaves_as : {V H E : Type 0} (m : Abstraction V H) (R : handed.Result Exactness E) (v : V) (before : Exactness) (w : V) (p p' : Moves)
    → p' ≡ p → IfOk R (λ e. Takes (lossy_operations m) p v before w e) → IfOk R (λ e. Takes (lossy_operations m) p' v before w e)
leaves_as m R v before w p p' is h = subst (λ (x : Moves). IfOk R (λ e. Takes (lossy_operations m) x v before w e)) (sym is) h

module _ {V H : Type 0} (m : Abstraction V H) (base : ℕ) where
  -- the first leaves this, and the others that
  pub then_done : (p q : Moves) (from one to : Kept V) → TakesTo m p from one → TakesTo m q one to → TakesTo m (first_then p q) from to
  then_done p q from one to first rest =
      (then_takes (lossy_operations m) from.value from.exactness to.value to.exactness p q).0 (one.value, one.exactness, first, rest)

  -- the one side alone: the first is as wanted, or the others are if it isn't
  pub either_step : (wanted : Bool) (c : Cond) (others : Moves) (from on off right joined : Kept V) (n : ℕ) → TakesTo m (guard n base wanted c) from on
      → TakesTo m (guard n base (not wanted) c) from off → TakesTo m others off right → AreJoinedTo m on right joined
      → TakesTo m (join_of (guard n base wanted c) (first_then (guard n base (not wanted) c) others)) from joined
  either_step wanted c others from on off right joined n first opposed rest join =
      let behind = first_then (guard n base (not wanted) c) others in
      (join_takes (lossy_operations m) from.value from.exactness joined.value joined.exactness (guard n base wanted c) behind).0 (
        on.value,
        right.value,
        on.exactness,
        right.exactness,
        join.is_joined.0,
        first,
        then_done (guard n base (not wanted) c) others from off right opposed rest,
        join.is_joined.1,
        join.is_joined.2,
      )

  -- the others of a chain go on from where the first one is true
  pub chain_all : (c d : Cond) (ds : List Cond) (from : Kept V) (one others : ConditionSplit V) (joined : Kept V) → SplitsBy m base true c from one
      → SplitsBy m base true (all_of d ds) one.on others → AreJoinedTo m one.off others.off joined
      → SplitsBy m base true (all_of c (d ∷ ds)) from (record { on = others.on; off = joined })
  chain_all c d ds from one others joined first rest join =
      let n = m.dims from.value in
      let on = subst (λ (k : ℕ). TakesTo m (guard k base true (all_of d ds)) one.on others.on) first.on_dims rest.on in
      let off = subst (λ (k : ℕ). TakesTo m (guard k base false (all_of d ds)) one.on others.off) first.on_dims rest.off in
      record {
        on = then_done (guard n base true c) (guard n base true (all_of d ds)) from one.on others.on first.on on;
        off = either_step false c (guard n base false (all_of d ds)) from one.off one.on others.off joined n first.off first.on off join;
        on_dims = rest.on_dims ∙ first.on_dims;
        off_dims = join.same_dims ∙ first.off_dims;
      }

  -- or from where it is false
  pub chain_any : (c d : Cond) (ds : List Cond) (from : Kept V) (one others : ConditionSplit V) (joined : Kept V) → SplitsBy m base true c from one
      → SplitsBy m base true (any_of d ds) one.off others → AreJoinedTo m one.on others.on joined
      → SplitsBy m base true (any_of c (d ∷ ds)) from (record { on = joined; off = others.off })
  chain_any c d ds from one others joined first rest join =
      let n = m.dims from.value in
      let on = subst (λ (k : ℕ). TakesTo m (guard k base true (any_of d ds)) one.off others.on) first.off_dims rest.on in
      let off = subst (λ (k : ℕ). TakesTo m (guard k base false (any_of d ds)) one.off others.off) first.off_dims rest.off in
      record {
        on = either_step true c (guard n base true (any_of d ds)) from one.on one.off others.on joined n first.on first.off on join;
        off = then_done (guard n base false c) (guard n base false (any_of d ds)) from one.off others.off first.off off;
        on_dims = join.same_dims ∙ first.on_dims;
        off_dims = rest.off_dims ∙ first.off_dims;
      }
