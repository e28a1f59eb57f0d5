-- The orders of rows are total orders.
use Rattle.std.proofs.Common.{◌≡◌, sym, ◌∙◌, ap}
use Rattle.std.specs.Cmp.{IsTotalOrder, on_total, back_total, then_total, int_cmp_total, nat_cmp_total}
use Rattle.std.specs.{Cmp.Lexicographic.lists_total, Ordering.ordering_reverse, declared.cmp.Ordering.Ordering, declared.cmp.Ordering.TheVariants.Less}
use Rattle.lra_linear_spec.specs.{Echelon.pivot, RowOrder.constant_last, RowOrder.row_cmp, RowOrder.inequality_cmp}

-- rows
pub row_cmp_total : IsTotalOrder row_cmp
row_cmp_total = on_total constant_last (lists_total int_cmp_total)

-- inequalities
pub inequality_cmp_total : IsTotalOrder inequality_cmp
inequality_cmp_total = then_total (on_total pivot nat_cmp_total) (back_total row_cmp_total)

-- of two elements not each comes before the other
pub never_both : {A : Type 0} (cmp : A → A → Ordering) → IsTotalOrder cmp → (x y : A) → cmp x y ≡ Less → cmp y x ≡ Less → ⊥
never_both cmp total x y h k = let e : Less ≡ ordering_reverse Less = sym h ∙ total.antisymm x y ∙ ap ordering_reverse k in cc
