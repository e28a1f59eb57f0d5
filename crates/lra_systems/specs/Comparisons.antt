-- Equality and order of lists: the dimensions, then the rows, then the kinds, whose own equality or order is given.
use Rattle.std.specs.Cmp.{IsEquivalence, IsPartialEquivalence, IsTotalOrder, and_equiv, and_per, int_eq_equiv}
use Rattle.std.specs.Cmp.{nat_cmp_total, nat_eq_equiv, on_equiv, on_per, on_total, partial_equiv_from_equiv, then_total}
use Rattle.std.specs.Cmp.Derive.{on_tied, then_tied, tie}
use Rattle.std.specs.Cmp.Lexicographic.{lists_equiv, lists_per, lists_ties, lists_total, pointwise, slice_cmp}
use Rattle.std.specs.Ordering.{eq_by_cmp, eq_of_both, int_eq, nat_cmp, on, then_cmp}
use Rattle.std.specs.{Cmp.unsigned_ties, Prelude.◌≡◌, Prelude.Bool, Prelude.nat_eq, declared.cmp.Ordering.Ordering}
use Rattle.lra_linear_spec.specs.RowOrder.{row_cmp}
use Rattle.lra_linear_spec.proofs.RowOrder.{row_cmp_total}
use Rattle.lra_row.specs.RowTies.{row_eq_by_cmp}
use Rattle.lra_systems.specs.LinearSystems.{LinearSystem}

abbrev pub list_eq : {K : Type 0} → (K → K → Bool) → LinearSystem K → LinearSystem K → Bool
list_eq E = eq_of_both (on (λ s. s.dims) nat_eq)
    (eq_of_both (on (λ s. s.rows) (pointwise (pointwise int_eq))) (on (λ s. s.kinds) (pointwise E)))

abbrev pub list_cmp : {K : Type 0} → (K → K → Ordering) → LinearSystem K → LinearSystem K → Ordering
list_cmp R = then_cmp (on (λ s. s.dims) nat_cmp)
    (then_cmp (on (λ s. s.rows) (slice_cmp row_cmp)) (on (λ s. s.kinds) (slice_cmp R)))

module _ {K : Type 0} {E : K → K → Bool} where
  pub list_eq_per : IsPartialEquivalence E → IsPartialEquivalence (list_eq E)
  list_eq_per per = and_per (on_per (λ s. s.dims) (partial_equiv_from_equiv nat_eq_equiv))
      (and_per (on_per (λ s. s.rows) (partial_equiv_from_equiv (lists_equiv (lists_equiv int_eq_equiv))))
      (on_per (λ s. s.kinds) (lists_per per)))

  pub list_eq_equiv : IsEquivalence E → IsEquivalence (list_eq E)
  list_eq_equiv equiv = and_equiv (on_equiv (λ s. s.dims) nat_eq_equiv)
      (and_equiv (on_equiv (λ s. s.rows) (lists_equiv (lists_equiv int_eq_equiv)))
      (on_equiv (λ s. s.kinds) (lists_equiv equiv)))

  pub list_eq_by_cmp : (R : K → K → Ordering) → ((x y : K) → E x y ≡ eq_by_cmp R x y) →
      (s t : LinearSystem K) → list_eq E s t ≡ eq_by_cmp (list_cmp R) s t
  list_eq_by_cmp R ties = (then_tied (on_tied (λ s. s.dims) (tie nat_cmp unsigned_ties))
      (then_tied (on_tied (λ s. s.rows) (tie (slice_cmp row_cmp) (lists_ties row_cmp row_eq_by_cmp)))
      (on_tied (λ s. s.kinds) (tie (slice_cmp R) (lists_ties R ties))))).ties

pub list_cmp_total : {K : Type 0} {R : K → K → Ordering} → IsTotalOrder R → IsTotalOrder (list_cmp R)
list_cmp_total total = then_total (on_total (λ s. s.dims) nat_cmp_total)
    (then_total (on_total (λ s. s.rows) (lists_total row_cmp_total)) (on_total (λ s. s.kinds) (lists_total total)))
