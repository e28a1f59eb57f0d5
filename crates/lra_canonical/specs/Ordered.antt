-- The orders in which rows are shown.
use Rattle.std.specs.{List.Contains, List.Sorted.IsSorted, List.Sorted.IsPermutation, Ordering.bool_cmp}
use Rattle.std.specs.{Ordering.nat_cmp, Ordering.ordering_then, Prelude.◌≡◌, Prelude.◌==◌, Prelude.ℤ, Prelude.List}
use Rattle.std.specs.declared.cmp.Ordering as std_ordering
use Rattle.lra_canonical.specs.Crates.lra_linear_spec.Echelon.{pivot}
use Rattle.lra_canonical.specs.Crates.lra_linear_spec.RowOrder.{row_cmp, inequality_cmp}
use Rattle.lra_canonical.specs.declared.order.Order.{Order}
use Rattle.lra_canonical.specs.declared.order.Order.TheVariants.{Inequalities, Generators, Pivots}

-- by pivot: the columns in the order 1, 2, 3 and on, column 0 last
abbrev pub pivot_cmp : List ℤ → List ℤ → std_ordering.Ordering
pivot_cmp xs ys = ordering_then (bool_cmp (pivot xs == 0) (pivot ys == 0)) (nat_cmp (pivot xs) (pivot ys))

-- inequalities by their first column other than 0 from 1 up, then the greater one first; points and rays by their
-- columns, column 0 last; equalities and lines by their pivots
abbrev pub cmp_by : Order → List ℤ → List ℤ → std_ordering.Ordering
cmp_by Inequalities = inequality_cmp
cmp_by Generators = row_cmp
cmp_by Pivots = pivot_cmp

-- Rows that tie are equal: of inequalities and of generators always, of lines if their pivots differ.
abbrev pub TiesAreEqual : Order → List (List ℤ) → Type 0
TiesAreEqual Inequalities rows = Unit {0}
TiesAreEqual Generators rows = Unit {0}
TiesAreEqual Pivots rows = (x y : List ℤ) → Contains rows x → Contains rows y → pivot x ≡ pivot y → x ≡ y

-- of the lists with these rows, each as often, `sorted` is the only one in order
abbrev pub IsOneOrder : Order → List (List ℤ) → List (List ℤ) → Type 0
IsOneOrder order rows sorted =
    TiesAreEqual order rows → (other : List (List ℤ)) → IsPermutation rows other → IsSorted (cmp_by order) other →
    other ≡ sorted
