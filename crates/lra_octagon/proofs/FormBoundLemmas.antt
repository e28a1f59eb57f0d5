-- What is reported about a form by the unary bounds, column by column.
use Rattle.std.proofs.Common.{◌+◌, ℕ, suc, ℤ, List, [], ◌∷◌, length, add-one, None, Some, subst}
use Rattle.std.specs.Prelude.{Option}
use Rattle.lra_dbm.specs.Tight.{Entries}
use Rattle.lra_box.specs.{Ends.HasProduct, Ends.IsEndFrom, Ends.PlusEnd, declared.interval.Side.Side}
use Rattle.lra_box.proofs.EndLemmas.{ends_here, ends_none, ends_on}
use Rattle.lra_octagon.specs.Tables.{interval, intervals_from}

-- a sum to which no column is to come
pub no_column_left : (side : Side) (a : ℤ) (m : Entries) (k : ℕ) → IsEndFrom side a [] (intervals_from m k 0) (Some a)
no_column_left side a m k = ends_here side a (intervals_from m k 0)

-- one column more
pub column_more : (side : Side) (a b c : ℤ) (m : Entries) (k : ℕ) (later : List ℤ) (o : Option ℤ)
    → HasProduct side a c (interval m k) b → IsEndFrom side b later (intervals_from m (k + 1) (length later)) o
    → IsEndFrom side a (c ∷ later) (intervals_from m k (length (c ∷ later))) o
column_more side a b c m k later o product told =
    ends_on side a b c (interval m k) later (intervals_from m (suc k) (length later)) o product
    (subst (λ (j : ℕ). IsEndFrom side b later (intervals_from m j (length later)) o) (add-one k) told)

-- a column at which the sum has no end
pub no_end_here : (side : Side) (a c : ℤ) (m : Entries) (k : ℕ) (later : List ℤ) → PlusEnd side a c (interval m k) None
    → IsEndFrom side a (c ∷ later) (intervals_from m k (length (c ∷ later))) None
no_end_here side a c m k later none =
    ends_none side a c (interval m k) later (intervals_from m (suc k) (length later)) none
