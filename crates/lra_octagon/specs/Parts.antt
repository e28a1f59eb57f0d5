-- The rows that mean an octagon: the unary bounds, and the bounds of sums and differences that these don't imply.
-- Equalities stand first. Rows that begin with +x_a stand before those that begin with -x_a, each with the others in
-- falling order.
use Rattle.std.specs.Prelude.{◌≡◌, ℕ, zero, suc, ◌+◌, ◌*◌, ◌-◌, ◌/◌, ◌==◌, Bool, false, if◌then◌else◌, cond, ℤ, pos}
use Rattle.std.specs.Prelude.{neg_ℤ, ◌+ℤ◌, int_le, List, [], ◌∷◌, ◌++◌, length, replicate, slice_set, Option, None}
use Rattle.std.specs.{Ordering.int_eq, Prelude.Some}
use Rattle.lra_octagon.specs.Crates.lra_systems.LinearSystems.{LinearSystem}
use Rattle.lra_linear_spec.specs.declared.ConKind.{ConKind}
use Rattle.lra_linear_spec.specs.declared.ConKind.TheVariants.{Ge, Eq}
use Rattle.lra_dbm.specs.{Cells.Cells, Cells.entries, Tight.Entries, Tight.opposite, Tight.with_sign}
use Rattle.lra_octagon.specs.Tables.{most}

-- the coefficient of a signed variable
abbrev pub sign_of : ℕ → ℤ
sign_of i = with_sign (i - 2 * (i / 2)) (pos 1)

-- the row q + v_i + v_j in n dimensions, and with j the same as i the row q + v_i
abbrev pub pair_row : ℕ → ℕ → ℕ → ℤ → List ℤ
pair_row n i j q = q ∷ slice_set (slice_set (replicate n (pos 0)) (i / 2) (sign_of i)) (j / 2) (sign_of j)

-- both opposites have an upper bound, and the sum of these is at most q
abbrev pub implied_by : Option ℤ → Option ℤ → ℤ → Bool
implied_by None b q = false
implied_by (Some a) None q = false
implied_by (Some a) (Some b) q = int_le (a +ℤ b) q

-- q, unless the unary bounds imply it
abbrev pub unless_implied : Option ℤ → Option ℤ → Option ℤ → Option ℤ
unless_implied a b None = None
unless_implied a b (Some q) = cond (implied_by a b q) None (Some q)

-- the q of the row `q + v_i + v_j >= 0`, if it is printed
abbrev pub printed : Entries → ℕ → ℕ → Option ℤ
printed m i j = cond (i == j) (most m (opposite i))
    (unless_implied (most m (opposite i)) (most m (opposite j)) (m i (opposite j)))

-- the two rows make an equality: their q are there and opposite
abbrev pub makes_equality : Option ℤ → Option ℤ → Bool
makes_equality None b = false
makes_equality (Some a) None = false
makes_equality (Some a) (Some b) = int_eq a (neg_ℤ b)

abbrev pub is_equality_pair : Entries → ℕ → ℕ → Bool
is_equality_pair m i j = makes_equality (printed m i j) (printed m (opposite i) (opposite j))

abbrev pub row_if_any : ℕ → ℕ → ℕ → Option ℤ → List (List ℤ)
row_if_any n i j None = []
row_if_any n i j (Some q) = pair_row n i j q ∷ []

-- an equality is one row of that kind; other rows are inequalities
abbrev pub kind_row : ConKind → ℕ → Entries → ℕ → ℕ → List (List ℤ)
kind_row Eq n m i j = if is_equality_pair m i j then row_if_any n i j (printed m i j) else []
kind_row Ge n m i j = if is_equality_pair m i j then [] else row_if_any n i j (printed m i j)

abbrev pub RowsAt : Type 0
RowsAt = ℕ → List (List ℤ)

-- +x_b for b from the given one on, k of them; -x_b for the same b, from the last down
abbrev pub rising : RowsAt → ℕ → ℕ → List (List ℤ)
rising f b zero = []
rising f b (suc k) = f (2 * b) ++ rising f (suc b) k

abbrev pub falling : RowsAt → ℕ → ℕ → List (List ℤ)
falling f b zero = []
falling f b (suc k) = f (2 * (b + k) + 1) ++ falling f b k

-- the rows that begin with the signed variable i
abbrev pub rows_with : ℕ → (ℕ → RowsAt) → ℕ → List (List ℤ)
rows_with n f i =
    rising (f i) (suc (i / 2)) (n - suc (i / 2)) ++ f i i ++ falling (f i) (suc (i / 2)) (n - suc (i / 2))

-- the equalities from column a on, k of them; each begins with +x_a
abbrev pub octagon_equalities : ℕ → Entries → ℕ → ℕ → List (List ℤ)
octagon_equalities n m a zero = []
octagon_equalities n m a (suc k) = rows_with n (kind_row Eq n m) (2 * a) ++ octagon_equalities n m (suc a) k

abbrev pub octagon_inequalities : ℕ → Entries → ℕ → ℕ → List (List ℤ)
octagon_inequalities n m a zero = []
octagon_inequalities n m a (suc k) =
    (rows_with n (kind_row Ge n m) (2 * a) ++ rows_with n (kind_row Ge n m) (2 * a + 1))
    ++ octagon_inequalities n m (suc a) k

abbrev pub octagon_system : ℕ → Entries → LinearSystem ConKind
octagon_system n m = record {
  dims = n;
  rows = octagon_equalities n m 0 n ++ octagon_inequalities n m 0 n;
  kinds = replicate (length (octagon_equalities n m 0 n)) Eq ++ replicate (length (octagon_inequalities n m 0 n)) Ge;
}

-- an empty octagon has no part, another has one
abbrev pub octagon_parts : ℕ → Option Cells → List (LinearSystem ConKind)
octagon_parts n None = []
octagon_parts n (Some cells) = octagon_system n (entries n cells) ∷ []

-- rows of one kind were added to a list of rows
pub record Pushed (kind : ConKind) (added : List (List ℤ)) (old new : LinearSystem ConKind) : Type 0 where
  pub dims : new.dims ≡ old.dims
  pub rows : new.rows ≡ old.rows ++ added
  pub kinds : new.kinds ≡ old.kinds ++ replicate (length added) kind
