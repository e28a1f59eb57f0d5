-- What closing a matrix gives an octagon.
use Rattle.std.specs.Prelude.{◌≡◌, ℕ, ℤ, List, Option}
use Rattle.lra_domain.specs.declared.Exactness.{Exactness}
use Rattle.lra_domain.specs.declared.Exactness.TheVariants.{Exact, Flagged}
use Rattle.lra_dbm.specs.{Cells.Cells, Cells.entries, Closure.IsClosure, Tight.IsStore}
use Rattle.lra_octagon.specs.{Content.CellsFit, Content.has_store, Tables.ClosingPasses, Tables.Forgets, Tables.equated}

-- the stores are kept; an exact result is the closure, a flagged one comes only if a number of closing passes the
-- range
pub record ClosedTo (n : ℕ) (old : Cells) (new : Option Cells) (e : Exactness) : Type 0 where
  pub stores : (s : List ℤ) → IsStore n (entries n old) s → has_store n new s
  pub fit : CellsFit n new
  pub exact : e ≡ Exact → IsClosure n (entries n old) new
  pub flagged : e ≡ Flagged → ClosingPasses n old

-- the entries of x were forgotten, and the two bounds entered that make it v_i + c
pub record Equates (n x i : ℕ) (c : ℤ) (old new : Cells) : Type 0 where
  pub cells : Cells
  pub forgets : Forgets n x old cells
  pub entered : new ≡ equated x i c cells

-- x became v_i + c: its entries were forgotten, the two bounds entered, the matrix closed
abbrev pub EquatedTo : ℕ → ℕ → ℕ → ℤ → Cells → Option Cells → Exactness → Type 0
EquatedTo n x i c old new e = (cells : Cells) × Forgets n x old cells × ClosedTo n (equated x i c cells) new e
