-- A tight octagon is the least with its stores, and the join of two is the least with the stores of both.
use Rattle.std.proofs.Common.{◌≡◌, ℕ, List, ℤ, Option, None, Some, Bool, true, false, ◌↔◌, IsTrue, refl, sym, subst}
use Rattle.std.specs.Prelude.{not, is_some}
use Rattle.lra_domain.specs.Actions.{Within}
use Rattle.lra_dbm.specs.{Cells.Cells, Cells.entries, Cells.DbmContent as Matrix, Pointwise.greater_cells}
use Rattle.lra_dbm.proofs.{Closures.tight_has, Closures.tight_within, PointwiseLemmas.greater_matrix, PointwiseLemmas.entries_within, PointwiseLemmas.joins_least}
use Rattle.lra_octagon.specs.Content.{OctagonContent, content, matrix_view, CellsFit, has_store, MatrixWithin, OctagonGamma}
use Rattle.lra_octagon.specs.{Heads.joined_cells, Least.IsTightOrNone, Least.IsTightOctagon, Least.LeastOctagon}

one_least : (n : ℕ) (a c : Option Cells) → CellsFit n a → CellsFit n c → IsTightOrNone n a → ((s : List ℤ) → has_store n a s → has_store n c s) → MatrixWithin a c
one_least n None c f g t has = tt
one_least n (Some cs) None f g t has = let r = tight_has n cs f.is t in absurd (has r.0 r.1)
one_least n (Some cs) (Some es) f g t has = tight_within n cs es f.is t g.is.full has

joined_least : (n : ℕ) (a b c : Option Cells) → CellsFit n a → CellsFit n b → CellsFit n c → IsTightOrNone n a → IsTightOrNone n b
    → ((s : List ℤ) → has_store n a s → has_store n c s) → ((s : List ℤ) → has_store n b s → has_store n c s) → MatrixWithin (joined_cells a b) c
joined_least n None b c f g h t u one two = one_least n b c g h u two
joined_least n (Some cs) None c f g h t u one two = one_least n (Some cs) c f h t one
joined_least n (Some cs) (Some ds) None f g h t u one two = let r = tight_has n cs f.is t in absurd (one r.0 r.1)
joined_least n (Some cs) (Some ds) (Some es) f g h t u one two =
    entries_within n (greater_cells cs ds) es (greater_matrix n cs ds f.is g.is).full h.is.full (λ i k p q. (joins_least n cs ds (greater_cells cs ds) refl).least t u (entries n es) one two i k p q)

at_dims : (n : ℕ) (a b : Option Cells) (c : OctagonContent) → c.dims ≡ n → ((s : List ℤ) → has_store n a s → OctagonGamma c s) → (s : List ℤ) → has_store n a s → has_store n c.cells s
at_dims n a b c e has s h = subst (λ (k : ℕ). has_store k c.cells s) e (has s h)

pub least_octagon : (n : ℕ) (a b : Option Cells) → CellsFit n a → CellsFit n b → LeastOctagon (content n a) (content n b) (content n (joined_cells a b))
least_octagon n a b f g t u c e h one two = (
  sym e,
  joined_least n a b c.cells f g (subst (λ (k : ℕ). CellsFit k c.cells) e h) t u (at_dims n a b c e one) (at_dims n b a c e two),
)

-- what doesn't lie in the other has a store beyond it
pub not_within : (n : ℕ) (a b : Option Cells) → CellsFit n a → CellsFit n b → ¬ MatrixWithin a b → IsTightOctagon (content n a) → ¬ Within (OctagonGamma (content n a)) (OctagonGamma (content n b))
not_within n a b f g w t has = w (one_least n a b f g t has)

-- without a store it is empty
pub no_store : (n : ℕ) (o : Option Matrix) (r : Bool) → is_some o ≡ not r → CellsFit n (matrix_view o) → IsTightOctagon (content n (matrix_view o))
    → (IsTrue r ↔ ((s : List ℤ) → ¬ OctagonGamma (content n (matrix_view o)) s))
no_store n None true e f t = (λ h s k. k, λ h. refl)
no_store n None false e f t = absurd (let no : false ≡ true = e in cc)
no_store n (Some m) true e f t = absurd (let no : true ≡ false = e in cc)
no_store n (Some m) false e f t = (λ h. cc, λ h. let q = tight_has n m.cells f.is t in absurd (h q.0 q.1))
