-- What changes give, as the domain's clauses ask for it.
use Rattle.std.proofs.Common.{◌≡◌, ◌≢◌, ℕ, ◌+◌, ◌-◌, ◌^◌, ◌≤◌, ◌<◌, inr, ℤ, pos, List, Option, None, Some, refl, sym, ◌∙◌, subst, arith}
use Rattle.lra_domain.specs.declared.Mode.TheVariants.{Join, Widen, Limited, Tightest}
use Rattle.lra_domain.specs.{Abstraction.TransfersTo, Abstraction.Joins, Abstraction.Grew, Abstraction.Values, Actions.forget, Actions.embed, Actions.remove_last, Bounds.greater, Rank.RankBelow}
use Rattle.lra_domain.specs.{Rank.RankFits, declared.Exactness.Exactness, declared.Exactness.TheVariants.Exact, declared.Exactness.TheVariants.Flagged, declared.Mode.Mode}
use Rattle.lra_dbm.specs.{Cells.Cells, Cells.size, Cells.entries, Cells.forgotten, Cells.first_entries, Cells.IsMatrix, Cells.DbmContent as Matrix, Closure.IsClosure}
use Rattle.lra_dbm.proofs.PointwiseLemmas.{within_refl, left_within, right_within, old_within_stable, new_within_stable, greater_matrix, entries_greater, stable_matrix, stable_diagonal, stable_falls}
use Rattle.lra_dbm.proofs.{Closures.tight_has, Closures.tight_within, PointwiseLemmas.finite_at_most}
use Rattle.lra_octagon.specs.Content.{OctagonContent, content, matrix_view, IsOctagon, CellsFit, has_store, MatrixWithin, OctagonWithin}
use Rattle.lra_octagon.specs.Heads.{joined_cells, widened_cells, grown_cells, octagon_rank_number, octagon_rank}
use Rattle.lra_octagon.specs.{Abstraction.octagon_abstraction, Closed.ClosedTo, Laws.octagon_wider, Laws.octagon_same_within, Single.one_becomes, Tables.Becomes}
use Rattle.lra_octagon.proofs.{FitLemmas.bounds_self, StoreLemmas.becomes_forgotten, StoreLemmas.becomes_embedded, StoreLemmas.becomes_first}

exact_flagged : {A : Type 0} → Exact ≡ Flagged → A
exact_flagged e = absurd (cc)

pub covers_same : (n : ℕ) (a b : Option Cells) (v : OctagonContent) → v.dims ≡ n → v.cells ≡ b → OctagonWithin v (content n b)
covers_same n a b v e f = (e, subst (λ (o : Option Cells). MatrixWithin v.cells o) f (bounds_self v.cells))

pub meets_forget : (n x : ℕ) (old new : Option Cells) → CellsFit n new → Becomes n (forgotten x) n old new → TransfersTo octagon_abstraction (forget x) (content n old) Exact (content n new)
meets_forget n x old new fit b = record {
  formed = fit;
  keeps = λ s t h k. subst (λ (z : List ℤ). has_store n new z) (sym k.1) (becomes_forgotten n x old new s k.0 b h);
  covers = λ v d. covers_same n v.cells new v d.0 (one_becomes n n (forgotten x) old v.cells new d.1 b);
  exact = λ e. (refl, b);
  flagged = λ e. exact_flagged e;
}

pub meets_embed : (n k : ℕ) (old new : Option Cells) → CellsFit (n + k) new → Becomes (n + k) (λ m. m) n old new → TransfersTo octagon_abstraction (embed k) (content n old) Exact (content (n + k) new)
meets_embed n k old new fit b = record {
  formed = fit;
  keeps = λ s t h l. subst (λ (z : List ℤ). has_store (n + k) new z) (sym l.2) (becomes_embedded n k old new s l.0 l.1 b h);
  covers = λ v d. covers_same (n + k) v.cells new v d.0 (one_becomes (n + k) n (λ m. m) old v.cells new d.1 b);
  exact = λ e. (refl, b);
  flagged = λ e. exact_flagged e;
}

pub meets_remove : (n k : ℕ) (old new : Option Cells) → k ≤ n → CellsFit (n - k) new → Becomes (n - k) (first_entries (n - k)) n old new
    → TransfersTo octagon_abstraction (remove_last k) (content n old) Exact (content (n - k) new)
meets_remove n k old new less fit b = record {
  formed = fit;
  keeps = λ s t h l. subst (λ (z : List ℤ). has_store (n - k) new z) (sym l) (becomes_first n k old new s less b h);
  covers = λ v d. covers_same (n - k) v.cells new v d.0 (one_becomes (n - k) n (first_entries (n - k)) old v.cells new d.1 b);
  exact = λ e. (refl, b);
  flagged = λ e. exact_flagged e;
}

-- ---- joins and heads

left_bounds : (n : ℕ) (a b : Option Cells) → CellsFit n a → CellsFit n b → MatrixWithin a (joined_cells a b)
left_bounds n None b f g = tt
left_bounds n (Some cs) None f g = within_refl cs
left_bounds n (Some cs) (Some ds) f g = left_within cs ds (f.is.full ∙ sym g.is.full)

right_bounds : (n : ℕ) (a b : Option Cells) → CellsFit n a → CellsFit n b → MatrixWithin b (joined_cells a b)
right_bounds n None b f g = bounds_self b
right_bounds n (Some cs) None f g = tt
right_bounds n (Some cs) (Some ds) f g = right_within cs ds (f.is.full ∙ sym g.is.full)

zero_greater : (o p : Option ℤ) → o ≡ Some (pos 0) → p ≡ Some (pos 0) → (greater o p) ≡ Some (pos 0)
zero_greater o p e f = rw (e, f) refl

pub joined_fit : (n : ℕ) (a b : Option Cells) → CellsFit n a → CellsFit n b → CellsFit n (joined_cells a b)
joined_fit n None b f g = g
joined_fit n (Some cs) None f g = f
joined_fit n (Some cs) (Some ds) f g = record {
  is = greater_matrix n cs ds f.is g.is;
  diagonal = λ i. entries_greater n cs ds i i ∙ zero_greater (entries n cs i i) (entries n ds i i) (f.diagonal i) (g.diagonal i);
}

pub joins : (n : ℕ) (a b : Option Cells) → CellsFit n a → CellsFit n b →
    Joins octagon_abstraction (content n a) (content n b) Exact (content n (joined_cells a b))
joins n a b f g = record {
  formed = joined_fit n a b f g;
  left = (refl, left_bounds n a b f g);
  right = (refl, right_bounds n a b f g);
  covers = λ v d. octagon_same_within v (content n (joined_cells a b)) d;
  exact = λ e. refl;
  flagged = λ e. exact_flagged e;
}

pub widened_fit : (n : ℕ) (a b : Option Cells) → CellsFit n a → CellsFit n b → CellsFit n (widened_cells a b)
widened_fit n None b f g = g
widened_fit n (Some cs) None f g = f
widened_fit n (Some cs) (Some ds) f g = record {
  is = stable_matrix n cs ds f.is g.is f.diagonal;
  diagonal = stable_diagonal n cs ds f.is g.is f.diagonal;
}

pub grown_fit : (mode : Mode) (n : ℕ) (a b : Option Cells) → CellsFit n a → CellsFit n b → CellsFit n (grown_cells mode a b)
grown_fit Join n a b f g = joined_fit n a b f g
grown_fit Widen n a b f g = widened_fit n a b f g
grown_fit Limited n a b f g = widened_fit n a b f g
grown_fit Tightest n a b f g = widened_fit n a b f g

old_bounds : (n : ℕ) (a b : Option Cells) → CellsFit n a → CellsFit n b → MatrixWithin a (widened_cells a b)
old_bounds n None b f g = tt
old_bounds n (Some cs) None f g = within_refl cs
old_bounds n (Some cs) (Some ds) f g = old_within_stable cs ds (f.is.full ∙ sym g.is.full)

new_bounds : (n : ℕ) (a b : Option Cells) → CellsFit n a → CellsFit n b → MatrixWithin b (widened_cells a b)
new_bounds n None b f g = bounds_self b
new_bounds n (Some cs) None f g = tt
new_bounds n (Some cs) (Some ds) f g = new_within_stable cs ds (f.is.full ∙ sym g.is.full)

pub grown_old : (mode : Mode) (n : ℕ) (a b : Option Cells) → CellsFit n a → CellsFit n b → MatrixWithin a (grown_cells mode a b)
grown_old Join n a b f g = left_bounds n a b f g
grown_old Widen n a b f g = old_bounds n a b f g
grown_old Limited n a b f g = old_bounds n a b f g
grown_old Tightest n a b f g = old_bounds n a b f g

pub grown_new : (mode : Mode) (n : ℕ) (a b : Option Cells) → CellsFit n a → CellsFit n b → MatrixWithin b (grown_cells mode a b)
grown_new Join n a b f g = right_bounds n a b f g
grown_new Widen n a b f g = new_bounds n a b f g
grown_new Limited n a b f g = new_bounds n a b f g
grown_new Tightest n a b f g = new_bounds n a b f g

-- ---- ranks

pub rank_fits : (n : ℕ) (a : Option Cells) → n ≤ 2 ^ 30 → CellsFit n a → RankFits (octagon_rank (content n a))
rank_fits n a few fit = record {
  fits_first = omega arith;
  fits_second = omega arith;
  fits_third = omega arith;
  fits_fourth = fourth n a few fit;
}
  where
    small : (n : ℕ) → n ≤ 2 ^ 30 → size n + 1 < 2 ^ 62
    small n few = grind arith

    fourth : (n : ℕ) (o : Option Cells) → n ≤ 2 ^ 30 → CellsFit n o → octagon_rank_number n o < 2 ^ 62
    fourth n None few fit = small n few
    fourth n (Some cells) few fit = let most = finite_at_most cells in let full = fit.is.full in let all = small n few in omega arith

wide_falls : (n : ℕ) (a b : Option Cells) → CellsFit n a → CellsFit n b → ¬ MatrixWithin b a →
    octagon_rank_number n (widened_cells a b) < octagon_rank_number n a
wide_falls n None None f g w = absurd (w tt)
wide_falls n None (Some ds) f g w = let most = finite_at_most ds in let full = g.is.full in omega arith
wide_falls n (Some cs) None f g w = absurd (w tt)
wide_falls n (Some cs) (Some ds) f g w = stable_falls cs ds (f.is.full ∙ sym g.is.full) w

pub grown_falls : (mode : Mode) (n : ℕ) (a b : Option Cells) → mode ≢ Join → CellsFit n a → CellsFit n b → ¬ MatrixWithin b a → octagon_rank_number n (grown_cells mode a b) < octagon_rank_number n a
grown_falls Join n a b m f g w = absurd (m refl)
grown_falls Widen n a b m f g w = wide_falls n a b f g w
grown_falls Limited n a b m f g w = wide_falls n a b f g w
grown_falls Tightest n a b m f g w = wide_falls n a b f g w

-- ---- values

below_closed : (n : ℕ) (h : Cells) (a b : Option Cells) (e : Exactness) → IsClosure n (entries n h) a → ClosedTo n h b e → MatrixWithin a b
below_closed n h None b e p q = tt
below_closed n h (Some cs) None e p q = let r = tight_has n cs p.is p.tight in absurd (q.stores r.0 (p.same r.0 r.1))
below_closed n h (Some cs) (Some ds) e p q = tight_within n cs ds p.is p.tight q.fit.is.full (λ s k. q.stores s (p.same s k))

pub values : (n : ℕ) (h : Cells) (a : Option Cells) (e : Exactness) → IsMatrix n h → ClosedTo n h a e → Values octagon_abstraction (content n (Some h)) e (content n a)
values n h a e is closed = record {
  formed = closed.fit;
  stores = λ s k. closed.stores s k;
  covers = λ v d. (d.0, below_closed n h v.cells a e d.1.1 closed);
  exact = λ x. (refl, (is, closed.exact x));
  flagged = closed.flagged;
}

pub no_value : (n : ℕ) → Values octagon_abstraction (content n None) Exact (content n None)
no_value n = record {
  formed = tt;
  stores = λ s k. k;
  covers = λ v d. (d.0, subst (λ (o : Option Cells). MatrixWithin o None) (sym d.1) tt);
  exact = λ x. (refl, refl);
  flagged = λ x. exact_flagged x;
}

pub closed_value : (n : ℕ) (h : Cells) (a : Option Cells) (e : Exactness) → IsOctagon n h → ClosedTo n h a e → Values octagon_abstraction (content n (Some h)) e (content n a)
closed_value n h a e fit closed = values n h a e fit.is closed

-- the same, of a copy of the head's matrix
pub closed_value_of : (n : ℕ) (b : Option Matrix) (m k : Matrix) (a : Option Cells) (e : Exactness) → b ≡ Some m → k ≡ m → CellsFit n (matrix_view b) → ClosedTo n k.cells a e
    → Values octagon_abstraction (content n (matrix_view b)) e (content n a)
closed_value_of n b m k a e is same fit closed =
    subst (λ (o : Option Matrix). Values octagon_abstraction (content n (matrix_view o)) e (content n a)) (sym is)
    (closed_value n m.cells a e (subst (λ (o : Option Matrix). CellsFit n (matrix_view o)) is fit) (subst (λ (z : Matrix). ClosedTo n z.cells a e) same closed))

-- ---- the growth of a head

pub grows : (mode : Mode) (n : ℕ) (h a : Option Cells) (x : Exactness) → x ≢ Flagged → CellsFit n h → CellsFit n a → ¬ MatrixWithin a h
    → Grew octagon_abstraction (content n h) (content n a) mode x (content n (grown_cells mode h a))
grows mode n h a x never f g w = record {
  formed = grown_fit mode n h a f g;
  both = (
    octagon_wider (content n h) (content n (grown_cells mode h a)) (refl, grown_old mode n h a f g),
    octagon_wider (content n a) (content n (grown_cells mode h a)) (refl, grown_new mode n h a f g),
  );
  left = tt;
  covers = λ v d. octagon_same_within v (content n (grown_cells mode h a)) d;
  moved = λ e k. w k.1;
  exact = λ e. refl;
  flagged = λ e. absurd (never e);
}

pub grows_lower : (mode : Mode) (n : ℕ) (h a : Option Cells) → mode ≢ Join → CellsFit n h → CellsFit n a → ¬ MatrixWithin a h
    → RankBelow (octagon_rank (content n (grown_cells mode h a))) (octagon_rank (content n h))
grows_lower mode n h a m f g w = inr (inr (inr (refl, refl, refl, grown_falls mode n h a m f g w)))
