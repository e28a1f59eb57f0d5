-- The laws of octagons.
use Rattle.std.proofs.Common.{◌≡◌, ◌≢◌, ℕ, ◌≤◌, ℤ, List, [], length, Option, None, Some, refl, ap, sym, subst, ◌∙◌}
use Rattle.std.proofs.Common.{arith}
use Rattle.lra_domain.specs.{Actions.Within, Laws.Laws, Laws.BaseLaws}
use Rattle.lra_octagon.specs.Crates.lra_linear_forms.Form.{Form}
use Rattle.lra_dbm.specs.Cells.{Cells, entries}
use Rattle.lra_dbm.proofs.Closures.{same_closure, closure_below, same_entries_cells, all_are_stores, within_stores}
use Rattle.lra_dbm.proofs.PointwiseLemmas.{within_refl, within_trans, greater_within}
use Rattle.lra_octagon.specs.Content.{OctagonContent, WellFormedOctagon, has_store, OctagonGamma, MatrixWithin}
use Rattle.lra_octagon.specs.FormBoundLaws.{one_octagon_bounded, told_between}
use Rattle.lra_octagon.specs.{Abstraction.octagon_abstraction, Content.OctagonWithin, Content.IsTopMatrix}
use Rattle.lra_octagon.specs.{FormBounds.CellsTell, Heads.joined_cells, Heads.ClosesTo, Parts.octagon_parts}

pub sized_stores : (n : ℕ) (o : Option Cells) (s : List ℤ) → has_store n o s → length s ≡ n
sized_stores n None s h = absurd h
sized_stores n (Some cells) s h = h.width

whole_stores : (n : ℕ) (o : Option Cells) (s : List ℤ) → IsTopMatrix n o → length s ≡ n → has_store n o s
whole_stores n None s w e = absurd w
whole_stores n (Some cells) s w e = all_are_stores n (entries n cells) s w.1 e

partless_has : (n : ℕ) (o : Option Cells) (s : List ℤ) → octagon_parts n o ≡ [] → ¬ has_store n o s
partless_has n None s e h = h
partless_has n (Some cells) s e h = let wrong : ⊥ = cc in wrong

one_octagon_part : (n : ℕ) (o : Option Cells) → length (octagon_parts n o) ≤ 1
one_octagon_part n None = omega arith
one_octagon_part n (Some cells) = omega arith

few_parts : (a : OctagonContent) (c : ℕ) → 1 ≤ c → length (octagon_parts a.dims a.cells) ≤ c
few_parts a c some = let one = one_octagon_part a.dims a.cells in omega arith

has_wider : (n : ℕ) (a b : Option Cells) (s : List ℤ) → MatrixWithin a b → has_store n a s → has_store n b s
has_wider n None b s w h = absurd h
has_wider n (Some cs) None s w h = absurd w
has_wider n (Some cs) (Some ds) s w h = within_stores n cs ds s w h

pub octagon_wider : (a b : OctagonContent) → OctagonWithin a b → Within (OctagonGamma a) (OctagonGamma b)
octagon_wider a b w s h = has_wider b.dims a.cells b.cells s w.1 (subst (λ (n : ℕ). has_store n a.cells s) w.0 h)

void_has : (n : ℕ) (a : OctagonContent) → a ≡ record { dims = n; cells = None } → (s : List ℤ) → ¬ OctagonGamma a s
void_has n a e s h = subst (λ (c : OctagonContent). OctagonGamma c s) e h

partless_told : (n : ℕ) (o : Option Cells) (f : Form) (l h : Option ℤ) → octagon_parts n o ≡ [] → CellsTell n o f l h
    → (l ≡ None) × (h ≡ None)
partless_told n None f l h e told = told
partless_told n (Some cells) f l h e told = let wrong : ⊥ = cc in absurd wrong

pub octagon_laws : Laws octagon_abstraction
octagon_laws = record {
  sized = λ v s fine h. sized_stores v.dims v.cells s h;
  head_sized = λ h s fine own. sized_stores h.dims h.cells s own;
  top_dims = λ n cap v w. w.0;
  top_stores = λ n cap v fine w s l. whole_stores v.dims v.cells s
      (subst (λ (k : ℕ). IsTopMatrix k v.cells) (sym w.0) w.1) (l ∙ sym w.0);
  bottom_dims = λ n cap v e. ap (λ (c : OctagonContent). c.dims) e;
  bottom_stores = λ n cap v fine e s h. void_has n v e s h;
  capped_parts = λ v c some. few_parts v c some;
  top_capped = λ n cap v some e. some;
  bottom_capped = λ n cap v some e. some;
  partless = λ v fine e s h. partless_has v.dims v.cells s e h;
  bounded_stores = λ v f l h s fine wide told has. told_between v.dims v.cells f l h s wide told has;
  one_bounded = λ v f l h j k fine told so. one_octagon_bounded v.dims v.cells f l h j k told so;
  bounded_partless = λ v f l h fine e told. partless_told v.dims v.cells f l h e told;
  leq_stores = λ a b fine too w. octagon_wider a b w;
  head_leq_stores = λ a b fine too w. octagon_wider a b w;
  kept_stores = λ step v w fine too k. k;
  old_stores = λ old next new fine too k. k.0;
  next_stores = λ old next new fine too k. k.1;
  stays_stores = λ h v mode fine too w. octagon_wider v h w;
  answers_yes = λ h v mode w. w;
  answers_no = λ h v mode w. w;
  given_up_stores = λ old mode new fine too e s l. absurd e;
  given_up_valued = λ old mode new fine too e. absurd e;
  given_up_value = λ old mode new v fine too e is. absurd e;
}

bounds_refl : (a : Option Cells) → MatrixWithin a a
bounds_refl None = tt
bounds_refl (Some cells) = within_refl cells

bounds_trans : (a b c : Option Cells) → MatrixWithin a b → MatrixWithin b c → MatrixWithin a c
bounds_trans None b c p q = tt
bounds_trans (Some cs) None c p q = absurd p
bounds_trans (Some cs) (Some ds) None p q = absurd q
bounds_trans (Some cs) (Some ds) (Some es) p q = within_trans cs ds es p q

pub octagon_within_refl : (a : OctagonContent) → OctagonWithin a a
octagon_within_refl a = (refl, bounds_refl a.cells)

pub octagon_within_trans : (a b c : OctagonContent) → OctagonWithin a b → OctagonWithin b c → OctagonWithin a c
octagon_within_trans a b c v w = (v.0 ∙ w.0, bounds_trans a.cells b.cells c.cells v.1 w.1)

pub octagon_same_within : (a b : OctagonContent) → a ≡ b → OctagonWithin a b
octagon_same_within a b e = subst (λ (c : OctagonContent). OctagonWithin a c) e (octagon_within_refl a)

least_bounds : (a b c : Option Cells) → MatrixWithin a c → MatrixWithin b c → MatrixWithin (joined_cells a b) c
least_bounds None b c p q = q
least_bounds (Some cs) None c p q = p
least_bounds (Some cs) (Some ds) None p q = absurd p
least_bounds (Some cs) (Some ds) (Some es) p q = greater_within cs ds es p q

joined_within : (a b j c : OctagonContent)
    → octagon_abstraction.joined a b j → OctagonWithin a c → OctagonWithin b c → OctagonWithin j c
joined_within a b j c e v w =
    subst (λ (d : OctagonContent). OctagonWithin d c) (sym e) (v.0, least_bounds a.cells b.cells c.cells v.1 w.1)

whole_filled : (k n : ℕ) (o : Option Cells) → IsTopMatrix n o → octagon_parts k o ≢ []
whole_filled k n None w e = absurd w
whole_filled k n (Some cells) w e = cc

partless_within : (n k : ℕ) (a b : Option Cells) → MatrixWithin a b → octagon_parts k b ≡ [] → octagon_parts n a ≡ []
partless_within n k None b w e = refl
partless_within n k (Some cs) None w e = absurd w
partless_within n k (Some cs) (Some ds) w e = cc

pub same_content : (v w : OctagonContent) (n : ℕ) → v.dims ≡ n → w.dims ≡ n → v.cells ≡ w.cells → v ≡ w
same_content v w n e f g = rw (e ∙ sym f, g) refl

pub whole_cells : (n : ℕ) (a b : Option Cells) → IsTopMatrix n a → IsTopMatrix n b → a ≡ b
whole_cells n None b p q = absurd p
whole_cells n (Some cs) None p q = absurd q
whole_cells n (Some cs) (Some ds) p q = ap Some
    (same_entries_cells n cs ds p.0.full q.0.full (λ i j h k. p.1 i j ∙ sym (q.1 i j)))

pub one_closed : (n : ℕ) (h a b : Option Cells) → ClosesTo n h a → ClosesTo n h b → a ≡ b
one_closed n None a b p q = p ∙ sym q
one_closed n (Some cells) a b p q = same_closure n (entries n cells) a b p.1 q.1

closed_within : (n : ℕ) (h a : Option Cells) → ClosesTo n h a → MatrixWithin a h
closed_within n None a p = subst (λ (o : Option Cells). MatrixWithin o None) (sym p) tt
closed_within n (Some cells) None p = tt
closed_within n (Some cells) (Some ds) p = closure_below n cells ds p.0.full p.1

pub octagon_base : BaseLaws octagon_abstraction
octagon_base = record {
  one_part = λ v. one_octagon_part v.dims v.cells;
  one_top = λ n c d v w e f. same_content v w n e.0 f.0 (whole_cells n v.cells w.cells e.1 f.1);
  one_joined = λ a b v w e f. e ∙ sym f;
  one_started = λ v given g h e f. e ∙ sym f;
  one_valued = λ h v w e f. same_content v w h.dims e.0 f.0 (one_closed h.dims h.cells v.cells w.cells e.1 f.1);
  leq_reflexive = octagon_within_refl;
  leq_transitive = octagon_within_trans;
  included_leq = λ a b. (λ w. w, λ w. w);
  partless_leq = λ a b w e. partless_within a.dims b.dims a.cells b.cells w.1 e;
  joined_covered = joined_within;
  stays_covered = λ h a b mode v w. octagon_within_trans a b h v w;
  stays_joined = λ h a b j mode e v w. joined_within a b j h e v w;
  stays_value = λ h v mode e. (e.0, closed_within h.dims h.cells v.cells e.1);
  stays_started = λ h v given mode e. octagon_same_within v h (sym e);
  started_formed = λ h v given e fine. subst WellFormedOctagon e fine;
  universal_filled = λ n cap v w. whole_filled v.dims n v.cells w.1;
  started_stores = λ h v given e. octagon_wider h v (octagon_same_within h v e);
  rank_first = λ h. refl;
}
