-- Lemmas on the steps of the code of heads.
use Rattle.std.proofs.Common.{◌≡◌, ◌≤◌, ◌<◌, ◌^◌, ℕ, List, length, sym, ap, subst, ◌∙◌, arith}
use Rattle.lra_powerset.specs.Crates.{lra_linear_spec.declared.ConKind.ConKind, lra_systems.LinearSystems.LinearSystem}
use Rattle.lra_domain.specs.{Abstraction.Abstraction, Laws.BaseLaws, Rank.RankFits, declared.Exactness.Exactness, declared.Included.Included}
use Rattle.lra_powerset.specs.Values.{AreUndecided, PartsIncluded}
use Rattle.lra_powerset.specs.{Content.HeadForm, Content.one, Content.whole, Forms.HeadFormFits, Forms.HeadFits, Growth.StartsAnew, Heads.FormStarts, Outcomes.AnswersWhether}
use Rattle.lra_powerset.proofs.HeadLemmas.{whole_fits}

-- the head of a head that fits, given up, fits
pub fits_whole : {V H : Type 0} (m : Abstraction V H) → BaseLaws m → (n c : ℕ) (given : LinearSystem ConKind) (f : HeadForm V H) (p : V) (cap : ℕ)
    → HeadFits m (record { dims = n; cap = c; thresholds = given; form = f }) → m.well_formed p → m.top n cap p → m.dims p ≡ n
    → HeadFits m (record { dims = n; cap = c; thresholds = given; form = whole p })
fits_whole m pl n c given f p cap fits fine all dims = record {
  small = fits.small;
  some = fits.some;
  few = fits.few;
  rows = fits.rows;
  form = whole_fits m pl n cap p fine all dims;
}

pub fits_whole_as : {V H : Type 0} (m : Abstraction V H) → BaseLaws m → (n i c : ℕ) (given : LinearSystem ConKind) (f : HeadForm V H) (p : V)
    (cap : ℕ) → HeadFits m (record { dims = n; cap = c; thresholds = given; form = f }) → i ≡ n → m.well_formed p → m.top i cap p → m.dims p ≡ i
    → HeadFits m (record { dims = n; cap = c; thresholds = given; form = whole p })
fits_whole_as m pl n i c given f p cap fits same fine all dims =
    fits_whole m pl n c given f p cap fits fine (subst (λ (k : ℕ). m.top k cap p) same all) (dims ∙ same)

pub fits_one : {V H : Type 0} (m : Abstraction V H) (n c : ℕ) (given : LinearSystem ConKind) (f : HeadForm V H) (h : H)
    → HeadFits m (record { dims = n; cap = c; thresholds = given; form = f }) → m.head_dims h ≡ n → RankFits (m.rank h)
    → m.head_well_formed h → HeadFits m (record { dims = n; cap = c; thresholds = given; form = one h })
fits_one m n c given f h fits dims rank fine =
    record { small = fits.small; some = fits.some; few = fits.few; rows = fits.rows; form = (dims, rank, fine) }

-- facts on lists as the code has them
pub told_lists : {V H : Type 0} (m : Abstraction V H) (qs rs ps zs : List V) (i k : Included) → qs ≡ rs → ps ≡ zs → i ≡ k
    → AnswersWhether (PartsIncluded m.included qs ps) (AreUndecided m qs ps) i
    → AnswersWhether (PartsIncluded m.included rs zs) (AreUndecided m rs zs) k
told_lists {V} m qs rs ps zs i k e d f t = subst
    (λ (x : Included). AnswersWhether (PartsIncluded m.included rs zs) (AreUndecided m rs zs) x) f
    (subst (λ (xs : List V). AnswersWhether (PartsIncluded m.included xs zs) (AreUndecided m xs zs) i) e
    (subst (λ (xs : List V). AnswersWhether (PartsIncluded m.included qs xs) (AreUndecided m qs xs) i) d t))

pub anew_as : {V H : Type 0} (m : Abstraction V H) (given rows : LinearSystem ConKind) (n k c d : ℕ) (ps qs rs : List V) (e : Exactness)
    (f : HeadForm V H) → given ≡ rows → n ≡ k → c ≡ d → qs ≡ rs → StartsAnew m given n c ps qs e f
    → StartsAnew m rows k d ps rs e f
anew_as {V} m given rows n k c d ps qs rs e f rows_is dims_is cap_is parts_is t =
    subst (λ (xs : List V). StartsAnew m rows k d ps xs e f) parts_is (subst (λ (x : ℕ). StartsAnew m rows k x ps qs e f) cap_is
    (subst (λ (x : ℕ). StartsAnew m rows x c ps qs e f) dims_is
    (subst (λ (x : LinearSystem ConKind). StartsAnew m x n c ps qs e f) rows_is t)))

pub starts_as : {V H : Type 0} (m : Abstraction V H) (given : LinearSystem ConKind) (ps qs : List V) (f : HeadForm V H) → ps ≡ qs
    → FormStarts m given ps f → FormStarts m given qs f
starts_as {V} m given ps qs f e t = subst (λ (xs : List V). FormStarts m given xs f) e t

pub form_fits_as : {V H : Type 0} (m : Abstraction V H) (n k c : ℕ) (f : HeadForm V H) → n ≡ k → HeadFormFits m n c f → HeadFormFits m k c f
form_fits_as m n k c f e t = subst (λ (x : ℕ). HeadFormFits m x c f) e t

pub fits_anew : {V H : Type 0} (m : Abstraction V H) (n c : ℕ) (given : LinearSystem ConKind) (f g : HeadForm V H)
    → HeadFits m (record { dims = n; cap = c; thresholds = given; form = f }) → HeadFormFits m given.dims c g
    → HeadFits m (record { dims = n; cap = c; thresholds = given; form = g })
fits_anew m n c given f g fits form = record {
  small = fits.small;
  some = fits.some;
  few = fits.few;
  rows = fits.rows;
  form = form_fits_as m given.dims n c g fits.rows form;
}

-- the head that starts with a set fits
pub fits_starts : {V H : Type 0} (m : Abstraction V H) {n k c d : ℕ} {given rows : LinearSystem ConKind} {ps qs : List V} {f : HeadForm V H}
    → n ≡ k → c ≡ d → rows ≡ given → given.dims ≡ k → qs ≡ ps → k ≤ 2 ^ 30 → 1 ≤ c → c < 2 ^ 32 → length ps ≤ d
    → ((cap : ℕ) → length qs ≤ cap → HeadFormFits m given.dims cap f)
    → HeadFits m (record { dims = n; cap = c; thresholds = rows; form = f })
fits_starts m {n} {k} {c} {d} {given} {rows} {ps} {qs} {f} dims cap rows_is same parts small some few less fits = record {
  small = omega (arith, dims, small);
  some = some;
  few = few;
  rows = ap (λ (x : LinearSystem ConKind). x.dims) rows_is ∙ same ∙ sym dims;
  form = form_fits_as m given.dims n c f (same ∙ sym dims) (fits c (omega (arith, cap, less, ap length parts)));
}
