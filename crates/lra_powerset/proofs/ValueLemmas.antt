-- Lemmas on the values of heads, their ranks and how many parts they have.
use Rattle.std.proofs.Common.{◌≡◌, ℕ, zero, suc, ◌≤◌, ◌<◌, ◌^◌, List, [], ◌∷◌, length, refl, ap, sym, subst, ◌∙◌, inl, arith}
use Rattle.lra_powerset.specs.Crates.{lra_linear_spec.declared.ConKind.ConKind, lra_systems.LinearSystems.LinearSystem}
use Rattle.lra_domain.specs.Abstraction.{Abstraction, Starts, Values}
use Rattle.lra_domain.specs.{Laws.Laws, Laws.BaseLaws, Rank.RankFits, declared.Exactness.Exactness, declared.Exactness.TheVariants.Exact}
use Rattle.lra_powerset.specs.Heads.{HeadFormGamma, FormStarts, FormValued, FormCapped, HeadCapped, counted, form_rank}
use Rattle.lra_powerset.specs.{Abstraction.set_abstraction, Content.SetContent, Content.HeadForm, Content.many, Content.one, Content.whole, Content.SetHead, Content.nonempty_parts, Content.PartFits}
use Rattle.lra_powerset.specs.{Forms.HeadFormFits, Forms.HeadFits, Growth.valued_set, Laws.form_fine, Laws.started_has, Lists.EachPart, Lists.SomePart, Values.PartsIncluded, Values.IsTopPart}
use Rattle.lra_powerset.proofs.{ChangeLemmas.with_filled_each, ChangeLemmas.with_filled_some, ChangeLemmas.with_filled_few, ChangeLemmas.with_filled_inside, CollapseLemmas.covers_itself}

covers_same : {V H : Type 0} (m : Abstraction V H) → BaseLaws m → (ps qs : List V) → ps ≡ qs → PartsIncluded m.leq ps qs
covers_same {V} m pl ps qs e = subst (λ (xs : List V). PartsIncluded m.leq ps xs) e (covers_itself m pl ps)

-- the parts of a value are no more than the cap, and fit
pub record ValueFits {V H : Type 0} (m : Abstraction V H) (n cap : ℕ) (ps : List V) : Type 0 where
  pub fit : EachPart (PartFits m n) ps
  pub few : length ps ≤ cap

-- values ------------------------------------------------------------------------------------------------------------------

pub many_values : {V H : Type 0} (m : Abstraction V H) → BaseLaws m → (h : SetHead V H) (rs ps : List V) → h.form ≡ many rs
    → ps ≡ rs → ValueFits m h.dims h.cap ps → Values (set_abstraction m) h Exact (valued_set h ps)
many_values {V} {H} m pl h rs ps form e fits = record {
  formed = (fits.fit, fits.few);
  stores = λ s own. (
    own.0,
    subst (λ (xs : List V). SomePart (λ p. m.gamma p s) xs) (sym e) (subst (λ (f : HeadForm V H). HeadFormGamma m f s) form own.1),
  );
  covers = λ v val. (
    val.dims,
    covers_same m pl v.parts ps (subst (λ (f : HeadForm V H). FormValued m f v.parts) form val.form ∙ sym e),
  );
  exact = λ x. record {
    dims = refl;
    cap = refl;
    form = subst (λ (f : HeadForm V H). FormValued m f ps) (sym form) e;
  };
  flagged = λ x. let wrong : ⊥ = cc in absurd wrong;
}

one_covers : {V H : Type 0} (m : Abstraction V H) → BaseLaws m → (g : H) (e : Exactness) (p : V) (qs ps : List V)
    → Values m g e p → ps ≡ nonempty_parts m (p ∷ []) → FormValued m (one g) qs → PartsIncluded m.leq qs ps
one_covers {V} m pl g e p qs ps v is (q, valued, d) =
    let covered = v.covers q valued in
    subst (λ (xs : List V). PartsIncluded m.leq xs ps) (sym d)
    (subst (λ (xs : List V). PartsIncluded m.leq (nonempty_parts m (q ∷ [])) xs) (sym is)
    (with_filled_inside m.leq (m.parts q) (m.parts p) q p (pl.partless_leq q p covered) covered))

pub one_values : {V H : Type 0} (m : Abstraction V H) → Laws m → BaseLaws m → (h : SetHead V H) (g : H) (e : Exactness) (p : V)
    (ps : List V) → h.form ≡ one g → Values m g e p → ps ≡ nonempty_parts m (p ∷ []) → ValueFits m h.dims h.cap ps
    → Values (set_abstraction m) h e (valued_set h ps)
one_values {V} {H} m l pl h g e p ps form v is fits = record {
  formed = (fits.fit, fits.few);
  stores = λ s own.
      let has = v.stores s (subst (λ (f : HeadForm V H). HeadFormGamma m f s) form own.1) in (
        own.0,
        subst (λ (xs : List V). SomePart (λ q. m.gamma q s) xs) (sym is)
            (with_filled_some (λ q. m.gamma q s) (m.parts p) p (λ none. l.partless p v.formed none s has) has),
      );
  covers = λ w val. (
    val.dims,
    one_covers m pl g e p w.parts ps v is (subst (λ (f : HeadForm V H). FormValued m f w.parts) form val.form),
  );
  exact = λ x. record {
    dims = refl;
    cap = refl;
    form = subst (λ (f : HeadForm V H). FormValued m f ps) (sym form) (p, v.exact x, is);
  };
  flagged = λ x. strains m h g form (v.flagged x);
}
  where
    strains : {V H : Type 0} (m : Abstraction V H) (h : SetHead V H) (g : H) → h.form ≡ one g → m.value_strains g
        → (set_abstraction m).value_strains h
    strains {V} {H} m h g form s = subst (λ (f : HeadForm V H). (set_abstraction m).value_strains (record {
      dims = h.dims;
      cap = h.cap;
      thresholds = h.thresholds;
      form = f;
    })) (sym form) s

pub whole_values : {V H : Type 0} (m : Abstraction V H) → Laws m → BaseLaws m → (h : SetHead V H) (p q : V) (ps : List V)
    → h.form ≡ whole p → m.well_formed p → IsTopPart m h.dims p → q ≡ p → ps ≡ q ∷ [] → ValueFits m h.dims h.cap ps
    → Values (set_abstraction m) h Exact (valued_set h ps)
whole_values {V} {H} m l pl h p q ps form fine all same is fits =
    let alone : ps ≡ p ∷ [] = is ∙ ap (λ (x : V). x ∷ []) same in record {
      formed = (fits.fit, fits.few);
      stores = λ s own. (
        own.0,
        subst (λ (xs : List V). SomePart (λ x. m.gamma x s) xs) (sym alone) (inl (l.top_stores h.dims all.0 p fine all.1 s own.0)),
      );
      covers = λ v val. (
        val.dims,
        covers_same m pl v.parts ps (subst (λ (f : HeadForm V H). FormValued m f v.parts) form val.form ∙ sym alone),
      );
      exact = λ x. record {
        dims = refl;
        cap = refl;
        form = subst (λ (f : HeadForm V H). FormValued m f ps) (sym form) alone;
      };
      flagged = λ x. let wrong : ⊥ = cc in absurd wrong;
    }

-- parts that fit ----------------------------------------------------------------------------------------------------------

pub many_fits : {V H : Type 0} (m : Abstraction V H) (n cap : ℕ) (f : HeadForm V H) (rs ps : List V) → f ≡ many rs → ps ≡ rs
    → HeadFormFits m n cap f → ValueFits m n cap ps
many_fits {V} {H} m n cap f rs ps form e fits =
    let all = subst (λ (g : HeadForm V H). HeadFormFits m n cap g) form fits in
    subst (λ (xs : List V). ValueFits m n cap xs) (sym e) (record { fit = all.0; few = all.1 })

pub one_fits : {V H : Type 0} (m : Abstraction V H) (n cap : ℕ) (f : HeadForm V H) (g : H) (p : V) (ps : List V) → m.well_formed p → f ≡ one g
    → m.dims p ≡ m.head_dims g → ps ≡ nonempty_parts m (p ∷ []) → 1 ≤ cap → HeadFormFits m n cap f → ValueFits m n cap ps
one_fits {V} {H} m n cap f g p ps fine form dims is some fits =
    let all = subst (λ (x : HeadForm V H). HeadFormFits m n cap x) form fits in
    let few = with_filled_few (m.parts p) p in
    subst (λ (xs : List V). ValueFits m n cap xs) (sym is) (record {
      fit = with_filled_each (PartFits m n) (m.parts p) p (λ full. record { formed = fine; dims = dims ∙ all.0; full = full });
      few = omega (arith, few, some);
    })

pub whole_fit : {V H : Type 0} (m : Abstraction V H) (n cap : ℕ) (f : HeadForm V H) (p q : V) (ps : List V) → f ≡ whole p
    → q ≡ p → ps ≡ q ∷ [] → 1 ≤ cap → HeadFormFits m n cap f → ValueFits m n cap ps
whole_fit {V} {H} m n cap f p q ps form same is some fits =
    let all = subst (λ (x : HeadForm V H). HeadFormFits m n cap x) form fits in
    let alone : ps ≡ p ∷ [] = is ∙ ap (λ (x : V). x ∷ []) same in
    subst (λ (xs : List V). ValueFits m n cap xs) (sym alone) (record { fit = (all.1, tt); few = some })

-- heads that start, ranks and caps ----------------------------------------------------------------------------------------

pub set_starts : {V H : Type 0} (m : Abstraction V H) → Laws m → BaseLaws m → (first : SetContent V) (given : LinearSystem ConKind)
    (h : SetHead V H) → HeadFits m h → h.dims ≡ first.dims → h.cap ≡ first.cap → h.thresholds ≡ given → FormStarts m given first.parts h.form
    → Starts (set_abstraction m) first given h
set_starts m l pl first given h fits dims cap rows starts = record {
  formed = fits;
  stores = λ s own.
      (own.0 ∙ sym dims, started_has m l pl given first.parts h.form starts (form_fine m h.dims h.cap h.form fits.form) s own.1);
  started = record { dims = dims; cap = cap; rows = rows; form = starts };
}

pub head_rank_fits : {V H : Type 0} (m : Abstraction V H) (h : SetHead V H) → HeadFits m h → RankFits (form_rank m h.form)
head_rank_fits m h f = of_form m h.dims h.cap h.form f.few f.form
  where
    of_count : (k : ℕ) → k < 2 ^ 32 → RankFits (counted k)
    of_count zero few = record {
      fits_first = omega arith;
      fits_second = omega arith;
      fits_third = omega arith;
      fits_fourth = omega arith;
    }
    of_count (suc k) few = record {
      fits_first = omega (arith, few);
      fits_second = omega arith;
      fits_third = omega arith;
      fits_fourth = omega arith;
    }

    of_form : {V H : Type 0} (m : Abstraction V H) (n cap : ℕ) (f : HeadForm V H) → cap < 2 ^ 32 → HeadFormFits m n cap f
        → RankFits (form_rank m f)
    of_form m n cap (many ps) few fits = let less = fits.1 in of_count (length ps) (omega (arith, few, less))
    of_form m n cap (one h) few fits = record {
      fits_first = omega arith;
      fits_second = fits.1.fits_second;
      fits_third = fits.1.fits_third;
      fits_fourth = fits.1.fits_fourth;
    }
    of_form m n cap (whole p) few fits = record {
      fits_first = omega arith;
      fits_second = omega arith;
      fits_third = omega arith;
      fits_fourth = omega arith;
    }

form_capped : {V H : Type 0} (m : Abstraction V H) (n cap : ℕ) (f : HeadForm V H) → 1 ≤ cap → HeadFormFits m n cap f → FormCapped f cap
form_capped m n cap (many ps) some fits = fits.1
form_capped m n cap (one h) some fits = some
form_capped m n cap (whole p) some fits = some

-- a head that fits has its cap
pub head_capped : {V H : Type 0} (m : Abstraction V H) (h : SetHead V H) (c : ℕ) → HeadFits m h → h.cap ≡ c → HeadCapped h c
head_capped {V} {H} m h c f e =
    (e, subst (λ (k : ℕ). FormCapped h.form k) e (form_capped m h.dims h.cap h.form f.some f.form))
