-- The laws of sets of parts, from those of their parts.
use Rattle.std.proofs.Common.{◌≡◌, ◌≢◌, ℕ, ◌≤◌, ℤ, Option, None, Some, ◌⊎◌, List, [], ◌∷◌, ◌++◌, length, refl, ap, sym}
use Rattle.std.proofs.Common.{subst, ◌∙◌, inl, inr, arith, length-append}
use Rattle.std.proofs.lemmas.Int.{ints, clamps}
use Rattle.std.specs.Prelude.{flat_map}
use Rattle.lra_powerset.specs.Crates.lra_linear_forms.Form.{Form as Linear, form_value}
use Rattle.lra_powerset.specs.Crates.{lra_linear_spec.declared.ConKind.ConKind, lra_systems.LinearSystems.LinearSystem}
use Rattle.lra_domain.specs.Actions.{Action, Leads, Within, dims_after}
use Rattle.lra_domain.specs.Bounds.{IsLowerBound, IsBetween, IsUpperBound, greater, lesser_low}
use Rattle.lra_domain.specs.declared.Mode.TheVariants.{Join, Widen, Limited, Tightest}
use Rattle.lra_domain.specs.{Abstraction.Abstraction, Laws.Laws, Laws.BaseLaws, declared.Mode.Mode}
use Rattle.lra_powerset.specs.Content.{SetContent, HeadForm, many, one, whole, SetHead, PartFits, nonempty_parts}
use Rattle.lra_powerset.specs.Heads.{HeadFormGamma, SetHeadGamma, FormStarts, FormStays, FormValued, FormGivenUp}
use Rattle.lra_powerset.specs.Heads.{FormCovered, HeadCovered}
use Rattle.lra_powerset.specs.ListLemmas.{each_map, some_map, some_with_each}
use Rattle.lra_powerset.specs.Values.{IsKept, IsTopPart, PartsBounded, PartsIncluded, WellFormedSet, SetGamma, SetKeeps}
use Rattle.lra_powerset.specs.{Abstraction.set_abstraction, Content.with_nonempty, Forms.HeadFormFits, Forms.HeadFits}
use Rattle.lra_powerset.specs.{Lists.EachPart, Lists.PartByPart, Lists.SomePart, Values.SetTop, Values.SetBottom}

-- parts, by their stores --------------------------------------------------------------------------

-- parts that lie in others have no store beyond theirs
pub parts_within : {V H : Type 0} (m : Abstraction V H) → Laws m → (ps qs : List V) → EachPart m.well_formed ps
    → EachPart m.well_formed qs → PartsIncluded m.leq ps qs
    → (s : List ℤ) → SomePart (λ p. m.gamma p s) ps → SomePart (λ q. m.gamma q s) qs
parts_within m l [] qs f g c s h = absurd h
parts_within m l (p ∷ ps) qs f g c s (inl h) = some_with_each m.well_formed (m.leq p) (λ q. m.gamma q s)
    (λ q fine d. l.leq_stores p q f.0 fine d s h) qs g c.0
parts_within m l (p ∷ ps) qs f g c s (inr h) = parts_within m l ps qs f.1 g c.1 s h

-- parts that fit are formed
pub fits_formed : {V H : Type 0} (m : Abstraction V H) (n : ℕ) (ps : List V) → EachPart (PartFits m n) ps
    → EachPart m.well_formed ps
fits_formed m n ps f = each_map (PartFits m n) m.well_formed (λ p fit. fit.formed) ps f

-- inclusion is covering
pub inside_covers : {V H : Type 0} (m : Abstraction V H) → BaseLaws m → (ps qs : List V) →
    PartsIncluded m.included ps qs
    → PartsIncluded m.leq ps qs
inside_covers m pl ps qs h = each_map (λ p. SomePart (m.included p) qs) (λ p. SomePart (m.leq p) qs)
    (λ p. some_map (m.included p) (m.leq p) (λ q i. (pl.included_leq p q).0 i) qs) ps h

pub nil_front : {X : Type 0} (xs ys : List X) → xs ++ ys ≡ [] → (xs ≡ []) × (ys ≡ [])
nil_front [] ys e = (refl, e)
nil_front (x ∷ xs) ys e = let wrong : ⊥ = cc in absurd wrong

-- a list of parts that fit has rows, unless it has no part
no_part : {V H : Type 0} (m : Abstraction V H) (n : ℕ) (ps : List V) → EachPart (PartFits m n) ps →
    flat_map m.parts ps ≡ []
    → ps ≡ []
no_part m n [] f e = refl
no_part m n (p ∷ ps) f e = absurd (f.0.full (nil_front (m.parts p) (flat_map m.parts ps) e).0)

partless_parts : {V H : Type 0} (m : Abstraction V H) (n : ℕ) (ps : List V) → EachPart (PartFits m n) ps
    → flat_map m.parts ps ≡ [] → (s : List ℤ) → ¬ SomePart (λ p. m.gamma p s) ps
partless_parts {V} m n ps f e s h = subst (λ (xs : List V). SomePart (λ p. m.gamma p s) xs) (no_part m n ps f e) h

few_parts : {V H : Type 0} (m : Abstraction V H) → BaseLaws m → (ps : List V) → length (flat_map m.parts ps) ≤ length ps
few_parts m pl [] = omega arith
few_parts m pl (p ∷ ps) =
    omega (arith, pl.one_part p, few_parts m pl ps, length-append (m.parts p) (flat_map m.parts ps))

-- a part with all stores isn't empty
pub whole_is_filled : {V H : Type 0} (m : Abstraction V H) → BaseLaws m → (n : ℕ) (p : V) → IsTopPart m n p →
    m.parts p ≢ []
whole_is_filled m pl n p w = pl.universal_filled n w.0 p w.1

pub with_filled_rows : {V R : Type 0} (rows : List R) (p : V) (qs : List V) → rows ≢ [] →
    with_nonempty rows p qs ≡ p ∷ qs
with_filled_rows [] p qs n = absurd (n refl)
with_filled_rows (r ∷ rows) p qs n = refl

-- parts that aren't empty are formed if all are; each store of one of these is one of them
pub filled_formed : {V H : Type 0} (m : Abstraction V H) (ps : List V) → EachPart m.well_formed ps
    → EachPart m.well_formed (nonempty_parts m ps)
filled_formed m [] f = tt
filled_formed {V} {H} m (p ∷ ps) f = by_rows (m.parts p) (filled_formed m ps f.1)
  where
    by_rows : (rows : List (LinearSystem ConKind)) → EachPart m.well_formed (nonempty_parts m ps)
        → EachPart m.well_formed (with_nonempty rows p (nonempty_parts m ps))
    by_rows [] rest = rest
    by_rows (r ∷ rows) rest = (f.0, rest)

pub filled_has : {V H : Type 0} (m : Abstraction V H) → Laws m → (ps : List V) → EachPart m.well_formed ps →
    (s : List ℤ)
    → SomePart (λ p. m.gamma p s) ps → SomePart (λ p. m.gamma p s) (nonempty_parts m ps)
filled_has m l [] f s h = absurd h
filled_has {V} {H} m l (p ∷ ps) f s (inl h) = by_rows (m.parts p) refl
  where
    by_rows : (rows : List (LinearSystem ConKind)) → m.parts p ≡ rows
        → SomePart (λ q. m.gamma q s) (with_nonempty rows p (nonempty_parts m ps))
    by_rows [] e = absurd (l.partless p f.0 e s h)
    by_rows (r ∷ rows) e = inl h
filled_has {V} {H} m l (p ∷ ps) f s (inr h) = by_rows (m.parts p) (filled_has m l ps f.1 s h)
  where
    by_rows : (rows : List (LinearSystem ConKind)) → SomePart (λ q. m.gamma q s) (nonempty_parts m ps)
        → SomePart (λ q. m.gamma q s) (with_nonempty rows p (nonempty_parts m ps))
    by_rows [] rest = rest
    by_rows (r ∷ rows) rest = inr rest

-- changes, by their stores ------------------------------------------------------------------------

kept_each : {V H : Type 0} (m : Abstraction V H) (step : Action) (ps qs : List V) → PartByPart (IsKept m step) ps qs
    → EachPart m.well_formed qs
kept_each m step [] [] k = tt
kept_each m step [] (q ∷ qs) k = absurd k
kept_each m step (p ∷ ps) [] k = absurd k
kept_each m step (p ∷ ps) (q ∷ qs) k = (k.0.formed, kept_each m step ps qs k.1)

-- a store to which the action leads from one of the parts is one of what they became, and has as many numbers
kept_some : {V H : Type 0} (m : Abstraction V H) → Laws m → (step : Action) (n : ℕ) (ps qs : List V)
    → EachPart (PartFits m n) ps
    → PartByPart (IsKept m step) ps qs → (s t : List ℤ) → SomePart (λ p. m.gamma p s) ps → Leads step s t
    → SomePart (λ q. m.gamma q t) qs × (length t ≡ dims_after step n)
kept_some m l step n [] qs f k s t h lead = absurd h
kept_some m l step n (p ∷ ps) [] f k s t h lead = absurd k
kept_some m l step n (p ∷ ps) (q ∷ qs) f k s t (inl h) lead =
    let has = l.kept_stores step p q f.0.formed k.0.formed k.0.keeps s t h lead in
    (inl has, l.sized q t k.0.formed has ∙ k.0.dims ∙ ap (dims_after step) f.0.dims)
kept_some m l step n (p ∷ ps) (q ∷ qs) f k s t (inr h) lead =
    let more = kept_some m l step n ps qs f.1 k.1 s t h lead in (inr more.0, more.1)

pub set_kept : {V H : Type 0} (m : Abstraction V H) → Laws m → (step : Action) (old new : SetContent V) →
    WellFormedSet m old
    → WellFormedSet m new → SetKeeps m step old new → (s t : List ℤ) → SetGamma m old s → Leads step s t →
    SetGamma m new t
set_kept m l step old new f g k s t own lead =
    let each = kept_each m step old.parts k.changed k.kept in
    let some = kept_some m l step old.dims old.parts k.changed f.0 k.kept s t own.1 lead in (
      some.1 ∙ sym k.dims,
      parts_within m l (nonempty_parts m k.changed) new.parts (filled_formed m k.changed each)
          (fits_formed m new.dims new.parts g.0)
          k.covered t (filled_has m l k.changed each t some.0),
    )

-- bounds ------------------------------------------------------------------------------------------

above_lesser : (j i : Option ℤ) (z : ℤ) → IsLowerBound j z ⊎ IsLowerBound i z → IsLowerBound (lesser_low j i) z
above_lesser None i z h = tt
above_lesser (Some a) None z h = tt
above_lesser (Some a) (Some b) z (inl h) = omega (arith, ints, clamps, h)
above_lesser (Some a) (Some b) z (inr h) = omega (arith, ints, clamps, h)

under_greater : (k g : Option ℤ) (z : ℤ) → IsUpperBound k z ⊎ IsUpperBound g z → IsUpperBound (greater k g) z
under_greater None g z h = tt
under_greater (Some a) None z h = tt
under_greater (Some a) (Some b) z (inl h) = omega (arith, ints, clamps, h)
under_greater (Some a) (Some b) z (inr h) = omega (arith, ints, clamps, h)

between_both : (j i k g l h : Option ℤ) (z : ℤ) → l ≡ lesser_low j i → h ≡ greater k g
    → IsLowerBound j z ⊎ IsLowerBound i z → IsUpperBound k z ⊎ IsUpperBound g z → IsBetween l h z
between_both j i k g l h z low high above under = (
  subst (λ (x : Option ℤ). IsLowerBound x z) (sym low) (above_lesser j i z above),
  subst (λ (x : Option ℤ). IsUpperBound x z) (sym high) (under_greater k g z under),
)

parts_between : {V H : Type 0} (m : Abstraction V H) → Laws m → (n : ℕ) (ps : List V) → EachPart (PartFits m n) ps
    → (f : Linear)
    → length f.coefficients ≡ n → (l h : Option ℤ) → PartsBounded m ps f l h → (s : List ℤ)
    → SomePart (λ p. m.gamma p s) ps
    → IsBetween l h (form_value f s)
parts_between m law n [] fit f wide l h is s own = absurd own
parts_between m law n (p ∷ []) fit f wide l h is s (inl own) =
    law.bounded_stores p f l h s fit.0.formed (wide ∙ sym fit.0.dims) is own
parts_between m law n (p ∷ []) fit f wide l h is s (inr own) = absurd own
parts_between m law n (p ∷ q ∷ ps) fit f wide l h told s (inl own) =
    let b = law.bounded_stores p f told.0 told.1 s fit.0.formed (wide ∙ sym fit.0.dims) told.4 own in
    between_both told.0 told.2 told.1 told.3 l h (form_value f s) told.6 told.7 (inl b.0) (inl b.1)
parts_between m law n (p ∷ q ∷ ps) fit f wide l h told s (inr own) =
    let b = parts_between m law n (q ∷ ps) fit.1 f wide told.2 told.3 told.5 s own in
    between_both told.0 told.2 told.1 told.3 l h (form_value f s) told.6 told.7 (inr b.0) (inr b.1)

parts_one_bounded : {V H : Type 0} (m : Abstraction V H) → Laws m → (ps : List V) → EachPart m.well_formed ps →
    (f : Linear)
    → (l h j k : Option ℤ) → PartsBounded m ps f l h → PartsBounded m ps f j k → (l ≡ j) × (h ≡ k)
parts_one_bounded m law [] fine f l h j k a b = (a.0 ∙ sym b.0, a.1 ∙ sym b.1)
parts_one_bounded m law (p ∷ []) fine f l h j k a b = law.one_bounded p f l h j k fine.0 a b
parts_one_bounded m law (p ∷ q ∷ ps) fine f l h j k a b =
    let first = law.one_bounded p f a.0 a.1 b.0 b.1 fine.0 a.4 b.4 in
    let rest = parts_one_bounded m law (q ∷ ps) fine.1 f a.2 a.3 b.2 b.3 a.5 b.5 in (
      a.6 ∙ ap (λ (x : Option ℤ). lesser_low x a.2) first.0 ∙ ap (lesser_low b.0) rest.0 ∙ sym b.6,
      a.7 ∙ ap (λ (x : Option ℤ). greater x a.3) first.1 ∙ ap (greater b.1) rest.1 ∙ sym b.7,
    )

-- heads, by their stores --------------------------------------------------------------------------

-- what comes after a head is formed
abbrev pub FormFine : {V H : Type 0} → Abstraction V H → HeadForm V H → Type 0
FormFine m (many ps) = EachPart m.well_formed ps
FormFine m (one h) = m.head_well_formed h
FormFine m (whole p) = m.well_formed p

pub form_fine : {V H : Type 0} (m : Abstraction V H) (n cap : ℕ) (f : HeadForm V H) → HeadFormFits m n cap f →
    FormFine m f
form_fine m n cap (many ps) fit = fits_formed m n ps fit.0
form_fine m n cap (one h) fit = fit.2
form_fine m n cap (whole p) fit = fit.1.formed

-- the parts with which a formed head starts are formed
started_fine : {V H : Type 0} (m : Abstraction V H) → BaseLaws m →
    (given : LinearSystem ConKind) (ps : List V) (f : HeadForm V H)
    → FormStarts m given ps f → FormFine m f → EachPart m.well_formed ps
started_fine m pl given [] f e fine = tt
started_fine {V} {H} m pl given (p ∷ []) f (h, st, e) fine =
    (pl.started_formed h p given st (subst (λ (g : HeadForm V H). FormFine m g) e fine), tt)
started_fine {V} {H} m pl given (p ∷ q ∷ ps) f e fine = subst (λ (g : HeadForm V H). FormFine m g) e fine

-- a head that starts with parts has their stores, and no others
pub started_has : {V H : Type 0} (m : Abstraction V H) → Laws m → BaseLaws m →
    (given : LinearSystem ConKind) (ps : List V)
    (f : HeadForm V H) → FormStarts m given ps f → FormFine m f → (s : List ℤ) → SomePart (λ p. m.gamma p s) ps
    → HeadFormGamma m f s
started_has m l pl given [] f e fine s h = absurd h
started_has {V} {H} m l pl given (p ∷ []) f (h, st, e) fine s (inl has) =
    let own : m.head_well_formed h = subst (λ (g : HeadForm V H). FormFine m g) e fine in
    subst (λ (g : HeadForm V H). HeadFormGamma m g s) (sym e)
    (l.stays_stores h p Join own (pl.started_formed h p given st own)
    (pl.stays_started h p given Join st) s has)
started_has m l pl given (p ∷ []) f (h, st, e) fine s (inr none) = absurd none
started_has {V} {H} m l pl given (p ∷ q ∷ ps) f e fine s h = subst (λ (g : HeadForm V H). HeadFormGamma m g s) (sym e) h

pub has_started : {V H : Type 0} (m : Abstraction V H) → BaseLaws m → (given : LinearSystem ConKind) (ps : List V)
    (f : HeadForm V H) → FormStarts m given ps f → (s : List ℤ) → HeadFormGamma m f s → SomePart (λ p. m.gamma p s) ps
has_started {V} {H} m pl given [] f e s h = subst (λ (g : HeadForm V H). HeadFormGamma m g s) e h
has_started {V} {H} m pl given (p ∷ []) f (h, st, e) s own =
    inl (pl.started_stores h p given st s (subst (λ (g : HeadForm V H). HeadFormGamma m g s) e own))
has_started {V} {H} m pl given (p ∷ q ∷ ps) f e s h = subst (λ (g : HeadForm V H). HeadFormGamma m g s) e h

form_within : {V H : Type 0} (m : Abstraction V H) → Laws m → BaseLaws m → (f g : HeadForm V H) → FormFine m f →
    FormFine m g
    → FormCovered m f g → (s : List ℤ) → HeadFormGamma m f s → HeadFormGamma m g s
form_within {V} {H} m l pl f g ff gg (inl (p, e)) s own = subst (λ (k : HeadForm V H). HeadFormGamma m k s) (sym e) tt
form_within {V} {H} m l pl f g ff gg (inr (inl (h, k, e, d, c))) s own =
    subst (λ (i : HeadForm V H). HeadFormGamma m i s) (sym d)
    (l.head_leq_stores h k (subst (λ (i : HeadForm V H). FormFine m i) e ff)
    (subst (λ (i : HeadForm V H). FormFine m i) d gg) c s
    (subst (λ (i : HeadForm V H). HeadFormGamma m i s) e own))
form_within m l pl f g ff gg (inr (inr (ps, qs, a, b, fs, gs, c))) s own =
    started_has m l pl b qs g gs gg s (parts_within m l ps qs (started_fine m pl a ps f fs ff)
    (started_fine m pl b qs g gs gg) c s
    (has_started m pl a ps f fs s own))

head_within : {V H : Type 0} (m : Abstraction V H) → Laws m → BaseLaws m → (a b : SetHead V H) → HeadFits m a →
    HeadFits m b
    → HeadCovered m a b → Within (SetHeadGamma m a) (SetHeadGamma m b)
head_within m l pl a b f g c s own = (
  own.0 ∙ c.0,
  form_within m l pl a.form b.form (form_fine m a.dims a.cap a.form f.form)
      (form_fine m b.dims b.cap b.form g.form) c.1 s own.1,
)

-- the parts that lie in a single part's head
each_stays : {V H : Type 0} (m : Abstraction V H) → Laws m → (h : H) (mode : Mode) (qs : List V) → m.head_well_formed h
    → EachPart m.well_formed qs → EachPart (λ q. m.stays h q mode) qs → (s : List ℤ) → SomePart (λ q. m.gamma q s) qs
    → m.head_gamma h s
each_stays m l h mode [] fine each st s own = absurd own
each_stays m l h mode (q ∷ qs) fine each st s (inl own) = l.stays_stores h q mode fine each.0 st.0 s own
each_stays m l h mode (q ∷ qs) fine each st s (inr own) = each_stays m l h mode qs fine each.1 st.1 s own

form_stays : {V H : Type 0} (m : Abstraction V H) → Laws m → BaseLaws m → (f : HeadForm V H) (qs : List V) (mode : Mode)
    → FormFine m f → EachPart m.well_formed qs → FormStays m f qs mode → (s : List ℤ) → SomePart (λ q. m.gamma q s) qs
    → HeadFormGamma m f s
form_stays m l pl (many ps) qs mode fine each st s own =
    parts_within m l qs ps each fine (inside_covers m pl qs ps st) s own
form_stays m l pl (one h) qs Join fine each (p, v, all) s own = each_stays m l h Join qs fine each
    (each_map (λ q. m.included q p) (λ q. m.stays h q Join)
    (λ q i. pl.stays_covered h q p Join ((pl.included_leq q p).0 i) (pl.stays_value h p Join v)) qs all) s own
form_stays m l pl (one h) qs Widen fine each st s own = each_stays m l h Widen qs fine each st s own
form_stays m l pl (one h) qs Limited fine each st s own = each_stays m l h Limited qs fine each st s own
form_stays m l pl (one h) qs Tightest fine each st s own = each_stays m l h Tightest qs fine each st s own
form_stays m l pl (whole p) qs mode fine each st s own = tt

-- heads that are given up -------------------------------------------------------------------------

given_up_has : {V H : Type 0} (m : Abstraction V H) → Laws m →
    (n : ℕ) (f : HeadForm V H) (mode : Mode) (g : HeadForm V H)
    → FormFine m f → FormFine m g → FormGivenUp m n f mode g → (s : List ℤ) → length s ≡ n → HeadFormGamma m g s
given_up_has {V} {H} m l n f mode g ff gg (inl (p, w, e)) s long =
    subst (λ (k : HeadForm V H). HeadFormGamma m k s) (sym e) tt
given_up_has {V} {H} m l n f mode g ff gg (inr (a, b, e, d, same, u)) s long =
    subst (λ (k : HeadForm V H). HeadFormGamma m k s) (sym d)
    (l.given_up_stores a mode b (subst (λ (k : HeadForm V H). FormFine m k) e ff)
    (subst (λ (k : HeadForm V H). FormFine m k) d gg) u s (long ∙ sym same))

given_up_is_valued : {V H : Type 0} (m : Abstraction V H) → Laws m →
    (n : ℕ) (f : HeadForm V H) (mode : Mode) (g : HeadForm V H)
    → FormFine m f → FormFine m g → FormGivenUp m n f mode g → (ps : List V) × FormValued m g ps
given_up_is_valued {V} {H} m l n f mode g ff gg (inl (p, w, e)) =
    (p ∷ [], subst (λ (k : HeadForm V H). FormValued m k (p ∷ [])) (sym e) refl)
given_up_is_valued {V} {H} m l n f mode g ff gg (inr (a, b, e, d, same, u)) =
    let v = l.given_up_valued a mode b (subst (λ (k : HeadForm V H). FormFine m k) e ff)
    (subst (λ (k : HeadForm V H). FormFine m k) d gg) u in (
      nonempty_parts m (v.0 ∷ []),
      subst (λ (k : HeadForm V H). FormValued m k (nonempty_parts m (v.0 ∷ []))) (sym d) (v.0, v.1, refl),
    )

given_up_is_whole : {V H : Type 0} (m : Abstraction V H) → Laws m → BaseLaws m →
    (n : ℕ) (f : HeadForm V H) (mode : Mode)
    (g : HeadForm V H) (ps : List V) → FormFine m f → FormFine m g → FormGivenUp m n f mode g → FormValued m g ps
    → (p : V) × IsTopPart m n p × (ps ≡ p ∷ [])
given_up_is_whole {V} {H} m l pl n f mode g ps ff gg (inl (p, w, e)) v =
    (p, w, subst (λ (k : HeadForm V H). FormValued m k ps) e v)
given_up_is_whole {V} {H} m l pl n f mode g ps ff gg (inr (a, b, e, d, same, u)) v =
    let value : (p : V) × m.valued b p × (ps ≡ nonempty_parts m (p ∷ [])) =
    subst (λ (k : HeadForm V H). FormValued m k ps) d v in
    let all = l.given_up_value a mode b value.0 (subst (λ (k : HeadForm V H). FormFine m k) e ff)
    (subst (λ (k : HeadForm V H). FormFine m k) d gg) u value.1 in
    let is : IsTopPart m n value.0 = (all.0, subst (λ (k : ℕ). m.top k all.0 value.0) same all.1) in
    (value.0, is, value.2 ∙ with_filled_rows (m.parts value.0) value.0 [] (whole_is_filled m pl n value.0 is))

-- the laws ----------------------------------------------------------------------------------------

void_has : {V H : Type 0} (m : Abstraction V H) (n cap : ℕ) (v : SetContent V) → SetBottom n cap v → (s : List ℤ) →
    ¬ SetGamma m v s
void_has {V} m n cap v e s own = (subst (λ (w : SetContent V). SetGamma m w s) e own).1

whole_has : {V H : Type 0} (m : Abstraction V H) → Laws m → (n cap : ℕ) (v : SetContent V) → WellFormedSet m v
    → SetTop m n cap v → (s : List ℤ) → length s ≡ n → SetGamma m v s
whole_has {V} m l n cap v fine u s long = (
  long ∙ sym u.dims,
  subst (λ (ps : List V). SomePart (λ p. m.gamma p s) ps) (sym u.alone)
      (inl (l.top_stores n u.whole.0 u.part
      (subst (λ (ps : List V). EachPart (PartFits m v.dims) ps) u.alone fine.0).0.formed u.whole.1 s long)),
)

void_capped_by : {V : Type 0} (n cap : ℕ) (v : SetContent V) → SetBottom n cap v →
    (v.cap ≡ cap) × (length v.parts ≤ cap)
void_capped_by {V} n cap v e =
    (ap (λ (w : SetContent V). w.cap) e, subst (λ (w : SetContent V). length w.parts ≤ cap) (sym e) (omega arith))

pub set_laws : {V H : Type 0} (m : Abstraction V H) → Laws m → BaseLaws m → Laws (set_abstraction m)
set_laws {V} {H} m l pl = record {
  sized = λ v s fine own. own.0;
  head_sized = λ h s fine own. own.0;
  top_dims = λ n cap v u. u.dims;
  top_stores = λ n cap v fine u s long. whole_has m l n cap v fine u s long;
  bottom_dims = λ n cap v e. ap (λ (w : SetContent V). w.dims) e;
  bottom_stores = λ n cap v fine e s own. void_has m n cap v e s own;
  capped_parts = λ v c own. let few = few_parts m pl v.parts in let cap = own.1 in omega arith;
  top_capped = λ n cap v some u. (u.cap_is, subst (λ (ps : List V). length ps ≤ cap) (sym u.alone) some);
  bottom_capped = λ n cap v some e. void_capped_by n cap v e;
  partless = λ v fine e s own. partless_parts m v.dims v.parts fine.0 e s own.1;
  bounded_stores = λ v f j k s fine wide is own. parts_between m l v.dims v.parts fine.0 f wide j k is s own.1;
  one_bounded = λ v f a b c d fine is so.
      parts_one_bounded m l v.parts (fits_formed m v.dims v.parts fine.0) f a b c d is so;
  bounded_partless = λ v f j k fine e is.
      subst (λ (ps : List V). PartsBounded m ps f j k) (no_part m v.dims v.parts fine.0 e) is;
  leq_stores = λ a b fine too c s own. (
    own.0 ∙ c.0,
    parts_within m l a.parts b.parts (fits_formed m a.dims a.parts fine.0) (fits_formed m b.dims b.parts too.0) c.1 s
        own.1,
  );
  head_leq_stores = λ a b fine too c. head_within m l pl a b fine too c;
  kept_stores = λ step v w fine too k. set_kept m l step v w fine too k;
  old_stores = λ old next new fine too k. k.0;
  next_stores = λ old next new fine too k. k.1;
  stays_stores = λ h v mode fine too st s own. (
    own.0 ∙ st.0,
    form_stays m l pl h.form v.parts mode (form_fine m h.dims h.cap h.form fine.form)
        (fits_formed m v.dims v.parts too.0)
        st.1 s own.1,
  );
  answers_yes = λ h v mode st. st;
  answers_no = λ h v mode st. st;
  given_up_stores = λ old mode new fine too g s long. (
    long ∙ sym g.dims,
    given_up_has m l old.dims old.form mode new.form (form_fine m old.dims old.cap old.form fine.form)
        (form_fine m new.dims new.cap new.form too.form) g.form s long,
  );
  given_up_valued = λ old mode new fine too g.
      let v = given_up_is_valued m l old.dims old.form mode new.form (form_fine m old.dims old.cap old.form fine.form)
      (form_fine m new.dims new.cap new.form too.form) g.form in (
        record { dims = new.dims; cap = new.cap; parts = v.0 },
        record { dims = refl; cap = refl; form = v.1 },
      );
  given_up_value = λ old mode new v fine too g val.
      let w = given_up_is_whole m l pl old.dims old.form mode new.form v.parts
      (form_fine m old.dims old.cap old.form fine.form) (form_fine m new.dims new.cap new.form too.form) g.form
      val.form in
      (v.cap, record { dims = val.dims ∙ g.dims; cap_is = refl; part = w.0; whole = w.1; alone = w.2 });
}
