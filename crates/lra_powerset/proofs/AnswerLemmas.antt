-- Lemmas on answers, fitting parts and the ends of a settling.
use Rattle.std.proofs.Common.{◌≡◌, ◌⊎◌, ◌↔◌, ℕ, ◌≤◌, ◌<◌, ℤ, List, [], ◌∷◌, ◌++◌, length, refl, ap, sym, subst, ◌∙◌, inl, inr, arith, length-append}
use Rattle.std.specs.Prelude.{flat_map}
use Rattle.lra_domain.specs.{Abstraction.Abstraction, Laws.BaseLaws, declared.Exactness.Exactness, declared.Exactness.TheVariants.Exact, declared.Exactness.TheVariants.Flagged}
use Rattle.lra_domain.specs.{declared.Included.Included, declared.Included.TheVariants.Yes, declared.Included.TheVariants.No, declared.Included.TheVariants.Wide}
use Rattle.lra_powerset.specs.Outcomes.{AnswersWhether, both, either, HaveDims, IsReduced, AreMerged, BecameOne, LastTwoBecomeJoin, CollapsesOnce, IsCollapsed}
use Rattle.lra_powerset.specs.declared.joins.Collapsing.TheVariants.{Strained, Further}
use Rattle.lra_powerset.specs.{Content.PartFits, Laws.nil_front, ListLemmas.each_map, Lists.EachPart, Lists.SomePart, Values.AreUndecided, Values.IsUndecided, Values.PartsIncluded, Values.SetGamma}
use Rattle.lra_powerset.proofs.CollapseLemmas.{meet_covers, meet_strains, merged_each, settled_on, settled_whole}
use Rattle.lra_powerset.proofs.PartLists.{each_append, each_left, each_right}
use Rattle.lra_powerset.proofs.ReductionLemmas.{cover_trans, reduced_covers, reduced_exact, reduced_strains, reduced_each, reduced_fewer}

pub told_of : (A S : Type 0) (i : Included) → (i ≡ Yes → A) → (i ≡ No → ¬ A) → (i ≡ Wide → S) → AnswersWhether A S i
told_of A S Yes y n w = y refl
told_of A S No y n w = n refl
told_of A S Wide y n w = w refl

pub told_yes : (A S : Type 0) (i : Included) → AnswersWhether A S i → i ≡ Yes → A
told_yes A S i t e = subst (λ (j : Included). AnswersWhether A S j) e t

pub told_no : (A S : Type 0) (i : Included) → AnswersWhether A S i → i ≡ No → ¬ A
told_no A S i t e = subst (λ (j : Included). AnswersWhether A S j) e t

pub told_wide : (A S : Type 0) (i : Included) → AnswersWhether A S i → i ≡ Wide → S
told_wide A S i t e = subst (λ (j : Included). AnswersWhether A S j) e t

-- some of them exceeds a limit, and each exceeds a limit or isn't so
abbrev pub Open : {V : Type 0} → (V → Type 0) → (V → Type 0) → List V → Type 0
Open P S qs = SomePart S qs × EachPart (λ q. S q ⊎ ¬ P q) qs

each_open : {V : Type 0} (P S : V → Type 0) (qs : List V) → ¬ SomePart P qs → EachPart (λ q. S q ⊎ ¬ P q) qs
each_open P S [] n = tt
each_open P S (q ∷ qs) n = (inr (λ h. n (inl h)), each_open P S qs (λ h. n (inr h)))

neither : {A B : Type 0} → ¬ A → ¬ B → A ⊎ B → ⊥
neither a b (inl h) = a h
neither a b (inr h) = b h

pub told_some : {V : Type 0} (P S : V → Type 0) (q : V) (qs : List V) (i j : Included) → AnswersWhether (P q) (S q) i
    → AnswersWhether (SomePart P qs) (Open P S qs) j → AnswersWhether (SomePart P (q ∷ qs)) (Open P S (q ∷ qs)) (either i j)
told_some P S q qs Yes j a b = inl a
told_some P S q qs No Yes a b = inr b
told_some P S q qs No No a b = neither a b
told_some P S q qs No Wide a b = (inr b.0, (inr a, b.1))
told_some P S q qs Wide Yes a b = inr b
told_some P S q qs Wide No a b = (inl a, (inl a, each_open P S qs b))
told_some P S q qs Wide Wide a b = (inl a, (inl a, b.1))

pub told_goes : {V : Type 0} (P S T U : V → Type 0) (before behind : List V) (i j : Included)
    → AnswersWhether (SomePart P before) (Open P S before) i → AnswersWhether (SomePart T behind) (Open T U behind) j
    → AnswersWhether (SomePart P before ⊎ SomePart T behind)
    ((SomePart S before ⊎ SomePart U behind) × EachPart (λ q. S q ⊎ ¬ P q) before × EachPart (λ q. U q ⊎ ¬ T q) behind)
    (either i j)
told_goes P S T U before behind Yes j a b = inl a
told_goes P S T U before behind No Yes a b = inr b
told_goes P S T U before behind No No a b = neither a b
told_goes P S T U before behind No Wide a b = (inr b.0, each_open P S before a, b.1)
told_goes P S T U before behind Wide Yes a b = inr b
told_goes P S T U before behind Wide No a b = (inl a.0, a.1, each_open T U behind b)
told_goes P S T U before behind Wide Wide a b = (inl a.0, a.1, b.1)

pub told_all : {V H : Type 0} (m : Abstraction V H) (p : V) (ps qs : List V) (i j : Included)
    → AnswersWhether (SomePart (m.included p) qs) (IsUndecided m qs p) i → AnswersWhether (PartsIncluded m.included ps qs) (AreUndecided m ps qs) j
    → AnswersWhether (PartsIncluded m.included (p ∷ ps) qs) (AreUndecided m (p ∷ ps) qs) (both i j)
told_all m p ps qs No j a b = λ h. a h.0
told_all m p ps qs Yes No a b = λ h. b h.1
told_all m p ps qs Yes Yes a b = (a, b)
told_all m p ps qs Yes Wide a b = (inr b.0, (inl a, b.1))
told_all m p ps qs Wide No a b = λ h. b h.1
told_all {V} {H} m p ps qs Wide Yes a b = (
  inl a,
  (
    inr a,
    each_map (λ x. SomePart (m.included x) qs)
        (λ x. SomePart (m.included x) qs ⊎ IsUndecided m qs x) (λ x h. inl h) ps b,
  ),
)
told_all m p ps qs Wide Wide a b = (inl a, (inr a, b.1))

pub fits_dims : {V H : Type 0} (m : Abstraction V H) (n : ℕ) (ps : List V) → EachPart (PartFits m n) ps → HaveDims m n ps
fits_dims m n ps fit = each_map (PartFits m n) (λ p. m.dims p ≡ n) (λ p f. f.dims) ps fit

pub fits_none : {V H : Type 0} (m : Abstraction V H) (n : ℕ) (ps : List V) → EachPart (PartFits m n) ps
    → flat_map m.parts ps ≡ [] → ps ≡ []
fits_none m n [] fit e = refl
fits_none m n (p ∷ ps) fit e = absurd (fit.0.full (nil_front (m.parts p) (flat_map m.parts ps) e).0)

pub universe_has : {V H : Type 0} (m : Abstraction V H) (n cap : ℕ) (p : V) → ((s : List ℤ) → (m.gamma p s ↔ (length s ≡ n)))
    → (s : List ℤ) → (SetGamma m (record { dims = n; cap = cap; parts = p ∷ [] }) s ↔ (length s ≡ n))
universe_has m n cap p has s = (λ own. own.0, λ long. (long, inl ((has s).1 long)))

pub meet_fits : {V H : Type 0} (m : Abstraction V H) → BaseLaws m → (n : ℕ) (ps : List V) (e : Exactness) (qs : List V)
    → LastTwoBecomeJoin m ps e qs → EachPart (PartFits m n) ps → EachPart (PartFits m n) qs
meet_fits {V} m pl n ps e qs t fit =
    let all : EachPart (PartFits m n) ((t.front ++ t.one ∷ []) ++ t.two ∷ []) =
    subst (λ (xs : List V). EachPart (PartFits m n) xs) t.old fit in
    let early = each_left (PartFits m n) (t.front ++ t.one ∷ []) (t.two ∷ []) all in
    let one = (each_right (PartFits m n) t.front (t.one ∷ []) early).0 in
    subst (λ (xs : List V). EachPart (PartFits m n) xs) (sym t.new)
    (each_append (PartFits m n) t.front (t.both ∷ []) (each_left (PartFits m n) t.front (t.one ∷ []) early)
    (record { formed = t.joined.formed; dims = t.dims ∙ one.dims; full = λ none. one.full (pl.partless_leq t.one t.both t.joined.left none) }, tt))

pub meet_fewer : {V H : Type 0} (m : Abstraction V H) (ps : List V) (e : Exactness) (qs : List V) → LastTwoBecomeJoin m ps e qs
    → length qs < length ps
meet_fewer m ps e qs t =
    let old = ap length t.old in
    let new = ap length t.new in
    omega (
      arith,
      old,
      new,
      length-append (t.front ++ t.one ∷ []) (t.two ∷ []),
      length-append t.front (t.one ∷ []),
      length-append t.front (t.both ∷ []),
    )

pub merged_one : {V H : Type 0} (m : Abstraction V H) → BaseLaws m → (ps : List V) (e : Exactness) (j : V) → AreMerged m ps e j
    → ((n : ℕ) → HaveDims m n ps → m.dims j ≡ n) → BecameOne m ps (j ∷ [])
merged_one m pl [] e j t dims = absurd t
merged_one m pl (p ∷ ps) e j t dims = record {
  part = j;
  alone = refl;
  covers = (t.first, t.others);
  fits = λ n fit. record {
    formed = t.formed;
    dims = dims n (fits_dims m n (p ∷ ps) fit);
    full = λ none. fit.0.full (pl.partless_leq p j t.first none);
  };
}

-- the reduction was flagged, and there are more parts than the cap
pub settled_reduced : {V H : Type 0} (m : Abstraction V H) → BaseLaws m → (n cap : ℕ) (ps mid qs : List V) → 1 ≤ cap
    → IsReduced m ps Flagged mid → BecameOne m mid qs → EachPart (PartFits m n) ps → IsCollapsed m n cap ps Flagged qs
settled_reduced {V} m pl n cap ps mid qs some r b fit =
    subst (λ (xs : List V). IsCollapsed m n cap ps Flagged xs) (sym b.alone) (settled_whole m pl n cap ps b.part some
    (merged_each m pl ps mid b.part (reduced_covers m pl ps Flagged mid r) b.covers)
    (0, inl (reduced_strains m ps Flagged mid r refl)) (b.fits n (reduced_each m (PartFits m n) ps Flagged mid r fit)))

-- the join of the last two was flagged
pub settled_joined : {V H : Type 0} (m : Abstraction V H) → BaseLaws m → (n cap : ℕ) (ps mid next qs : List V) → 1 ≤ cap
    → IsReduced m ps Exact mid → cap < length mid → LastTwoBecomeJoin m mid Flagged next → BecameOne m next qs
    → EachPart (PartFits m n) ps → IsCollapsed m n cap ps Flagged qs
settled_joined {V} m pl n cap ps mid next qs some r over t b fit =
    subst (λ (xs : List V). IsCollapsed m n cap ps Flagged xs) (sym b.alone) (settled_whole m pl n cap ps b.part some
    (merged_each m pl ps next b.part (cover_trans m pl ps mid next (reduced_covers m pl ps Exact mid r)
    (meet_covers m pl mid Flagged next t)) b.covers)
    (0, inr (mid, reduced_exact m ps Exact mid r refl, over, meet_strains m mid next t))
    (b.fits n (meet_fits m pl n mid Flagged next t (reduced_each m (PartFits m n) ps Exact mid r fit))))

pub merged_one_is : {V H : Type 0} (m : Abstraction V H) → BaseLaws m → (ps : List V) (e : Exactness) (j : V) (qs : List V)
    → qs ≡ j ∷ [] → AreMerged m ps e j → ((n : ℕ) → HaveDims m n ps → m.dims j ≡ n) → BecameOne m ps qs
merged_one_is {V} m pl ps e j qs alone t dims =
    subst (λ (xs : List V). BecameOne m ps xs) (sym alone) (merged_one m pl ps e j t dims)

-- a round of settling -----------------------------------------------------------------------------------------------------

not_flagged : (e : Exactness) → ¬ (e ≡ Flagged) → e ≡ Exact
not_flagged Exact n = refl
not_flagged Flagged n = absurd (n refl)

pub reduced_alike : {V H : Type 0} (m : Abstraction V H) (n : ℕ) (ps : List V) (e : Exactness) (qs : List V) → IsReduced m ps e qs
    → HaveDims m n ps → HaveDims m n qs
reduced_alike m n ps e qs r all = reduced_each m (λ p. m.dims p ≡ n) ps e qs r all

pub once_flagged : {V H : Type 0} (m : Abstraction V H) (cap : ℕ) (ps : List V) (e : Exactness) (qs : List V) → e ≡ Flagged
    → cap < length qs → IsReduced m ps e qs → CollapsesOnce m cap ps Strained qs
once_flagged m cap ps e qs is over r = inl (subst (λ (d : Exactness). IsReduced m ps d qs) is r, over)

pub once_strained : {V H : Type 0} (m : Abstraction V H) (cap : ℕ) (ps : List V) (d : Exactness) (mid : List V) (e : Exactness)
    (qs : List V) → ¬ (d ≡ Flagged) → e ≡ Flagged → cap < length mid → IsReduced m ps d mid → LastTwoBecomeJoin m mid e qs
    → CollapsesOnce m cap ps Strained qs
once_strained m cap ps d mid e qs lossless is over r t = inr (
  mid,
  subst (λ (x : Exactness). IsReduced m ps x mid) (not_flagged d lossless) r,
  over,
  subst (λ (x : Exactness). LastTwoBecomeJoin m mid x qs) is t,
)

pub once_further : {V H : Type 0} (m : Abstraction V H) (cap : ℕ) (ps : List V) (d : Exactness) (mid : List V) (e : Exactness)
    (qs : List V) → ¬ (d ≡ Flagged) → ¬ (e ≡ Flagged) → cap < length mid → IsReduced m ps d mid → LastTwoBecomeJoin m mid e qs
    → CollapsesOnce m cap ps Further qs
once_further m cap ps d mid e qs lossless exact over r t = (
  mid,
  subst (λ (x : Exactness). IsReduced m ps x mid) (not_flagged d lossless) r,
  over,
  subst (λ (x : Exactness). LastTwoBecomeJoin m mid x qs) (not_flagged e exact) t,
)

meet_some : {V H : Type 0} (m : Abstraction V H) (ps : List V) (e : Exactness) (qs : List V) → LastTwoBecomeJoin m ps e qs → 0 < length qs
meet_some m ps e qs t =
    let new = ap length t.new in
    omega (arith, new, length-append t.front (t.both ∷ []))

-- what is left of it: some parts, which fit
pub strained_some : {V H : Type 0} (m : Abstraction V H) (cap : ℕ) (ps qs : List V) → CollapsesOnce m cap ps Strained qs
    → 0 < length qs
strained_some m cap ps qs (inl r) = let over = r.1 in omega (arith, over)
strained_some m cap ps qs (inr (mid, r, over, t)) = meet_some m mid Flagged qs t

pub strained_fit : {V H : Type 0} (m : Abstraction V H) → BaseLaws m → (n cap : ℕ) (ps qs : List V)
    → CollapsesOnce m cap ps Strained qs → EachPart (PartFits m n) ps → EachPart (PartFits m n) qs
strained_fit m pl n cap ps qs (inl r) fit = reduced_each m (PartFits m n) ps Flagged qs r.0 fit
strained_fit m pl n cap ps qs (inr (mid, r, over, t)) fit =
    meet_fits m pl n mid Flagged qs t (reduced_each m (PartFits m n) ps Exact mid r fit)

pub strained_alike : {V H : Type 0} (m : Abstraction V H) → BaseLaws m → (n cap : ℕ) (ps qs : List V)
    → CollapsesOnce m cap ps Strained qs → EachPart (PartFits m n) ps → HaveDims m n qs
strained_alike m pl n cap ps qs o fit = fits_dims m n qs (strained_fit m pl n cap ps qs o fit)

pub further_fit : {V H : Type 0} (m : Abstraction V H) → BaseLaws m → (n cap : ℕ) (ps qs : List V)
    → CollapsesOnce m cap ps Further qs → EachPart (PartFits m n) ps → EachPart (PartFits m n) qs
further_fit m pl n cap ps qs (mid, r, over, t) fit =
    meet_fits m pl n mid Exact qs t (reduced_each m (PartFits m n) ps Exact mid r fit)

pub further_fewer : {V H : Type 0} (m : Abstraction V H) (cap : ℕ) (ps qs : List V) → CollapsesOnce m cap ps Further qs
    → length qs < length ps
further_fewer m cap ps qs (mid, r, over, t) =
    let no_more = reduced_fewer m ps Exact mid r in
    let fewer = meet_fewer m mid Exact qs t in
    omega (arith, no_more, fewer)

pub settled_strained : {V H : Type 0} (m : Abstraction V H) → BaseLaws m → (n cap : ℕ) (ps mid qs : List V) → 1 ≤ cap
    → CollapsesOnce m cap ps Strained mid → BecameOne m mid qs → EachPart (PartFits m n) ps → IsCollapsed m n cap ps Flagged qs
settled_strained m pl n cap ps mid qs some (inl r) b fit = settled_reduced m pl n cap ps mid qs some r.0 b fit
settled_strained m pl n cap ps mid qs some (inr (left, r, over, t)) b fit =
    settled_joined m pl n cap ps left mid qs some r over t b fit

pub settled_further : {V H : Type 0} (m : Abstraction V H) → BaseLaws m → (n cap : ℕ) (ps next : List V) (e : Exactness)
    (qs : List V) → CollapsesOnce m cap ps Further next
    → ((k : ℕ) → EachPart (PartFits m k) next → IsCollapsed m k cap next e qs) → EachPart (PartFits m n) ps
    → IsCollapsed m n cap ps e qs
settled_further m pl n cap ps next e qs (mid, r, over, t) s fit =
    settled_on m pl n cap ps mid next e qs r over t (s n (further_fit m pl n cap ps next (mid, r, over, t) fit))

-- parts as a list has them
pub refit : {V H : Type 0} (m : Abstraction V H) (n k : ℕ) (ps : List V) → n ≡ k → EachPart (PartFits m n) ps
    → EachPart (PartFits m k) ps
refit {V} m n k ps same fit = subst (λ (i : ℕ). EachPart (PartFits m i) ps) same fit

pub alike : {V H : Type 0} (m : Abstraction V H) (n k : ℕ) (ps qs : List V) → n ≡ k → qs ≡ ps → EachPart (PartFits m n) ps
    → HaveDims m k qs
alike {V} m n k ps qs same is fit = subst (λ (xs : List V). HaveDims m k xs) (sym is) (fits_dims m k ps (refit m n k ps same fit))
