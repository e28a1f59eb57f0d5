-- Lemmas on the heads of sets.
use Rattle.std.proofs.Common.{◌≡◌, ◌≢◌, ◌⊎◌, ℕ, ℤ, List, [], ◌∷◌, ◌++◌, length, Option, Some, None, refl, ap, sym, subst, ◌∙◌, inl, inr, arith}
use Rattle.lra_powerset.specs.Crates.{lra_linear_spec.declared.ConKind.ConKind, lra_systems.LinearSystems.LinearSystem}
use Rattle.lra_domain.specs.declared.Mode.TheVariants.{Join, Widen, Limited, Tightest}
use Rattle.lra_domain.specs.{Abstraction.Abstraction, Abstraction.Grew, Abstraction.Values, declared.Grown.TheVariants.Stable, declared.Grown.TheVariants.Grew as grew_by}
use Rattle.lra_domain.specs.{Laws.Laws, Laws.BaseLaws, Rank.RankBelow, declared.Exactness.Exactness, declared.Exactness.TheVariants.Exact, declared.Exactness.TheVariants.Flagged, declared.Grown.Grown}
use Rattle.lra_domain.specs.{declared.Included.Included, declared.Included.TheVariants.Yes, declared.Included.TheVariants.No, declared.Included.TheVariants.Wide, declared.Mode.Mode}
use Rattle.lra_powerset.specs.Content.{SetContent, HeadForm, many, one, whole, SetHead, nonempty_parts, with_nonempty, PartFits}
use Rattle.lra_powerset.specs.Growth.{StartsAnew, BecomesOne, HasAll, OneGrew, OneAnswers, SingleAnswers, LiesIn, HasGrown, valued_set}
use Rattle.lra_powerset.specs.Heads.{HeadFormGamma, SetHeadGamma, FormStarts, FormStays, OneStrains, HeadFormStrains, HeadAnswers, FormValued, HeadFormValueStrains, FormGrown, HeadGrown}
use Rattle.lra_powerset.specs.Heads.{HeadGrowStrains, Widens, WidenStrains, FormCovered, HeadCovered, HeadGivenUp, form_rank, BeginsAsOne, FormLeft, GrowsBy}
use Rattle.lra_powerset.specs.Laws.{fits_formed, form_fine, parts_within, started_has, whole_is_filled, with_filled_rows}
use Rattle.lra_powerset.specs.{Abstraction.set_abstraction, Forms.HeadFormFits, Forms.HeadFits, Joins.Merges, Joins.MergeStrains, Joins.CollapsesTo, ListLemmas.each_map, Lists.EachPart}
use Rattle.lra_powerset.specs.{Lists.SomePart, Outcomes.HaveDims, Outcomes.IsCollapsed, Outcomes.AnswersWhether, Values.PartsIncluded, Values.IsTopPart, Values.AreUndecided}
use Rattle.lra_powerset.proofs.{AnswerLemmas.fits_dims, GrowthLemmas.merge_same, GrowthLemmas.merge_stays, GrowthLemmas.has_all, PartLists.each_append, PartLists.some_left, PartLists.some_right}

-- modes of widening -------------------------------------------------------------------------------------------------------

stays_one : {V H : Type 0} (m : Abstraction V H) (h : H) (qs : List V) (mode : Mode) → mode ≢ Join
    → EachPart (λ q. m.stays h q mode) qs → FormStays m (one h) qs mode
stays_one m h qs Join w each = absurd (w refl)
stays_one m h qs Widen w each = each
stays_one m h qs Limited w each = each
stays_one m h qs Tightest w each = each

each_stays : {V H : Type 0} (m : Abstraction V H) (h : H) (qs : List V) (mode : Mode) → mode ≢ Join
    → FormStays m (one h) qs mode → EachPart (λ q. m.stays h q mode) qs
each_stays m h qs Join w st = absurd (w refl)
each_stays m h qs Widen w st = st
each_stays m h qs Limited w st = st
each_stays m h qs Tightest w st = st

strains_one : {V H : Type 0} (m : Abstraction V H) (h : H) (qs : List V) (mode : Mode) → mode ≢ Join
    → OneStrains m h qs mode → HeadFormStrains m (one h) qs mode
strains_one m h qs Join w st = absurd (w refl)
strains_one m h qs Widen w st = st
strains_one m h qs Limited w st = st
strains_one m h qs Tightest w st = st

widens_grows : {V H : Type 0} (m : Abstraction V H) (old : SetHead V H) (qs : List V) (mode : Mode) (f : HeadForm V H) → mode ≢ Join
    → Widens m old.thresholds old.form qs mode f → FormGrown m old qs mode f
widens_grows m old qs Join f w g = absurd (w refl)
widens_grows m old qs Widen f w g = g
widens_grows m old qs Limited f w g = g
widens_grows m old qs Tightest f w g = g

grows_widens : {V H : Type 0} (m : Abstraction V H) (old : SetHead V H) (qs : List V) (mode : Mode) (f : HeadForm V H) → mode ≢ Join
    → FormGrown m old qs mode f → Widens m old.thresholds old.form qs mode f
grows_widens m old qs Join f w g = absurd (w refl)
grows_widens m old qs Widen f w g = g
grows_widens m old qs Limited f w g = g
grows_widens m old qs Tightest f w g = g

widening_strains : {V H : Type 0} (m : Abstraction V H) (old : SetHead V H) (next : SetContent V) (mode : Mode) → mode ≢ Join
    → WidenStrains m old.thresholds old.form next.parts mode → HeadGrowStrains m old next mode
widening_strains m old next Join w s = absurd (w refl)
widening_strains m old next Widen w s = s
widening_strains m old next Limited w s = s
widening_strains m old next Tightest w s = s

-- what a growth leaves ----------------------------------------------------------------------------------------------------

pub grown_stable : {V H : Type 0} (m : Abstraction V H) (old : SetHead V H) (next : SetContent V) (mode : Mode) (new : SetHead V H)
    → new ≡ old → FormStays m old.form next.parts mode → HasGrown m old next mode Stable new
grown_stable m old next mode new same st = record {
  stable = λ e. same;
  stays = λ e. st;
  grew = λ a e fo fn ff. let wrong : ⊥ = cc in absurd wrong;
  lower = λ a e. let wrong : ⊥ = cc in absurd wrong;
}

pub grown_grew : {V H : Type 0} (m : Abstraction V H) (old : SetHead V H) (next : SetContent V) (mode : Mode) (e : Exactness)
    (new : SetHead V H) → (HeadFits m old → EachPart (PartFits m old.dims) next.parts → HeadFits m new
    → Grew (set_abstraction m) old next mode e new)
    → (mode ≢ Join → RankBelow (form_rank m new.form) (form_rank m old.form)) → HasGrown m old next mode (grew_by e) new
grown_grew m old next mode e new grew lower = record {
  stable = λ x. let wrong : ⊥ = cc in absurd wrong;
  stays = λ x. let wrong : ⊥ = cc in absurd wrong;
  grew = λ a x fo fn ff. let same : e ≡ a = cc in
      subst (λ (d : Exactness). Grew (set_abstraction m) old next mode d new) same (grew fo fn ff);
  lower = λ a x w. lower w;
}

-- it doesn't hold the part with all stores
abbrev pub NotWhole : {V H : Type 0} → HeadForm V H → Type 0
NotWhole (many ps) = Unit {0}
NotWhole (one h) = Unit {0}
NotWhole (whole p) = ⊥

whole_below : {V H : Type 0} (m : Abstraction V H) (f : HeadForm V H) (p : V) → NotWhole f
    → RankBelow (form_rank m (whole p)) (form_rank m f)
whole_below m (many []) p n = inl (omega arith)
whole_below m (many (q ∷ qs)) p n = inl (omega arith)
whole_below m (one h) p n = inl (omega arith)
whole_below m (whole q) p n = absurd n

-- the widening thresholds that are left: the whole asks for none, a single part's head for its own, parts that became
-- one for none
left_whole : {V H : Type 0} (m : Abstraction V H) (given : LinearSystem ConKind) (old : HeadForm V H) (mode : Mode) (p : V)
    → FormLeft m given old mode (whole p)
left_whole m given (many ps) Join p = tt
left_whole m given (many ps) Widen p = tt
left_whole m given (many ps) Limited p = tt
left_whole m given (many ps) Tightest p = tt
left_whole m given (one g) Join p = tt
left_whole m given (one g) Widen p = tt
left_whole m given (one g) Limited p = tt
left_whole m given (one g) Tightest p = tt
left_whole m given (whole q) Join p = tt
left_whole m given (whole q) Widen p = tt
left_whole m given (whole q) Limited p = tt
left_whole m given (whole q) Tightest p = tt

left_one : {V H : Type 0} (m : Abstraction V H) (given : LinearSystem ConKind) (g h : H) (mode : Mode) → mode ≢ Join
    → m.left g mode h → FormLeft m given (one g) mode (one h)
left_one m given g h Join w l = absurd (w refl)
left_one m given g h Widen w l = l
left_one m given g h Limited w l = l
left_one m given g h Tightest w l = l

begins_as_one : {V H : Type 0} (m : Abstraction V H) (given : LinearSystem ConKind) (ps qs : List V) (h : H) (mode : Mode)
    → Widens m given (many ps) qs mode (one h) → BeginsAsOne m given mode h
begins_as_one m given [] qs h mode (k, i, merged, started, is) = let same : h ≡ i = cc in (k, i, started, inl same)
begins_as_one {V} {H} m given (p ∷ ps) qs h mode (j, k, g, i, joined, started, merged, by, is) = (j, g, started, grows by)
  where
    same : h ≡ i
    same = cc

    grows : GrowsBy m g k mode i → (h ≡ g) ⊎ ((k : V) × m.grown g k mode h)
    grows (inl (stays, stable)) = inl (same ∙ stable)
    grows (inr (moves, grown)) = inr (k, subst (λ (x : H). m.grown g k mode x) (sym same) grown)

left_many : {V H : Type 0} (m : Abstraction V H) (given : LinearSystem ConKind) (ps qs : List V) (h : H) (mode : Mode) → mode ≢ Join
    → Widens m given (many ps) qs mode (one h) → FormLeft m given (many ps) mode (one h)
left_many m given ps qs h Join w widens = absurd (w refl)
left_many m given ps qs h Widen w widens = begins_as_one m given ps qs h Widen widens
left_many m given ps qs h Limited w widens = begins_as_one m given ps qs h Limited widens
left_many m given ps qs h Tightest w widens = begins_as_one m given ps qs h Tightest widens

left_anew : {V H : Type 0} (m : Abstraction V H) (given : LinearSystem ConKind) (old : HeadForm V H) (rs : List V) (f : HeadForm V H)
    → FormStarts m given rs f → FormLeft m given old Join f
left_anew {V} {H} m given old [] f e = subst (λ (x : HeadForm V H). FormLeft m given old Join x) (sym e) tt
left_anew {V} {H} m given old (r ∷ []) f (h, st, e) = subst (λ (x : HeadForm V H). FormLeft m given old Join x) (sym e) (r, st)
left_anew {V} {H} m given old (r ∷ q ∷ rs) f e = subst (λ (x : HeadForm V H). FormLeft m given old Join x) (sym e) tt

-- the head is given up: it has all stores
whole_grown : {V H : Type 0} (m : Abstraction V H) → (old : SetHead V H) (next : SetContent V) (mode : Mode) (new : SetHead V H) (p : V)
    → new.dims ≡ old.dims → new.cap ≡ old.cap → new.thresholds ≡ old.thresholds → new.form ≡ whole p → IsTopPart m old.dims p
    → next.dims ≡ old.dims → NotWhole old.form
    → HeadAnswers m old next mode Wide ⊎ (HeadAnswers m old next mode No × HeadGrowStrains m old next mode)
    → HasGrown m old next mode (grew_by Flagged) new
whole_grown {V} {H} m old next mode new p dims cap rows form all same other strains =
    let every : (s : List ℤ) → length s ≡ old.dims → SetHeadGamma m new s = λ s long. (
      long ∙ sym dims,
      subst (λ (f : HeadForm V H). HeadFormGamma m f s) (sym form) tt,
    ) in
    grown_grew m old next mode Flagged new (λ fo fn ff. record {
      formed = ff;
      both = (λ s own. every s own.0, λ s own. every s (own.0 ∙ same));
      left = (
        rows,
        subst (λ (f : HeadForm V H). FormLeft m old.thresholds old.form mode f) (sym form) (left_whole m old.thresholds old.form mode p),
      );
      covers = λ h g. (g.dims ∙ sym dims, inl (p, form));
      moved = λ e. let wrong : ⊥ = cc in absurd wrong;
      exact = λ e. let wrong : ⊥ = cc in absurd wrong;
      flagged = λ e. flagged m old next mode new p dims cap form all strains;
    }) (λ w. subst (λ (f : HeadForm V H). RankBelow (form_rank m f) (form_rank m old.form)) (sym form)
    (whole_below m old.form p other))
  where
    flagged : {V H : Type 0} (m : Abstraction V H) (old : SetHead V H) (next : SetContent V) (mode : Mode) (new : SetHead V H) (p : V)
        → new.dims ≡ old.dims → new.cap ≡ old.cap → new.form ≡ whole p → IsTopPart m old.dims p
        → HeadAnswers m old next mode Wide ⊎ (HeadAnswers m old next mode No × HeadGrowStrains m old next mode)
        → (HeadAnswers m old next mode Wide × HeadGivenUp m old mode new)
        ⊎ (HeadAnswers m old next mode No × HeadGrowStrains m old next mode)
    flagged m old next mode new p dims cap form all (inl wide) =
        inl (wide, record { dims = dims; cap = cap; form = inl (p, all, form) })
    flagged m old next mode new p dims cap form all (inr out) = inr out

-- the part with all stores fits
pub whole_fits : {V H : Type 0} (m : Abstraction V H) → BaseLaws m → (n c : ℕ) (p : V) → m.well_formed p → m.top n c p → m.dims p ≡ n
    → IsTopPart m n p × PartFits m n p
whole_fits m pl n c p fine u dims = ((c, u), record { formed = fine; dims = dims; full = whole_is_filled m pl n p (c, u) })

-- widening: the head of a single part -------------------------------------------------------------------------------------

one_below : {V H : Type 0} (m : Abstraction V H) → BaseLaws m → (g h : H) → RankBelow (m.rank h) (m.rank g)
    → RankBelow (form_rank m (one h)) (form_rank m (one g))
one_below m pl g h (inl first) =
    let wrong : ⊥ = omega (arith, first, pl.rank_first g, pl.rank_first h) in absurd wrong
one_below m pl g h (inr (inl second)) = inr (inl (refl, second.1))
one_below m pl g h (inr (inr (inl third))) = inr (inr (inl (refl, third.1, third.2)))
one_below m pl g h (inr (inr (inr fourth))) = inr (inr (inr (refl, fourth.1, fourth.2, fourth.3)))

-- the head with the head of a single part
abbrev pub with_one : {V H : Type 0} → ℕ → ℕ → LinearSystem ConKind → H → SetHead V H
with_one n c given h = record { dims = n; cap = c; thresholds = given; form = one h }

-- the join of next's parts isn't in the single part's head
out_of_one : {V H : Type 0} (m : Abstraction V H) → Laws m → BaseLaws m → (n c : ℕ) (given : LinearSystem ConKind) (g : H)
    (next : SetContent V) (mode : Mode) (k : V) → mode ≢ Join → Merges m next.parts k → m.answers g k mode No
    → HeadAnswers m (with_one n c given g) next mode No
out_of_one m l pl n c given g next mode k w merged out =
    λ st. l.answers_no g k mode out (merge_stays m pl g next.parts k mode merged (each_stays m g next.parts mode w st.1))

one_flagged : {V H : Type 0} (m : Abstraction V H) → Laws m → BaseLaws m → (n c : ℕ) (given : LinearSystem ConKind) (g h : H)
    (next : SetContent V) (mode : Mode) (k : V) → mode ≢ Join → Merges m next.parts k → m.head_dims g ≡ n
    → (m.answers g k mode Wide × m.given_up g mode h) ⊎ (m.answers g k mode No × m.grow_strains g k mode)
    → (HeadAnswers m (with_one n c given g) next mode Wide
    × HeadGivenUp m (with_one n c given g) mode (with_one n c given h))
    ⊎ (HeadAnswers m (with_one n c given g) next mode No × HeadGrowStrains m (with_one n c given g) next mode)
one_flagged m l pl n c given g h next mode k w merged dims (inl wide) = inl (
  strains_one m g next.parts mode w (inl (k, merged, wide.0)),
  record { dims = refl; cap = refl; form = inr (g, h, refl, refl, dims, wide.1) },
)
one_flagged m l pl n c given g h next mode k w merged dims (inr out) = inr (
  out_of_one m l pl n c given g next mode k w merged out.0,
  widening_strains m (with_one n c given g) next mode w (inr (k, merged, out.1)),
)

one_covers : {V H : Type 0} (m : Abstraction V H) → BaseLaws m → (n c : ℕ) (given : LinearSystem ConKind) (g h : H)
    (next : SetContent V) (mode : Mode) (e : Exactness) → mode ≢ Join → (o : OneGrew m g next.parts mode e h) → (x : SetHead V H)
    → HeadGrown m (with_one n c given g) next mode x → HeadCovered m x (with_one n c given h)
one_covers {V} {H} m pl n c given g h next mode e w o x grown =
    let by = grows_widens m (with_one n c given g) next.parts mode x.form w grown.form in
    let same : by.0 ≡ o.join = merge_same m pl next.parts by.0 o.join by.2 o.merged in
    (grown.dims, inr (inl (by.1, h, by.4, refl, o.grew.covers by.1 (subst (λ (z : V). m.grown g z mode by.1) same by.3))))

pub one_grew : {V H : Type 0} (m : Abstraction V H) → Laws m → BaseLaws m → (n c : ℕ) (given : LinearSystem ConKind) (g h : H)
    (next : SetContent V) (mode : Mode) (e : Exactness) → mode ≢ Join → next.dims ≡ n → m.head_dims g ≡ n
    → OneGrew m g next.parts mode e h
    → HasGrown m (with_one n c given g) next mode (grew_by e) (with_one n c given h)
one_grew m l pl n c given g h next mode e w same dims o =
    grown_grew m (with_one n c given g) next mode e (with_one n c given h) (λ fo fn ff. record {
      formed = ff;
      both = (
        λ s own. (own.0, l.old_stores g o.join h fo.form.2 o.grew.formed o.grew.both s own.1),
        λ s own. (
          own.0 ∙ same,
          l.next_stores g o.join h o.formed o.grew.formed o.grew.both s
              (has_all m l next.parts o.join (fits_formed m n next.parts fn) o.formed o.all s own.1),
        ),
      );
      left = (refl, left_one m given g h mode w o.grew.left);
      covers = one_covers m pl n c given g h next mode e w o;
      moved = λ x. out_of_one m l pl n c given g next mode o.join w o.merged (o.grew.moved x);
      exact = λ x. record {
        dims = refl;
        cap = refl;
        rows = refl;
        form = widens_grows m (with_one n c given g) next.parts mode (one h) w (o.join, h, o.merged, o.grew.exact x, refl);
      };
      flagged = λ x. one_flagged m l pl n c given g h next mode o.join w o.merged dims (o.grew.flagged x);
    }) (λ x. one_below m pl g h o.lower)

one_has_grown : {V H : Type 0} (m : Abstraction V H) → Laws m → BaseLaws m → (n c : ℕ) (given : LinearSystem ConKind) (old new : H)
    (next : SetContent V) (mode : Mode) (g : Grown) → mode ≢ Join → next.dims ≡ n → m.head_dims old ≡ n
    → OneAnswers m old next.parts mode (Some g) new
    → HasGrown m (with_one n c given old) next mode g (with_one n c given new)
one_has_grown {V} {H} m l pl n c given old new next mode Stable w same dims o =
    grown_stable m (with_one n c given old) next mode (with_one n c given new)
    (ap (λ (x : H). with_one {V = V} {H = H} n c given x) o.0) (stays_one m old next.parts mode w o.1)
one_has_grown m l pl n c given old new next mode (grew_by e) w same dims o =
    one_grew m l pl n c given old new next mode e w same dims o

-- one of next's parts isn't in the single part's head, or can't be reported to be
some_or : {V H : Type 0} (m : Abstraction V H) → Laws m → (h : H) (mode : Mode) (qs : List V)
    → SomePart (λ q. m.answers h q mode No ⊎ m.answers h q mode Wide) qs
    → SomePart (λ q. m.answers h q mode Wide) qs ⊎ ¬ EachPart (λ q. m.stays h q mode) qs
some_or m l h mode [] some = absurd some
some_or m l h mode (q ∷ qs) (inl (inl out)) = inr (λ each. l.answers_no h q mode out each.0)
some_or m l h mode (q ∷ qs) (inl (inr wide)) = inl (inl wide)
some_or m l h mode (q ∷ qs) (inr some) = later m h mode q qs (some_or m l h mode qs some)
  where
    later : {V H : Type 0} (m : Abstraction V H) (h : H) (mode : Mode) (q : V) (qs : List V)
        → SomePart (λ p. m.answers h p mode Wide) qs ⊎ ¬ EachPart (λ p. m.stays h p mode) qs
        → SomePart (λ p. m.answers h p mode Wide) (q ∷ qs) ⊎ ¬ EachPart (λ p. m.stays h p mode) (q ∷ qs)
    later m h mode q qs (inl some) = inl (inr some)
    later m h mode q qs (inr not) = inr (λ each. not each.1)

one_fails : {V H : Type 0} (m : Abstraction V H) (n c : ℕ) (given : LinearSystem ConKind) (old : H) (next : SetContent V) (mode : Mode)
    → mode ≢ Join → MergeStrains m next.parts
    → SomePart (λ q. m.answers old q mode Wide) next.parts ⊎ ¬ EachPart (λ q. m.stays old q mode) next.parts
    → HeadAnswers m (with_one n c given old) next mode Wide
    ⊎ (HeadAnswers m (with_one n c given old) next mode No × HeadGrowStrains m (with_one n c given old) next mode)
one_fails m n c given old next mode w strains (inl wide) = inl (strains_one m old next.parts mode w (inr (strains, wide)))
one_fails m n c given old next mode w strains (inr not) = inr (
  (λ st. not (each_stays m old next.parts mode w st.1)),
  widening_strains m (with_one n c given old) next mode w (inl strains),
)

-- the same head, by what it has
head_is : {V H : Type 0} (h : SetHead V H) (n c : ℕ) (given : LinearSystem ConKind) (f : HeadForm V H) → h.dims ≡ n → h.cap ≡ c
    → h.thresholds ≡ given → h.form ≡ f → h ≡ record { dims = n; cap = c; thresholds = given; form = f }
head_is {V} {H} h n c given f dims cap rows form =
    subst (λ (k : ℕ). h ≡ record { dims = k; cap = c; thresholds = given; form = f }) dims
    (subst (λ (k : ℕ). h ≡ record { dims = h.dims; cap = k; thresholds = given; form = f }) cap
    (subst (λ (x : LinearSystem ConKind). h ≡ record { dims = h.dims; cap = h.cap; thresholds = x; form = f }) rows
    (subst (λ (x : HeadForm V H). h ≡ record { dims = h.dims; cap = h.cap; thresholds = h.thresholds; form = x }) form refl)))

pub single_grown : {V H : Type 0} (m : Abstraction V H) → Laws m → BaseLaws m → (old new : SetHead V H) (next : SetContent V)
    (mode : Mode) (g : Grown) → mode ≢ Join → next.dims ≡ old.dims → new.dims ≡ old.dims → new.cap ≡ old.cap
    → SingleAnswers m old next.parts mode (Some g) new → HasGrown m old next mode g new
single_grown {V} {H} m l pl old new next mode g w same dims cap s =
    subst (λ (x : SetHead V H). HasGrown m x next mode g new)
    (sym (head_is old old.dims old.cap old.thresholds (one s.before) refl refl refl s.was))
    (subst (λ (x : SetHead V H). HasGrown m (with_one old.dims old.cap old.thresholds s.before) next mode g x)
    (sym (head_is new old.dims old.cap old.thresholds (one s.after) dims cap s.rows s.form))
    (one_has_grown m l pl old.dims old.cap old.thresholds s.before s.after next mode g w same s.dims s.answers))

-- nothing is known of the single part's head, and the head is given up
pub single_given_up : {V H : Type 0} (m : Abstraction V H) → Laws m → (old between new : SetHead V H) (next : SetContent V) (mode : Mode)
    (n cap : ℕ) (p : V) → mode ≢ Join → next.dims ≡ old.dims → SingleAnswers m old next.parts mode None between
    → new.dims ≡ old.dims → new.cap ≡ old.cap → new.thresholds ≡ old.thresholds → new.form ≡ whole p → n ≡ old.dims
    → m.top n cap p → HasGrown m old next mode (grew_by Flagged) new
single_given_up {V} {H} m l old between new next mode n k p w same s dims cap rows form is all =
    whole_grown m old next mode new p dims cap rows form (k, subst (λ (i : ℕ). m.top i k p) is all) same (subst (λ (f : HeadForm V H). NotWhole f) (sym s.was) tt)
    (subst (λ (x : SetHead V H). HeadAnswers m x next mode Wide ⊎ (HeadAnswers m x next mode No × HeadGrowStrains m x next mode))
    (sym (head_is old old.dims old.cap old.thresholds (one s.before) refl refl refl s.was))
    (one_fails m old.dims old.cap old.thresholds s.before next mode w s.answers.0 (some_or m l s.before mode next.parts s.answers.1)))

-- widening: parts, not one ------------------------------------------------------------------------------------------------

-- the head with parts
abbrev pub with_parts : {V H : Type 0} → ℕ → ℕ → LinearSystem ConKind → List V → SetHead V H
with_parts n c given ps = record { dims = n; cap = c; thresholds = given; form = many ps }

pub many_stays : {V H : Type 0} (m : Abstraction V H) (old : SetHead V H) (ps : List V) (next : SetContent V) (mode : Mode)
    → old.form ≡ many ps → PartsIncluded m.included next.parts ps → HasGrown m old next mode Stable old
many_stays {V} {H} m old ps next mode form st = grown_stable m old next mode old refl
    (subst (λ (f : HeadForm V H). FormStays m f next.parts mode) (sym form) st)

-- an inclusion in its parts exceeds a limit, and the head is given up
pub many_wide : {V H : Type 0} (m : Abstraction V H) (old new : SetHead V H) (ps : List V) (next : SetContent V) (mode : Mode)
    → old.form ≡ many ps → next.dims ≡ old.dims → HasAll m old new
    → AreUndecided m next.parts ps → HasGrown m old next mode (grew_by Flagged) new
many_wide {V} {H} m old new ps next mode form same a strains =
    whole_grown m old next mode new a.part a.dims a.cap a.rows a.form (old.cap, a.all) same
    (subst (λ (f : HeadForm V H). NotWhole f) (sym form) tt)
    (inl (subst (λ (f : HeadForm V H). HeadFormStrains m f next.parts mode) (sym form) strains))

-- its parts become one if that exceeds a limit, and the head is given up
pub many_strains : {V H : Type 0} (m : Abstraction V H) (old new : SetHead V H) (ps : List V) (next : SetContent V) (mode : Mode)
    → mode ≢ Join → old.form ≡ many ps → next.dims ≡ old.dims → HasAll m old new → ¬ PartsIncluded m.included next.parts ps
    → BecomesOne m old.thresholds ps next.parts mode None → HasGrown m old next mode (grew_by Flagged) new
many_strains {V} {H} m old new ps next mode w form same a out strains =
    whole_grown m old next mode new a.part a.dims a.cap a.rows a.form (old.cap, a.all) same
    (subst (λ (f : HeadForm V H). NotWhole f) (sym form) tt)
    (inr (
      (λ st. out (subst (λ (f : HeadForm V H). FormStays m f next.parts mode) form st.1)),
      widening_strains m old next mode w
          (subst (λ (f : HeadForm V H). WidenStrains m old.thresholds f next.parts mode) (sym form) strains),
    ))

many_below : {V H : Type 0} (m : Abstraction V H) (ps : List V) (h : H) → length ps ≢ 1
    → RankBelow (form_rank m (one h)) (form_rank m (many ps))
many_below m [] h n = inl (omega arith)
many_below m (p ∷ []) h n = absurd (n refl)
many_below m (p ∷ q ∷ ps) h n = inl (omega arith)

many_one : {V H : Type 0} (m : Abstraction V H) (n c : ℕ) (given : LinearSystem ConKind) (ps : List V) (h : H) (next : SetContent V)
    (mode : Mode) → mode ≢ Join → next.dims ≡ n → length ps ≢ 1 → ¬ PartsIncluded m.included next.parts ps
    → BecomesOne m given ps next.parts mode (Some h)
    → HasGrown m (with_parts n c given ps) next mode (grew_by Exact) (with_one n c given h)
many_one m n c given ps h next mode w same not_one out (widens, covers, own, by) =
    grown_grew m (with_parts n c given ps) next mode Exact (with_one n c given h) (λ fo fn ff. record {
      formed = ff;
      both = (λ s has. (has.0, own s has.1), λ s has. (has.0 ∙ same, by s has.1));
      left = (refl, left_many m given ps next.parts h mode w widens);
      covers = λ x g. (g.dims, covers x.form (grows_widens m (with_parts n c given ps) next.parts mode x.form w g.form));
      moved = λ e st. out st.1;
      exact = λ e. record {
        dims = refl;
        cap = refl;
        rows = refl;
        form = widens_grows m (with_parts n c given ps) next.parts mode (one h) w widens;
      };
      flagged = λ e. let wrong : ⊥ = cc in absurd wrong;
    }) (λ x. many_below m ps h not_one)

pub many_unite : {V H : Type 0} (m : Abstraction V H) (old new : SetHead V H) (ps : List V) (h : H) (next : SetContent V) (mode : Mode)
    → mode ≢ Join → old.form ≡ many ps → next.dims ≡ old.dims → HeadFits m old → new.dims ≡ old.dims → new.cap ≡ old.cap
    → new.thresholds ≡ old.thresholds → new.form ≡ one h → ¬ PartsIncluded m.included next.parts ps
    → BecomesOne m old.thresholds ps next.parts mode (Some h) → HasGrown m old next mode (grew_by Exact) new
many_unite {V} {H} m old new ps h next mode w was same fits dims cap rows form out one_of =
    let all : HeadFormFits m old.dims old.cap (many ps) = subst (λ (f : HeadForm V H). HeadFormFits m old.dims old.cap f) was fits.form in
    subst (λ (x : SetHead V H). HasGrown m x next mode (grew_by Exact) new)
    (sym (head_is old old.dims old.cap old.thresholds (many ps) refl refl refl was))
    (subst (λ (x : SetHead V H). HasGrown m (with_parts old.dims old.cap old.thresholds ps) next mode (grew_by Exact) x)
    (sym (head_is new old.dims old.cap old.thresholds (one h) dims cap rows form))
    (many_one m old.dims old.cap old.thresholds ps h next mode w same all.2 out one_of))

parts_same : {V H : Type 0} (ps qs : List V) → (let f : HeadForm V H = many ps in f) ≡ many qs → ps ≡ qs
parts_same ps qs e = cc

-- the same of what the code has: other parts in which next doesn't lie, next's parts as a list, an answer that is
-- reported
pub united : {V H : Type 0} (m : Abstraction V H) {old new : SetHead V H} {ps rs qs : List V} {o : Option H} {h : H} (next : SetContent V)
    (mode : Mode) → mode ≢ Join → old.form ≡ many ps → next.dims ≡ old.dims → HeadFits m old → new.dims ≡ old.dims
    → new.cap ≡ old.cap → new.thresholds ≡ old.thresholds → new.form ≡ one h → old.form ≡ many rs
    → ¬ PartsIncluded m.included next.parts rs → qs ≡ next.parts → o ≡ Some h → BecomesOne m new.thresholds ps qs mode o
    → HasGrown m old next mode (grew_by Exact) new
united {V} {H} m {old} {new} {ps} {rs} {qs} {o} {h} next mode w was same fits dims cap rows form had out are is one_of =
    many_unite m old new ps h next mode w was same fits dims cap rows form
    (subst (λ (xs : List V). ¬ PartsIncluded m.included next.parts xs) (parts_same rs ps (sym had ∙ was)) out)
    (subst (λ (x : LinearSystem ConKind). BecomesOne m x ps next.parts mode (Some h)) rows
    (subst (λ (xs : List V). BecomesOne m new.thresholds ps xs mode (Some h)) are
    (subst (λ (x : Option H). BecomesOne m new.thresholds ps qs mode x) is one_of)))

pub not_united : {V H : Type 0} (m : Abstraction V H) {old new : SetHead V H} {given : LinearSystem ConKind} {ps rs qs : List V} {o : Option H}
    (next : SetContent V) (mode : Mode) → mode ≢ Join → old.form ≡ many ps → next.dims ≡ old.dims → HasAll m old new
    → given ≡ old.thresholds → old.form ≡ many rs → ¬ PartsIncluded m.included next.parts rs → qs ≡ next.parts → o ≡ None
    → BecomesOne m given ps qs mode o → HasGrown m old next mode (grew_by Flagged) new
not_united {V} {H} m {old} {new} {given} {ps} {rs} {qs} {o} next mode w was same all rows had out are is one_of =
    many_strains m old new ps next mode w was same all
    (subst (λ (xs : List V). ¬ PartsIncluded m.included next.parts xs) (parts_same rs ps (sym had ∙ was)) out)
    (subst (λ (x : LinearSystem ConKind). BecomesOne m x ps next.parts mode None) rows
    (subst (λ (xs : List V). BecomesOne m given ps xs mode None) are
    (subst (λ (x : Option H). BecomesOne m given ps qs mode x) is one_of)))

-- the parts of a head that fits
pub many_fit : {V H : Type 0} (m : Abstraction V H) (h : SetHead V H) (ps : List V) → h.form ≡ many ps → HeadFits m h
    → EachPart (PartFits m h.dims) ps
many_fit {V} {H} m h ps form fits = (subst (λ (f : HeadForm V H). HeadFormFits m h.dims h.cap f) form fits.form).0

pub many_alike : {V H : Type 0} (m : Abstraction V H) (h : SetHead V H) (ps : List V) → h.form ≡ many ps → HeadFits m h
    → HaveDims m h.dims ps
many_alike m h ps form fits = fits_dims m h.dims ps (many_fit m h ps form fits)

-- joining -----------------------------------------------------------------------------------------------------------------

-- what lies in the parts of the value lies in the head
pub stays_valued : {V H : Type 0} (m : Abstraction V H) (f : HeadForm V H) (ps qs : List V) → FormValued m f ps
    → PartsIncluded m.included qs ps → FormStays m f qs Join
stays_valued {V} m (many rs) ps qs v st = subst (λ (xs : List V). PartsIncluded m.included qs xs) v st
stays_valued {V} m (one h) ps qs (p, v, e) st = (p, v, in_one m p qs (subst (λ (xs : List V). PartsIncluded m.included qs xs) e st))
  where
    in_filled : {V R : Type 0} (P : V → Type 0) (rows : List R) (p : V) → SomePart P (with_nonempty rows p []) → P p
    in_filled P [] p some = absurd some
    in_filled P (r ∷ rows) p (inl x) = x
    in_filled P (r ∷ rows) p (inr none) = absurd none

    in_one : {V H : Type 0} (m : Abstraction V H) (p : V) (qs : List V) → PartsIncluded m.included qs (nonempty_parts m (p ∷ []))
        → EachPart (λ q. m.included q p) qs
    in_one m p qs st = each_map (λ q. SomePart (m.included q) (nonempty_parts m (p ∷ []))) (λ q. m.included q p)
        (λ q some. in_filled (m.included q) (m.parts p) p some) qs st
stays_valued m (whole p) ps qs v st = tt

-- and what lies in the head, in its parts
pub valued_stays : {V H : Type 0} (m : Abstraction V H) → BaseLaws m → (n : ℕ) (f : HeadForm V H) (ps qs : List V) → NotWhole f
    → FormValued m f ps → EachPart (PartFits m n) qs → FormStays m f qs Join → PartsIncluded m.included qs ps
valued_stays {V} m pl n (many rs) ps qs w v fit st = subst (λ (xs : List V). PartsIncluded m.included qs xs) (sym v) st
valued_stays {V} m pl n (one h) ps qs w (p, v, e) fit (q, u, each) =
    let same : q ≡ p = pl.one_valued h q p u v in
    subst (λ (xs : List V). PartsIncluded m.included qs xs) (sym e)
    (in_part m pl n p qs fit (subst (λ (x : V). EachPart (λ y. m.included y x) qs) same each))
  where
    in_part : {V H : Type 0} (m : Abstraction V H) → BaseLaws m → (n : ℕ) (p : V) (qs : List V) → EachPart (PartFits m n) qs
        → EachPart (λ q. m.included q p) qs → PartsIncluded m.included qs (nonempty_parts m (p ∷ []))
    in_part m pl n p [] fit each = tt
    in_part {V} m pl n p (q ∷ qs) fit each = (
      subst (λ (xs : List V). SomePart (m.included q) xs) (sym (with_filled_rows (m.parts p) p []
          (λ none. fit.0.full (pl.partless_leq q p ((pl.included_leq q p).0 each.0) none)))) (inl each.0),
      in_part m pl n p qs fit.1 each.1,
    )
valued_stays m pl n (whole p) ps qs w v fit st = absurd w

-- if an inclusion in the parts of the value isn't decided
pub strains_valued : {V H : Type 0} (m : Abstraction V H) (f : HeadForm V H) (ps qs : List V) → NotWhole f → FormValued m f ps
    → AreUndecided m qs ps → HeadFormStrains m f qs Join
strains_valued {V} m (many rs) ps qs w v some = subst (λ (xs : List V). AreUndecided m qs xs) v some
strains_valued {V} m (one h) ps qs w (p, v, e) some = inr (p, v, subst (λ (xs : List V). AreUndecided m qs xs) e some)
strains_valued m (whole p) ps qs w v some = absurd w

pub lies_whole : {V H : Type 0} (m : Abstraction V H) (h : SetHead V H) (p : V) (ps : List V) (next : SetContent V) → h.form ≡ whole p
    → next.dims ≡ h.dims → LiesIn m h ps next Yes
lies_whole {V} {H} m h p ps next form same = record {
  answers = (same, subst (λ (f : HeadForm V H). FormStays m f next.parts Join) (sym form) tt);
  valued = λ e. let wrong : ⊥ = cc in absurd wrong;
}

pub lies_flagged : {V H : Type 0} (m : Abstraction V H) (h : SetHead V H) (g : H) (ps : List V) (next : SetContent V) (e : Exactness)
    → h.form ≡ one g → Values (set_abstraction m) h e (valued_set h ps) → e ≡ Flagged → LiesIn m h ps next Wide
lies_flagged {V} {H} m h g ps next e form v is = record {
  answers = subst (λ (f : HeadForm V H). HeadFormStrains m f next.parts Join) (sym form)
      (inl (subst (λ (f : HeadForm V H). HeadFormValueStrains m f) form (v.flagged is)));
  valued = λ x. let wrong : ⊥ = cc in absurd wrong;
}

value_exact : {V H : Type 0} (m : Abstraction V H) (f : HeadForm V H) (rs : List V) (e : Exactness) → f ≡ many rs
    → (e ≡ Flagged → HeadFormValueStrains m f) → e ≡ Exact
value_exact m f rs Exact is strains = refl
value_exact {V} {H} m f rs Flagged is strains = absurd (subst (λ (g : HeadForm V H). HeadFormValueStrains m g) is (strains refl))

lies_told : {V H : Type 0} (m : Abstraction V H) → BaseLaws m → (h : SetHead V H) (ps : List V) (next : SetContent V) (i : Included)
    → NotWhole h.form → next.dims ≡ h.dims → EachPart (PartFits m h.dims) next.parts → FormValued m h.form ps
    → AnswersWhether (PartsIncluded m.included next.parts ps) (AreUndecided m next.parts ps) i
    → LiesIn m h ps next i
lies_told m pl h ps next Yes w same fit v t = record {
  answers = (same, stays_valued m h.form ps next.parts v t);
  valued = λ e. v;
}
lies_told m pl h ps next No w same fit v t = record {
  answers = λ st. t (valued_stays m pl h.dims h.form ps next.parts w v fit st.1);
  valued = λ e. v;
}
lies_told m pl h ps next Wide w same fit v t = record {
  answers = strains_valued m h.form ps next.parts w v t;
  valued = λ e. v;
}

pub lies_many : {V H : Type 0} (m : Abstraction V H) → BaseLaws m → (h : SetHead V H) (rs ps : List V) (next : SetContent V)
    (e : Exactness) (i : Included) → h.form ≡ many rs → next.dims ≡ h.dims → EachPart (PartFits m h.dims) next.parts
    → Values (set_abstraction m) h e (valued_set h ps)
    → AnswersWhether (PartsIncluded m.included next.parts ps) (AreUndecided m next.parts ps) i
    → LiesIn m h ps next i
lies_many {V} {H} m pl h rs ps next e i form same fit v t =
    lies_told m pl h ps next i (subst (λ (f : HeadForm V H). NotWhole f) (sym form) tt) same fit
    (v.exact (value_exact m h.form rs e form v.flagged)).form t

pub lies_one : {V H : Type 0} (m : Abstraction V H) → BaseLaws m → (h : SetHead V H) (g : H) (ps : List V) (next : SetContent V)
    (e : Exactness) (i : Included) → h.form ≡ one g → next.dims ≡ h.dims → EachPart (PartFits m h.dims) next.parts
    → Values (set_abstraction m) h e (valued_set h ps) → e ≡ Exact
    → AnswersWhether (PartsIncluded m.included next.parts ps) (AreUndecided m next.parts ps) i
    → LiesIn m h ps next i
lies_one {V} {H} m pl h g ps next e i form same fit v is t =
    lies_told m pl h ps next i (subst (λ (f : HeadForm V H). NotWhole f) (sym form) tt) same fit (v.exact is).form t

valued_same : {V H : Type 0} (m : Abstraction V H) → BaseLaws m → (f : HeadForm V H) (ps qs : List V) → FormValued m f ps
    → FormValued m f qs → ps ≡ qs
valued_same m pl (many rs) ps qs a b = a ∙ sym b
valued_same {V} m pl (one h) ps qs (p, v, e) (q, u, d) =
    e ∙ ap (λ (x : V). nonempty_parts m (x ∷ [])) (pl.one_valued h p q v u) ∙ sym d
valued_same m pl (whole p) ps qs a b = a ∙ sym b

strains_open : {V H : Type 0} (m : Abstraction V H) (f : HeadForm V H) (qs : List V) (mode : Mode) → HeadFormStrains m f qs mode
    → NotWhole f
strains_open m (many ps) qs mode s = tt
strains_open m (one h) qs mode s = tt
strains_open m (whole p) qs mode s = s

join_covers : {V H : Type 0} (m : Abstraction V H) → BaseLaws m → (old : SetHead V H) (next : SetContent V) (e : Exactness)
    (new : SetHead V H) (ps rs : List V) → FormValued m old.form ps
    → IsCollapsed m old.dims old.cap (ps ++ next.parts) e rs → FormStarts m old.thresholds rs new.form → (x : SetHead V H)
    → HeadGrown m old next Join x → FormCovered m x.form new.form
join_covers {V} {H} m pl old next e new ps rs valued settled starts x g =
    let by = g.form in
    let same : by.0 ≡ ps = valued_same m pl old.form by.0 ps by.3 valued in
    inr (inr (
      by.1,
      rs,
      old.thresholds,
      old.thresholds,
      by.5,
      starts,
      settled.covers by.2 by.1
          (subst (λ (xs : List V). CollapsesTo m old.cap by.2 (xs ++ next.parts) by.1) same by.4),
    ))

pub join_grew : {V H : Type 0} (m : Abstraction V H) → Laws m → BaseLaws m → (old : SetHead V H) (next : SetContent V) (d e : Exactness)
    (new : SetHead V H) (ps : List V) → next.dims ≡ old.dims → new.dims ≡ old.dims → new.cap ≡ old.cap
    → new.thresholds ≡ old.thresholds → Values (set_abstraction m) old d (valued_set old ps) → LiesIn m old ps next No
    → StartsAnew m old.thresholds old.dims old.cap ps next.parts e new.form → HasGrown m old next Join (grew_by e) new
join_grew {V} {H} m l pl old next d e new ps same dims cap given v lies (rs, settled, starts) =
    let comes : EachPart (PartFits m old.dims) next.parts → HeadFits m new → (s : List ℤ)
    → SomePart (λ p. m.gamma p s) (ps ++ next.parts) → HeadFormGamma m new.form s = λ fn ff s own.
    started_has m l pl old.thresholds rs new.form starts (form_fine m new.dims new.cap new.form ff.form) s
    (parts_within m l (ps ++ next.parts) rs
    (fits_formed m old.dims (ps ++ next.parts) (each_append (PartFits m old.dims) ps next.parts v.formed.0 fn))
    (fits_formed m old.dims rs settled.fit) settled.parts s own) in
    let valued : FormValued m old.form ps = lies.valued refl in
    grown_grew m old next Join e new (λ fo fn ff. record {
      formed = ff;
      both = (
        λ s own. (own.0 ∙ sym dims, comes fn ff s (some_left (λ p. m.gamma p s) ps next.parts (v.stores s own).1)),
        λ s own. (own.0 ∙ same ∙ sym dims, comes fn ff s (some_right (λ p. m.gamma p s) ps next.parts own.1)),
      );
      left = (given, left_anew m old.thresholds old.form rs new.form starts);
      covers = λ x g. (g.dims ∙ sym dims, join_covers m pl old next e new ps rs valued settled starts x g);
      moved = λ x. lies.answers;
      exact = λ x. let k = settled.exact x in record {
        dims = dims;
        cap = cap;
        rows = given;
        form = (ps, rs, k.0, valued, k.1, starts);
      };
      flagged = λ x. let k = settled.flagged x in inr (lies.answers, (ps, k.0, valued, k.1));
    }) (λ w. absurd (w refl))

pub join_stays : {V H : Type 0} (m : Abstraction V H) (old : SetHead V H) (next : SetContent V) (ps : List V) → LiesIn m old ps next Yes
    → HasGrown m old next Join Stable old
join_stays m old next ps lies = grown_stable m old next Join old refl lies.answers.1

pub join_wide : {V H : Type 0} (m : Abstraction V H) (old new : SetHead V H) (next : SetContent V) (ps : List V) → next.dims ≡ old.dims
    → HasAll m old new → LiesIn m old ps next Wide → HasGrown m old next Join (grew_by Flagged) new
join_wide m old new next ps same a lies =
    whole_grown m old next Join new a.part a.dims a.cap a.rows a.form (old.cap, a.all) same
    (strains_open m old.form next.parts Join lies.answers) (inl lies.answers)

-- the whole stays
pub whole_stays : {V H : Type 0} (m : Abstraction V H) (old : SetHead V H) (next : SetContent V) (mode : Mode) (p : V)
    → old.form ≡ whole p → HasGrown m old next mode Stable old
whole_stays {V} {H} m old next mode p form = grown_stable m old next mode old refl
    (subst (λ (f : HeadForm V H). FormStays m f next.parts mode) (sym form) tt)
