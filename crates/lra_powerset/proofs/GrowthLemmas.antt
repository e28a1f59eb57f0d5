-- Lemmas on how heads grow.
use Rattle.std.proofs.Common.{◌≡◌, ◌≢◌, ◌⊎◌, ℕ, ◌<◌, ℤ, Bool, true, false, List, [], ◌∷◌, length, Option, Some, None, refl, sym, subst, ◌∙◌, inl, inr, arith}
use Rattle.std.proofs.lemmas.Option.{same_Some}
use Rattle.lra_powerset.specs.Crates.{lra_linear_spec.declared.ConKind.ConKind, lra_systems.LinearSystems.LinearSystem}
use Rattle.lra_domain.specs.Abstraction.{Abstraction, Starts, Grew, GrowthStrains}
use Rattle.lra_domain.specs.declared.Included.TheVariants.{Yes, No, Wide}
use Rattle.lra_domain.specs.{Laws.Laws, Laws.BaseLaws, Rank.RankBelow, Rank.RankFits, declared.Exactness.Exactness, declared.Exactness.TheVariants.Exact, declared.Exactness.TheVariants.Flagged}
use Rattle.lra_domain.specs.{declared.Grown.Grown, declared.Grown.TheVariants.Stable, declared.Grown.TheVariants.Grew as grew_by, declared.Mode.Mode, declared.Mode.TheVariants.Join}
use Rattle.lra_powerset.specs.{Content.HeadForm, Content.many, Content.one, Growth.MergesExactly, Growth.StartsAndGrows, Growth.BecomesOne, Growth.StaysWithAll, Growth.OneAnswers, Heads.GrowsBy}
use Rattle.lra_powerset.specs.{Heads.FormCovered, Heads.Widens, Joins.JoinsOn, Joins.Merges, ListLemmas.each_map, Lists.EachPart, Lists.SomePart, Outcomes.AreMerged, Outcomes.HaveDims}

-- joins of parts ----------------------------------------------------------------------------------------------------------

on_same : {V H : Type 0} (m : Abstraction V H) → BaseLaws m → (a : V) (ps : List V) (j k : V) → JoinsOn m a ps j
    → JoinsOn m a ps k → j ≡ k
on_same m pl a [] j k x y = x ∙ sym y
on_same {V} m pl a (p ∷ ps) j k (b, ab, x) (c, ac, y) =
    on_same m pl b ps j k x (subst (λ (d : V). JoinsOn m d ps k) (pl.one_joined a p c b ac ab) y)

pub merge_same : {V H : Type 0} (m : Abstraction V H) → BaseLaws m → (ps : List V) (j k : V) → Merges m ps j → Merges m ps k
    → j ≡ k
merge_same m pl [] j k x y = absurd x
merge_same m pl (p ∷ ps) j k x y = on_same m pl p ps j k x y

pub merged_exact : {V H : Type 0} (m : Abstraction V H) (ps : List V) (e : Exactness) (j : V) → AreMerged m ps e j → e ≡ Exact
    → MergesExactly m ps (Some j)
merged_exact m [] e j a x = absurd a
merged_exact m (p ∷ ps) e j a x = (a.exact x, (a.first, a.others), a.formed)

pub merged_strains : {V H : Type 0} (m : Abstraction V H) (ps : List V) (e : Exactness) (j : V) → AreMerged m ps e j
    → e ≡ Flagged → MergesExactly m ps None
merged_strains m [] e j a x = absurd a
merged_strains m (p ∷ ps) e j a x = a.flagged x

pub has_all : {V H : Type 0} (m : Abstraction V H) → Laws m → (ps : List V) (j : V) → EachPart m.well_formed ps → m.well_formed j
    → EachPart (λ p. m.leq p j) ps → (s : List ℤ) → SomePart (λ p. m.gamma p s) ps → m.gamma j s
has_all m l [] j fine own_fine each s own = absurd own
has_all m l (p ∷ ps) j fine own_fine each s (inl own) = l.leq_stores p j fine.0 own_fine each.0 s own
has_all m l (p ∷ ps) j fine own_fine each s (inr own) = has_all m l ps j fine.1 own_fine each.1 s own

-- what lies in a single part's head ---------------------------------------------------------------------------------------

each_stays_under : {V H : Type 0} (m : Abstraction V H) → BaseLaws m → (h : H) (k : V) (qs : List V) (mode : Mode)
    → EachPart (λ q. m.leq q k) qs → m.stays h k mode → EachPart (λ q. m.stays h q mode) qs
each_stays_under m pl h k qs mode all st = each_map (λ q. m.leq q k) (λ q. m.stays h q mode)
    (λ q c. pl.stays_covered h q k mode c st) qs all

join_stays : {V H : Type 0} (m : Abstraction V H) → BaseLaws m → (h : H) (a : V) (ps : List V) (j : V) (mode : Mode)
    → JoinsOn m a ps j → m.stays h a mode → EachPart (λ q. m.stays h q mode) ps → m.stays h j mode
join_stays {V} m pl h a [] j mode e sa each = subst (λ (x : V). m.stays h x mode) (sym e) sa
join_stays m pl h a (p ∷ ps) j mode (b, ab, more) sa each =
    join_stays m pl h b ps j mode more (pl.stays_joined h a p b mode ab sa each.0) each.1

pub merge_stays : {V H : Type 0} (m : Abstraction V H) → BaseLaws m → (h : H) (ps : List V) (j : V) (mode : Mode)
    → Merges m ps j → EachPart (λ q. m.stays h q mode) ps → m.stays h j mode
merge_stays m pl h [] j mode x each = absurd x
merge_stays m pl h (p ∷ ps) j mode x each = join_stays m pl h p ps j mode x each.0 each.1

-- a single part's head grows by the join of next's parts
pub one_exact : {V H : Type 0} (m : Abstraction V H) → Laws m → BaseLaws m → (old new : H) (k : V) (qs : List V) (mode : Mode)
    (g : Grown) → MergesExactly m qs (Some k) → (g ≡ Stable → new ≡ old) → (g ≡ Stable → m.answers old k mode Yes)
    → ((a : Exactness) → g ≡ grew_by a → Grew m old k mode a new)
    → ((a : Exactness) → g ≡ grew_by a → mode ≢ Join → RankBelow (m.rank new) (m.rank old)) → mode ≢ Join
    → OneAnswers m old qs mode (Some g) new
one_exact m l pl old new k qs mode Stable merged same lies grew lower widens =
    (same refl, each_stays_under m pl old k qs mode merged.1 (l.answers_yes old k mode (lies refl)))
one_exact m l pl old new k qs mode (grew_by e) merged same lies grew lower widens =
    record { join = k; formed = merged.2; merged = merged.0; all = merged.1; grew = grew e refl; lower = lower e refl widens }

pub one_none : {V H : Type 0} (m : Abstraction V H) (old : H) (qs : List V) (mode : Mode) → qs ≡ []
    → OneAnswers m old qs mode (Some Stable) old
one_none {V} m old qs mode e = (refl, subst (λ (xs : List V). EachPart (λ q. m.stays old q mode) xs) (sym e) tt)

pub one_all : {V H : Type 0} (m : Abstraction V H) (old new : H) (qs : List V) (mode : Mode) (b : Bool)
    → StaysWithAll m old qs mode b new → b ≡ true → OneAnswers m old qs mode (Some Stable) new
one_all m old new qs mode true st e = st
one_all m old new qs mode false st e = let wrong : ⊥ = cc in absurd wrong

pub one_fails : {V H : Type 0} (m : Abstraction V H) (old new : H) (k : V) (qs : List V) (mode : Mode) (b : Bool)
    (e : Exactness) → AreMerged m qs e k → ¬ (e ≡ Exact) → StaysWithAll m old qs mode b new → b ≡ false
    → OneAnswers m old qs mode None new
one_fails m old new k qs mode true e a n st is = let wrong : ⊥ = cc in absurd wrong
one_fails m old new k qs mode false Exact a n st is = absurd (n refl)
one_fails m old new k qs mode false Flagged a n st is = (merged_strains m qs Flagged k a refl, st)

-- each part is tried by itself
pub all_none : {V H : Type 0} (m : Abstraction V H) (old : H) (qs : List V) (mode : Mode) → qs ≡ []
    → StaysWithAll m old qs mode true old
all_none m old qs mode e = one_none m old qs mode e

pub all_more : {V H : Type 0} (m : Abstraction V H) → Laws m → (old mid new : H) (p : V) (later qs : List V) (mode : Mode)
    (b : Bool) → qs ≡ p ∷ later → mid ≡ old → m.answers old p mode Yes → StaysWithAll m mid later mode b new
    → StaysWithAll m old qs mode b new
all_more {V} {H} m l old mid new p later qs mode b cut same lies st =
    subst (λ (xs : List V). StaysWithAll m old xs mode b new) (sym cut)
    (more m l old new p later mode b lies (subst (λ (h : H). StaysWithAll m h later mode b new) same st))
  where
    more : {V H : Type 0} (m : Abstraction V H) → Laws m → (old new : H) (p : V) (later : List V) (mode : Mode) (b : Bool)
        → m.answers old p mode Yes → StaysWithAll m old later mode b new → StaysWithAll m old (p ∷ later) mode b new
    more m l old new p later mode true lies st = (st.0, (l.answers_yes old p mode lies, st.1))
    more m l old new p later mode false lies st = inr st

pub all_fails : {V H : Type 0} (m : Abstraction V H) (old new : H) (p : V) (later qs : List V) (mode : Mode) (a : Exactness)
    → qs ≡ p ∷ later → Grew m old p mode a new → StaysWithAll m old qs mode false new
all_fails {V} m old new p later qs mode a cut grew =
    subst (λ (xs : List V). StaysWithAll m old xs mode false new) (sym cut) (inl (outside m old new p mode a grew))
  where
    of_flag : {V H : Type 0} (m : Abstraction V H) (old new : H) (p : V) (mode : Mode)
        → (m.answers old p mode Wide × m.given_up old mode new) ⊎ (m.answers old p mode No × m.grow_strains old p mode)
        → m.answers old p mode No ⊎ m.answers old p mode Wide
    of_flag m old new p mode (inl wide) = inr wide.0
    of_flag m old new p mode (inr out) = inl out.0

    outside : {V H : Type 0} (m : Abstraction V H) (old new : H) (p : V) (mode : Mode) (a : Exactness)
        → Grew m old p mode a new → m.answers old p mode No ⊎ m.answers old p mode Wide
    outside m old new p mode Exact grew = inl (grew.moved refl)
    outside m old new p mode Flagged grew = of_flag m old new p mode (grew.flagged refl)

-- a head starts with the join of the parts, and grows ---------------------------------------------------------------------

pub start_strains : {V H : Type 0} (m : Abstraction V H) (given : LinearSystem ConKind) (ps : List V) (k : V) (mode : Mode)
    → MergesExactly m ps None → StartsAndGrows m given ps k mode None
start_strains m given ps k mode strains = inl strains

started_alike : {V H : Type 0} (m : Abstraction V H) → BaseLaws m → (given : LinearSystem ConKind) (j : V) (g h i : H)
    → m.started j given g → h ≡ g → i ≡ g → FormCovered m (one i) (one h)
started_alike {V} {H} m pl given j g h i st e d = inr (inr (
  j ∷ [],
  j ∷ [],
  given,
  given,
  (g, st, cc),
  (g, st, cc),
  (inl (pl.leq_reflexive j), tt),
))

pub start_stays : {V H : Type 0} (m : Abstraction V H) → Laws m → BaseLaws m → (given : LinearSystem ConKind) (ps : List V)
    (j k : V) (mode : Mode) (g h : H) → EachPart m.well_formed ps → m.well_formed k → MergesExactly m ps (Some j)
    → Starts m j given g → h ≡ g → m.answers g k mode Yes → StartsAndGrows m given ps k mode (Some h)
start_stays {V} {H} m l pl given ps j k mode g h fine by_fine merged st e lies =
    let in_it = l.answers_yes g k mode lies in (
      j,
      g,
      merged.0,
      st.started,
      inl (in_it, e),
      (λ i grows. covers m pl given j k mode g h i in_it st.started e grows),
      (λ s own. subst (λ (x : H). m.head_gamma x s) (sym e) (st.stores s (has_all m l ps j fine merged.2 merged.1 s own))),
      (λ s own. subst (λ (x : H). m.head_gamma x s) (sym e) (l.stays_stores g k mode st.formed by_fine in_it s own)),
    )
  where
    covers : {V H : Type 0} (m : Abstraction V H) → BaseLaws m → (given : LinearSystem ConKind) (j k : V) (mode : Mode) (g h i : H)
        → m.stays g k mode → m.started j given g → h ≡ g → GrowsBy m g k mode i → FormCovered m (one i) (one h)
    covers m pl given j k mode g h i in_it st e (inl stays) = started_alike m pl given j g h i st e stays.1
    covers m pl given j k mode g h i in_it st e (inr grows) = absurd (grows.0 in_it)

pub start_grown : {V H : Type 0} (m : Abstraction V H) → Laws m → BaseLaws m → (given : LinearSystem ConKind) (ps : List V)
    (j k : V) (mode : Mode) (g h : H) → EachPart m.well_formed ps → m.well_formed k → MergesExactly m ps (Some j)
    → Starts m j given g → Grew m g k mode Exact h → StartsAndGrows m given ps k mode (Some h)
start_grown {V} {H} m l pl given ps j k mode g h fine by_fine merged st grew =
    let out = l.answers_no g k mode (grew.moved refl) in (
      j,
      g,
      merged.0,
      st.started,
      inr (out, grew.exact refl),
      (λ i grows. covers m k mode g h i out grew grows),
      (λ s own. l.old_stores g k h st.formed grew.formed grew.both s (st.stores s (has_all m l ps j fine merged.2 merged.1 s own))),
      (λ s own. l.next_stores g k h by_fine grew.formed grew.both s own),
    )
  where
    covers : {V H : Type 0} (m : Abstraction V H) (k : V) (mode : Mode) (g h i : H) → ¬ m.stays g k mode
        → Grew m g k mode Exact h → GrowsBy m g k mode i → FormCovered m (one i) (one h)
    covers m k mode g h i out grew (inl stays) = absurd (out stays.0)
    covers m k mode g h i out grew (inr grows) = inr (inl (i, h, refl, refl, grew.covers i grows.1))

growth_strains : {V H : Type 0} (m : Abstraction V H) (g h : H) (k : V) (mode : Mode)
    → (m.answers g k mode Wide × m.given_up g mode h) ⊎ (m.answers g k mode No × m.grow_strains g k mode)
    → GrowthStrains m g k mode
growth_strains m g h k mode (inl wide) = inl wide.0
growth_strains m g h k mode (inr out) = inr out

pub start_flagged : {V H : Type 0} (m : Abstraction V H) (given : LinearSystem ConKind) (ps : List V) (j k : V) (mode : Mode) (g h : H)
    → MergesExactly m ps (Some j) → Starts m j given g → Grew m g k mode Flagged h
    → StartsAndGrows m given ps k mode None
start_flagged m given ps j k mode g h merged st grew =
    inr (j, g, merged.0, st.started, growth_strains m g h k mode (grew.flagged refl))

-- parts become one --------------------------------------------------------------------------------------------------------

pub one_strains : {V H : Type 0} (m : Abstraction V H) (given : LinearSystem ConKind) (ps qs : List V) (mode : Mode)
    → MergesExactly m qs None → BecomesOne m given ps qs mode None
one_strains m given [] qs mode strains = strains
one_strains m given (p ∷ ps) qs mode strains = inr (inl strains)

pub one_first : {V H : Type 0} (m : Abstraction V H) → Laws m → BaseLaws m → (given : LinearSystem ConKind) (ps qs : List V)
    (mode : Mode) (k : V) (h : H) → EachPart m.well_formed qs → ps ≡ [] → MergesExactly m qs (Some k) → Starts m k given h
    → BecomesOne m given ps qs mode (Some h)
one_first {V} {H} m l pl given ps qs mode k h fine none merged st =
    subst (λ (xs : List V). BecomesOne m given xs qs mode (Some h)) (sym none) (
      (k, h, merged.0, st.started, refl),
      (λ f w. covers m pl given qs mode k h merged.0 st.started f w),
      (λ s own. absurd own),
      (λ s own. st.stores s (has_all m l qs k fine merged.2 merged.1 s own)),
    )
  where
    covers : {V H : Type 0} (m : Abstraction V H) → BaseLaws m → (given : LinearSystem ConKind) (qs : List V) (mode : Mode) (k : V)
        (h : H) → Merges m qs k → m.started k given h → (f : HeadForm V H) → Widens m given (many []) qs mode f
        → FormCovered m f (one h)
    covers {V} {H} m pl given qs mode k h merged st f (x, i, merges, started, e) = inr (inr (
      x ∷ [],
      k ∷ [],
      given,
      given,
      (i, started, e),
      (h, st, refl),
      (inl (subst (λ (y : V). m.leq x y) (merge_same m pl qs x k merges merged) (pl.leq_reflexive x)), tt),
    ))

more_none : {V H : Type 0} (m : Abstraction V H) (given : LinearSystem ConKind) (p : V) (ps qs : List V) (mode : Mode) (k : V)
    → MergesExactly m qs (Some k) → StartsAndGrows m given (p ∷ ps) k mode None
    → BecomesOne m given (p ∷ ps) qs mode None
more_none m given p ps qs mode k merged (inl strains) = inl strains
more_none m given p ps qs mode k merged (inr (j, g, joins, started, strains)) =
    inr (inr (j, k, g, joins, started, merged.0, strains))

more_covers : {V H : Type 0} (m : Abstraction V H) → BaseLaws m → (given : LinearSystem ConKind) (p : V) (ps qs : List V) (mode : Mode)
    (j k : V) (g h : H) → JoinsOn m p ps j → m.started j given g → Merges m qs k
    → ((i : H) → GrowsBy m g k mode i → FormCovered m (one i) (one h)) → (f : HeadForm V H)
    → Widens m given (many (p ∷ ps)) qs mode f → FormCovered m f (one h)
more_covers {V} {H} m pl given p ps qs mode j k g h joins started merged covers f (x, y, a, b, on, st, merges, grows, e) =
    let first : x ≡ j = on_same m pl p ps x j on joins in
    let start : a ≡ g = pl.one_started j given a g (subst (λ (z : V). m.started z given a) first st) started in
    let by : y ≡ k = merge_same m pl qs y k merges merged in
    let grown : GrowsBy m g k mode b = subst (λ (z : H). GrowsBy m z k mode b) start
    (subst (λ (z : V). GrowsBy m a z mode b) by grows) in
    subst (λ (z : HeadForm V H). FormCovered m z (one h)) (sym e) (covers b grown)

more_one : {V H : Type 0} (m : Abstraction V H) → Laws m → BaseLaws m → (given : LinearSystem ConKind) (p : V) (ps qs : List V)
    (mode : Mode) (k : V) (o : Option H) → EachPart m.well_formed qs → MergesExactly m qs (Some k)
    → StartsAndGrows m given (p ∷ ps) k mode o → BecomesOne m given (p ∷ ps) qs mode o
more_one m l pl given p ps qs mode k None fine merged g = more_none m given p ps qs mode k merged g
more_one m l pl given p ps qs mode k (Some h) fine merged (j, g, joins, started, grows, covers, own, by) = (
  (j, k, g, h, joins, started, merged.0, grows, refl),
  more_covers m pl given p ps qs mode j k g h joins started merged.0 covers,
  own,
  (λ s has. by s (has_all m l qs k fine merged.2 merged.1 s has)),
)

pub one_more : {V H : Type 0} (m : Abstraction V H) → Laws m → BaseLaws m → (given : LinearSystem ConKind) (ps qs : List V)
    (mode : Mode) (k : V) (o : Option H) → EachPart m.well_formed qs → 0 < length ps → MergesExactly m qs (Some k)
    → StartsAndGrows m given ps k mode o → BecomesOne m given ps qs mode o
one_more m l pl given [] qs mode k o fine some merged g = let wrong : ⊥ = omega (arith, some) in absurd wrong
one_more m l pl given (p ∷ ps) qs mode k o fine some merged g = more_one m l pl given p ps qs mode k o fine merged g

-- dimensions and other small things ---------------------------------------------------------------------------------------

pub dims_of_some : {V H : Type 0} (m : Abstraction V H) (ps : List V) (j k : V) → ((n : ℕ) → HaveDims m n ps → m.dims j ≡ n)
    → Some j ≡ Some k → (n : ℕ) → HaveDims m n ps → m.dims k ≡ n
dims_of_some {V} m ps j k dims e n all = subst (λ (x : V). m.dims x ≡ n) (same_Some j k e) (dims n all)

pub head_of_some : {V H : Type 0} (m : Abstraction V H) (g h : H) (n : ℕ) → m.head_dims g ≡ n → RankFits (m.rank g)
    → m.head_well_formed g → Some g ≡ Some h → (m.head_dims h ≡ n) × RankFits (m.rank h) × m.head_well_formed h
head_of_some {V} {H} m g h n dims fits fine e =
    subst (λ (x : H). (m.head_dims x ≡ n) × RankFits (m.rank x) × m.head_well_formed x) (same_Some g h e) (dims, fits, fine)

pub merges_some : {V H : Type 0} (m : Abstraction V H) (ps : List V) (o : Option V) (j : V) → o ≡ Some j → MergesExactly m ps o
    → MergesExactly m ps (Some j)
merges_some {V} m ps o j e t = subst (λ (x : Option V). MergesExactly m ps x) e t

-- the head stays as it was after a step that answers Stable
pub stays_as : {V H : Type 0} (m : Abstraction V H) → Laws m → BaseLaws m → (given : LinearSystem ConKind) (ps : List V) (j k : V)
    (mode : Mode) (g h : H) (o : Option V) → EachPart m.well_formed ps → m.well_formed k → o ≡ Some j → MergesExactly m ps o
    → Starts m j given g → h ≡ g → m.answers g k mode Yes → StartsAndGrows m given ps k mode (Some h)
stays_as m l pl given ps j k mode g h o fine by_fine e t st same lies =
    start_stays m l pl given ps j k mode g h fine by_fine (merges_some m ps o j e t) st same lies

pub grown_as : {V H : Type 0} (m : Abstraction V H) → Laws m → BaseLaws m → (given : LinearSystem ConKind) (ps : List V) (j k : V)
    (mode : Mode) (g h : H) (o : Option V) → EachPart m.well_formed ps → m.well_formed k → o ≡ Some j → MergesExactly m ps o
    → Starts m j given g → Grew m g k mode Exact h → StartsAndGrows m given ps k mode (Some h)
grown_as m l pl given ps j k mode g h o fine by_fine e t st grew =
    start_grown m l pl given ps j k mode g h fine by_fine (merges_some m ps o j e t) st grew

-- a head that is held is so after each growth
pub grown_formed : {V H : Type 0} (m : Abstraction V H) (old new : H) (k : V) (mode : Mode) (g : Grown) → m.head_well_formed old
    → (g ≡ Stable → new ≡ old) → ((a : Exactness) → g ≡ grew_by a → Grew m old k mode a new) → m.head_well_formed new
grown_formed {V} {H} m old new k mode Stable fine same grew = subst m.head_well_formed (sym (same refl)) fine
grown_formed m old new k mode (grew_by a) fine same grew = (grew a refl).formed

pub merged_formed : {V H : Type 0} (m : Abstraction V H) (ps : List V) (e : Exactness) (j : V) → AreMerged m ps e j → m.well_formed j
merged_formed m [] e j a = absurd a
merged_formed m (p ∷ ps) e j a = a.formed
