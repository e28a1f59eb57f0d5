-- Lemmas on sets of parts.
use Rattle.std.proofs.Common.{◌≡◌, ◌⊎◌, ℕ, ◌≤◌, ◌^◌, ℤ, List, [], ◌∷◌, ◌++◌, length, refl, ap, sym, subst, ◌∙◌, inl, inr, arith}
use Rattle.std.proofs.lemmas.List.Elements.{All-append}
use Rattle.std.specs.{List.All, Prelude.flat_map}
use Rattle.lra_powerset.specs.Crates.{lra_linear_spec.declared.ConKind.ConKind, lra_systems.LinearSystems.LinearSystem}
use Rattle.lra_domain.specs.Abstraction.{Abstraction, TransfersTo, Joins, worse}
use Rattle.lra_domain.specs.{Actions.Action, Actions.dims_after, Actions.Within, Laws.Laws, Laws.PartsAreExact, Laws.BaseLaws, Parts.CapsWithin, Parts.SomePartHolds, declared.Exactness.Exactness}
use Rattle.lra_powerset.specs.Laws.{parts_within, inside_covers, whole_is_filled}
use Rattle.lra_powerset.specs.Values.{PartsIncluded, SetCapped, SetGamma, SetTop, SetBottom}
use Rattle.lra_powerset.specs.declared.changes.BorrowedChange.TheVariants.{Assign, Forget, Test, Embed, RemoveLast}
use Rattle.lra_powerset.specs.{Abstraction.set_abstraction, Changes.ChangeFits, Changes.borrowed_action, Content.SetContent, Content.HeadForm, Content.PartFits, Growth.StartsAnew, Heads.FormStarts}
use Rattle.lra_powerset.specs.{Lists.EachPart, Lists.SomePart, Outcomes.HaveDims, Outcomes.IsCollapsed, Outcomes.AreChanged, declared.changes.BorrowedChange.BorrowedChange}
use Rattle.lra_powerset.proofs.{AnswerLemmas.fits_dims, AnswerLemmas.fits_none, ChangeLemmas.Appended, ChangeLemmas.set_meets, ChangeLemmas.set_joins, PartLists.each_append}

-- a set that lies in another has no store beyond its
pub inside_stores : {V H : Type 0} (m : Abstraction V H) → Laws m → BaseLaws m → (a b : SetContent V)
    → EachPart m.well_formed a.parts → EachPart m.well_formed b.parts → a.dims ≡ b.dims → PartsIncluded m.included a.parts b.parts →
    Within (SetGamma m a) (SetGamma m b)
inside_stores m l pl a b f g same st s own =
    (own.0 ∙ same, parts_within m l a.parts b.parts f g (inside_covers m pl a.parts b.parts st) s own.1)

-- the part with all stores fits
pub universe_fits : {V H : Type 0} (m : Abstraction V H) → BaseLaws m → (n cap : ℕ) (p : V) (ps : List V) → ps ≡ p ∷ []
    → m.well_formed p → m.top n cap p → m.dims p ≡ n → EachPart (PartFits m n) ps
universe_fits {V} m pl n cap p ps alone fine u dims = subst (λ (xs : List V). EachPart (PartFits m n) xs) (sym alone)
    (record { formed = fine; dims = dims; full = whole_is_filled m pl n p (cap, u) }, tt)

-- changes -----------------------------------------------------------------------------------------------------------------

pub dims_small : (change : BorrowedChange) (n : ℕ) → ChangeFits change n → n ≤ 2 ^ 30 → dims_after (borrowed_action change) n ≤ 2 ^ 30
dims_small (Assign x e) n fits small = small
dims_small (Forget x) n fits small = small
dims_small (Test t) n fits small = small
dims_small (Embed k) n fits small = fits
dims_small (RemoveLast k) n fits small = omega (arith, small)

-- what was appended to no part
pub appended_fit : {V H : Type 0} (m : Abstraction V H) (step : Action) (n : ℕ) (ps : List V) (e : Exactness) (none qs : List V)
    → none ≡ [] → EachPart (PartFits m n) ps → Appended m step none ps e qs → EachPart (PartFits m (dims_after step n)) qs
appended_fit {V} m step n ps e none qs is fit (rs, same, c) =
    let whole : qs ≡ rs = same ∙ ap (λ (xs : List V). xs ++ rs) is in
    subst (λ (xs : List V). EachPart (PartFits m (dims_after step n)) xs) (sym whole) (c.fit n (fits_dims m n ps fit))

pub change_meets : {V H : Type 0} (m : Abstraction V H) → Laws m → BaseLaws m → (step : Action) (old new : SetContent V)
    (one two : Exactness) (none qs : List V) → none ≡ [] → new.dims ≡ dims_after step old.dims → new.cap ≡ old.cap
    → length old.parts ≤ old.cap → EachPart (PartFits m old.dims) old.parts → Appended m step none old.parts one qs
    → ((n : ℕ) → EachPart (PartFits m n) qs → IsCollapsed m n old.cap qs two new.parts)
    → TransfersTo (set_abstraction m) step old (worse one two) new
change_meets {V} m l pl step old new one two none qs is dims cap few fit (rs, same, c) settled =
    let whole : qs ≡ rs = same ∙ ap (λ (xs : List V). xs ++ rs) is in
    let all = appended_fit m step old.dims old.parts one none qs is fit (rs, same, c) in
    set_meets m l pl step old new one two qs dims cap few (fits_dims m old.dims old.parts fit)
    (subst (λ (xs : List V). AreChanged m step old.parts one xs) (sym whole) c) (settled (dims_after step old.dims) all)

pub settled_few : {V H : Type 0} (m : Abstraction V H) (n cap : ℕ) (ps qs : List V) (e : Exactness) → EachPart (PartFits m n) ps
    → ((k : ℕ) → EachPart (PartFits m k) ps → IsCollapsed m k cap ps e qs) → length qs ≤ cap
settled_few m n cap ps qs e fit settled = (settled n fit).few

pub settled_fit : {V H : Type 0} (m : Abstraction V H) (n cap : ℕ) (ps qs : List V) (e : Exactness) → EachPart (PartFits m n) ps
    → ((k : ℕ) → EachPart (PartFits m k) ps → IsCollapsed m k cap ps e qs) → EachPart (PartFits m n) qs
settled_fit m n cap ps qs e fit settled = (settled n fit).fit

-- joins -------------------------------------------------------------------------------------------------------------------

pub both_fit : {V H : Type 0} (m : Abstraction V H) (n k : ℕ) (ps qs all : List V) → n ≡ k → all ≡ ps ++ qs
    → EachPart (PartFits m n) ps → EachPart (PartFits m k) qs → EachPart (PartFits m n) all
both_fit {V} m n k ps qs all same is a b = subst (λ (xs : List V). EachPart (PartFits m n) xs) (sym is)
    (each_append (PartFits m n) ps qs a (subst (λ (i : ℕ). EachPart (PartFits m i) qs) (sym same) b))

pub join_joins : {V H : Type 0} (m : Abstraction V H) (one two new : SetContent V) (e : Exactness) (all : List V)
    → one.dims ≡ two.dims → new.dims ≡ one.dims → new.cap ≡ one.cap → all ≡ one.parts ++ two.parts
    → EachPart (PartFits m one.dims) all
    → ((k : ℕ) → EachPart (PartFits m k) all → IsCollapsed m k one.cap all e new.parts)
    → Joins (set_abstraction m) one two e new
join_joins {V} m one two new e all same dims cap is fit settled = set_joins m one two new e same dims cap
    (subst (λ (xs : List V). IsCollapsed m one.dims one.cap xs e new.parts) is (settled one.dims fit))

-- a head that starts again
pub anew_starts : {V H : Type 0} (m : Abstraction V H) (given : LinearSystem ConKind) (n cap : ℕ) (ps qs all rs : List V) (e : Exactness)
    (f : HeadForm V H) → all ≡ ps ++ qs → EachPart (PartFits m n) all
    → ((k : ℕ) → EachPart (PartFits m k) all → IsCollapsed m k cap all e rs) → FormStarts m given rs f
    → StartsAnew m given n cap ps qs e f
anew_starts {V} m given n cap ps qs all rs e f is fit settled starts =
    (rs, subst (λ (xs : List V). IsCollapsed m n cap xs e rs) is (settled n fit), starts)

-- the rows that mean the parts --------------------------------------------------------------------------------------------

holds_left : (ps qs : List (LinearSystem ConKind)) (s : List ℤ) → SomePartHolds ps s → SomePartHolds (ps ++ qs) s
holds_left [] qs s h = absurd h
holds_left (p ∷ ps) qs s (inl h) = inl h
holds_left (p ∷ ps) qs s (inr h) = inr (holds_left ps qs s h)

holds_right : (ps qs : List (LinearSystem ConKind)) (s : List ℤ) → SomePartHolds qs s → SomePartHolds (ps ++ qs) s
holds_right [] qs s h = h
holds_right (p ∷ ps) qs s h = inr (holds_right ps qs s h)

holds_split : (ps qs : List (LinearSystem ConKind)) (s : List ℤ) → SomePartHolds (ps ++ qs) s
    → SomePartHolds ps s ⊎ SomePartHolds qs s
holds_split [] qs s h = inr h
holds_split (p ∷ ps) qs s (inl h) = inl (inl h)
holds_split (p ∷ ps) qs s (inr h) = after p ps qs s (holds_split ps qs s h)
  where
    after : (p : LinearSystem ConKind) (ps qs : List (LinearSystem ConKind)) (s : List ℤ) → SomePartHolds ps s ⊎ SomePartHolds qs s
        → SomePartHolds (p ∷ ps) s ⊎ SomePartHolds qs s
    after p ps qs s (inl h) = inl (inr h)
    after p ps qs s (inr h) = inr h

-- what the rows of parts are: of their dimensions
abbrev pub RowsFit : {V H : Type 0} → Abstraction V H → List V → Type 0
RowsFit m ps = (n : ℕ) → HaveDims m n ps → All (λ p. p.dims ≡ n) (flat_map m.parts ps)

-- each store of the parts meets the rows of some of them
abbrev pub RowsHold : {V H : Type 0} → Abstraction V H → List V → Type 0
RowsHold m ps = (s : List ℤ) → SomePart (λ p. m.gamma p s) ps → SomePartHolds (flat_map m.parts ps) s

-- and what does, of as many numbers, is one
abbrev pub RowsTell : {V H : Type 0} → Abstraction V H → List V → Type 0
RowsTell m ps = (n : ℕ) → HaveDims m n ps → (s : List ℤ) → length s ≡ n
    → SomePartHolds (flat_map m.parts ps) s → SomePart (λ p. m.gamma p s) ps

rows_hold : {V H : Type 0} (m : Abstraction V H) (p : V) (later : List V) (s : List ℤ) → (m.gamma p s → SomePartHolds (m.parts p) s)
    → (SomePart (λ q. m.gamma q s) later → SomePartHolds (flat_map m.parts later) s)
    → SomePart (λ q. m.gamma q s) (p ∷ later) → SomePartHolds (m.parts p ++ flat_map m.parts later) s
rows_hold m p later s one more (inl h) = holds_left (m.parts p) (flat_map m.parts later) s (one h)
rows_hold m p later s one more (inr h) = holds_right (m.parts p) (flat_map m.parts later) s (more h)

rows_tell : {V H : Type 0} (m : Abstraction V H) (p : V) (later : List V) (s : List ℤ) → (SomePartHolds (m.parts p) s → m.gamma p s)
    → (SomePartHolds (flat_map m.parts later) s → SomePart (λ q. m.gamma q s) later)
    → SomePartHolds (m.parts p) s ⊎ SomePartHolds (flat_map m.parts later) s → SomePart (λ q. m.gamma q s) (p ∷ later)
rows_tell m p later s one more (inl h) = inl (one h)
rows_tell m p later s one more (inr h) = inr (more h)

pub more_hold : {V H : Type 0} (m : Abstraction V H) (ps : List V) (p : V) (later : List V) (rows : List (LinearSystem ConKind))
    → ps ≡ p ∷ later → rows ≡ m.parts p → ((s : List ℤ) → m.gamma p s → SomePartHolds rows s) → RowsHold m later → RowsHold m ps
more_hold {V} m ps p later rows cut is one more = subst (λ (xs : List V). RowsHold m xs) (sym cut)
    (λ s h. rows_hold m p later s (subst (λ (r : List (LinearSystem ConKind)). m.gamma p s → SomePartHolds r s) is (one s)) (more s) h)

pub more_tell : {V H : Type 0} (m : Abstraction V H) (ps : List V) (p : V) (later : List V) → ps ≡ p ∷ later → PartsAreExact m p
    → RowsTell m later → RowsTell m ps
more_tell {V} m ps p later cut one more = subst (λ (xs : List V). RowsTell m xs) (sym cut)
    (λ n all s long h. rows_tell m p later s (λ own. one s (long ∙ sym all.0) own) (λ others. more n all.1 s long others)
    (holds_split (m.parts p) (flat_map m.parts later) s h))

each_both : (n : ℕ) (xs ys : List (LinearSystem ConKind)) → All (λ p. p.dims ≡ n) xs → All (λ p. p.dims ≡ n) ys
    → All (λ p. p.dims ≡ n) (xs ++ ys)
each_both n xs ys a b = All-append (λ (p : LinearSystem ConKind). p.dims ≡ n) xs ys a b

pub more_fit : {V H : Type 0} (m : Abstraction V H) (ps : List V) (p : V) (later : List V) (rows : List (LinearSystem ConKind))
    → ps ≡ p ∷ later → rows ≡ m.parts p → All (λ r. r.dims ≡ m.dims p) rows → RowsFit m later → RowsFit m ps
more_fit {V} m ps p later rows cut is one more = subst (λ (xs : List V). RowsFit m xs) (sym cut)
    (λ n all. each_both n (m.parts p) (flat_map m.parts later)
    (subst (λ (r : List (LinearSystem ConKind)). All (λ x. x.dims ≡ n) r) is
    (subst (λ (k : ℕ). All (λ x. x.dims ≡ k) rows) all.0 one)) (more n all.1))

pub change_fits : (change : BorrowedChange) (n k : ℕ) → n ≡ k → ChangeFits change n → ChangeFits change k
change_fits change n k same fits = subst (λ (i : ℕ). ChangeFits change i) same fits

-- the calls as they stand -------------------------------------------------------------------------------------------------

pub none_rows : {V H : Type 0} (m : Abstraction V H) (ps : List V) → ps ≡ [] → flat_map m.parts ps ≡ []
none_rows {V} m ps e = subst (λ (xs : List V). flat_map m.parts xs ≡ []) (sym e) refl

pub rows_none : {V H : Type 0} (m : Abstraction V H) (n : ℕ) (ps qs : List V) → ps ≡ qs → EachPart (PartFits m n) ps
    → flat_map m.parts qs ≡ [] → ps ≡ []
rows_none {V} m n ps qs e fit none = fits_none m n ps fit (subst (λ (xs : List V). flat_map m.parts xs ≡ []) (sym e) none)

pub joined_lists : {V : Type 0} (xs ys all ps qs : List V) → all ≡ xs ++ ys → xs ≡ ps → ys ≡ qs → all ≡ ps ++ qs
joined_lists {V} xs ys all ps qs e d f =
    e ∙ ap (λ (zs : List V). zs ++ ys) d ∙ ap (λ (zs : List V). ps ++ zs) f

pub others_fit : {V H : Type 0} (m : Abstraction V H) (n k : ℕ) (ps qs : List V) → n ≡ k → ps ≡ qs → EachPart (PartFits m n) ps
    → EachPart (PartFits m k) qs
others_fit {V} m n k ps qs e d fit = subst (λ (xs : List V). EachPart (PartFits m k) xs) d
    (subst (λ (i : ℕ). EachPart (PartFits m i) ps) e fit)

-- the parts of both sets, one after the other
pub joined_fit : {V H : Type 0} (m : Abstraction V H) (n i k : ℕ) (ps qs xs ys all : List V) → n ≡ k → i ≡ k → all ≡ xs ++ ys
    → xs ≡ ps → ys ≡ qs → EachPart (PartFits m n) ps → EachPart (PartFits m i) qs → EachPart (PartFits m n) all
joined_fit m n i k ps qs xs ys all own others is first second a b =
    both_fit m n k ps qs all own (joined_lists xs ys all ps qs is first second) a (others_fit m i k qs qs others refl b)

all_rows : {V H : Type 0} (m : Abstraction V H) (ps : List V) (none all : List (LinearSystem ConKind)) → none ≡ []
    → all ≡ none ++ flat_map m.parts ps → all ≡ flat_map m.parts ps
all_rows m ps none all e d = d ∙ ap (λ (rows : List (LinearSystem ConKind)). rows ++ flat_map m.parts ps) e

pub set_rows_fit : {V H : Type 0} (m : Abstraction V H) (n k : ℕ) (ps : List V) (none all : List (LinearSystem ConKind)) → n ≡ k
    → none ≡ [] → all ≡ none ++ flat_map m.parts ps → RowsFit m ps → HaveDims m n ps → All (λ p. p.dims ≡ k) all
set_rows_fit m n k ps none all same e d fit dims =
    subst (λ (rows : List (LinearSystem ConKind)). All (λ p. p.dims ≡ k) rows) (sym (all_rows m ps none all e d))
    (subst (λ (i : ℕ). All (λ p. p.dims ≡ i) (flat_map m.parts ps)) same (fit n dims))

pub set_hold : {V H : Type 0} (m : Abstraction V H) (v : SetContent V) (ps : List V) (none all : List (LinearSystem ConKind)) → ps ≡ v.parts
    → none ≡ [] → all ≡ none ++ flat_map m.parts ps → RowsHold m ps → (s : List ℤ) → SetGamma m v s → SomePartHolds all s
set_hold {V} m v ps none all own e d hold s has =
    subst (λ (xs : List (LinearSystem ConKind)). SomePartHolds xs s) (sym (all_rows m ps none all e d))
    (hold s (subst (λ (xs : List V). SomePart (λ p. m.gamma p s) xs) (sym own) has.1))

pub set_tell : {V H : Type 0} (m : Abstraction V H) (v : SetContent V) (n : ℕ) (ps : List V) → n ≡ v.dims → ps ≡ v.parts → RowsTell m ps
    → HaveDims m n ps → PartsAreExact (set_abstraction m) v
set_tell {V} m v n ps same own tell dims = λ s long h. (
  long,
  subst (λ (xs : List V). SomePart (λ p. m.gamma p s) xs) own
      (tell n dims s (long ∙ sym same) (subst (λ (xs : List V). SomePartHolds (flat_map m.parts xs) s) (sym own) h)),
)

-- what has no store, or all, with the cap of a set, has each cap of the set
pub empty_capped : {V : Type 0} (v w : SetContent V) (n cap : ℕ) → cap ≡ v.cap → SetBottom n cap w → CapsWithin (SetCapped v) (SetCapped w)
empty_capped {V} v w n cap same is = λ c own. (
  ap (λ (x : SetContent V). x.cap) is ∙ same ∙ own.0,
  subst (λ (x : SetContent V). length x.parts ≤ c) (sym is) (omega arith),
)

pub universe_capped : {V H : Type 0} (m : Abstraction V H) (v w : SetContent V) (n cap : ℕ) → cap ≡ v.cap → 1 ≤ cap → SetTop m n cap w
    → CapsWithin (SetCapped v) (SetCapped w)
universe_capped {V} m v w n cap same some is = λ c own.
    let caps : cap ≡ c = same ∙ own.0 in
    (is.cap_is ∙ caps, subst (λ (ps : List V). length ps ≤ c) (sym is.alone) (subst (λ (k : ℕ). 1 ≤ k) caps some))
