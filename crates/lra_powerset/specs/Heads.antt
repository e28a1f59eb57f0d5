-- The heads of sets of parts.
use Rattle.std.specs.Prelude.{◌≡◌, ◌≤◌, ℕ, zero, suc, ℤ, List, [], ◌∷◌, ◌++◌, length, ◌⊎◌}
use Rattle.lra_powerset.specs.Crates.{lra_linear_spec.declared.ConKind.ConKind, lra_systems.LinearSystems.LinearSystem}
use Rattle.lra_domain.specs.Abstraction.{Abstraction, GrowthStrains}
use Rattle.lra_domain.specs.declared.Included.TheVariants.{Yes, No, Wide}
use Rattle.lra_domain.specs.declared.Mode.TheVariants.{Join, Widen, Limited, Tightest}
use Rattle.lra_domain.specs.{declared.Included.Included, declared.Mode.Mode, declared.Rank.Rank}
use Rattle.lra_powerset.specs.Content.{SetContent, HeadForm, many, one, whole, SetHead, nonempty_parts}
use Rattle.lra_powerset.specs.Joins.{JoinsOn, JoinsOnStrains, Merges, MergeStrains, CollapsesTo, CollapseStrains}
use Rattle.lra_powerset.specs.Lists.{EachPart, SomePart}
use Rattle.lra_powerset.specs.Values.{AreUndecided, PartsIncluded, IsTopPart}

-- stores, and how many parts there may be ---------------------------------------------------------

abbrev pub HeadFormGamma : {V H : Type 0} → Abstraction V H → HeadForm V H → List ℤ → Type 0
HeadFormGamma m (many ps) s = SomePart (λ p. m.gamma p s) ps
HeadFormGamma m (one h) s = m.head_gamma h s
HeadFormGamma m (whole p) s = Unit {0}

abbrev pub SetHeadGamma : {V H : Type 0} → Abstraction V H → SetHead V H → List ℤ → Type 0
SetHeadGamma m h s = (length s ≡ h.dims) × HeadFormGamma m h.form s

abbrev pub FormCapped : {V H : Type 0} → HeadForm V H → ℕ → Type 0
FormCapped (many ps) c = length ps ≤ c
FormCapped (one h) c = 1 ≤ c
FormCapped (whole p) c = 1 ≤ c

abbrev pub HeadCapped : {V H : Type 0} → SetHead V H → ℕ → Type 0
HeadCapped h c = (h.cap ≡ c) × FormCapped h.form c

-- the rank: the number of parts, or 17 if there is none, then the last three numbers of the single part's head, or
-- zeros; a head that was given up is below all others
abbrev pub counted : ℕ → Rank
counted zero = record { first = 17; second = 0; third = 0; fourth = 0 }
counted (suc n) = record { first = suc n; second = 0; third = 0; fourth = 0 }

abbrev pub form_rank : {V H : Type 0} → Abstraction V H → HeadForm V H → Rank
form_rank m (many ps) = counted (length ps)
form_rank m (one h) = record {
  first = 1;
  second = (m.rank h).second;
  third = (m.rank h).third;
  fourth = (m.rank h).fourth;
}
form_rank m (whole p) = record { first = 0; second = 0; third = 0; fourth = 0 }

-- from values to heads and back -------------------------------------------------------------------

-- a single part becomes a head of its own
abbrev pub FormStarts : {V H : Type 0} → Abstraction V H → LinearSystem ConKind → List V → HeadForm V H → Type 0
FormStarts m given [] f = f ≡ many []
FormStarts {V} {H} m given (p ∷ []) f = (h : H) × m.started p given h × (f ≡ one h)
FormStarts m given (p ∷ q ∷ ps) f = f ≡ many (p ∷ q ∷ ps)

pub record HeadStarts {V H : Type 0} (m : Abstraction V H) (first : SetContent V) (given : LinearSystem ConKind)
    (h : SetHead V H)
    : Type 0 where
  pub dims : h.dims ≡ first.dims
  pub cap : h.cap ≡ first.cap
  pub rows : h.thresholds ≡ given
  pub form : FormStarts m given first.parts h.form

-- the parts of a head: those that it has, or its single part's value, unless that is empty
abbrev pub FormValued : {V H : Type 0} → Abstraction V H → HeadForm V H → List V → Type 0
FormValued m (many ps) qs = qs ≡ ps
FormValued {V} m (one h) qs = (p : V) × m.valued h p × (qs ≡ nonempty_parts m (p ∷ []))
FormValued m (whole p) qs = qs ≡ p ∷ []

pub record HeadValued {V H : Type 0} (m : Abstraction V H) (h : SetHead V H) (v : SetContent V) : Type 0 where
  pub dims : v.dims ≡ h.dims
  pub cap : v.cap ≡ h.cap
  pub form : FormValued m h.form v.parts

-- only the value of a single part exceeds a limit
abbrev pub HeadFormValueStrains : {V H : Type 0} → Abstraction V H → HeadForm V H → Type 0
HeadFormValueStrains m (many ps) = ⊥
HeadFormValueStrains m (one h) = m.value_strains h
HeadFormValueStrains m (whole p) = ⊥

-- whether next lies in a head ---------------------------------------------------------------------

-- each of these parts lies in the head: in one of its parts; in its single part, whose value is asked in mode Join
abbrev pub FormStays : {V H : Type 0} → Abstraction V H → HeadForm V H → List V → Mode → Type 0
FormStays m (many ps) qs mode = PartsIncluded m.included qs ps
FormStays {V} m (one h) qs Join = (p : V) × m.valued h p × EachPart (λ q. m.included q p) qs
FormStays m (one h) qs Widen = EachPart (λ q. m.stays h q Widen) qs
FormStays m (one h) qs Limited = EachPart (λ q. m.stays h q Limited) qs
FormStays m (one h) qs Tightest = EachPart (λ q. m.stays h q Tightest) qs
FormStays m (whole p) qs mode = Unit {0}

abbrev pub HeadStays : {V H : Type 0} → Abstraction V H → SetHead V H → SetContent V → Mode → Type 0
HeadStays m h v mode = (v.dims ≡ h.dims) × FormStays m h.form v.parts mode

-- an inclusion in a single part's head exceeds a limit: that of the join of next's parts; or of one of them, if that
-- join exceeds a limit
abbrev pub OneStrains : {V H : Type 0} → Abstraction V H → H → List V → Mode → Type 0
OneStrains {V} m h qs mode =
    ((j : V) × Merges m qs j × m.answers h j mode Wide)
    ⊎ (MergeStrains m qs × SomePart (λ q. m.answers h q mode Wide) qs)

abbrev pub HeadFormStrains : {V H : Type 0} → Abstraction V H → HeadForm V H → List V → Mode → Type 0
HeadFormStrains m (many ps) qs mode = AreUndecided m qs ps
HeadFormStrains {V} m (one h) qs Join =
    m.value_strains h ⊎ ((p : V) × m.valued h p × AreUndecided m qs (nonempty_parts m (p ∷ [])))
HeadFormStrains m (one h) qs Widen = OneStrains m h qs Widen
HeadFormStrains m (one h) qs Limited = OneStrains m h qs Limited
HeadFormStrains m (one h) qs Tightest = OneStrains m h qs Tightest
HeadFormStrains m (whole p) qs mode = ⊥

abbrev pub HeadAnswers : {V H : Type 0} → Abstraction V H → SetHead V H → SetContent V → Mode → Included → Type 0
HeadAnswers m h v mode Yes = HeadStays m h v mode
HeadAnswers m h v mode No = ¬ HeadStays m h v mode
HeadAnswers m h v mode Wide = HeadFormStrains m h.form v.parts mode

-- growth ------------------------------------------------------------------------------------------

-- the first head grows by the value, unless it lies in it
abbrev pub GrowsBy : {V H : Type 0} → Abstraction V H → H → V → Mode → H → Type 0
GrowsBy m g k mode h = (m.stays g k mode × (h ≡ g)) ⊎ ((¬ m.stays g k mode) × m.grown g k mode h)

-- outside joining, a head that isn't one part first becomes one, the join of its parts in order (without parts, that of
-- next's); that part then grows by the join of next's parts in order
abbrev pub Widens : {V H : Type 0} → Abstraction V H → LinearSystem ConKind → HeadForm V H → List V → Mode →
    HeadForm V H → Type 0
Widens {V} {H} m given (many []) qs mode f = (k : V) × (h : H) × Merges m qs k × m.started k given h × (f ≡ one h)
Widens {V} {H} m given (many (p ∷ ps)) qs mode f = (j k : V) × (g h : H)
    × JoinsOn m p ps j × m.started j given g × Merges m qs k × GrowsBy m g k mode h × (f ≡ one h)
Widens {V} {H} m given (one g) qs mode f = (k : V) × (h : H) × Merges m qs k × m.grown g k mode h × (f ≡ one h)
Widens m given (whole p) qs mode f = f ≡ whole p

-- in joining it becomes the set's join with next
abbrev pub JoinsWith : {V H : Type 0} → Abstraction V H → ℕ → LinearSystem ConKind → HeadForm V H → List V →
    HeadForm V H → Type 0
JoinsWith {V} m cap given old qs f = (ps rs : List V) × (joins : ℕ)
    × FormValued m old ps × CollapsesTo m cap joins (ps ++ qs) rs × FormStarts m given rs f

abbrev pub FormGrown : {V H : Type 0} → Abstraction V H → SetHead V H → List V → Mode → HeadForm V H → Type 0
FormGrown m old qs Join f = JoinsWith m old.cap old.thresholds old.form qs f
FormGrown m old qs Widen f = Widens m old.thresholds old.form qs Widen f
FormGrown m old qs Limited f = Widens m old.thresholds old.form qs Limited f
FormGrown m old qs Tightest f = Widens m old.thresholds old.form qs Tightest f

pub record HeadGrown {V H : Type 0} (m : Abstraction V H) (old : SetHead V H) (next : SetContent V) (mode : Mode)
    (new : SetHead V H)
    : Type 0 where
  pub dims : new.dims ≡ old.dims
  pub cap : new.cap ≡ old.cap
  pub rows : new.thresholds ≡ old.thresholds
  pub form : FormGrown m old next.parts mode new.form

-- a join of parts exceeds a limit, or the growth of the single part
abbrev pub WidenStrains : {V H : Type 0} → Abstraction V H → LinearSystem ConKind → HeadForm V H → List V → Mode →
    Type 0
WidenStrains m given (many []) qs mode = MergeStrains m qs
WidenStrains {V} {H} m given (many (p ∷ ps)) qs mode =
    JoinsOnStrains m p ps
    ⊎ (MergeStrains m qs
    ⊎ ((j k : V) × (g : H) × JoinsOn m p ps j × m.started j given g × Merges m qs k × GrowthStrains m g k mode))
WidenStrains {V} m given (one g) qs mode =
    MergeStrains m qs ⊎ ((k : V) × Merges m qs k × m.grow_strains g k mode)
WidenStrains m given (whole p) qs mode = ⊥

abbrev pub HeadGrowStrains : {V H : Type 0} → Abstraction V H → SetHead V H → SetContent V → Mode → Type 0
HeadGrowStrains {V} m old next Join =
    (ps : List V) × (joins : ℕ) × FormValued m old.form ps × CollapseStrains m old.cap joins (ps ++ next.parts)
HeadGrowStrains m old next Widen = WidenStrains m old.thresholds old.form next.parts Widen
HeadGrowStrains m old next Limited = WidenStrains m old.thresholds old.form next.parts Limited
HeadGrowStrains m old next Tightest = WidenStrains m old.thresholds old.form next.parts Tightest

-- a head that is given up has all stores: it is whole, or its single part's head is given up
abbrev pub FormGivenUp : {V H : Type 0} → Abstraction V H → ℕ → HeadForm V H → Mode → HeadForm V H → Type 0
FormGivenUp {V} {H} m n old mode new =
    ((p : V) × IsTopPart m n p × (new ≡ whole p))
    ⊎ ((g h : H) × (old ≡ one g) × (new ≡ one h) × (m.head_dims g ≡ n) × m.given_up g mode h)

pub record HeadGivenUp {V H : Type 0} (m : Abstraction V H) (old : SetHead V H) (mode : Mode) (new : SetHead V H)
    : Type 0 where
  pub dims : new.dims ≡ old.dims
  pub cap : new.cap ≡ old.cap
  pub form : FormGivenUp m old.dims old.form mode new.form

-- the widening thresholds that are left ------------------------------------------------------------

-- parts that become one start with all widening thresholds, and grow without loss
abbrev pub BeginsAsOne : {V H : Type 0} → Abstraction V H → LinearSystem ConKind → Mode → H → Type 0
BeginsAsOne {V} {H} m given mode h =
    (p : V) × (g : H) × m.started p given g × ((h ≡ g) ⊎ ((k : V) × m.grown g k mode h))

-- In joining the head starts again with its widening thresholds, or is given up. Outside joining they are left as the
-- single part's head leaves them.
abbrev pub FormLeft : {V H : Type 0} → Abstraction V H → LinearSystem ConKind → HeadForm V H → Mode → HeadForm V H →
    Type 0
FormLeft {V} m given old Join (one h) = (p : V) × m.started p given h
FormLeft m given (one g) Widen (one h) = m.left g Widen h
FormLeft m given (one g) Limited (one h) = m.left g Limited h
FormLeft m given (one g) Tightest (one h) = m.left g Tightest h
FormLeft m given (many ps) Widen (one h) = BeginsAsOne m given Widen h
FormLeft m given (many ps) Limited (one h) = BeginsAsOne m given Limited h
FormLeft m given (many ps) Tightest (one h) = BeginsAsOne m given Tightest h
FormLeft m given old mode new = Unit {0}

abbrev pub HeadLeft : {V H : Type 0} → Abstraction V H → SetHead V H → Mode → SetHead V H → Type 0
HeadLeft m old mode new = (new.thresholds ≡ old.thresholds) × FormLeft m old.thresholds old.form mode new.form

-- which head covers another -----------------------------------------------------------------------

-- all stores cover everything; else a single part's head covers another, or heads start with parts that cover others
abbrev pub FormCovered : {V H : Type 0} → Abstraction V H → HeadForm V H → HeadForm V H → Type 0
FormCovered {V} {H} m f g =
    ((p : V) × (g ≡ whole p))
    ⊎ (((h k : H) × (f ≡ one h) × (g ≡ one k) × m.head_leq h k)
    ⊎ ((ps qs : List V) × (a b : LinearSystem ConKind)
    × FormStarts m a ps f × FormStarts m b qs g × PartsIncluded m.leq ps qs))

abbrev pub HeadCovered : {V H : Type 0} → Abstraction V H → SetHead V H → SetHead V H → Type 0
HeadCovered m a b = (a.dims ≡ b.dims) × FormCovered m a.form b.form
