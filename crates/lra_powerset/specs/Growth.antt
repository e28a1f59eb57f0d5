-- What the steps of a head's growth leave, for the contracts of the code.
use Rattle.std.specs.Prelude.{◌≡◌, ◌≢◌, ℕ, ℤ, Bool, true, false, List, [], ◌∷◌, ◌++◌, Option, Some, None, ◌⊎◌}
use Rattle.lra_powerset.specs.Crates.{lra_linear_spec.declared.ConKind.ConKind, lra_systems.LinearSystems.LinearSystem}
use Rattle.lra_domain.specs.Abstraction.{Abstraction, Grew, GrowthStrains, Values}
use Rattle.lra_domain.specs.declared.Grown.TheVariants.{Stable, Grew as grew_by}
use Rattle.lra_domain.specs.declared.Included.TheVariants.{No, Wide}
use Rattle.lra_domain.specs.{Rank.RankBelow, declared.Exactness.Exactness, declared.Grown.Grown}
use Rattle.lra_domain.specs.{declared.Included.Included, declared.Mode.Mode, declared.Mode.TheVariants.Join}
use Rattle.lra_powerset.specs.Content.{HeadForm, many, one, whole, SetContent, SetHead, PartFits, nonempty_parts}
use Rattle.lra_powerset.specs.Heads.{FormStarts, FormCovered, FormStays, FormValued, HeadAnswers, Widens, WidenStrains}
use Rattle.lra_powerset.specs.{Abstraction.set_abstraction, Forms.HeadFits, Heads.GrowsBy, Heads.form_rank}
use Rattle.lra_powerset.specs.{Joins.Merges, Joins.MergeStrains, Lists.EachPart, Lists.SomePart, Outcomes.IsCollapsed}

-- the join of the parts, which covers each of them; or a join exceeds a limit
abbrev pub MergesExactly : {V H : Type 0} → Abstraction V H → List V → Option V → Type 0
MergesExactly m ps None = MergeStrains m ps
MergesExactly m ps (Some j) = Merges m ps j × EachPart (λ p. m.leq p j) ps × m.well_formed j

-- next's parts come in, and the head starts again
abbrev pub StartsAnew : {V H : Type 0} → Abstraction V H → LinearSystem ConKind → ℕ → ℕ → List V → List V → Exactness →
    HeadForm V H
    → Type 0
StartsAnew {V} m given n cap ps qs e f = (rs : List V) × IsCollapsed m n cap (ps ++ qs) e rs × FormStarts m given rs f

-- the head that started with the join of the parts grew by the other, without loss; or something exceeds a limit
abbrev pub StartsAndGrows : {V H : Type 0} → Abstraction V H → LinearSystem ConKind → List V → V → Mode → Option H →
    Type 0
StartsAndGrows {V} {H} m given ps k mode None = MergeStrains m ps
    ⊎ ((j : V) × (g : H) × Merges m ps j × m.started j given g × GrowthStrains m g k mode)
StartsAndGrows {V} {H} m given ps k mode (Some h) = (j : V) × (g : H)
    × Merges m ps j × m.started j given g × GrowsBy m g k mode h
    × ((i : H) → GrowsBy m g k mode i → FormCovered m (one i) (one h))
    × ((s : List ℤ) → SomePart (λ p. m.gamma p s) ps → m.head_gamma h s)
    × ((s : List ℤ) → m.gamma k s → m.head_gamma h s)

-- parts, not one, became one by joins without loss, which grew without loss; or something exceeds a limit
abbrev pub BecomesOne : {V H : Type 0} → Abstraction V H → LinearSystem ConKind → List V → List V → Mode → Option H →
    Type 0
BecomesOne m given ps qs mode None = WidenStrains m given (many ps) qs mode
BecomesOne {V} {H} m given ps qs mode (Some h) =
    Widens m given (many ps) qs mode (one h)
    × ((f : HeadForm V H) → Widens m given (many ps) qs mode f → FormCovered m f (one h))
    × ((s : List ℤ) → SomePart (λ p. m.gamma p s) ps → m.head_gamma h s)
    × ((s : List ℤ) → SomePart (λ q. m.gamma q s) qs → m.head_gamma h s)

-- whether each part is reported to lie in the head, which then stays as it was
abbrev pub StaysWithAll : {V H : Type 0} → Abstraction V H → H → List V → Mode → Bool → H → Type 0
StaysWithAll m old qs mode true new = (new ≡ old) × EachPart (λ q. m.stays old q mode) qs
StaysWithAll m old qs mode false new = SomePart (λ q. m.answers old q mode No ⊎ m.answers old q mode Wide) qs

-- a single part's head grew by the join of next's parts
pub record OneGrew {V H : Type 0} (m : Abstraction V H) (old : H) (qs : List V) (mode : Mode) (e : Exactness) (new : H)
    : Type 0 where
  pub join : V
  pub formed : m.well_formed join
  pub merged : Merges m qs join
  pub all : EachPart (λ q. m.leq q join) qs
  pub grew : Grew m old join mode e new
  pub lower : RankBelow (m.rank new) (m.rank old)

-- what became of a single part's head: it stays, or grew; or nothing is known of it, since the join of next's parts
-- exceeds a limit, and one of them doesn't lie in it or can't be reported to
abbrev pub OneAnswers : {V H : Type 0} → Abstraction V H → H → List V → Mode → Option Grown → H → Type 0
OneAnswers m old qs mode (Some Stable) new = (new ≡ old) × EachPart (λ q. m.stays old q mode) qs
OneAnswers m old qs mode (Some (grew_by e)) new = OneGrew m old qs mode e new
OneAnswers m old qs mode None new =
    MergeStrains m qs × SomePart (λ q. m.answers old q mode No ⊎ m.answers old q mode Wide) qs

-- what became of a head whose single part's head grew
pub record SingleAnswers {V H : Type 0} (m : Abstraction V H) (old : SetHead V H) (qs : List V) (mode : Mode)
    (o : Option Grown) (new : SetHead V H) : Type 0 where
  pub before : H
  pub after : H
  pub was : old.form ≡ one before
  pub form : new.form ≡ one after
  pub rows : new.thresholds ≡ old.thresholds
  pub dims : m.head_dims before ≡ old.dims
  pub answers : OneAnswers m before qs mode o after

-- the value of a single part's head, as parts: none if it is empty
pub record OneValued {V H : Type 0} (m : Abstraction V H) (h : H) (e : Exactness) (ps : List V) : Type 0 where
  pub value : V
  pub values : Values m h e value
  pub dims : m.dims value ≡ m.head_dims h
  pub parts : ps ≡ nonempty_parts m (value ∷ [])

-- the parts of a head's value, as a set
abbrev pub valued_set : {V H : Type 0} → SetHead V H → List V → SetContent V
valued_set h ps = record { dims = h.dims; cap = h.cap; parts = ps }

-- in joining, the answer whether next lies in the head; with No the parts are its value as defined
pub record LiesIn {V H : Type 0} (m : Abstraction V H) (h : SetHead V H) (ps : List V) (next : SetContent V)
    (i : Included) : Type 0 where
  pub answers : HeadAnswers m h next Join i
  pub valued : i ≡ No → FormValued m h.form ps

-- the head was given up: it has the part with all stores, and is else as it was
pub record HasAll {V H : Type 0} (m : Abstraction V H) (old new : SetHead V H) : Type 0 where
  pub part : V
  pub all : m.top old.dims old.cap part
  pub dims : new.dims ≡ old.dims
  pub cap : new.cap ≡ old.cap
  pub rows : new.thresholds ≡ old.thresholds
  pub form : new.form ≡ whole part

-- what a growth of a head leaves
pub record HasGrown {V H : Type 0} (m : Abstraction V H) (old : SetHead V H) (next : SetContent V) (mode : Mode)
    (g : Grown)
    (new : SetHead V H) : Type 0 where
  pub stable : g ≡ Stable → new ≡ old
  pub stays : g ≡ Stable → FormStays m old.form next.parts mode
  -- of heads and a value that are held
  pub grew : (e : Exactness) → g ≡ grew_by e → HeadFits m old → EachPart (PartFits m old.dims) next.parts
      → HeadFits m new → Grew (set_abstraction m) old next mode e new
  pub lower : (e : Exactness) → g ≡ grew_by e → mode ≢ Join → RankBelow (form_rank m new.form) (form_rank m old.form)
