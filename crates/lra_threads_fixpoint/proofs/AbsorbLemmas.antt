-- What a box becomes for a row of intervals: it is formed, keeps its stores, and has what any number of writes makes of
-- them.
use Rattle.std.proofs.Common.{◌≡◌, ◌∙◌, ◌+◌, ◌≤◌, ◌<◌, ℕ, zero, suc, ℤ, List, [], ◌∷◌, length, get_or, drop, drop-cons, Option, None, Some, refl, ap, sym, subst, arith}
use Rattle.std.proofs.{Math.ListN.length-set, lemmas.Option.same_Some}
use Rattle.std.specs.Prelude.{slice_set}
use Rattle.lra_domain.specs.{Interference.RelyClosure, Interference.none, Interference.more, Interference.Absorbs, declared.Exactness.TheVariants.Exact}
use Rattle.lra_box.specs.{Abstraction.BoxGamma, Abstraction.box_abstraction, Bounds.InInterval, Bounds.InBounds, Content.BoxContent, Content.WellFormedBox, Content.BoundsFit, Laws.same_within}
use Rattle.lra_box.specs.{Tables.has_bounds, Tables.on_bounds, Tables.admitting, Tables.admitted, declared.interval.Interval.Interval}
use Rattle.lra_box.proofs.AdmitLemmas.{joined_first, joined_second, admitted_formed, admitted_stays}
use Rattle.lra_threads_fixpoint.proofs.ListLemmas.{drop_all}
use Rattle.lra_threads_fixpoint.specs.Interference.{admitting_option, admitting_row, interval_at, MayWrite, row_interference}
use Rattle.lra_threads_fixpoint.specs.Intervals.{IntervalRow, OptionFits, RowFits}

-- formed, and with all stores --------------------------------------------------------------------------------------

pub option_formed : (x : ℕ) (i : Option Interval) (v : BoxContent) → OptionFits i → WellFormedBox v → WellFormedBox (admitting_option x i v)
option_formed x None v fits h = h
option_formed x (Some i) v fits h = admitted_formed x i v fits h

option_stays : (x : ℕ) (i : Option Interval) (v : BoxContent) (s : List ℤ) → BoxGamma v s → BoxGamma (admitting_option x i v) s
option_stays x None v s h = h
option_stays x (Some i) v s h = admitted_stays x i v s h

row_formed : (x : ℕ) (row : IntervalRow) (v : BoxContent) → RowFits row → WellFormedBox v → WellFormedBox (admitting_row x row v)
row_formed x [] v fits h = h
row_formed x (i ∷ is) v fits h = row_formed (suc x) is (admitting_option x i v) fits.1 (option_formed x i v fits.0 h)

row_stays : (x : ℕ) (row : IntervalRow) (v : BoxContent) (s : List ℤ) → BoxGamma v s → BoxGamma (admitting_row x row v) s
row_stays x [] v s h = h
row_stays x (i ∷ is) v s h = row_stays (suc x) is (admitting_option x i v) s (option_stays x i v s h)

-- a number at a place ----------------------------------------------------------------------------------------------

-- a list of intervals may have the number at the place
abbrev Takes : List Interval → ℕ → ℤ → Type 0
Takes [] g z = Unit {0}
Takes (i ∷ is) zero z = InInterval i z
Takes (i ∷ is) (suc g) z = Takes is g z

abbrev BoundsTake : Option (List Interval) → ℕ → ℤ → Type 0
BoundsTake None g z = Unit {0}
BoundsTake (Some is) g z = Takes is g z

takes_own : (is : List Interval) (g : ℕ) (j : Interval) (z : ℤ) → InInterval j z → Takes (admitting g j is) g z
takes_own [] g j z h = tt
takes_own (i ∷ is) zero j z h = joined_second i j z h
takes_own (i ∷ is) (suc g) j z h = takes_own is g j z h

takes_still : (is : List Interval) (x g : ℕ) (j : Interval) (z : ℤ) → Takes is g z → Takes (admitting x j is) g z
takes_still [] x g j z h = tt
takes_still (i ∷ is) zero zero j z h = joined_first i j z h
takes_still (i ∷ is) zero (suc g) j z h = h
takes_still (i ∷ is) (suc x) zero j z h = h
takes_still (i ∷ is) (suc x) (suc g) j z h = takes_still is x g j z h

option_takes : (x : ℕ) (i : Option Interval) (v : BoxContent) (g : ℕ) (z : ℤ) → BoundsTake v.bounds g z
    → BoundsTake (admitting_option x i v).bounds g z
option_takes x None v g z h = h
option_takes x (Some i) v g z h = by_bounds v.bounds h
  where
    by_bounds : (b : Option (List Interval)) → BoundsTake b g z → BoundsTake (on_bounds (admitting x i) b) g z
    by_bounds None h = tt
    by_bounds (Some is) h = takes_still is x g i z h

own_takes : (x : ℕ) (i : Interval) (b : Option (List Interval)) (z : ℤ) → InInterval i z
    → BoundsTake (on_bounds (admitting x i) b) x z
own_takes x i None z h = tt
own_takes x i (Some is) z h = takes_own is x i z h

still_takes : (x : ℕ) (row : IntervalRow) (v : BoxContent) (g : ℕ) (z : ℤ) → BoundsTake v.bounds g z → BoundsTake (admitting_row x row v).bounds g z
still_takes x [] v g z h = h
still_takes x (i ∷ is) v g z h = still_takes (suc x) is (admitting_option x i v) g z (option_takes x i v g z h)

-- a number of the row's interval at a place is taken there
row_takes : (x k g : ℕ) (row : IntervalRow) (v : BoxContent) (i : Interval) (z : ℤ) → x + k ≡ g → interval_at k row ≡ Some i → InInterval i z
    → BoundsTake (admitting_row x row v).bounds g z
row_takes x k g [] v i z e told h = let wrong : ⊥ = cc in absurd wrong
row_takes x zero g (None ∷ is) v i z e told h = let wrong : ⊥ = cc in absurd wrong
row_takes x zero g (Some j ∷ is) v i z e told h =
    let same : x ≡ g = omega (arith, e) in
    let own = own_takes x j v.bounds z (subst (λ (y : Interval). InInterval y z) (sym (same_Some j i told)) h) in
    still_takes (suc x) is (admitted x j v) g z (subst (λ (y : ℕ). BoundsTake (admitted x j v).bounds y z) same own)
row_takes x (suc k) g (j ∷ is) v i z e told h = row_takes (suc x) k g is (admitting_option x j v) i z (omega (arith, e)) told h

intervals_take : (is : List Interval) (s : List ℤ) (g : ℕ) (z : ℤ) → Takes is g z → InBounds is s → InBounds is (slice_set s g z)
intervals_take [] [] g z t h = tt
intervals_take [] (v ∷ s) g z t h = absurd h
intervals_take (i ∷ is) [] g z t h = absurd h
intervals_take (i ∷ is) (v ∷ s) zero z t h = (t, h.1)
intervals_take (i ∷ is) (v ∷ s) (suc g) z t h = (h.0, intervals_take is s g z t h.1)

box_takes : (v : BoxContent) (s : List ℤ) (g : ℕ) (z : ℤ) → BoundsTake v.bounds g z → BoxGamma v s → BoxGamma v (slice_set s g z)
box_takes v s g z t h = (length-set {A = ℤ} s g z ∙ h.0, by_bounds v.bounds t h.1)
  where
    by_bounds : (b : Option (List Interval)) → BoundsTake b g z → has_bounds b s → has_bounds b (slice_set s g z)
    by_bounds None t h = h
    by_bounds (Some is) t h = intervals_take is s g z t h

-- any number of writes ---------------------------------------------------------------------------------------------

given : (row : IntervalRow) (v : BoxContent) (s t : List ℤ) → BoxGamma (admitting_row 0 row v) s → MayWrite row s t → BoxGamma (admitting_row 0 row v) t
given row v s t h gift =
    let has = box_takes (admitting_row 0 row v) s gift.global gift.number
    (row_takes 0 gift.global gift.global row v gift.interval gift.number (omega arith) gift.is_told gift.is_in) h in
    subst (λ (u : List ℤ). BoxGamma (admitting_row 0 row v) u) (sym gift.after) has

all_given : (row : IntervalRow) (v : BoxContent) (s t : List ℤ) → BoxGamma v s → RelyClosure (MayWrite row) s t → BoxGamma (admitting_row 0 row v) t
all_given row v s _ h (none _) = row_stays 0 row v s h
all_given row v s u h (more _ t _ many gift) = given row v t u (all_given row v s t h many) gift

pub row_admits : (row : IntervalRow) (old new : BoxContent) → RowFits row → WellFormedBox old → new ≡ admitting_row 0 row old
    → Absorbs (row_interference row) box_abstraction old Exact new
row_admits row old new fits fine e = record {
  formed = subst WellFormedBox (sym e) (row_formed 0 row old fits fine);
  stores = λ s t h many. subst (λ (v : BoxContent). BoxGamma v t) (sym e) (all_given row old s t h many);
  exact = λ _. e;
  covers = λ flagged v done. same_within v new (done ∙ sym e);
  flagged = λ no. cc;
}

-- step by step -----------------------------------------------------------------------------------------------------

pub fits_get : (row all : IntervalRow) (k : ℕ) → row ≡ all → RowFits all → OptionFits (get_or row k None)
fits_get row all k e fits = by_row row k (subst RowFits (sym e) fits)
  where
    by_row : (row : IntervalRow) (k : ℕ) → RowFits row → OptionFits (get_or row k None)
    by_row [] k fits = tt
    by_row (i ∷ is) zero fits = fits.0
    by_row (i ∷ is) (suc k) fits = by_row is k fits.1

-- a place after the last one
admitting_beyond : (is : List Interval) (x : ℕ) (i : Interval) → length is ≤ x → admitting x i is ≡ is
admitting_beyond [] x i h = refl
admitting_beyond (j ∷ is) zero i h = absurd (omega (arith, h))
admitting_beyond (j ∷ is) (suc x) i h = ap (λ (js : List Interval). j ∷ js) (admitting_beyond is x i (omega (arith, h)))

pub option_beyond : (x : ℕ) (i : Option Interval) (v : BoxContent) → WellFormedBox v → v.dims ≤ x → admitting_option x i v ≡ v
option_beyond x None v fine h = refl
option_beyond x (Some i) v fine h = by_bounds v.bounds fine.0
  where
    by_bounds : (b : Option (List Interval)) → BoundsFit v.dims b
        → record v { bounds = on_bounds (admitting x i) b } ≡ record v { bounds = b }
    by_bounds None fit = refl
    by_bounds (Some is) fit = ap (λ (js : List Interval). record v { bounds = Some js }) (admitting_beyond is x i (omega (arith, fit, h)))

option_dims : (x : ℕ) (i : Option Interval) (v : BoxContent) → (admitting_option x i v).dims ≡ v.dims
option_dims x None v = refl
option_dims x (Some i) v = refl

pub row_dims : (x : ℕ) (row : IntervalRow) (v : BoxContent) → (admitting_row x row v).dims ≡ v.dims
row_dims x [] v = refl
row_dims x (i ∷ is) v = row_dims (suc x) is (admitting_option x i v) ∙ option_dims x i v

-- one more interval has come in
pub step_kept : (x : ℕ) (items all : IntervalRow) (old v new : BoxContent) → items ≡ all → RowFits all → x < length items → WellFormedBox v
    → new ≡ admitting_option x (get_or items x None) v → admitting_row x (drop x items) v ≡ admitting_row 0 items old
    → WellFormedBox new × (admitting_row (x + 1) (drop (x + 1) items) new ≡ admitting_row 0 items old)
step_kept x items all old v new e fits few fine is rest =
    let fit = fits_get items all x e fits in
    let formed = subst WellFormedBox (sym is) (option_formed x (get_or items x None) v fit fine) in
    let taken : drop x items ≡ get_or items x None ∷ drop (suc x) items = drop-cons items x None few in
    let before : admitting_row (suc x) (drop (suc x) items) (admitting_option x (get_or items x None) v) ≡ admitting_row 0 items old =
    subst (λ (row : IntervalRow). admitting_row x row v ≡ admitting_row 0 items old) taken rest in
    let after = subst (λ (w : BoxContent). admitting_row (suc x) (drop (suc x) items) w ≡ admitting_row 0 items old) (sym is) before in
    let next : suc x ≡ x + 1 = omega arith in
    (formed, subst (λ (y : ℕ). admitting_row y (drop y items) new ≡ admitting_row 0 items old) next after)

-- all have
pub all_kept : (x : ℕ) (items all row : IntervalRow) (old v : BoxContent) → items ≡ all → all ≡ row → length items ≤ x
    → admitting_row x (drop x items) v ≡ admitting_row 0 items old → v ≡ admitting_row 0 row old
all_kept x items all row old v e d end rest =
    let last : v ≡ admitting_row 0 items old = subst (λ (is : IntervalRow). admitting_row x is v ≡ admitting_row 0 items old) (drop_all items x end) rest in
    last ∙ ap (λ (is : IntervalRow). admitting_row 0 is old) (e ∙ d)
