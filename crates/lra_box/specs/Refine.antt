-- A test refines the bounds, variable by variable.
use Rattle.std.specs.Int.{int_min, int_max, int_div_euclid}
use Rattle.std.specs.Prelude.{◌≡◌, ◌≢◌, ℕ, zero, suc, ℤ, pos, negsuc, neg_ℤ, List, [], ◌∷◌, map, length, slice_set}
use Rattle.std.specs.Prelude.{slice_index_or, Option, None, Some, ◌⊎◌, int_lt, Bool, true, false, if◌then◌else◌}
use Rattle.lra_box.specs.Crates.lra_linear_forms.Form.{Form}
use Rattle.lra_box.specs.Crates.lra_linear_spec.declared.ConKind.{ConKind}
use Rattle.lra_box.specs.Crates.lra_linear_spec.declared.ConKind.TheVariants.{Ge, Eq}
use Rattle.lra_domain.specs.declared.Exactness.{Exactness}
use Rattle.lra_domain.specs.declared.Exactness.TheVariants.{Exact, Flagged}
use Rattle.lra_box.specs.Bounds.{full_interval, crossed, end_sum, SumPasses, EndsInRange}
use Rattle.lra_box.specs.{declared.interval.Interval.Interval, declared.interval.Side.TheVariants.High}

-- the greater of a bound, if there is one, and a number; the lesser
abbrev pub raised : Option ℤ → ℤ → ℤ
raised None b = b
raised (Some a) b = int_max a b

abbrev pub lowered : Option ℤ → ℤ → ℤ
lowered None b = b
lowered (Some a) b = int_min a b

-- the numbers x of the interval for which c*x + m is not negative, if m is finite: at least -floor(m / c) for a
-- positive c, at most floor(m / -c) for a negative one
abbrev pub tightened : ℤ → Option ℤ → Interval → Interval
tightened c None i = i
tightened (pos zero) (Some m) i = i
tightened (pos (suc n)) (Some m) i = record i { low = Some (raised i.low (neg_ℤ (int_div_euclid m (pos (suc n))))) }
tightened (negsuc n) (Some m) i = record i { high = Some (lowered i.high (int_div_euclid m (pos (suc n)))) }

-- the constant plus what all other terms add at most
abbrev pub others_most : ℤ → List ℤ → ℕ → List Interval → Option ℤ
others_most a cs k is = end_sum High a (slice_set cs k (pos 0)) is

abbrev pub place_refined : ℤ → List ℤ → ℕ → List Interval → Interval
place_refined a cs k is = tightened (slice_index_or cs k (pos 0)) (others_most a cs k is)
    (slice_index_or is k full_interval)

-- one place: the bounds with its interval tightened, or none if it is crossed then
abbrev pub refine_place : ℤ → List ℤ → ℕ → Option (List Interval) → Option (List Interval)
refine_place a cs k None = None
refine_place a cs k (Some is) = if crossed (place_refined a cs k is) then None
    else Some (slice_set is k (place_refined a cs k is))

-- the first places, in order, each on the bounds as refined so far
abbrev pub refined : ℤ → List ℤ → ℕ → Option (List Interval) → Option (List Interval)
refined a cs zero b = b
refined a cs (suc k) b = refine_place a cs k (refined a cs k b)

-- a variable occurs: some coefficient isn't 0
abbrev pub is_not_zero : ℤ → Bool
is_not_zero (pos zero) = false
is_not_zero (pos (suc n)) = true
is_not_zero (negsuc n) = true

abbrev pub some_occurs : List ℤ → Bool
some_occurs [] = false
some_occurs (c ∷ cs) = if is_not_zero c then true else some_occurs cs

-- the test `a + cs >= 0`: of the constant alone if no variable occurs
abbrev pub ge_tested : ℤ → List ℤ → Option (List Interval) → Option (List Interval)
ge_tested a cs b = if some_occurs cs then refined a cs (length cs) b else (if int_lt a (pos 0) then None else b)

-- `e = 0` is `e >= 0`, then `-e >= 0`
abbrev pub tested : ConKind → Form → Option (List Interval) → Option (List Interval)
tested Ge e b = ge_tested e.constant e.coefficients b
tested Eq e b = ge_tested (neg_ℤ e.constant) (map neg_ℤ e.coefficients) (ge_tested e.constant e.coefficients b)

-- a number passes the range at a place where the variable occurs
abbrev pub PlacePasses : ℤ → List ℤ → ℕ → Option (List Interval) → Type 0
PlacePasses a cs k None = ⊥
PlacePasses a cs k (Some is) = (slice_index_or cs k (pos 0) ≢ pos 0) × SumPasses High a (slice_set cs k (pos 0)) is

-- at some of the first places, on the bounds as refined so far
abbrev pub RefinePasses : ℤ → List ℤ → ℕ → Option (List Interval) → Type 0
RefinePasses a cs zero b = ⊥
RefinePasses a cs (suc k) b = RefinePasses a cs k b ⊎ PlacePasses a cs k (refined a cs k b)

abbrev pub TestPasses : ConKind → Form → Option (List Interval) → Type 0
TestPasses Ge e b = RefinePasses e.constant e.coefficients (length e.coefficients) b
TestPasses Eq e b =
    RefinePasses e.constant e.coefficients (length e.coefficients) b
    ⊎ RefinePasses (neg_ℤ e.constant) (map neg_ℤ e.coefficients) (length e.coefficients)
    (ge_tested e.constant e.coefficients b)

-- what tightening a place may answer
pub record TightAt (a : ℤ) (cs : List ℤ) (k : ℕ) (is : List Interval) (i : Interval) (e : Exactness) : Type 0 where
  pub exact : e ≡ Exact → i ≡ place_refined a cs k is
  pub flagged : e ≡ Flagged → PlacePasses a cs k (Some is)
  -- by what the others add at most, or not at all
  pub either : (o : Option ℤ) × ((o ≡ None) ⊎ (o ≡ others_most a cs k is)) ×
      (i ≡ tightened (slice_index_or cs k (pos 0)) o (slice_index_or is k full_interval))
  pub range : EndsInRange i
