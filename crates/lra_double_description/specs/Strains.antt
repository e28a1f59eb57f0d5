-- What is reported if a step passes a limit: the rows with which a number passes the range, or how many rays there
-- would be.
use Rattle.std.specs.Prelude.{◌≡◌, ℕ, ◌+◌, ◌<◌, ◌⊎◌, neg_ℤ, ℤ, pos, int_lt, Bool, cond, List, [], length, Result, Err}
use Rattle.std.specs.{List.Contains, Prelude.slice_index_or}
use Rattle.lra_double_description.specs.Crates.lra_linear_spec.declared.Excess as E
use Rattle.lra_double_description.specs.Crates.lra_linear_spec.CheckedArithmetic.{checked_product, checked_blend}
use Rattle.lra_double_description.specs.Crates.lra_linear_spec.ConeStrain.{row_limit}
use Rattle.lra_double_description.specs.Crates.lra_linear_spec.declared.Cause.{Cause}
use Rattle.lra_double_description.specs.Crates.lra_linear_spec.declared.Cause.TheVariants.{Excess}
use Rattle.lra_double_description.specs.Crates.lra_linear_spec.declared.Cause.TheVariants as cause
use Rattle.lra_bits.specs.Matrix.{Matrix}
use Rattle.lra_double_description.specs.Steps.{flattening, inside_count}
use Rattle.lra_double_description.specs.declared.strained.Family.TheVariants.{Lines, Rays}
use Rattle.lra_double_description.specs.declared.strained.Strained.{Strained}
use Rattle.lra_double_description.specs.declared.strained.Strained.TheVariants.{Product, Pair, TooMany}
use Rattle.lra_double_description.specs.{Pairs.ArePairs, declared.line_step.Across.Across}
use Rattle.lra_double_description.specs.{declared.strained.Family.Family, declared.strained.Member.Member}
use Rattle.lra_double_description.specs.declared.strained.ConeError as C
use Rattle.lra_double_description.specs.declared.strained.ConeError.TheVariants as of_cone
use Rattle.lra_double_description.specs.declared.pairs.Pair as Q

abbrev pub cause_of : Strained → Cause
cause_of (Product member e) = Excess e
cause_of (Pair up down e) = Excess e
cause_of (TooMany count) = cause.TooMany count

-- the row stands at the place
pub record StandsAt (rows : List (List ℤ)) (place : ℕ) (r : List ℤ) : Type 0 where
  pub inside : place < length rows
  pub is : slice_index_or rows place [] ≡ r

-- ---- what each part of a step reports
-- the product of c with the row at some place
pub record NamesProduct (c : List ℤ) (rows : List (List ℤ)) (family : Family) (strained : Strained) : Type 0 where
  pub place : ℕ
  pub row : List ℤ
  pub stands : StandsAt rows place row
  pub excess : E.Excess
  pub passes : checked_product c row ≡ Err excess
  pub is : strained ≡ Product (record { family = family; place = place }) excess

abbrev pub IsProductError : List ℤ → List (List ℤ) → Family → C.ConeError → Type 0
IsProductError c rows family (of_cone.Strained strained) = NamesProduct c rows family strained
IsProductError c rows family of_cone.Memory = Unit {0}

-- a row with this product and the line at the place: first the one with a product above 0
abbrev pub strained_pair : Member → ℤ → ℕ → E.Excess → Strained
strained_pair member product place e =
    cond (int_lt (pos 0) product) (Pair member (record { family = Lines; place = place }) e)
    (Pair (record { family = Lines; place = place }) member e)

-- what some row and the line combine to
pub record NamesFlattening (line : Across) (products : List ℤ) (rows : List (List ℤ))
    (family : Family) (strained : Strained) : Type 0 where
  pub place : ℕ
  pub inside : place < length rows
  pub excess : E.Excess
  pub passes : flattening line (slice_index_or products place (pos 0)) (slice_index_or rows place []) ≡ Err excess
  pub is : strained ≡
      strained_pair (record { family = family; place = place })
      (slice_index_or products place (pos 0)) line.place excess

abbrev pub IsFlatteningError : Across → List ℤ → List (List ℤ) → Family → C.ConeError → Type 0
IsFlatteningError line products rows family (of_cone.Strained strained) =
    NamesFlattening line products rows family strained
IsFlatteningError line products rows family of_cone.Memory = Unit {0}

-- what the two rays combine to
abbrev pub checked_pair_sum : List ℤ → List (List ℤ) → Q.Pair → Result (List ℤ) E.Excess
checked_pair_sum products rays pair =
    checked_blend (neg_ℤ (slice_index_or products pair.down (pos 0))) (slice_index_or products pair.up (pos 0))
    (slice_index_or rays pair.up []) (slice_index_or rays pair.down [])

pub record NamesPair (products : List ℤ) (rays : List (List ℤ)) (pair : Q.Pair) (strained : Strained) : Type 0 where
  pub excess : E.Excess
  pub passes : checked_pair_sum products rays pair ≡ Err excess
  pub is : strained ≡
      Pair (record { family = Rays; place = pair.up }) (record { family = Rays; place = pair.down }) excess

abbrev pub IsPairError : List ℤ → List (List ℤ) → Q.Pair → C.ConeError → Type 0
IsPairError products rays pair (of_cone.Strained strained) = NamesPair products rays pair strained
IsPairError products rays pair of_cone.Memory = Unit {0}

abbrev pub ArePairsError : List ℤ → List (List ℤ) → List Q.Pair → C.ConeError → Type 0
ArePairsError products rays pairs (of_cone.Strained strained) =
    (pair : Q.Pair) × Contains pairs pair × NamesPair products rays pair strained
ArePairsError products rays pairs of_cone.Memory = Unit {0}

-- what some adjacent pair combines to, or how many rays there would be
pub record NamesCut (equal : Bool) (products : List ℤ) (rays : List (List ℤ)) (m : Matrix)
    (strained : Strained) : Type 0 where
  pub pairs : List Q.Pair
  pub are_pairs : ArePairs products m.rows (length products) 0 pairs
  pub names : ((pair : Q.Pair) × Contains pairs pair × NamesPair products rays pair strained)
      ⊎ ((strained ≡ TooMany (inside_count equal products + length pairs))
      × (row_limit < inside_count equal products + length pairs))

abbrev pub IsCutError : Bool → List ℤ → List (List ℤ) → Matrix → C.ConeError → Type 0
IsCutError equal products rays m (of_cone.Strained strained) = NamesCut equal products rays m strained
IsCutError equal products rays m of_cone.Memory = Unit {0}
