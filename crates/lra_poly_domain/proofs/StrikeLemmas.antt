-- Widening thresholds that are struck for their products: if no product passes, what is kept are the rows that are
-- valid on both.
use Rattle.std.proofs.Common.{◌≡◌, ◌∙◌, Bool, true, false, cond, List, [], ◌∷◌, Result, Ok, Err, ap, refl}
use Rattle.std.proofs.lemmas.Bool.{or_parts}
use Rattle.std.specs.{List.list_all, Prelude.◌&&◌, Prelude.not}
use Rattle.lra_linear_spec.specs.declared.Excess as E
use Rattle.lra_linear_spec.specs.OperationStrain.{ProductsPass, valid_on}
use Rattle.lra_linear_spec.specs.{CheckedArithmetic.checked_product, Descriptions.LinearRow, Polyhedra.Polyhedron, Widening.holds_with, Widening.is_valid}
use Rattle.lra_poly_widening.specs.Rank.{fits, holds_in_range, kept_thresholds}
use Rattle.lra_poly_widening.proofs.SomeMember.{any_said}
use Rattle.lra_poly_domain.specs.Growth.{row_passes, some_passes}

-- ---- if none passes
tests_alike : (f h : Bool) → not f ≡ false → (f && h) ≡ h
tests_alike true h e = refl
tests_alike false h e = let wrong : ⊥ = cc in absurd wrong

in_range_alike : (generators : List LinearRow) (r : LinearRow) → row_passes generators r.row ≡ false →
    list_all (λ g. fits (checked_product r.row g.row) && holds_with r g) generators ≡ list_all (holds_with r) generators
in_range_alike [] r e = refl
in_range_alike (g ∷ generators) r e =
    let n = or_parts (not (fits (checked_product r.row g.row))) (row_passes generators r.row) e in
    ap (λ (b : Bool). b && list_all (λ k. fits (checked_product r.row k.row) && holds_with r k) generators) (tests_alike (fits (checked_product r.row g.row)) (holds_with r g) n.0) ∙
    ap (λ (b : Bool). holds_with r g && b) (in_range_alike generators r n.1)

pub kept_valid : (p r : Polyhedron) (given : List LinearRow) → some_passes p.generators given ≡ false → some_passes r.generators given ≡ false → kept_thresholds p r given ≡ valid_on p r given
kept_valid p r [] e f = refl
kept_valid p r (g ∷ given) e f =
    let n = or_parts (row_passes p.generators g.row) (some_passes p.generators given) e in
    let m = or_parts (row_passes r.generators g.row) (some_passes r.generators given) f in
    ap (λ (b : Bool). cond (b && holds_in_range r g) (g ∷ kept_thresholds p r given) (kept_thresholds p r given)) (in_range_alike p.generators g n.0) ∙
    ap (λ (b : Bool). cond (is_valid p g && b) (g ∷ kept_thresholds p r given) (kept_thresholds p r given)) (in_range_alike r.generators g m.0) ∙
    ap (λ l. cond (is_valid p g && is_valid r g) (g ∷ l) l) (kept_valid p r given n.1 m.1)

-- ---- if one passes
passing : {A Q : Type 0} (x : Result A Q) → not (fits x) ≡ true → (e : Q) × (x ≡ Err e)
passing (Ok a) h = let wrong : ⊥ = cc in absurd wrong
passing (Err e) h = (e, refl)

pub some_product : (generators given : List LinearRow) → some_passes generators given ≡ true → (e : E.Excess) × ProductsPass given generators e
some_product generators given h =
    let r = any_said (λ x. row_passes generators x.row) given h in
    let g = any_said (λ x. not (fits (checked_product r.0.row x.row))) generators r.2 in
    let e = passing (checked_product r.0.row g.0.row) g.2 in
    (e.0, record { row = r.0; has_row = r.1; generator = g.0; has_generator = g.1; passes = e.1 })
