-- Boxes are shown by their parts' rows: as many, as wide, holding at each store, and given by their text.
use Rattle.std.proofs.Common.{◌≡◌, ℕ, zero, suc, ◌++◌, List, [], ◌∷◌, length, map, Option, Some, None, Bool, true, false, refl, ap, ◌∙◌}
use Rattle.std.proofs.lemmas.List.{length-replicate, length-set}
use Rattle.std.specs.{List.AllByRecursion, Prelude.ℤ, Prelude.pos, Prelude.negsuc, Prelude.neg_ℤ, Prelude.replicate, Prelude.slice_set, Prelude.if◌then◌else◌}
use Rattle.lra_report_build.specs.Crates.lra_box.Parts.{bound_row, is_single, low_rows, high_rows, box_equalities, box_inequalities, box_rows, box_system, box_parts}
use Rattle.lra_report_build.specs.Crates.{lra_box.Abstraction.box_abstraction, lra_box.Bounds.InBounds, lra_box.Tables.has_bounds, lra_box.declared.interval.Interval.Interval}
use Rattle.lra_report_build.specs.Crates.{lra_linear_spec.declared.ConKind.ConKind, lra_options.declared.options.Domain.TheVariants.Box, lra_systems.LinearSystems.LinearSystem}
use Rattle.lra_report.proofs.Every.{every_append}
use Rattle.lra_report_build.proofs.Crates.lra_box.PartLemmas.{parts_mean}
use Rattle.lra_report.specs.{Listing.HasWidth, Parts.ShowsPart, Report.InvariantHolds}
use Rattle.lra_row_text.specs.Texts.{is_negated}
use Rattle.lra_report_build.specs.Shown.{shown_part, AreDirected, ShowsRows}
use Rattle.lra_report_build.proofs.RowsHold.{parts_hold, AreWide, both_wide, shown_wide, IsStraight, rows_directed}

-- stores -------------------------------------------------------------------------------------------------------------

bounds_long : (is : List Interval) (s : List ℤ) → InBounds is s → length is ≡ length s
bounds_long [] [] h = refl
bounds_long [] (x ∷ s) h = absurd h
bounds_long (i ∷ is) [] h = absurd h
bounds_long (i ∷ is) (x ∷ s) h = ap suc (bounds_long is s h.1)

content_holds : (n : ℕ) (b : Option (List Interval)) (s : List ℤ) → has_bounds b s → length s ≡ n → InvariantHolds (map shown_part (box_parts n b)) s
content_holds n None s h l = absurd h
content_holds n (Some is) s h l = parts_hold (box_parts n (Some is)) s ((parts_mean n (Some is) s (bounds_long is s h ∙ l) l).0 h)

-- widths -------------------------------------------------------------------------------------------------------------

row_wide : (n k : ℕ) (c f : ℤ) → length (bound_row n k c f) ≡ suc n
row_wide n k c f = ap suc (length-set (replicate n (pos 0)) k f ∙ length-replicate n (pos 0))

low_wide : (n k : ℕ) (o : Option ℤ) → AreWide n (low_rows n k o)
low_wide n k None = tt
low_wide n k (Some l) = (row_wide n k (neg_ℤ l) (pos 1), tt)

high_wide : (n k : ℕ) (o : Option ℤ) → AreWide n (high_rows n k o)
high_wide n k None = tt
high_wide n k (Some h) = (row_wide n k h (negsuc 0), tt)

chosen_wide : (n : ℕ) (b : Bool) (xs ys : List (List ℤ)) → AreWide n xs → AreWide n ys → AreWide n (if b then xs else ys)
chosen_wide n true xs ys h i = h
chosen_wide n false xs ys h i = i

equal_wide : (n k : ℕ) (is : List Interval) → AreWide n (box_equalities n k is)
equal_wide n k [] = tt
equal_wide n k (i ∷ is) =
    let chosen = chosen_wide n (is_single i) (low_rows n k i.low) [] (low_wide n k i.low) tt in
    both_wide n (if is_single i then low_rows n k i.low else []) (box_equalities n (suc k) is) chosen (equal_wide n (suc k) is)

unequal_wide : (n k : ℕ) (is : List Interval) → AreWide n (box_inequalities n k is)
unequal_wide n k [] = tt
unequal_wide n k (i ∷ is) =
    let both = both_wide n (low_rows n k i.low) (high_rows n k i.high) (low_wide n k i.low) (high_wide n k i.high) in
    let chosen = chosen_wide n (is_single i) [] (low_rows n k i.low ++ high_rows n k i.high) tt both in
    both_wide n (if is_single i then [] else low_rows n k i.low ++ high_rows n k i.high) (box_inequalities n (suc k) is) chosen (unequal_wide n (suc k) is)

parts_wide : (n : ℕ) (b : Option (List Interval)) → AllByRecursion (HasWidth n) (map shown_part (box_parts n b))
parts_wide n None = tt
parts_wide n (Some is) =
    let rows = both_wide n (box_equalities n 0 is) (box_inequalities n 0 is) (equal_wide n 0 is) (unequal_wide n 0 is) in
    ((shown_wide n (box_rows n is) (box_system n is).kinds rows, tt), tt)

no_generators : (n : ℕ) (ps : List (LinearSystem ConKind)) → AllByRecursion (ShowsPart Box n) (map shown_part ps)
no_generators n [] = tt
no_generators n (p ∷ ps) = (refl, no_generators n ps)

-- texts --------------------------------------------------------------------------------------------------------------

-- the only coefficient that isn't 0 is 1
unit_straight : (n k : ℕ) → is_negated (slice_set (replicate n (pos 0)) k (pos 1)) ≡ false
unit_straight zero k = refl
unit_straight (suc n) zero = refl
unit_straight (suc n) (suc k) = unit_straight n k

low_straight : (n k : ℕ) (o : Option ℤ) → AllByRecursion IsStraight (low_rows n k o)
low_straight n k None = tt
low_straight n k (Some l) = (unit_straight n k, tt)

chosen_straight : (b : Bool) (rows : List (List ℤ)) → AllByRecursion IsStraight rows → AllByRecursion IsStraight (if b then rows else [])
chosen_straight true rows h = h
chosen_straight false rows h = tt

equal_straight : (n k : ℕ) (is : List Interval) → AllByRecursion IsStraight (box_equalities n k is)
equal_straight n k [] = tt
equal_straight n k (i ∷ is) =
    let chosen = chosen_straight (is_single i) (low_rows n k i.low) (low_straight n k i.low) in
    every_append IsStraight (if is_single i then low_rows n k i.low else []) (box_equalities n (suc k) is) chosen (equal_straight n (suc k) is)

parts_directed : (n : ℕ) (b : Option (List Interval)) → AllByRecursion AreDirected (map shown_part (box_parts n b))
parts_directed n None = tt
parts_directed n (Some is) = (rows_directed (box_equalities n 0 is) (box_inequalities n 0 is) (equal_straight n 0 is), tt)

pub boxes_are_shown : ShowsRows box_abstraction Box
boxes_are_shown = record {
  wide = λ v. parts_wide v.dims v.bounds;
  tell = λ v. no_generators v.dims (box_abstraction.parts v);
  holds = λ v s h. content_holds v.dims v.bounds s h.1 h.0;
  directed = λ v. parts_directed v.dims v.bounds;
}
