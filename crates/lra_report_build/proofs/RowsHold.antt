-- Rows of constraints as rows of a report: where they hold, how wide they are, which way their equalities are turned.
use Rattle.std.proofs.Common.{◌≡◌, ℕ, suc, ◌++◌, List, [], ◌∷◌, length, map, inl, inr, refl, sym, subst, arith}
use Rattle.std.proofs.lemmas.Int.{ints}
use Rattle.std.specs.{List.AllByRecursion, Prelude.ℤ, Prelude.pos, Prelude.◌+ℤ◌, Prelude.replicate}
use Rattle.lra_report_build.specs.Crates.lra_systems.LinearSystems.{LinearSystem, rows_by_kind}
use Rattle.lra_report_build.specs.Crates.{lra_domain.Abstraction.Abstraction, lra_domain.Laws.PartsAreExact, lra_domain.Parts.SomePartHolds, lra_linear_spec.Descriptions.LinearRow}
use Rattle.lra_report_build.specs.Crates.{lra_linear_spec.Descriptions.Con, lra_linear_spec.Descriptions.HoldsWith, lra_linear_spec.Kinds.is_equality, lra_linear_spec.Vectors.product}
use Rattle.lra_report_build.specs.Crates.{lra_linear_spec.declared.ConKind.ConKind, lra_linear_spec.declared.ConKind.TheVariants.Ge, lra_linear_spec.declared.ConKind.TheVariants.Eq}
use Rattle.lra_report_build.proofs.Crates.lra_linear_spec.Membership.{contains_none, contains_head, contains_tail, contains_cases}
use Rattle.lra_row_text.specs.{Lists.shown_rows, Part.Part, Rows.RowHolds, Rows.ReportRow, Shown.report_row}
use Rattle.lra_report.specs.{Report.InvariantHolds, Spelled.IsDirected}
use Rattle.lra_report_build.specs.Shown.{shown_part, MeansValue}

-- rows ---------------------------------------------------------------------------------------------------------------

row_value : (c : ℤ) (cs s : List ℤ) → product (c ∷ cs) (pos 1 ∷ s) ≡ c +ℤ product cs s
row_value c cs s = omega (arith, ints)

pub row_holds : (r : List ℤ) (k : ConKind) (s : List ℤ) → HoldsWith (is_equality k) (product r (pos 1 ∷ s)) → RowHolds (report_row r k) s
row_holds [] Ge s h = omega (arith, ints)
row_holds [] Eq s h = refl
row_holds (c ∷ cs) k s h = subst (λ (z : ℤ). HoldsWith (is_equality k) z) (row_value c cs s) h

pub row_held : (r : List ℤ) (k : ConKind) (s : List ℤ) → RowHolds (report_row r k) s → HoldsWith (is_equality k) (product r (pos 1 ∷ s))
row_held [] Ge s h = omega (arith, ints)
row_held [] Eq s h = refl
row_held (c ∷ cs) k s h = subst (λ (z : ℤ). HoldsWith (is_equality k) z) (sym (row_value c cs s)) h

rows_hold : (rows : List (List ℤ)) (kinds : List ConKind) (s : List ℤ) → Con (rows_by_kind is_equality rows kinds) (pos 1 ∷ s) → AllByRecursion
    (λ (r : ReportRow). RowHolds r s) (shown_rows rows kinds)
rows_hold [] kinds s h = tt
rows_hold (r ∷ rows) [] s h = tt
rows_hold (r ∷ rows) (k ∷ kinds) s h =
    let g : LinearRow = record { row = r; equal = is_equality k } in (
      row_holds r k s (h g (contains_head g (rows_by_kind is_equality rows kinds))),
      rows_hold rows kinds s
          (λ x i. h x (contains_tail g x (rows_by_kind is_equality rows kinds) i)),
    )

rows_held : (rows : List (List ℤ)) (kinds : List ConKind) (s : List ℤ) → AllByRecursion (λ (r : ReportRow). RowHolds r s) (shown_rows rows kinds) → Con
    (rows_by_kind is_equality rows kinds) (pos 1 ∷ s)
rows_held [] kinds s h g i = absurd (contains_none g i)
rows_held (r ∷ rows) [] s h g i = absurd (contains_none g i)
rows_held (r ∷ rows) (k ∷ kinds) s h g i =
    let first : LinearRow = record { row = r; equal = is_equality k } in
    elim (contains_cases first g (rows_by_kind is_equality rows kinds) i) [
      | inl e ↦ subst (λ (x : LinearRow). HoldsWith x.equal (product x.row (pos 1 ∷ s))) e (row_held r k s h.0)
      | inr d ↦ rows_held rows kinds s h.1 g d
    ]

pub parts_hold : (ps : List (LinearSystem ConKind)) (s : List ℤ) → SomePartHolds ps s → InvariantHolds (map shown_part ps) s
parts_hold [] s h = h
parts_hold (p ∷ ps) s (inl h) = inl (rows_hold p.rows p.kinds s h)
parts_hold (p ∷ ps) s (inr h) = inr (parts_hold ps s h)

parts_held : (ps : List (LinearSystem ConKind)) (s : List ℤ) → InvariantHolds (map shown_part ps) s → SomePartHolds ps s
parts_held [] s h = h
parts_held (p ∷ ps) s (inl h) = inl (rows_held p.rows p.kinds s h)
parts_held (p ∷ ps) s (inr h) = inr (parts_held ps s h)

-- what the parts of a value mean, their state means
pub state_means : {V H : Type 0} (m : Abstraction V H) (v : V) (ps : List (LinearSystem ConKind)) (state : List Part) → state ≡ map shown_part ps
    → ps ≡ m.parts v → ((s : List ℤ) → m.gamma v s → SomePartHolds ps s) → PartsAreExact m v → MeansValue m v state
state_means m v ps state is own hold tell s long = (
  λ h. subst (λ l. InvariantHolds l s) (sym is) (parts_hold ps s (hold s h)),
  λ h. tell s long (subst (λ l. SomePartHolds l s) own (parts_held ps s (subst (λ l. InvariantHolds l s) is h))),
)

-- widths -------------------------------------------------------------------------------------------------------------

-- a column more than there are dimensions
abbrev pub AreWide : ℕ → List (List ℤ) → Type 0
AreWide n rows = AllByRecursion (λ (r : List ℤ). length r ≡ suc n) rows

pub both_wide : (n : ℕ) (xs ys : List (List ℤ)) → AreWide n xs → AreWide n ys → AreWide n (xs ++ ys)
both_wide n [] ys h i = i
both_wide n (x ∷ xs) ys h i = (h.0, both_wide n xs ys h.1 i)

pub shown_wide : (n : ℕ) (rows : List (List ℤ)) (kinds : List ConKind) → AreWide n rows → AllByRecursion (λ (r : ReportRow). length r.coefficients ≡ n)
    (shown_rows rows kinds)
shown_wide n [] kinds h = tt
shown_wide n (r ∷ rows) [] h = tt
shown_wide n (r ∷ rows) (k ∷ kinds) h = (shown r h.0, shown_wide n rows kinds h.1)
  where
    shown : (r : List ℤ) → length r ≡ suc n → length (report_row r k).coefficients ≡ n
    shown [] e = absurd (omega (arith, e))
    shown (c ∷ cs) e = omega (arith, e)

-- texts --------------------------------------------------------------------------------------------------------------

abbrev pub IsDirectedRow : ReportRow → Type 0
IsDirectedRow r = IsDirected r.kind r.coefficients

-- as an equality too
abbrev pub IsStraight : List ℤ → Type 0
IsStraight r = IsDirectedRow (report_row r Eq)

inequality_directed : (r : List ℤ) → IsDirectedRow (report_row r Ge)
inequality_directed [] = tt
inequality_directed (c ∷ cs) = tt

inequalities_directed : (rows : List (List ℤ)) → AllByRecursion IsDirectedRow (shown_rows rows (replicate (length rows) Ge))
inequalities_directed [] = tt
inequalities_directed (r ∷ rows) = (inequality_directed r, inequalities_directed rows)

pub rows_directed : (xs ys : List (List ℤ)) → AllByRecursion IsStraight xs → AllByRecursion IsDirectedRow
    (shown_rows (xs ++ ys) (replicate (length xs) Eq ++ replicate (length ys) Ge))
rows_directed [] ys h = inequalities_directed ys
rows_directed (x ∷ xs) ys h = (h.0, rows_directed xs ys h.1)
