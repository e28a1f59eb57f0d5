-- The check of listed constraints, from the check of their rows and of their kinds.
use Rattle.std.proofs.Common.{◌≡◌, ℕ, suc, ℤ, pos, Bool, List, [], ◌∷◌, length, Option, refl, ap, sym, ◌∙◌, subst, arith}
use Rattle.std.proofs.lemmas.List.Elements.{All-contains}
use Rattle.std.specs.{List.All, List.AllByRecursion, Prelude.◌&&◌, Prelude.int_le}
use Rattle.lra_multipliers.specs.Crates.lra_systems.LinearSystems.{LinearSystem, constraints, rows_by_kind}
use Rattle.lra_multipliers.specs.Crates.{lra_linear_spec.Descriptions.rows_of, lra_linear_spec.Kinds.is_equality, lra_linear_spec.declared.ConKind.ConKind}
use Rattle.lra_multipliers.proofs.Crates.lra_linear_spec.ListPlaces.{by_recursion}
use Rattle.lra_multipliers.specs.Columns.{column_agrees, ColumnsTell, kinds_show, answer_told}
use Rattle.lra_multipliers.specs.Multipliers.{Multipliers, Answer, IsAnswer, may_show, checked}
use Rattle.lra_multipliers.proofs.{CheckLoops.kinds_signed_is, CheckSteps.AreWide, CheckSteps.checked_told, CheckSteps.checked_exact}

given_wide : (n : ℕ) (rows : List (List ℤ)) (kinds : List ConKind) → AllByRecursion (λ r. length r ≡ n) rows → AreWide n (rows_by_kind is_equality rows kinds)
given_wide n [] kinds w = tt
given_wide n (r ∷ rows) [] w = tt
given_wide n (r ∷ rows) (k ∷ kinds) w = (w.0, given_wide n rows kinds w.1)

rows_given : (rows : List (List ℤ)) (kinds : List ConKind) → length kinds ≡ length rows → rows_of (rows_by_kind is_equality rows kinds) ≡ rows
rows_given [] kinds e = refl
rows_given (r ∷ rows) [] e = absurd (omega (arith, e))
rows_given (r ∷ rows) (k ∷ kinds) e = ap (λ (x : List (List ℤ)). r ∷ x) (rows_given rows kinds (omega (arith, e)))

module _ (s : LinearSystem ConKind) (rows : List (List ℤ)) (kinds : List ConKind) (claim : List ℤ) (m : Multipliers) (t : Option Bool) (b : Bool) (r : Answer)
    (er : rows ≡ s.rows) (ek : kinds ≡ s.kinds)
    (n : length kinds ≡ length rows) (widths : All (λ x. length x ≡ suc s.dims) rows) (width : length claim ≡ suc s.dims)
    (tell : ColumnsTell (column_agrees rows claim m) (length claim) t) (shows : b ≡ kinds_show kinds m) (is : r ≡ answer_told b t) where
  wide_rows : AreWide (length claim) (rows_by_kind is_equality rows kinds)
  wide_rows = subst (λ (k : ℕ). AreWide k (rows_by_kind is_equality rows kinds)) (sym width)
      (given_wide (suc s.dims) rows kinds (by_recursion (λ (x : List ℤ). length x ≡ suc s.dims) rows
      (λ x k. All-contains (λ (y : List ℤ). length y ≡ suc s.dims) rows x widths k)))

  kinds_are : b ≡ may_show (rows_by_kind is_equality rows kinds) m
  kinds_are = shows ∙ sym (ap (λ (x : Bool). int_le (pos 1) m.divisor && int_le (pos 0) m.constant && x) (kinds_signed_is rows kinds m.factors n))

  same : checked (rows_by_kind is_equality rows kinds) claim m ≡ checked (constraints s) claim m
  same = ap (λ (x : List (List ℤ)). checked (rows_by_kind is_equality x kinds) claim m) er ∙ ap
      (λ (x : List ConKind). checked (rows_by_kind is_equality s.rows x) claim m) ek

  pub check_made : r ≡ checked (constraints s) claim m
  check_made =
      is ∙ ap (λ (x : Bool). answer_told x t) kinds_are ∙
      sym (checked_told (rows_by_kind is_equality rows kinds) claim m t (omega (arith, width)) wide_rows
      (subst (λ (x : List (List ℤ)). ColumnsTell (column_agrees x claim m) (length claim) t) (sym (rows_given rows kinds n)) tell)) ∙ same

  right : IsAnswer (rows_by_kind is_equality rows kinds) claim m (checked (rows_by_kind is_equality rows kinds) claim m)
  right = checked_exact (rows_by_kind is_equality rows kinds) claim m (omega (arith, width)) wide_rows

  pub check_exact : IsAnswer (constraints s) claim m r
  check_exact =
      subst (λ (x : Answer). IsAnswer (constraints s) claim m x) (same ∙ sym check_made)
      (subst (λ (x : List ConKind). IsAnswer (rows_by_kind is_equality s.rows x) claim m (checked (rows_by_kind is_equality rows kinds) claim m)) ek
      (subst (λ (x : List (List ℤ)). IsAnswer (rows_by_kind is_equality x kinds) claim m (checked (rows_by_kind is_equality rows kinds) claim m)) er right))
