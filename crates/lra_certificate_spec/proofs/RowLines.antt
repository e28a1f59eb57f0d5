-- The rows of a point, line by line.
use Rattle.std.proofs.Common.{◌≡◌, ℕ, suc, Bool, true, false, List, [], ◌∷◌, drop, refl, ap, sym, ◌∙◌, subst, Some, Ok}
use Rattle.std.proofs.lemmas.Option.{same_Some, none-some}
use Rattle.std.specs.{List.starts_with, Prelude.if◌then◌else◌, Prelude.nat_eq, Prelude.codes}
use Rattle.lra_certificate_spec.specs.{Judged.Left, Judged.line_on, Judged.row_in, Judged.judged_with_row, Judged.judged_rows, Lines.is_row_line}

pub rows_on : (live n : ℕ) (pieces : List (List ℕ)) (line : List ℕ) → line_on pieces ≡ Some line → is_row_line (Some line) ≡ true →
    judged_rows live n pieces ≡ judged_with_row n (row_in live line) (judged_rows live (suc n) (drop 1 pieces))
rows_on live n [] line e h = absurd (none-some line e)
rows_on live n (last ∷ []) line e h = absurd (none-some line e)
rows_on live n (x ∷ y ∷ more) line e h =
    let same = same_Some x line e in
    ap (λ (b : Bool). if b then judged_with_row n (row_in live x) (judged_rows live (suc n) (y ∷ more)) else Ok (
      [],
      (let l : Left = record {
        number = n;
        pieces = x ∷ y ∷ more;
      } in l),
    ))
    (subst (λ (w : List ℕ). starts_with nat_eq w (codes " ") ≡ true) (sym same) h) ∙
    ap (λ (w : List ℕ). judged_with_row n (row_in live w) (judged_rows live (suc n) (y ∷ more))) same

pub rows_end : (live n : ℕ) (pieces : List (List ℕ)) → is_row_line (line_on pieces) ≡ false → judged_rows live n pieces ≡
    Ok ([], record { number = n; pieces = pieces })
rows_end live n [] h = refl
rows_end live n (last ∷ []) h = refl
rows_end live n (x ∷ y ∷ more) h =
    ap (λ (b : Bool). if b then judged_with_row n (row_in live x) (judged_rows live (suc n) (y ∷ more)) else Ok (
      [],
      (let l : Left = record {
        number = n;
        pieces = x ∷ y ∷ more;
      } in l),
    )) h
