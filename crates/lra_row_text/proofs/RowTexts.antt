-- The text of a row: the terms of its form, its relation and its bound.
use Rattle.std.proofs.Common.{◌≡◌, ℕ, ℤ, pos, Bool, not, List, [], ◌∷◌, ◌++◌, map, drop, length, refl, ap, sym, ◌∙◌, arith}
use Rattle.std.proofs.lemmas.List.{append_assoc}
use Rattle.std.specs.Fmt.{signed_decimal}
use Rattle.lra_row_text.specs.Crates.{lra_linear_spec.Vectors.entry, lra_linear_spec.declared.ConKind.ConKind}
use Rattle.lra_row_text.specs.{Shown.report_row, Texts.form_text, Texts.is_negated, Texts.relation_text, Texts.row_text, Texts.negated_if}

pub no_entry : (row : List ℤ) → length row ≡ 0 → entry row 0 ≡ pos 0
no_entry [] e = refl
no_entry (c ∷ cs) e = absurd (omega (arith, e))

-- the text where its signs are turned or not
abbrev text_with : List (List ℕ) → List ℤ → ConKind → Bool → List ℕ
text_with names row kind turn =
    form_text (map (negated_if turn) (drop 1 row)) names ++ relation_text kind turn ++ signed_decimal (negated_if (not turn) (entry row 0))

text_of_row : (names : List (List ℕ)) (row : List ℤ) (kind : ConKind) →
    text_with names row kind (is_negated (drop 1 row)) ≡ row_text names (report_row row kind)
text_of_row names [] kind = refl
text_of_row names (c ∷ cs) kind = refl

pub pieces_make : (names : List (List ℕ)) (row : List ℤ) (kind : ConKind) (turn : Bool) (constant bound : ℤ) (relation start form whole : List ℕ) (shown : List (List ℕ)) → start ≡ [] → shown ≡ names →
    turn ≡ is_negated (drop 1 row) → form ≡ start ++ form_text (map (negated_if turn) (drop 1 row)) shown → relation ≡ relation_text kind turn → constant ≡ entry row 0 →
    bound ≡ negated_if (not turn) constant → whole ≡ form ++ (relation ++ signed_decimal bound) → whole ≡ row_text names (report_row row kind)
pieces_make names row kind turn constant bound relation start form whole shown es en et ef er ec eb ew =
    ew ∙ rw (ef, es, en, er, eb, ec) (sym (append_assoc (form_text (map (negated_if turn) (drop 1 row)) names) (relation_text kind turn) (signed_decimal (negated_if (not turn) (entry row 0)))))
    ∙ ap (text_with names row kind) et ∙ text_of_row names row kind
