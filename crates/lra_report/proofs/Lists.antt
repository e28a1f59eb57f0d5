-- Lines of parts, one at a time.
use Rattle.std.proofs.Common.{codes, ◌≡◌, ◌≤◌, ◌+◌, ℕ, List, ◌∷◌, ◌++◌, length, drop, ap, sym, ◌∙◌, append_assoc, append-nil}
use Rattle.std.proofs.lemmas.List.{drop_all}
use Rattle.lra_row_text.specs.{Part.Part, Texts.text_line, Texts.part_text}
use Rattle.lra_report.specs.ReportText.{further_parts_text}

pub part_step : (names : List (List ℕ)) (t0 t1 t2 all : List ℕ) (parts : List Part) (j : ℕ) (p : Part) →
    t0 ++ further_parts_text names (drop j parts) ≡ all → drop j parts ≡ p ∷ drop (j + 1) parts → t1 ≡ t0 ++ text_line (codes "  or") → t2 ≡ t1 ++ part_text names p →
    t2 ++ further_parts_text names (drop (j + 1) parts) ≡ all
part_step names t0 t1 t2 all parts j p before part word written =
    let later = further_parts_text names (drop (j + 1) parts) in
    let or = text_line (codes "  or") in
    ap (λ t. t ++ later) (written ∙ ap (λ t. t ++ part_text names p) word ∙ append_assoc t0 or (part_text names p))
    ∙ append_assoc t0 (or ++ part_text names p) later
    ∙ ap (λ ps. t0 ++ further_parts_text names ps) (sym part)
    ∙ before

pub parts_end : (names : List (List ℕ)) (t all : List ℕ) (parts : List Part) (j : ℕ) → t ++ further_parts_text names (drop j parts) ≡ all → length parts ≤ j → t ≡ all
parts_end names t all parts j before end = sym (append-nil t) ∙ ap (λ ps. t ++ further_parts_text names ps) (sym (drop_all j parts end)) ∙ before
