-- The points that are written are read again.
use Rattle.std.proofs.Common.{◌≡◌, ◌<◌, ℕ, suc, Bool, true, false, List, [], ◌∷◌, ◌++◌, length, drop, refl, ap, sym, ◌∙◌, subst, arith, append_assoc, Option, Some, None, Ok, length-append}
use Rattle.std.proofs.lemmas.Slice.Eq.{bytes_eq-Decides}
use Rattle.std.specs.{Fmt.decimal, List.AllByRecursion, Prelude.if◌then◌else◌, Prelude.codes}
use Rattle.lra_certificate_spec.specs.Crates.{lra_linear_spec.Descriptions.LinearRow, lra_program.Sites.Site}
use Rattle.lra_row_text.specs.Texts.{text_line}
use Rattle.lra_certificate_spec.specs.CertificateText.{numbers_text, relation_text, row_text, point_text, state_text, states_text}
use Rattle.lra_certificate_spec.specs.Judged.{Left, Judged, then_judged, line_on, after_line, is_next_line, takes, judged_with_row, row_before, judged_rows, RowsAtPoint, some_rows, judged_state}
use Rattle.lra_certificate_spec.specs.{Certificates.IsPointRow, Certificates.IsState, Certificates.AreStates, Judged.state_before, Judged.judged_states, Lines.HasNoFeed, Lines.is_row_line}
use Rattle.lra_certificate_spec.proofs.WriteText.{AreFrom, text_from, from_lower, from_joined, decimal_from, numbers_from, row_read, pieces_of, line_pieces, line_first, is_itself, takes_it, clean}
use Rattle.lra_certificate_spec.proofs.{ReadText.rows_text, RowLines.rows_on, RowLines.rows_end}

-- the next line is no row
abbrev pub IsOther : List ℕ → Type 0
IsOther rest = is_row_line (line_on (pieces_of rest)) ≡ false

row_from : (live : ℕ) (g : LinearRow) → IsPointRow live g → AreFrom 32 (row_text g)
row_from live g h = from_joined 32 (relation_text g.equal) (numbers_text g.row) (relation_from g.equal) (numbers_from g.row h.in_range)
  where
    relation_from : (equal : Bool) → AreFrom 32 (relation_text equal)
    relation_from true = text_from 32 (codes "  =") refl
    relation_from false = text_from 32 (codes "  >=") refl

row_begins : (g : LinearRow) → is_row_line (Some (row_text g)) ≡ true
row_begins g = by g.equal
  where
    by : (equal : Bool) → is_row_line (Some (relation_text equal ++ numbers_text g.row)) ≡ true
    by true = refl
    by false = refl

-- the rows are read, and what is left is what comes after them
abbrev pub RowsRead : ℕ → ℕ → List LinearRow → List ℕ → List (List ℕ) → Type 0
RowsRead live n gs rest pieces = (m : Left) × (judged_rows live n pieces ≡ Ok (gs, m)) × (m.pieces ≡ pieces_of rest)

pub rows_read : (live n : ℕ) (gs : List LinearRow) (rest : List ℕ) (pieces : List (List ℕ)) → AllByRecursion (IsPointRow live) gs → IsOther rest →
    pieces ≡ pieces_of (rows_text gs ++ rest) → RowsRead live n gs rest pieces
rows_read live n [] rest pieces h o e =
    (record { number = n; pieces = pieces }, rows_end live n pieces (ap (λ (p : List (List ℕ)). is_row_line (line_on p)) e ∙ o), e)
rows_read live n (g ∷ gs) rest pieces h o e =
    let from = row_from live g h.0 in
    let shape = e ∙ ap pieces_of (append_assoc (text_line (row_text g)) (rows_text gs) rest) in
    let more = rows_read live (suc n) gs rest (drop 1 pieces) h.1 o
    (ap (λ (p : List (List ℕ)). drop 1 p) (shape ∙ line_pieces (row_text g) (rows_text gs ++ rest) from)) in
    let on = ap line_on shape ∙ line_first (row_text g) (rows_text gs ++ rest) from in (
      more.0,
      rows_on live n pieces (row_text g) on (row_begins g) ∙
          ap (λ (r : Option LinearRow). judged_with_row n r (judged_rows live (suc n) (drop 1 pieces))) (row_read live g h.0) ∙
          ap (row_before g) more.1,
      more.2,
    )

-- ---- points
point_from : (number : ℕ) → AreFrom 32 (point_text number)
point_from number = from_joined 32 (codes "point ") (decimal number)
    (text_from 32 (codes "point ") refl) (from_lower 32 48 (decimal number) (omega arith) (decimal_from number))

empty_from : AreFrom 32 (codes " empty")
empty_from = text_from 32 (codes " empty") refl

-- these lines have no line feed
pub point_clean : (number : ℕ) (text : List ℕ) → text ≡ point_text number → HasNoFeed text
point_clean number text e = subst (λ (x : List ℕ). HasNoFeed x) (sym e) (clean (point_text number) (point_from number))

pub empty_clean : (number : ℕ) (text : List ℕ) → text ≡ point_text number ++ codes " empty" → HasNoFeed text
empty_clean number text e =
    subst (λ (x : List ℕ). HasNoFeed x) (sym e)
    (clean (point_text number ++ codes " empty") (from_joined 32 (point_text number) (codes " empty") (point_from number) empty_from))

abbrev pub StateRead : ℕ → ℕ → RowsAtPoint → List ℕ → Left → Type 0
StateRead number live s rest l = (m : Left) × (judged_state number live l ≡ Ok (s, m)) × (m.pieces ≡ pieces_of rest)

not_empty : (text more : List ℕ) → 0 < length more → is_next_line (text ++ more) (Some text) ≡ false
not_empty text more h = go (is_next_line (text ++ more) (Some text)) refl
  where
    go : (b : Bool) → is_next_line (text ++ more) (Some text) ≡ b → is_next_line (text ++ more) (Some text) ≡ false
    go true e = absurd (let c = ap length ((bytes_eq-Decides text (text ++ more)).0 e) in let d = length-append text more in omega (arith, h, c, d))
    go false e = e

pub state_read : (number live : ℕ) (s : RowsAtPoint) (rest : List ℕ) (l : Left) → IsState live s → IsOther rest →
    l.pieces ≡ pieces_of (state_text number s ++ rest) → StateRead number live s rest l
state_read number live None rest l h o e =
    let from = from_joined 32 (point_text number) (codes " empty") (point_from number) empty_from in (
      after_line l,
      ap (λ (b : Bool). if b then Ok (None, after_line l) else then_judged (takes (point_text number) l) (λ m. some_rows (judged_rows live m.number
          m.pieces)))
          (ap (λ (p : List (List ℕ)). is_next_line (point_text number ++ codes " empty") (line_on p)) e ∙
          ap (is_next_line (point_text number ++ codes " empty")) (line_first (point_text number ++ codes " empty") rest from) ∙
          is_itself (point_text number ++ codes " empty")),
      ap (λ (p : List (List ℕ)). drop 1 p) (e ∙ line_pieces (point_text number ++ codes " empty") rest from),
    )
state_read number live (Some rows) rest l h o e =
    let from = point_from number in
    let shape = e ∙ ap pieces_of (append_assoc (text_line (point_text number)) (rows_text rows) rest) in
    let taken = takes_it (point_text number) (rows_text rows ++ rest) l from shape in
    let more = rows_read live (suc l.number) rows rest (pieces_of (rows_text rows ++ rest)) h o refl in (
      more.0,
      ap (λ (b : Bool). if b then Ok (None, after_line l) else then_judged (takes (point_text number) l) (λ m. some_rows (judged_rows live m.number
          m.pieces)))
          (ap (λ (p : List (List ℕ)). is_next_line (point_text number ++ codes " empty") (line_on p)) shape ∙
          ap (is_next_line (point_text number ++ codes " empty")) (line_first (point_text number) (rows_text rows ++ rest) from) ∙
          not_empty (point_text number) (codes " empty") (omega arith)) ∙
          ap (λ (j : Judged Left). then_judged j (λ m. some_rows (judged_rows live m.number m.pieces))) taken ∙ ap some_rows more.1,
      more.2,
    )

-- a point is no row
other_point : (number : ℕ) (s : RowsAtPoint) (rest : List ℕ) → IsOther (state_text number s ++ rest)
other_point number None rest =
    ap is_row_line (line_first (point_text number ++ codes " empty") rest (from_joined 32 (point_text number) (codes " empty") (point_from number)
    empty_from))
other_point number (Some rows) rest =
    ap (λ (x : List ℕ). is_row_line (line_on (pieces_of x))) (append_assoc (text_line (point_text number)) (rows_text rows) rest) ∙
    ap is_row_line (line_first (point_text number) (rows_text rows ++ rest) (point_from number))

other_points : (number : ℕ) (ss : List RowsAtPoint) (rest : List ℕ) → IsOther rest → IsOther (states_text number ss ++ rest)
other_points number [] rest o = o
other_points number (s ∷ ss) rest o =
    ap (λ (x : List ℕ). is_row_line (line_on (pieces_of x))) (append_assoc (state_text number s) (states_text (suc number) ss) rest) ∙
    other_point number s (states_text (suc number) ss ++ rest)

abbrev pub StatesRead : ℕ → List Site → List RowsAtPoint → List ℕ → Left → Type 0
StatesRead number sites ss rest l = (m : Left) × (judged_states number sites l ≡ Ok (ss, m)) × (m.pieces ≡ pieces_of rest)

pub states_read : (number : ℕ) (sites : List Site) (ss : List RowsAtPoint) (rest : List ℕ) (l : Left) → AreStates sites ss → IsOther rest →
    l.pieces ≡ pieces_of (states_text number ss ++ rest) → StatesRead number sites ss rest l
states_read number [] [] rest l h o e = (l, refl, e)
states_read number [] (s ∷ ss) rest l h o e = absurd h
states_read number (site ∷ sites) [] rest l h o e = absurd h
states_read number (site ∷ sites) (s ∷ ss) rest l h o e =
    let one = state_read number site.live s (states_text (suc number) ss ++ rest) l h.0
    (other_points (suc number) ss rest o) (e ∙ ap pieces_of (append_assoc (state_text number s) (states_text (suc number) ss) rest)) in
    let more = states_read (suc number) sites ss rest one.0 h.1 o one.2 in (
      more.0,
      ap (λ (j : Judged (RowsAtPoint × Left)). then_judged j (λ r. state_before r.0 (judged_states (suc number) sites r.1))) one.1 ∙ ap (state_before s) more.1,
      more.2,
    )
