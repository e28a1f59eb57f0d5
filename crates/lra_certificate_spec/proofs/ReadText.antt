-- What is read has this text: lines, their numbers, the rows of points.
use Rattle.std.proofs.Common.{◌≡◌, ◌+◌, ℕ, suc, ℤ, Bool, true, false, List, [], ◌∷◌, ◌++◌, length, drop, refl, ap, sym, ◌∙◌, subst, arith, append_assoc, append-nil, Option, Some, None, Ok, Err}
use Rattle.std.proofs.lemmas.Option.{same_Some, none-some}
use Rattle.std.proofs.{Common.nat_eq, lemmas.Bool.eqb-true, lemmas.Bool.Decides.Decides-eqb, lemmas.List.Splits.join_with_byte-slice_split, lemmas.Slice.Eq.starts_is}
use Rattle.std.specs.{Fmt.signed_decimal, List.AllByRecursion, List.starts_with, List.join_with_byte, List.flat_map, Prelude.if◌then◌else◌, Prelude.codes}
use Rattle.lra_certificate_spec.specs.Crates.{lra_linear_spec.Descriptions.LinearRow, lra_linear_spec.Range.InRange, lra_program.Sites.Site}
use Rattle.lra_multipliers.specs.Multipliers.{Multipliers}
use Rattle.lra_row_text.specs.Texts.{text_line}
use Rattle.lra_certificate_spec.specs.CertificateText.{numbers_text, relation_text, row_text, point_text, state_text, states_text, multipliers_text}
use Rattle.lra_certificate_spec.specs.Certificates.{IsPointRow, IsState, AreStates, AreNumbers}
use Rattle.lra_certificate_spec.specs.Judged.{number_in, then_number, numbers_in, words_of, so_many, spaced_numbers, numbers_after, Refused, Left, Judged, then_judged, refuses, line_on, after_line}
use Rattle.lra_certificate_spec.specs.Judged.{is_next_line, takes, bad_line, constraint_row, or_else, row_in, judged_with_row, judged_rows, RowsAtPoint, some_rows, judged_state, state_before}
use Rattle.lra_certificate_spec.specs.Judged.{judged_states, multipliers_of, multipliers_from, multipliers_in}
use Rattle.lra_certificate_spec.proofs.{LineSteps.line_text, LineSteps.is_line_on, NumberText.spelled_text}

-- ---- results
pub ok_same : {A : Type 0} (x y : A) → (let r : Judged A = Ok x in r) ≡ Ok y → x ≡ y
ok_same x y e = cc

pub no_ok : {A : Type 0} (r : Refused) (y : A) → (let j : Judged A = Err r in j) ≡ Ok y → ⊥
no_ok r y e = cc

pub then_is : {A B : Type 0} (j : Judged A) (k : A → Judged B) (y : B) → then_judged j k ≡ Ok y → (x : A) × (j ≡ Ok x) × (k x ≡ Ok y)
then_is (Ok x) k y e = (x, refl, e)
then_is (Err r) k y e = absurd (no_ok r y e)

-- ---- lines
abbrev pub joined : List (List ℕ) → List ℕ
joined pieces = join_with_byte 10 pieces

taken : (text : List ℕ) (l m : Left) (b : Bool) → is_next_line text (line_on l.pieces) ≡ b →
    (if b then Ok (after_line l) else refuses l.number bad_line) ≡ Ok m →
    joined l.pieces ≡ text_line text ++ joined m.pieces
taken text l m true e f =
    line_text l.pieces text (is_line_on text (line_on l.pieces) e) ∙ ap (λ (x : Left). text_line text ++ joined x.pieces) (ok_same (after_line l) m f)
taken text l m false e f = absurd (no_ok (record { line = l.number; fault = bad_line }) m f)

pub takes_text : (text : List ℕ) (l m : Left) → takes text l ≡ Ok m → joined l.pieces ≡ text_line text ++ joined m.pieces
takes_text text l m e = taken text l m (is_next_line text (line_on l.pieces)) refl e

-- ---- numbers
then_number_is : (z : Option ℤ) (r : Option (List ℤ)) (zs : List ℤ) → then_number z r ≡ Some zs → (y : ℤ) × (ys : List ℤ) × (z ≡ Some y) × (r ≡ Some ys) ×
    (y ∷ ys ≡ zs)
then_number_is None r zs e = absurd (none-some zs e)
then_number_is (Some y) None zs e = absurd (none-some zs e)
then_number_is (Some y) (Some ys) zs e = (y, ys, refl, refl, same_Some (y ∷ ys) zs e)

words_text : (word : List ℕ) (words : List (List ℕ)) (zs : List ℤ) → numbers_in (word ∷ words) ≡ Some zs →
    (32 ∷ join_with_byte 32 (word ∷ words) ≡ numbers_text zs) × AllByRecursion InRange zs
words_text word [] zs e =
    let n = then_number_is (number_in word) (Some []) zs e in
    let w = spelled_text word n.0 n.2 in
    let nil = same_Some [] n.1 n.3 in (
      ap (λ (x : List ℕ). 32 ∷ x) (w.0 ∙ sym (append-nil (signed_decimal n.0))) ∙ ap (λ (ys : List ℤ). numbers_text (n.0 ∷ ys)) nil ∙ ap numbers_text n.4,
      subst (λ (ys : List ℤ). AllByRecursion InRange ys) (ap (λ (ys : List ℤ). n.0 ∷ ys) nil ∙ n.4) (w.1, tt),
    )
words_text word (next ∷ more) zs e =
    let n = then_number_is (number_in word) (numbers_in (next ∷ more)) zs e in
    let w = spelled_text word n.0 n.2 in
    let rest = words_text next more n.1 n.3 in (
      ap (λ (x : List ℕ). 32 ∷ x) (ap (λ (x : List ℕ). x ++ (32 ∷ join_with_byte 32 (next ∷ more))) w.0 ∙
          ap (λ (x : List ℕ). signed_decimal n.0 ++ x) rest.0) ∙
          ap numbers_text n.4,
      subst (λ (ys : List ℤ). AllByRecursion InRange ys) n.4 (w.1, rest.1),
    )

spaced_text : (words : List (List ℕ)) (zs : List ℤ) → spaced_numbers words ≡ Some zs → (join_with_byte 32 words ≡ numbers_text zs) × AllByRecursion InRange zs
spaced_text [] zs e = absurd (none-some zs e)
spaced_text ((b ∷ bs) ∷ words) zs e = absurd (none-some zs e)
spaced_text ([] ∷ []) zs e = (ap numbers_text (same_Some [] zs e), subst (λ (ys : List ℤ). AllByRecursion InRange ys) (same_Some [] zs e) tt)
spaced_text ([] ∷ word ∷ words) zs e = words_text word words zs e

many_is : (n : ℕ) (o : Option (List ℤ)) (zs : List ℤ) → so_many n o ≡ Some zs → (o ≡ Some zs) × (length zs ≡ n)
many_is n None zs e = absurd (none-some zs e)
many_is n (Some ys) zs e = by (nat_eq (length ys) n) refl e
  where
    by : (b : Bool) → nat_eq (length ys) n ≡ b → (if b then Some ys else None) ≡ Some zs → ((let o : Option (List ℤ) = Some ys in o) ≡ Some zs) ×
        (length zs ≡ n)
    by true h f = (f, ap length (sym (same_Some ys zs f)) ∙ eqb-true (length ys) n h)
    by false h f = absurd (none-some zs f)

pub numbers_text_is : (text : List ℕ) (n : ℕ) (line : List ℕ) (zs : List ℤ) → numbers_after text n line ≡ Some zs →
    (line ≡ text ++ numbers_text zs) × (length zs ≡ n) × AllByRecursion InRange zs
numbers_text_is text n line zs e = by (starts_with nat_eq line text) refl e
  where
    by : (b : Bool) → starts_with nat_eq line text ≡ b → (if b then so_many n (spaced_numbers (words_of (drop (length text) line))) else None) ≡ Some zs →
        (line ≡ text ++ numbers_text zs) × (length zs ≡ n) × AllByRecursion InRange zs
    by false h f = absurd (none-some zs f)
    by true h f =
        let m = many_is n (spaced_numbers (words_of (drop (length text) line))) zs f in
        let s = spaced_text (words_of (drop (length text) line)) zs m.0 in (
          (starts_is Decides-eqb line text (starts_with nat_eq line text) refl).0 h ∙
              ap (λ (x : List ℕ). text ++ x) (sym (join_with_byte-slice_split 32 (drop (length text) line)) ∙ s.0),
          m.1,
          s.1,
        )

-- ---- rows
given_is : (equal : Bool) (live : ℕ) (line : List ℕ) (g : LinearRow) (o : Option (List ℤ)) → numbers_after (relation_text equal) (suc live) line ≡ o →
    constraint_row equal o ≡ Some g →
    (line ≡ row_text g) × IsPointRow live g
given_is equal live line g None h e = absurd (none-some g e)
given_is equal live line g (Some row) h e =
    let n = numbers_text_is (relation_text equal) (suc live) line row h in
    let is = same_Some (let x : LinearRow = record { row = row; equal = equal } in x) g e in
    subst (λ (x : LinearRow). (line ≡ row_text x) × IsPointRow live x) is (n.0, record { width = n.1; in_range = n.2 })

row_or : (live : ℕ) (line : List ℕ) (g : LinearRow) (one : Option LinearRow) → constraint_row true (numbers_after (relation_text true) (suc live) line) ≡ one →
    or_else one (constraint_row false (numbers_after (relation_text false) (suc live) line)) ≡ Some g → (line ≡ row_text g) × IsPointRow live g
row_or live line g None h e = given_is false live line g (numbers_after (relation_text false) (suc live) line) refl e
row_or live line g (Some x) h e = given_is true live line g (numbers_after (relation_text true) (suc live) line) refl (h ∙ e)

pub row_text_is : (live : ℕ) (line : List ℕ) (g : LinearRow) → row_in live line ≡ Some g → (line ≡ row_text g) × IsPointRow live g
row_text_is live line g e = row_or live line g (constraint_row true (numbers_after (relation_text true) (suc live) line)) refl e

abbrev pub rows_text : List LinearRow → List ℕ
rows_text gs = flat_map (λ g. text_line (row_text g)) gs

before_is : (n : ℕ) (o : Option LinearRow) (rest : Judged (List LinearRow × Left)) (y : List LinearRow × Left) → judged_with_row n o rest ≡ Ok y →
    (g : LinearRow) × (r : List LinearRow × Left) × (o ≡ Some g) × (rest ≡ Ok r) × (let x : List LinearRow × Left = (g ∷ r.0, r.1) in x ≡ y)
before_is n None rest y e = absurd (no_ok (record { line = n; fault = bad_line }) y e)
before_is n (Some g) (Err r) y e = absurd (no_ok r y e)
before_is n (Some g) (Ok r) y e = (g, r, refl, refl, ok_same (let x : List LinearRow × Left = (g ∷ r.0, r.1) in x) y e)

pub judged_rows_text : (live n : ℕ) (pieces : List (List ℕ)) (y : List LinearRow × Left) → judged_rows live n pieces ≡ Ok y →
    (joined pieces ≡ rows_text y.0 ++ joined y.1.pieces) × AllByRecursion (IsPointRow live) y.0
judged_rows_text live n [] y e =
    subst (λ (x : List LinearRow × Left). (joined [] ≡ rows_text x.0 ++ joined x.1.pieces) × AllByRecursion (IsPointRow live) x.0) (ok_same _ y e) (refl, tt)
judged_rows_text live n (last ∷ []) y e =
    subst (λ (x : List LinearRow × Left). (joined (last ∷ []) ≡ rows_text x.0 ++ joined x.1.pieces) ×
    AllByRecursion (IsPointRow live) x.0) (ok_same _ y e) (refl, tt)
judged_rows_text live n (line ∷ next ∷ more) y e = by (judged_rows_text live (suc n) (next ∷ more)) (starts_with nat_eq line (codes " ")) e
  where
    by : ((r : List LinearRow × Left) → judged_rows live (suc n) (next ∷ more) ≡ Ok r →
        (joined (next ∷ more) ≡ rows_text r.0 ++ joined r.1.pieces) × AllByRecursion (IsPointRow live) r.0) →
        (b : Bool) → (if b then judged_with_row n (row_in live line) (judged_rows live (suc n) (next ∷ more)) else Ok (
          [],
          record {
            number = n;
            pieces = line ∷
                next ∷ more;
          },
        )) ≡ Ok y →
        (joined (line ∷ next ∷ more) ≡ rows_text y.0 ++ joined y.1.pieces) × AllByRecursion (IsPointRow live) y.0
    by again false f =
        subst (λ (x : List LinearRow × Left). (joined (line ∷ next ∷ more) ≡ rows_text x.0 ++ joined x.1.pieces) ×
        AllByRecursion (IsPointRow live) x.0) (ok_same _ y f) (refl, tt)
    by again true f =
        let b = before_is n (row_in live line) (judged_rows live (suc n) (next ∷ more)) y f in
        let r = row_text_is live line b.0 b.2 in
        let rest = again b.1 b.3 in
        subst (λ (x : List LinearRow × Left). (joined (line ∷ next ∷ more) ≡ rows_text x.0 ++ joined x.1.pieces) × AllByRecursion (IsPointRow live) x.0) b.4 (
          line_text (line ∷ next ∷ more) line refl ∙ ap (λ (x : List ℕ). text_line line ++ x) rest.0 ∙
              ap (λ (x : List ℕ). text_line x ++ (rows_text b.1.0 ++ joined b.1.1.pieces)) r.0 ∙
              sym (append_assoc (text_line (row_text b.0)) (rows_text b.1.0) (joined b.1.1.pieces)),
          (r.1, rest.1),
        )

-- ---- points
some_is : (r : Judged (List LinearRow × Left)) (y : RowsAtPoint × Left) → some_rows r ≡ Ok y → (x : List LinearRow × Left) × (r ≡ Ok x) × (let s : RowsAtPoint ×
    Left = (Some x.0, x.1) in s ≡ y)
some_is (Ok x) y e = (x, refl, ok_same (let s : RowsAtPoint × Left = (Some x.0, x.1) in s) y e)
some_is (Err r) y e = absurd (no_ok r y e)

pub judged_state_text : (number live : ℕ) (l : Left) (y : RowsAtPoint × Left) → judged_state number live l ≡ Ok y →
    (joined l.pieces ≡ state_text number y.0 ++ joined y.1.pieces) × IsState live y.0
judged_state_text number live l y e = by (is_next_line (point_text number ++ codes " empty") (line_on l.pieces)) refl e
  where
    by : (b : Bool) → is_next_line (point_text number ++ codes " empty") (line_on l.pieces) ≡ b →
        (if b then Ok (None, after_line l) else then_judged (takes (point_text number) l) (λ m. some_rows (judged_rows live m.number m.pieces))) ≡ Ok y →
        (joined l.pieces ≡ state_text number y.0 ++ joined y.1.pieces) × IsState live y.0
    by true h f =
        subst (λ (x : RowsAtPoint × Left). (joined l.pieces ≡ state_text number x.0 ++ joined x.1.pieces) × IsState live x.0)
        (ok_same (let s : RowsAtPoint × Left = (None, after_line l) in s) y f)
        (line_text l.pieces (point_text number ++ codes " empty") (is_line_on (point_text number ++ codes " empty") (line_on l.pieces) h), tt)
    by false h f =
        let t = then_is (takes (point_text number) l) (λ (m : Left). some_rows (judged_rows live m.number m.pieces)) y f in
        let s = some_is (judged_rows live t.0.number t.0.pieces) y t.2 in
        let r = judged_rows_text live t.0.number t.0.pieces s.0 s.1 in
        subst (λ (x : RowsAtPoint × Left). (joined l.pieces ≡ state_text number x.0 ++ joined x.1.pieces) × IsState live x.0) s.2 (
          takes_text (point_text number) l t.0 t.1 ∙ ap (λ (x : List ℕ). text_line (point_text number) ++ x) r.0 ∙
              sym (append_assoc (text_line (point_text number)) (rows_text s.0.0) (joined s.0.1.pieces)),
          r.1,
        )

states_is : (s : RowsAtPoint) (r : Judged (List RowsAtPoint × Left)) (y : List RowsAtPoint × Left) → state_before s r ≡ Ok y →
    (x : List RowsAtPoint × Left) × (r ≡ Ok x) × (let z : List RowsAtPoint × Left = (s ∷ x.0, x.1) in z ≡ y)
states_is s (Ok x) y e = (x, refl, ok_same (let z : List RowsAtPoint × Left = (s ∷ x.0, x.1) in z) y e)
states_is s (Err r) y e = absurd (no_ok r y e)

pub judged_states_text : (number : ℕ) (sites : List Site) (l : Left) (y : List RowsAtPoint × Left) → judged_states number sites l ≡ Ok y →
    (joined l.pieces ≡ states_text number y.0 ++ joined y.1.pieces) × AreStates sites y.0
judged_states_text number [] l y e =
    subst (λ (x : List RowsAtPoint × Left). (joined l.pieces ≡ states_text number x.0 ++ joined x.1.pieces) × AreStates [] x.0)
    (ok_same (let z : List RowsAtPoint × Left = ([], l) in z) y e) (refl, tt)
judged_states_text number (site ∷ sites) l y e =
    let t = then_is (judged_state number site.live l) (λ (r : RowsAtPoint × Left). state_before r.0 (judged_states (suc number) sites r.1)) y e in
    let one = judged_state_text number site.live l t.0 t.1 in
    let s = states_is t.0.0 (judged_states (suc number) sites t.0.1) y t.2 in
    let rest = judged_states_text (suc number) sites t.0.1 s.0 s.1 in
    subst (λ (x : List RowsAtPoint × Left). (joined l.pieces ≡ states_text number x.0 ++ joined x.1.pieces) × AreStates (site ∷ sites) x.0) s.2 (
      one.0 ∙ ap (λ (x : List ℕ). state_text number t.0.0 ++ x) rest.0 ∙
          sym (append_assoc (state_text number t.0.0) (states_text (suc number) s.0.0) (joined s.0.1.pieces)),
      (one.1, rest.1),
    )

-- ---- multipliers
factors_is : (zs : List ℤ) (m : Multipliers) → multipliers_of zs ≡ Some m → (zs ≡ m.divisor ∷ m.constant ∷ m.factors)
factors_is [] m e = absurd (none-some m e)
factors_is (d ∷ []) m e = absurd (none-some m e)
factors_is (d ∷ k ∷ ls) m e = ap (λ (x : Multipliers). x.divisor ∷ x.constant ∷ x.factors) (same_Some (let x : Multipliers = record {
  divisor = d;
  constant = k;
  factors = ls;
} in x) m e)

pub multipliers_text_is : (word : List ℕ) (premises : ℕ) (line : List ℕ) (m : Multipliers) → multipliers_in word premises line ≡ Some m →
    (line ≡ multipliers_text word m) × AreNumbers m × (length m.factors ≡ premises)
multipliers_text_is word premises line m e = by (numbers_after word (2 + premises) line) refl e
  where
    by : (o : Option (List ℤ)) → numbers_after word (2 + premises) line ≡ o → multipliers_from o ≡ Some m →
        (line ≡ multipliers_text word m) × AreNumbers m × (length m.factors ≡ premises)
    by None h f = absurd (none-some m f)
    by (Some zs) h f =
        let n = numbers_text_is word (2 + premises) line zs h in
        let is = factors_is zs m f in
        let r = subst (λ (x : List ℤ). AllByRecursion InRange x) is n.2 in
        (n.0 ∙ ap (λ (x : List ℤ). word ++ numbers_text x) is, (r.0, r.1.0, r.1.1), (let c = ap length is in omega (arith, c, n.1)))
