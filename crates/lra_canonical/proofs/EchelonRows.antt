-- Echelon forms row by row: the form of the first rows with one more row is that of one row more; of lists with the same solutions
-- it is the same; and the first number that passes is a strain.
use Rattle.std.proofs.Common.{◌≡◌, ℕ, ◌+◌, ◌<◌, List, [], ◌∷◌, ◌++◌, length, All, take, drop, get_or, refl, ap, sym, ◌∙◌, subst, pos, negsuc, ℤ, ◌+ℤ◌, ◌*ℤ◌, ◌<ℤ◌, neg_ℤ, arith, inl, inr, ◌⊎◌, Some}
use Rattle.std.proofs.lemmas.List.Elements.{All-contains, Contains-append_cases, Contains-append_left, Contains-append_right}
use Rattle.std.proofs.{Common.None, lemmas.Int.ints, lemmas.List.take_more, lemmas.List.take_all}
use Rattle.std.specs.List.{Contains}
use Rattle.lra_canonical.specs.Crates.lra_linear_spec.Echelon.{IsEchelon, IsEchelonOf, Spanned, pivot}
use Rattle.lra_canonical.specs.Crates.lra_linear_spec.Vectors.{blend, entry, product, signed_sum}
use Rattle.lra_canonical.specs.Crates.{lra_linear_spec.Cones.both_ways, lra_linear_spec.LowestTerms.IsPrimitive}
use Rattle.lra_canonical.proofs.Crates.lra_linear_spec.Membership.{all_from, contains_cases, contains_head, contains_none, contains_tail}
use Rattle.lra_canonical.proofs.Crates.lra_linear_spec.Products.{entry_blend, entry_negated, product_comm}
use Rattle.lra_canonical.proofs.Crates.lra_linear_spec.Ring.{ring, v, ⊖, ◌⊕◌, ◌⊗◌}
use Rattle.lra_canonical.proofs.Crates.lra_linear_spec.Spans.{echelon_rows_at_most, echelon_unique, spanned_divided, spanned_head, spanned_linear, spanned_more, spanned_row, spanned_same}
use Rattle.lra_canonical.proofs.Crates.{lra_linear_spec.EchelonExtension.ClearedRows, lra_linear_spec.EchelonExtension.cleared_exist, lra_linear_spec.FlatRows.member_primitive}
use Rattle.lra_canonical.proofs.Crates.{lra_linear_spec.FlatRows.signed_primitive, lra_linear_spec.Lines.described_generated, lra_linear_spec.Pivots.echelon_apart}
use Rattle.lra_canonical.proofs.Crates.{lra_linear_spec.Pivots.echelon_positive, lra_linear_spec.Signs.not_both, lra_linear_spec.Signs.zero_at_least, lra_linear_spec.Spans.spanned_through}
use Rattle.lra_row.specs.{declared.error.RowError.RowError, declared.error.RowError.TheVariants.Excess, declared.error.RowError.TheVariants.Memory}
use Rattle.lra_canonical.specs.Echelons.{SameEqualities, HaveWidth, IsOneForm, AreCleared, IsDirected, IsPlaced, IsInserted, IsExtended, IsExtensionExcess, Extends, IsFirstRowExcess, IsEchelonExcess}
use Rattle.lra_canonical.specs.Reduced.{IsEchelonForm, SolvesAll, IsAlong, IsCleared, IsReducedBy}
use Rattle.lra_canonical.proofs.Solutions.{all_widths, farkas, have_width, signed_spanned, solves_all, spanned_solved, sum_none}
use Rattle.lra_canonical.proofs.{Chains.chain_passes, Chains.split_at, Chains.step_length, EchelonSteps.directed_width, Extension.cleared_rows, Extension.placed_extension}

-- ---- widths
cleared_widths : (w : ℕ) (line : List ℤ) (rows new : List (List ℤ)) → length line ≡ w → ((r : List ℤ) → Contains rows r → length r ≡ w) → AreCleared line rows new → (t : List ℤ) → Contains new t →
    length t ≡ w
cleared_widths w line [] [] l h c t k = absurd (contains_none t k)
cleared_widths w line [] (x ∷ new) l h c t k = absurd c
cleared_widths w line (r ∷ rows) [] l h c t k = absurd c
cleared_widths w line (r ∷ rows) (x ∷ new) l h c t k = elim (contains_cases x t new k) [
  | inl e ↦ ap length (sym e) ∙ one c.0 ∙ h r (contains_head r rows)
  | inr d ↦ cleared_widths w line rows new l (λ y m. h y (contains_tail r y rows m)) c.1 t d
]
  where
    one : IsCleared line r x → length x ≡ length r
    one (inl e) = ap length e.1
    one (inr s) = step_length line r x (h r (contains_head r rows) ∙ sym l) s

-- ---- the line of a row
line_zero : (rest line : List ℤ) → IsDirected rest (Some line) → (j : ℕ) → entry rest j ≡ pos 0 → entry line j ≡ pos 0
line_zero rest line d j z = elim d.1 [
  | inl e ↦ ap (λ (x : List ℤ). entry x j) e ∙ z
  | inr e ↦ ap (λ (x : List ℤ). entry x j) e ∙ entry_negated rest j ∙ ap neg_ℤ z ∙ omega (arith, ints)
]

line_primitive : (rest line : List ℤ) → IsDirected rest (Some line) → (IsPrimitive rest ⊎ ((j : ℕ) → entry rest j ≡ pos 0)) → IsPrimitive line
line_primitive rest line d (inl p) = signed_primitive rest line d.1 p
line_primitive rest line d (inr z) = absurd (not_both (entry line (pivot line)) d.0 (line_zero rest line d (pivot line) (z (pivot line))))

-- a span that has the one has the other
line_spanned : (rows : List (List ℤ)) (rest line : List ℤ) → IsDirected rest (Some line) → Spanned rows (entry rest) → Spanned rows (entry line)
line_spanned rows rest line d g = elim d.1 [
  | inl e ↦ subst (λ (x : List ℤ). Spanned rows (entry x)) (sym e) g
  | inr e ↦ spanned_same rows (λ j. (negsuc 0 *ℤ entry rest j) +ℤ (pos 0 *ℤ entry rest j)) (entry line)
      (λ j. ring (v (negsuc 0) ⊗ v (entry rest j) ⊕ v (pos 0) ⊗ v (entry rest j)) (⊖ (v (entry rest j))) (omega arith) ∙ sym (entry_negated rest j) ∙ ap (λ (x : List ℤ). entry x j) (sym e))
      (spanned_linear rows (negsuc 0) (pos 0) (entry rest) (entry rest) g g)
]

rest_spanned : (rows : List (List ℤ)) (rest line : List ℤ) → IsDirected rest (Some line) → Spanned rows (entry line) → Spanned rows (entry rest)
rest_spanned rows rest line d g = elim d.1 [
  | inl e ↦ subst (λ (x : List ℤ). Spanned rows (entry x)) e g
  | inr e ↦ spanned_same rows (λ j. (negsuc 0 *ℤ entry line j) +ℤ (pos 0 *ℤ entry line j)) (entry rest)
      (λ j. ap (λ (x : List ℤ). (negsuc 0 *ℤ entry x j) +ℤ (pos 0 *ℤ entry x j)) e ∙ ap (λ z. (negsuc 0 *ℤ z) +ℤ (pos 0 *ℤ z)) (entry_negated rest j) ∙
      ring (v (negsuc 0) ⊗ ⊖ (v (entry rest j)) ⊕ v (pos 0) ⊗ ⊖ (v (entry rest j))) (v (entry rest j)) (omega arith))
      (spanned_linear rows (negsuc 0) (pos 0) (entry line) (entry line) g g)
]

-- the row and what it is reduced to
reduced_spanned : (rows form : List (List ℤ)) (row rest : List ℤ) → IsAlong form row rest → ((u : ℕ → ℤ) → Spanned form u → Spanned rows u) → Spanned rows (entry row) → Spanned rows (entry rest)
reduced_spanned rows form row rest a h g =
    spanned_divided rows a.times (entry rest) a.positive
    (spanned_same rows (λ j. (pos a.other *ℤ entry row j) +ℤ (pos 1 *ℤ a.line j)) (λ j. pos a.times *ℤ entry rest j)
    (λ j. ring (v (pos a.other) ⊗ v (entry row j) ⊕ v (pos 1) ⊗ v (a.line j)) (v (pos a.other) ⊗ v (entry row j) ⊕ v (a.line j)) (omega arith) ∙ sym (a.is_sum j))
    (spanned_linear rows (pos a.other) (pos 1) (entry row) a.line g (h a.line a.on_line)))

row_spanned : (rows form : List (List ℤ)) (row rest : List ℤ) → IsAlong form row rest → ((u : ℕ → ℤ) → Spanned form u → Spanned rows u) → Spanned rows (entry rest) → Spanned rows (entry row)
row_spanned rows form row rest a h g =
    spanned_divided rows a.other (entry row) a.other_positive
    (spanned_same rows (λ j. (pos a.times *ℤ entry rest j) +ℤ (negsuc 0 *ℤ a.line j)) (λ j. pos a.other *ℤ entry row j)
    (λ j. ap (λ z. z +ℤ (negsuc 0 *ℤ a.line j)) (a.is_sum j) ∙ ring ((v (pos a.other) ⊗ v (entry row j) ⊕ v (a.line j)) ⊕ v (negsuc 0) ⊗ v (a.line j)) (v (pos a.other) ⊗ v (entry row j))
    (omega arith))
    (spanned_linear rows (pos a.times) (negsuc 0) (entry rest) a.line g (h a.line a.on_line)))

-- ---- one more row
pub record FormWith (form : List (List ℤ)) (row : List ℤ) (out : List (List ℤ)) : Type 0 where
  pub pivots : List ℕ
  pub echelon : IsEchelon out pivots
  pub same : (u : ℕ → ℤ) → (Spanned out u → Spanned (row ∷ form) u) × (Spanned (row ∷ form) u → Spanned out u)

-- a span with the line is one with the row
line_for_row : (form : List (List ℤ)) (row rest line : List ℤ) → IsAlong form row rest → IsDirected rest (Some line) → (u : ℕ → ℤ) → (Spanned (line ∷ form) u → Spanned (row ∷ form) u) ×
    (Spanned (row ∷ form) u → Spanned (line ∷ form) u)
line_for_row form row rest line a d u = (
  spanned_through (line ∷ form) (row ∷ form) u (λ t k. elim (contains_cases line t form k) [
    | inl e ↦ subst (λ (x : List ℤ). Spanned (row ∷ form) (entry x)) e (line_spanned (row ∷ form) rest line d
        (reduced_spanned (row ∷ form) form row rest a (spanned_more row form) (spanned_head row form)))
    | inr m ↦ spanned_row (row ∷ form) t (contains_tail row t form m)
  ]),
  spanned_through (row ∷ form) (line ∷ form) u (λ t k. elim (contains_cases row t form k) [
    | inl e ↦ subst (λ (x : List ℤ). Spanned (line ∷ form) (entry x)) e (row_spanned (line ∷ form) form row rest a (spanned_more line form)
        (rest_spanned (line ∷ form) rest line d (spanned_head line form)))
    | inr m ↦ spanned_row (line ∷ form) t (contains_tail line t form m)
  ]),
)

-- the form with the line in its place, whatever list of cleared rows stands before it
line_form : (form : List (List ℤ)) (row rest line : List ℤ) (low new high : List (List ℤ)) → IsEchelonForm form → IsReducedBy form row rest → IsDirected rest (Some line) →
    IsPlaced form line low high →
    ClearedRows line (pivot line) low new → FormWith form row (new ++ line ∷ high)
line_form form row rest line low new high f r d p c =
    let x = placed_extension form line low new high f p d.0 (line_primitive rest line d r.lowest) (λ t k. line_zero rest line d (pivot t) (r.zeros t k)) c in
    record {
      pivots = x.pivots;
      echelon = x.echelon;
      same = λ u. let y = line_for_row form row rest line r.along d u in (λ g. y.0 ((x.same u).0 g), λ g. (x.same u).1 (y.1 g));
    }

-- the low rows, cleared
low_cleared : (form : List (List ℤ)) (line : List ℤ) (low new high : List (List ℤ)) → IsEchelonForm form → ((r : List ℤ) → Contains form r → length r ≡ length line) →
    pos 0 <ℤ entry line (pivot line) →
    IsPlaced form line low high → AreCleared line low new → ClearedRows line (pivot line) low new
low_cleared form line low new high f w h p c =
    let inside : (r : List ℤ) → Contains low r → Contains form r = λ r k. subst (λ (rows : List (List ℤ)). Contains rows r) (sym p.is) (Contains-append_left low high r k) in
    cleared_rows line low new h (λ r k. w r (inside r k)) (λ r k. member_primitive form f.0 r f.1 (inside r k)) c

pub extended_form : (form : List (List ℤ)) (row : List ℤ) (out : List (List ℤ)) → IsEchelonForm form → ((r : List ℤ) → Contains form r → length r ≡ length row) → IsExtended form row out →
    FormWith form row out
extended_form form row out f w x = by_case x.extended
  where
    by_case : (IsDirected x.rest None × (out ≡ form)) ⊎ ((line : List ℤ) × IsDirected x.rest (Some line) × IsInserted form line out) → FormWith form row out
    by_case (inl n) =
        let at : (rows : List (List ℤ)) → ((u : ℕ → ℤ) → Spanned form u → Spanned rows u) → Spanned rows (entry row) = λ rows h.
        row_spanned rows form row x.rest x.reduced.along h (spanned_same rows (λ j. pos 0 *ℤ x.reduced.along.line j +ℤ (pos 0 *ℤ x.reduced.along.line j)) (entry x.rest)
        (λ j. ring (v (pos 0) ⊗ v (x.reduced.along.line j) ⊕ v (pos 0) ⊗ v (x.reduced.along.line j)) (v (pos 0)) (omega arith) ∙ sym (n.0 j))
        (spanned_linear rows (pos 0) (pos 0) x.reduced.along.line x.reduced.along.line (h x.reduced.along.line x.reduced.along.on_line) (h x.reduced.along.line x.reduced.along.on_line))) in
        record {
          pivots = f.0;
          echelon = subst (λ (rows : List (List ℤ)). IsEchelon rows f.0) (sym n.1) f.1;
          same = λ u. (
            (λ g. spanned_more row form u (subst (λ (rows : List (List ℤ)). Spanned rows u) n.1 g)),
            (λ g. subst (λ (rows : List (List ℤ)). Spanned rows u) (sym n.1) (spanned_through (row ∷ form) form u (λ t k. elim (contains_cases row t form k) [
              | inl e ↦ subst (λ (y : List ℤ). Spanned form (entry y)) e (at form (λ z q. q))
              | inr m ↦ spanned_row form t m
            ]) g)),
          );
        }
    by_case (inr (line, d, i)) =
        let wide : (r : List ℤ) → Contains form r → length r ≡ length line = λ r k. w r k ∙ sym (directed_width x.rest line d ∙ x.reduced.same_length) in
        subst (λ (rows : List (List ℤ)). FormWith form row rows) (sym i.result)
        (line_form form row x.rest line i.low i.new i.high f x.reduced d i.placed (low_cleared form line i.low i.new i.high f wide d.0 i.placed i.cleared))

pub extended_widths : (w : ℕ) (form : List (List ℤ)) (row : List ℤ) (out : List (List ℤ)) → HaveWidth w form → length row ≡ w → IsExtended form row out → HaveWidth w out
extended_widths w form row out h l x = by_case x.extended
  where
    by_case : (IsDirected x.rest None × (out ≡ form)) ⊎ ((line : List ℤ) × IsDirected x.rest (Some line) × IsInserted form line out) → HaveWidth w out
    by_case (inl n) = subst (λ (rows : List (List ℤ)). HaveWidth w rows) (sym n.1) h
    by_case (inr (line, d, i)) =
        let wl : length line ≡ w = directed_width x.rest line d ∙ x.reduced.same_length ∙ l in
        let inside : (r : List ℤ) → Contains (i.low ++ i.high) r → length r ≡ w = λ r k. have_width w form h r (subst (λ (rows : List (List ℤ)). Contains rows r) (sym i.placed.is) k) in
        subst (λ (rows : List (List ℤ)). HaveWidth w rows) (sym i.result) (all_from (λ (r : List ℤ). length r ≡ w) (i.new ++ line ∷ i.high)
        (λ t k. elim (Contains-append_cases i.new (line ∷ i.high) t k) [
          | inl n ↦ cleared_widths w line i.low i.new wl (λ r m. inside r (Contains-append_left i.low i.high r m)) i.cleared t n
          | inr n ↦ elim (contains_cases line t i.high n) [ inl e ↦ ap length (sym e) ∙ wl | inr m ↦ inside t (Contains-append_right i.low i.high t m) ]
        ]))

-- ---- the first rows
pub record IsFormOfFirst (rows : List (List ℤ)) (i : ℕ) (form : List (List ℤ)) : Type 0 where
  pub is_form : IsEchelonOf form (take i rows)
  pub widths : (w : ℕ) → HaveWidth w rows → HaveWidth w form
  pub made : Extends [] (take i rows) form

pub first_none : (rows form : List (List ℤ)) → form ≡ [] → IsFormOfFirst rows 0 form
first_none rows form e = record {
  is_form = subst (λ (x : List (List ℤ)). IsEchelonOf x []) (sym e) (record { pivots = []; echelon = tt; same = λ u. (λ g. g, λ g. g) });
  widths = λ w h. subst (λ (x : List (List ℤ)). HaveWidth w x) (sym e) (all_from (λ (r : List ℤ). length r ≡ w) [] (λ x k. absurd (contains_none x k)));
  made = e;
}

extends_push : (start rows : List (List ℤ)) (row : List ℤ) (form out : List (List ℤ)) → Extends start rows form → IsExtended form row out → Extends start (rows ++ row ∷ []) out
extends_push start [] row form out e x = (out, subst (λ (y : List (List ℤ)). IsExtended y row out) e x, refl)
extends_push start (r ∷ rows) row form out e x = (e.0, e.1, extends_push e.0 rows row form out e.2 x)

-- the span of the form and the row is that of the rows and the row
span_push : (rows form : List (List ℤ)) (row : List ℤ) → IsEchelonOf form rows → (u : ℕ → ℤ) → (Spanned (row ∷ form) u → Spanned (rows ++ row ∷ []) u) ×
    (Spanned (rows ++ row ∷ []) u → Spanned (row ∷ form) u)
span_push rows form row f u = (
  spanned_through (row ∷ form) (rows ++ row ∷ []) u (λ t k. elim (contains_cases row t form k) [
    | inl e ↦ subst (λ (y : List ℤ). Spanned (rows ++ row ∷ []) (entry y)) e (spanned_row (rows ++ row ∷ []) row (Contains-append_right rows (row ∷ []) row (contains_head row [])))
    | inr m ↦ spanned_through rows (rows ++ row ∷ []) (entry t) (λ s n. spanned_row (rows ++ row ∷ []) s (Contains-append_left rows (row ∷ []) s n)) ((f.same (entry t)).0 (spanned_row form t m))
  ]),
  spanned_through (rows ++ row ∷ []) (row ∷ form) u (λ t k. elim (Contains-append_cases rows (row ∷ []) t k) [
    | inl n ↦ spanned_more row form (entry t) ((f.same (entry t)).1 (spanned_row rows t n))
    | inr n ↦ elim (contains_cases row t [] n) [ inl e ↦ subst (λ (y : List ℤ). Spanned (row ∷ form) (entry y)) e (spanned_head row form) | inr m ↦ absurd (contains_none t m) ]
  ]),
)

one_row_more : (rows : List (List ℤ)) (i : ℕ) (row : List ℤ) → i < length rows → row ≡ get_or rows i row → take i rows ++ row ∷ [] ≡ take (i + 1) rows
one_row_more rows i row h g = ap (λ (x : List ℤ). take i rows ++ x ∷ []) g ∙ sym (take_more rows i row h)

form_more : (rows form out : List (List ℤ)) (row : List ℤ) → IsEchelonOf form rows → FormWith form row out → IsEchelonOf out (rows ++ row ∷ [])
form_more rows form out row f x = record {
  pivots = x.pivots;
  echelon = x.echelon;
  same = λ u. let y = span_push rows form row f u in (λ g. y.0 ((x.same u).0 g), λ g. (x.same u).1 (y.1 g));
}

-- the row has the width of the others
row_width : (w : ℕ) (rows : List (List ℤ)) (i : ℕ) (row : List ℤ) → HaveWidth w rows → i < length rows → row ≡ get_or rows i row → length row ≡ w
row_width w rows i row h l g = have_width w rows h row (i, l, sym g)

pub form_width : (rows form : List (List ℤ)) (i : ℕ) (row : List ℤ) → ((w : ℕ) × (0 < w) × HaveWidth w rows) → i < length rows → row ≡ get_or rows i row → IsFormOfFirst rows i form →
    All (λ r. length r ≡ length row) form
form_width rows form i row h l g f = subst (λ (n : ℕ). HaveWidth n form) (sym (row_width h.0 rows i row h.2 l g)) (f.widths h.0 h.2)

pub row_wide : (rows : List (List ℤ)) (i : ℕ) (row : List ℤ) → ((w : ℕ) × (0 < w) × HaveWidth w rows) → i < length rows → row ≡ get_or rows i row → 0 < length row
row_wide rows i row h l g = omega (arith, h.1, row_width h.0 rows i row h.2 l g)

pub first_form : (rows form : List (List ℤ)) (i : ℕ) → IsFormOfFirst rows i form → IsEchelonForm form
first_form rows form i f = (f.is_form.pivots, f.is_form.echelon)

pub first_more : (rows form out : List (List ℤ)) (i : ℕ) (row : List ℤ) → ((w : ℕ) × (0 < w) × HaveWidth w rows) → i < length rows → row ≡ get_or rows i row → IsFormOfFirst rows i form →
    IsExtended form row out → IsFormOfFirst rows (i + 1) out
first_more rows form out i row h l g f x =
    let more = one_row_more rows i row l g in
    let widths : (r : List ℤ) → Contains form r → length r ≡ length row = λ r k. All-contains (λ (y : List ℤ). length y ≡ length row) form r (form_width rows form i row h l g f) k in
    record {
      is_form = subst (λ (y : List (List ℤ)). IsEchelonOf out y) more (form_more (take i rows) form out row f.is_form (extended_form form row out (first_form rows form i f) widths x));
      widths = λ w k. extended_widths w form row out (f.widths w k) (row_width w rows i row k l g) x;
      made = subst (λ (y : List (List ℤ)). Extends [] y out) more (extends_push [] (take i rows) row form out f.made x);
    }

-- ---- all rows
whole : (rows : List (List ℤ)) (i : ℕ) → i ≡ length rows → take i rows ≡ rows
whole rows i e = take_all i rows (omega (arith, e))

pub form_end : (rows form : List (List ℤ)) (i : ℕ) → i ≡ length rows → IsFormOfFirst rows i form → IsEchelonOf form rows
form_end rows form i e f = subst (λ (y : List (List ℤ)). IsEchelonOf form y) (whole rows i e) f.is_form

pub chain_end : (rows form : List (List ℤ)) (i : ℕ) → i ≡ length rows → IsFormOfFirst rows i form → Extends [] rows form
chain_end rows form i e f = subst (λ (y : List (List ℤ)). Extends [] y form) (whole rows i e) f.made

-- rows with the same span have the same solutions
pub same_equalities : (rows form : List (List ℤ)) → IsEchelonOf form rows → SameEqualities rows form
same_equalities rows form f u = (
  (λ s r k. product_comm r u ∙ spanned_solved rows (entry r) u ((f.same (entry r)).0 (spanned_row form r k)) s),
  (λ s r k. product_comm r u ∙ spanned_solved form (entry r) u ((f.same (entry r)).1 (spanned_row rows r k)) s),
)

-- a row that is 0 at all solutions is in the span
solved_spanned : (w : ℕ) (rows : List (List ℤ)) (c : List ℤ) → HaveWidth w rows → length c ≡ w → ((u : List ℤ) → SolvesAll rows u → product c u ≡ pos 0) → Spanned rows (entry c)
solved_spanned w rows c h l z =
    let g = farkas w (both_ways rows) c (all_widths w rows [] (have_width w rows h) (λ t k. absurd (contains_none t k))) l (λ u n s. zero_at_least (product c u) (z u (solves_all rows [] u s))) in
    let d = described_generated rows [] (entry c) g in
    spanned_divided rows d.multiple (entry c) d.positive
    (spanned_same rows (signed_sum d.free rows) (λ j. pos d.multiple *ℤ entry c j)
    (λ j. ring (v (signed_sum d.free rows j)) (v (signed_sum d.free rows j) ⊕ v (pos 0)) (omega arith) ∙ ap (λ y. signed_sum d.free rows j +ℤ y) (sym (sum_none d.factors j)) ∙ sym (d.is_sum j))
    (signed_spanned rows d.free))

same_span : (w : ℕ) (rows others : List (List ℤ)) → HaveWidth w rows → HaveWidth w others → ((u : List ℤ) → SolvesAll others u → SolvesAll rows u) → (u : ℕ → ℤ) → Spanned rows u → Spanned others u
same_span w rows others h k s u g = spanned_through rows others u (λ t m. solved_spanned w others t k (have_width w rows h t m) (λ x y. s x y t m)) g

pub one_form : (rows form : List (List ℤ)) → ((w : ℕ) → HaveWidth w rows → HaveWidth w form) → IsEchelonOf form rows → IsOneForm rows form
one_form rows form wf f w h others other ho same hother o =
    sym (echelon_unique w form other f.pivots o.pivots (have_width w form (wf w h)) (have_width w other hother) f.echelon o.echelon
    (λ u. (
      (λ g. (o.same u).1 (same_span w rows others h ho (λ x s. (same x).1 s) u ((f.same u).0 g))),
      (λ g. (f.same u).1 (same_span w others rows ho h (λ x s. (same x).0 s) u ((o.same u).0 g))),
    ))).0

-- ---- what passes
pub first_passes : (rows form : List (List ℤ)) (i : ℕ) (row : List ℤ) (e : RowError) → i < length rows → row ≡ get_or rows i row → IsFormOfFirst rows i form → IsExtensionExcess form row e →
    IsFirstRowExcess rows e
first_passes rows form i row Memory l g f x = tt
first_passes rows form i row (Excess e) l g f x = record { earlier = take i rows; row = row; later = drop (i + 1) rows; is = split_at rows i row l g; form = form; made = f.made; passes = x }

-- a row of the form that isn't 0 at the new pivot is no row of the new form
not_in_new : (form : List (List ℤ)) (line : List ℤ) (new high : List (List ℤ)) (row : List ℤ) → IsEchelonForm form → Contains form row → entry line (pivot row) ≡ pos 0 →
    ¬ (entry row (pivot line) ≡ pos 0) →
    (ps : List ℕ) → IsEchelon (new ++ line ∷ high) ps → ¬ (Contains (new ++ line ∷ high) row)
not_in_new form line new high row f k z n ps e m = elim (Contains-append_cases new (line ∷ high) row m) [
  | inl a ↦ n (echelon_apart new line high ps e row (Contains-append_left new high row a))
  | inr a ↦ elim (contains_cases line row high a) [
    | inl q ↦ not_both (entry row (pivot row)) (echelon_positive form f.0 f.1 row k) (ap (λ (x : List ℤ). entry x (pivot row)) (sym q) ∙ z)
    | inr b ↦ n (echelon_apart new line high ps e row (Contains-append_right new high row b))
  ]
]

pub extension_strains : (rows form : List (List ℤ)) (i : ℕ) (row : List ℤ) (e : RowError) → ((w : ℕ) × (0 < w) × HaveWidth w rows) → i < length rows → row ≡ get_or rows i row →
    IsFormOfFirst rows i form → IsExtensionExcess form row e → IsEchelonExcess rows e
extension_strains rows form i row Memory h l g f x = tt
extension_strains rows form i row (Excess e) h l g f (inl x) =
    let widths = form_width rows form i row h l g f in
    let few = echelon_rows_at_most (length row) form f.is_form.pivots (λ t k. All-contains (λ (y : List ℤ). length y ≡ length row) form t widths k) f.is_form.echelon (row_wide rows i row h l g) in
    record {
      form = form;
      is_form = (i, f.is_form);
      start = row;
      from = inl (i, l, sym g);
      passes = chain_passes form row e (length row) few x;
      start_width = λ n a. All-contains (λ (y : List ℤ). length y ≡ n) rows row a (i, l, sym g);
    }
extension_strains rows form i row (Excess e) h l g f (inr x) =
    let w = length row in
    let fm = first_form rows form i f in
    let line = x.line in
    let p = x.passes in
    let q = p.passes in
    let widths : (r : List ℤ) → Contains form r → length r ≡ w = λ r k. All-contains (λ (y : List ℤ). length y ≡ w) form r (form_width rows form i row h l g f) k in
    let wl : length line ≡ w = directed_width x.rest line x.directed ∙ x.reduced.same_length in
    let inside : (r : List ℤ) → Contains p.low r → Contains form r = λ r k. subst (λ (y : List (List ℤ)). Contains y r) (sym p.placed.is) (Contains-append_left p.low p.high r k) in
    let has : Contains form q.row = inside q.row (subst (λ (y : List (List ℤ)). Contains y q.row) (sym q.is) (Contains-append_right q.earlier (q.row ∷ q.later) q.row (contains_head q.row q.later))) in
    let new = cleared_exist line (pivot line) p.low (λ r k. (
      blend (entry line (pivot line)) (neg_ℤ (entry r (pivot line))) r line,
      entry_blend (entry line (pivot line)) (neg_ℤ (entry r (pivot line))) r line (widths r (inside r k) ∙ sym wl),
    )) in
    let y = line_form form row x.rest line p.low new.0 p.high fm x.reduced x.directed p.placed new.1 in
    let out = new.0 ++ line ∷ p.high in
    let of_rows : IsEchelonOf out (take (i + 1) rows) = subst (λ (z : List (List ℤ)). IsEchelonOf out z) (one_row_more rows i row l g) (form_more (take i rows) form out row f.is_form y) in
    record {
      form = out;
      is_form = (i + 1, of_rows);
      start = q.row;
      from = inr (record {
        other = form;
        is_form = (i, f.is_form);
        has = has;
        apart = not_in_new form line new.0 p.high q.row fm has
            (line_zero x.rest line x.directed (pivot q.row) (x.reduced.zeros q.row has)) q.cancels y.pivots y.echelon;
      });
      passes = record {
        steps = [];
        few = omega (arith, row_wide rows i row h l g, widths q.row has);
        last = q.row;
        follows = refl;
        line = line;
        has = Contains-append_right new.0 (line ∷ p.high) line (contains_head line p.high);
        cancels = q.cancels;
        passes = q.passes;
      };
      start_width = λ n a. widths q.row has ∙ All-contains (λ (y : List ℤ). length y ≡ n) rows row a (i, l, sym g);
    }
