-- What the code says of lines, passed on from one part to the whole.
use Rattle.std.proofs.Common.{◌≡◌, ◌+◌, ◌++◌, ℕ, suc, true, false, List, [], ◌∷◌, length, refl, ap, sym, ◌∙◌, subst, append_assoc, append-nil, ℤ, Option, Some, None, Ok, Err}
use Rattle.lra_certificate_lines.specs.Crates.lra_systems.LinearSystems.{LinearSystem, constraints}
use Rattle.lra_certificate_lines.specs.Crates.{lra_linear_spec.Descriptions.LinearRow, lra_linear_spec.Kinds.is_equality, lra_linear_spec.declared.ConKind.ConKind, lra_program.Sites.Site}
use Rattle.lra_certificate_lines.proofs.Crates.lra_systems.LinearRows.{constraints_pushed}
use Rattle.lra_certificate_lines.specs.declared.refusals.VerifyError.TheVariants.{Refused, Memory}
use Rattle.lra_certificate_lines.specs.declared.refusals.VerifyRefusal.TheVariants.{Source, Paths, Line}
use Rattle.lra_certificate_lines.specs.{LineViews.IsFault, Views.fault_view, declared.refusals.LineFault.LineFault, declared.refusals.VerifyError.VerifyError}
use Rattle.lra_certificate_spec.specs.Judged as judged
use Rattle.lra_certificate_spec.specs.Judged.{Left, Judged, then_judged, refuses, line_on, row_in, row_before, judged_with_row, judged_rows, RowsAtPoint, judged_state, state_before, judged_states}
use Rattle.lra_certificate_spec.specs.Lines.{pieces_at, line_number_at, left_at, IsLineAt, is_row_line}
use Rattle.lra_certificate_spec.proofs.RowLines.{rows_on, rows_end}

-- a part's refusal is the whole's
pub fault_through : {A B : Type 0} (j : Judged A) (whole : Judged B) (e : VerifyError) → ((r : judged.Refused) → j ≡ Err r → whole ≡ Err r) → IsFault j e →
    IsFault whole e
fault_through j whole (Refused (Line n fault)) h f = h _ f
fault_through j whole (Refused (Source r)) h f = f
fault_through j whole (Refused (Paths p)) h f = f
fault_through j whole Memory h f = tt

pub then_err : {A B : Type 0} (j : Judged A) (k : A → Judged B) (r : judged.Refused) → j ≡ Err r → then_judged j k ≡ Err r
then_err {A = A} j k r e = ap (λ (x : Judged A). then_judged x k) e

pub then_ok : {A B : Type 0} (j : Judged A) (k : A → Judged B) (x : A) → j ≡ Ok x → then_judged j k ≡ k x
then_ok {A = A} j k x e = ap (λ (y : Judged A). then_judged y k) e

pub then_same : {A B : Type 0} (j : Judged A) (h k : A → Judged B) → ((x : A) → h x ≡ k x) → then_judged j h ≡ then_judged j k
then_same (Ok x) h k e = e x
then_same (Err r) h k e = refl

pub then_then : {A B C : Type 0} (j : Judged A) (h : A → Judged B) (k : B → Judged C) → then_judged (then_judged j h) k ≡
    then_judged j (λ x. then_judged (h x) k)
then_then (Ok x) h k = refl
then_then (Err r) h k = refl

pub refused_here : {B : Type 0} (whole : Judged B) (e : VerifyError) (n : ℕ) (fault : LineFault) → e ≡ Refused (Line n fault) →
    whole ≡ refuses n (fault_view fault) → IsFault whole e
refused_here whole e n fault is h = subst (λ (x : VerifyError). IsFault whole x) (sym is) h

-- ---- the rows of a point
pub rows_step : (live : ℕ) (bytes : List ℕ) (at : ℕ) (line : List ℕ) → IsLineAt bytes at line → is_row_line (Some line) ≡ true →
    judged_rows live (line_number_at bytes at) (pieces_at bytes at) ≡ judged_with_row (line_number_at bytes at) (row_in live line)
    (judged_rows live (line_number_at bytes (at + length line + 1)) (pieces_at bytes (at + length line + 1)))
rows_step live bytes at line l h =
    rows_on live (line_number_at bytes at) (pieces_at bytes at) line l.on h ∙
    ap (λ (x : Left). judged_with_row (line_number_at bytes at) (row_in live line) (judged_rows live x.number x.pieces)) l.after

-- the rows so far, before those of what is left
abbrev pub rows_after : List LinearRow → Judged (List LinearRow × Left) → Judged (List LinearRow × Left)
rows_after gs (Ok r) = Ok (gs ++ r.0, r.1)
rows_after gs (Err r) = Err r

after_before : (gs : List LinearRow) (g : LinearRow) (rest : Judged (List LinearRow × Left)) →
    rows_after gs (row_before g rest) ≡ rows_after (gs ++ g ∷ []) rest
after_before gs g (Ok r) = ap (λ (x : List LinearRow). Ok (x, r.1)) (sym (append_assoc gs (g ∷ []) r.0))
after_before gs g (Err r) = refl

module _ (live : ℕ) (bytes : List ℕ) (at : ℕ) (gs : List LinearRow) (whole : Judged (List LinearRow × Left))
    (so_far : rows_after gs (judged_rows live (line_number_at bytes at) (pieces_at bytes at)) ≡ whole) where
  pub rows_more : (line : List ℕ) (g : LinearRow) → IsLineAt bytes at line → is_row_line (Some line) ≡ true → row_in live line ≡ Some g →
      rows_after (gs ++ g ∷ []) (judged_rows live (line_number_at bytes (at + length line + 1)) (pieces_at bytes (at + length line + 1))) ≡ whole
  rows_more line g l h e =
      sym (after_before gs g (judged_rows live (line_number_at bytes (at + length line + 1)) (pieces_at bytes (at + length line + 1)))) ∙
      ap (λ (o : Option LinearRow). rows_after gs
      (judged_with_row (line_number_at bytes at) o (judged_rows live (line_number_at bytes (at + length line + 1)) (pieces_at bytes
      (at + length line + 1))))) (sym e) ∙
      ap (rows_after gs) (sym (rows_step live bytes at line l h)) ∙ so_far

  pub rows_bad : (line : List ℕ) → IsLineAt bytes at line → is_row_line (Some line) ≡ true → row_in live line ≡ None → whole ≡
      refuses (line_number_at bytes at) judged.bad_line
  rows_bad line l h e =
      sym so_far ∙ ap (rows_after gs) (rows_step live bytes at line l h) ∙
      ap (λ (o : Option LinearRow). rows_after gs
      (judged_with_row (line_number_at bytes at) o (judged_rows live (line_number_at bytes (at + length line + 1)) (pieces_at bytes
      (at + length line + 1))))) e

  pub rows_done : is_row_line (line_on (pieces_at bytes at)) ≡ false → whole ≡ Ok (gs, left_at bytes at)
  rows_done h =
      sym so_far ∙ ap (rows_after gs) (rows_end live (line_number_at bytes at) (pieces_at bytes at) h) ∙
      ap (λ (x : List LinearRow). Ok (x, left_at bytes at)) (append-nil gs)

-- the same of lists with kinds
pub rows_more_by : (live : ℕ) (bytes : List ℕ) (at : ℕ) (old new : LinearSystem ConKind) (row : List ℤ) (kind : ConKind)
    (whole : Judged (List LinearRow × Left)) →
    rows_after (constraints old) (judged_rows live (line_number_at bytes at) (pieces_at bytes at)) ≡ whole → length old.kinds ≡ length old.rows →
    new.rows ≡ old.rows ++ row ∷ [] → new.kinds ≡ old.kinds ++ kind ∷ [] →
    (line : List ℕ) → IsLineAt bytes at line → is_row_line (Some line) ≡ true → row_in live line ≡ Some (record { row = row; equal = is_equality kind }) →
    rows_after (constraints new) (judged_rows live (line_number_at bytes (at + length line + 1)) (pieces_at bytes (at + length line + 1))) ≡ whole
rows_more_by live bytes at old new row kind whole so_far n r k line l h e =
    ap (λ (gs : List LinearRow). rows_after gs (judged_rows live (line_number_at bytes (at + length line + 1)) (pieces_at bytes (at + length line + 1))))
    (constraints_pushed old new row kind n r k) ∙
    rows_more live bytes at (constraints old) whole so_far line (record { row = row; equal = is_equality kind }) l h e

-- ---- the points
abbrev pub states_after : List RowsAtPoint → Judged (List RowsAtPoint × Left) → Judged (List RowsAtPoint × Left)
states_after ss (Ok r) = Ok (ss ++ r.0, r.1)
states_after ss (Err r) = Err r

state_after_before : (ss : List RowsAtPoint) (s : RowsAtPoint) (rest : Judged (List RowsAtPoint × Left)) → states_after ss (state_before s rest) ≡
    states_after (ss ++ s ∷ []) rest
state_after_before ss s (Ok r) = ap (λ (x : List RowsAtPoint). Ok (x, r.1)) (sym (append_assoc ss (s ∷ []) r.0))
state_after_before ss s (Err r) = refl

module _ (number : ℕ) (site : Site) (sites : List Site) (l : Left) (ss : List RowsAtPoint) (whole : Judged (List RowsAtPoint × Left))
    (so_far : states_after ss (judged_states number (site ∷ sites) l) ≡ whole) where
  pub states_more : (s : RowsAtPoint) (m : Left) → judged_state number site.live l ≡ Ok (s, m) →
      states_after (ss ++ s ∷ []) (judged_states (suc number) sites m) ≡
      whole
  states_more s m e =
      sym (state_after_before ss s (judged_states (suc number) sites m)) ∙
      ap (λ (j : Judged (RowsAtPoint × Left)). states_after ss (then_judged j (λ r. state_before r.0 (judged_states (suc number) sites r.1)))) (sym e) ∙ so_far

  pub states_bad : (r : judged.Refused) → judged_state number site.live l ≡ Err r → whole ≡ Err r
  states_bad r e =
      sym so_far ∙ ap (λ (j : Judged (RowsAtPoint × Left)). states_after ss (then_judged j (λ r. state_before r.0 (judged_states (suc number) sites r.1)))) e
