-- What lines show, as the code states it of a path's track.
use Rattle.std.proofs.Common.{◌≡◌, ◌+◌, ◌++◌, ◌∷◌, [], ℕ, zero, suc, ℤ, Bool, true, false, List, drop, Option, Some, None, Result, Ok, Err, refl, ap, sym, ◌∙◌, subst, add-one}
use Rattle.std.proofs.lemmas.Option.{same_Some, none-some}
use Rattle.std.specs.Prelude.{if◌then◌else◌, slice_get, codes, MatchOption}
use Rattle.lra_certificate_lines.specs.Crates.lra_systems.LinearSystems.{LinearSystem, constraints, rows_by_kind}
use Rattle.lra_certificate_lines.specs.Crates.{lra_linear_spec.Cones.with_row, lra_linear_spec.Descriptions.LinearRow, lra_linear_spec.Descriptions.system_of, lra_linear_spec.Kinds.is_equality}
use Rattle.lra_certificate_lines.specs.Crates.{lra_linear_spec.Vectors.negated, lra_linear_spec.declared.ConKind.ConKind, lra_linear_spec.declared.Excess.Excess}
use Rattle.lra_multipliers.specs.{Multipliers.Multipliers, Multipliers.Answer, Symbols.SymbolicState, Symbols.executed_path, Symbols.width_of}
use Rattle.lra_certificate_spec.specs.Judged.{Left, Judged, RowsAtPoint, then_judged, after_line, by_answer, judged_claim, judged_walk, premises_count, judged_multipliers, judged_line, judged_claims}
use Rattle.lra_certificate_spec.specs.Judged.{judged_to, judged_lines, judged_dead, multipliers_in, line_on, line_or_empty, is_dead_line}
use Rattle.lra_certificate_spec.specs.{Certificates.PathPremises, Certificates.premises_of, Lines.judged_in_turn}
use Rattle.lra_certificate_lines.specs.PathCheckViews.{claimed, answered, ArePathFactsOf, IsPathCheck, answer_by, shown_by, line_by, claim_by, row_by, target_by, lines_by}
use Rattle.lra_certificate_lines.specs.{LineViews.IsFault, LineViews.IsJudgedAs, MultiplierLineViews.given_on, MultiplierLineViews.multipliers_on, declared.path_checks.PathCheck.PathCheck}
use Rattle.lra_certificate_lines.specs.{declared.path_checks.PathFacts.PathFacts, declared.refusals.VerifyError.VerifyError}
use Rattle.lra_certificate_lines.proofs.JudgedLines.{then_ok, then_err, then_same, then_then, fault_through}

-- ---- in turn
module _ {A : Type 0} (f : A → Left → Judged Left) where
  module _ (x : A) (xs ys : List A) (l : Left) (whole : Judged Left) (first : ys ≡ x ∷ xs) (so_far : judged_in_turn f ys l ≡ whole) where
    now : then_judged (f x l) (λ m. judged_in_turn f xs m) ≡ whole
    now = ap (λ (zs : List A). judged_in_turn f zs l) (sym first) ∙ so_far

    pub turn_more : (next : Left) → f x l ≡ Ok next → judged_in_turn f xs next ≡ whole
    turn_more next e = sym (then_ok (f x l) (λ m. judged_in_turn f xs m) next e) ∙ now

    pub turn_fault : (e : VerifyError) → IsFault (f x l) e → IsFault whole e
    turn_fault e told = fault_through (f x l) whole e (λ r is. sym now ∙ then_err (f x l) (λ m. judged_in_turn f xs m) r is) told

  pub turn_done : (ys : List A) (l : Left) (whole : Judged Left) → ys ≡ [] → judged_in_turn f ys l ≡ whole → whole ≡ Ok l
  turn_done ys l whole none so_far = sym so_far ∙ ap (λ (zs : List A). judged_in_turn f zs l) none

  pub turn_both : (xs ys : List A) (l : Left) → judged_in_turn f (xs ++ ys) l ≡ then_judged (judged_in_turn f xs l) (λ m. judged_in_turn f ys m)
  turn_both [] ys l = refl
  turn_both (x ∷ xs) ys l =
      then_same (f x l) (λ m. judged_in_turn f (xs ++ ys) m) (λ m. then_judged (judged_in_turn f xs m) (λ n. judged_in_turn f ys n)) (λ m. turn_both xs ys m) ∙
      sym (then_then (f x l) (λ m. judged_in_turn f xs m) (λ n. judged_in_turn f ys n))

pub turn_same : {A : Type 0} (f g : A → Left → Judged Left) → ((x : A) (l : Left) → f x l ≡ g x l) → (xs : List A) (l : Left) →
    judged_in_turn f xs l ≡ judged_in_turn g xs l
turn_same f g h [] l = refl
turn_same f g h (x ∷ xs) l =
    ap (λ (j : Judged Left). then_judged j (λ m. judged_in_turn f xs m)) (h x l) ∙
    then_same (g x l) (λ m. judged_in_turn f xs m) (λ m. judged_in_turn g xs m) (λ m. turn_same f g h xs m)

-- ---- row by row
given_from : {K : Type 0} (equal : K → Bool) (rows : List (List ℤ)) (kinds : List K) (i : ℕ) (r : List ℤ) (k : K) → slice_get rows i ≡ Some r →
    slice_get kinds i ≡ Some k → drop i (rows_by_kind equal rows kinds) ≡ record { row = r; equal = equal k } ∷ drop (suc i) (rows_by_kind equal rows kinds)
given_from equal [] kinds i r k er ek = absurd (none-some r er)
given_from equal (x ∷ rows) [] i r k er ek = absurd (none-some k ek)
given_from {K = K} equal (x ∷ rows) (y ∷ kinds) zero r k er ek =
    ap (λ (z : List ℤ). (let g : LinearRow = record { row = z; equal = equal y } in g) ∷ rows_by_kind equal rows kinds) (same_Some x r er) ∙
    ap (λ (z : K). (let g : LinearRow = record { row = r; equal = equal z } in g) ∷ rows_by_kind equal rows kinds) (same_Some y k ek)
given_from equal (x ∷ rows) (y ∷ kinds) (suc i) r k er ek = given_from equal rows kinds i r k er ek

pub constraint_from : (rows : LinearSystem ConKind) (i : ℕ) (r : List ℤ) (k : ConKind) → slice_get rows.rows i ≡ Some r → slice_get rows.kinds i ≡ Some k →
    drop i (constraints rows) ≡ record { row = r; equal = is_equality k } ∷ drop (i + 1) (constraints rows)
constraint_from rows i r k er ek =
    given_from is_equality rows.rows rows.kinds i r k er ek ∙
    ap (λ (j : ℕ). (let g : LinearRow = record { row = r; equal = is_equality k } in g) ∷ drop j (constraints rows)) (sym (add-one i))

-- ---- a line
abbrev pub claim_along : PathPremises → Option (List ℤ) → SymbolicState → Result (List ℤ) Excess
claim_along a claim w = claimed claim (width_of a.live a.path.actions) w.forms

claim_is : (a : PathPremises) (w : SymbolicState) (r : Result (List ℤ) Excess) (m : Multipliers) (l : Left) →
    judged_claim a w r m l ≡ by_answer l.number (after_line l) (answered (premises_of a w) r m)
claim_is a w (Err e) m l = refl
claim_is a w (Ok row) m l = refl

walk_is : (a : PathPremises) (grounds : Option PathFacts) (claim : Option (List ℤ)) (m : Multipliers) (l : Left) →
    MatchOption grounds ((e : Excess) × (executed_path a.live a.path.actions ≡ Err e)) (ArePathFactsOf a.live a.rows a.path.actions) →
    by_answer l.number (after_line l) (answer_by grounds claim m) ≡ judged_walk a (executed_path a.live a.path.actions) (claim_along a claim) m l
walk_is a None claim m l h = ap (λ (r : Result SymbolicState Excess). judged_walk a r (claim_along a claim) m l) (sym h.1)
walk_is a (Some g) claim m l h =
    ap (λ (n : ℕ). by_answer l.number (after_line l) (answered (constraints g.premises) (claimed claim n g.forms.items) m)) h.width ∙
    ap (λ (fs : List (List ℤ)). by_answer l.number (after_line l) (answered (constraints g.premises) (claimed claim (width_of a.live a.path.actions) fs) m))
    h.forms ∙
    ap (λ (gs : List LinearRow). by_answer l.number (after_line l) (answered gs (claim_along a claim h.walk) m)) h.premises ∙
    sym (claim_is a h.walk (claim_along a claim h.walk) m l) ∙
    ap (λ (r : Result SymbolicState Excess). judged_walk a r (claim_along a claim) m l) (sym h.walks)

module _ (a : PathPremises) (t : PathCheck) (is : IsPathCheck a.live a.rows a.path.actions t) where
  given_is : (claim : Option (List ℤ)) (l : Left) (o : Option Multipliers) → then_judged (given_on o l) (shown_by t claim l) ≡
      judged_multipliers a (claim_along a claim) o l
  given_is claim l None = refl
  given_is claim l (Some m) = walk_is a t.facts claim m l is.facts

  pub line_is : (word : List ℕ) (claim : Option (List ℤ)) (l : Left) → line_by t word claim l ≡ judged_line a word (claim_along a claim) l
  line_is word claim l =
      ap (λ (n : ℕ). then_judged (multipliers_on word n l) (shown_by t claim l)) is.count ∙
      given_is claim l (multipliers_in word (premises_count a) (line_or_empty (line_on l.pieces)))

  claims_are : (rows : List (List ℤ)) (l : Left) → judged_in_turn (claim_by t) rows l ≡ judged_claims a rows l
  claims_are [] l = refl
  claims_are (row ∷ rows) l =
      ap (λ (j : Judged Left). then_judged j (λ m. judged_in_turn (claim_by t) rows m)) (line_is (codes "by") (Some row) l) ∙
      then_same (judged_line a (codes "by") (claim_along a (Some row)) l) (λ m. judged_in_turn (claim_by t) rows m) (λ m. judged_claims a rows m)
      (λ m. claims_are rows m)

  system_first : (equal : Bool) (row : List ℤ) (gs : List LinearRow) → with_row equal row (system_of gs) ≡ with_row equal row [] ++ system_of gs
  system_first true row gs = refl
  system_first false row gs = refl

  rows_are : (gs : List LinearRow) (l : Left) → judged_in_turn (row_by t) gs l ≡ judged_in_turn (claim_by t) (system_of gs) l
  rows_are [] l = refl
  rows_are (g ∷ gs) l =
      then_same (judged_in_turn (claim_by t) (with_row g.equal g.row []) l) (λ m. judged_in_turn (row_by t) gs m)
      (λ m. judged_in_turn (claim_by t) (system_of gs) m)
      (λ m. rows_are gs m) ∙
      sym (turn_both (claim_by t) (with_row g.equal g.row []) (system_of gs) l) ∙
      ap (λ (rows : List (List ℤ)). judged_in_turn (claim_by t) rows l) (sym (system_first g.equal g.row gs))

  pub dead_is : (l : Left) → line_by t (codes "dead") None l ≡ judged_dead a l
  dead_is l = line_is (codes "dead") None l

  target_is : (target : RowsAtPoint) (l : Left) → target_by t target l ≡ judged_to a target l
  target_is None l = line_is (codes "by") None l
  target_is (Some rows) l = rows_are rows l ∙ claims_are (system_of rows) l

  pub lines_are : (target : RowsAtPoint) (l : Left) → lines_by t target l ≡ judged_lines a target l
  lines_are target l = by (is_dead_line (line_on l.pieces))
    where
      by : (b : Bool) → (if b then line_by t (codes "dead") None l else target_by t target l) ≡ (if b then judged_dead a l else judged_to a target l)
      by true = dead_is l
      by false = target_is target l

-- ---- what the code reports, part by part
pub told_as : {A B : Type 0} (view : A → B) (j k : Judged B) (result : Result A VerifyError) → j ≡ k → IsJudgedAs view j result → IsJudgedAs view k result
told_as {A = A} {B = B} view j k result e told = subst (λ (x : Judged B). IsJudgedAs view x result) e told

then_nothing : (j : Judged Left) → j ≡ then_judged j (λ m. Ok m)
then_nothing (Ok n) = refl
then_nothing (Err r) = refl

pub line_told : (t : PathCheck) (word : List ℕ) (claim : Option (List ℤ)) (l next : Left) (m : Multipliers) (answer : Answer) →
    multipliers_on word t.count l ≡ Ok (m, next) → answer ≡ answer_by t.facts claim m →
    by_answer l.number next answer ≡ line_by t word claim l
line_told t word claim l next m answer e is =
    ap (by_answer l.number next) is ∙ sym (then_ok (multipliers_on word t.count l) (shown_by t claim l) (m, next) e)

pub line_fault : (t : PathCheck) (word : List ℕ) (claim : Option (List ℤ)) (l : Left) (e : VerifyError) →
    IsFault (multipliers_on word t.count l) e → IsFault (line_by t word claim l) e
line_fault t word claim l e = fault_through (multipliers_on word t.count l) (line_by t word claim l) e
    (then_err (multipliers_on word t.count l) (shown_by t claim l))

pub row_one : (t : PathCheck) (row : List ℤ) (equal : Bool) (l next : Left) → equal ≡ false → claim_by t row l ≡ Ok next →
    row_by t (record { row = row; equal = equal }) l ≡ Ok next
row_one t row equal l next isnt e =
    ap (λ (b : Bool). judged_in_turn (claim_by t) (with_row b row []) l) isnt ∙ then_ok (claim_by t row l) (λ m. Ok m) next e

pub row_two : (t : PathCheck) (row : List ℤ) (equal : Bool) (l next : Left) → equal ≡ true → claim_by t row l ≡ Ok next →
    claim_by t (negated row) next ≡ row_by t (record { row = row; equal = equal }) l
row_two t row equal l next is e =
    then_nothing (claim_by t (negated row) next) ∙
    sym (ap (λ (b : Bool). judged_in_turn (claim_by t) (with_row b row []) l) is ∙
    then_ok (claim_by t row l) (λ m. judged_in_turn (claim_by t) (negated row ∷ []) m) next e)

pub row_fault : (t : PathCheck) (row : List ℤ) (equal : Bool) (l : Left) (e : VerifyError) → IsFault (claim_by t row l) e →
    IsFault (row_by t (record { row = row; equal = equal }) l) e
row_fault t row true l e = fault_through (claim_by t row l) (row_by t (record { row = row; equal = true }) l) e
    (then_err (claim_by t row l) (λ m. judged_in_turn (claim_by t) (negated row ∷ []) m))
row_fault t row false l e = fault_through (claim_by t row l) (row_by t (record { row = row; equal = false }) l) e
    (then_err (claim_by t row l) (λ m. Ok m))

pub lines_dead : (t : PathCheck) (target : RowsAtPoint) (l : Left) → is_dead_line (line_on l.pieces) ≡ true →
    line_by t (codes "dead") None l ≡ lines_by t target l
lines_dead t target l is = sym (ap (λ (b : Bool). if b then line_by t (codes "dead") None l else target_by t target l) is)

pub lines_target : (t : PathCheck) (target : RowsAtPoint) (l : Left) → is_dead_line (line_on l.pieces) ≡ false → target_by t target l ≡ lines_by t target l
lines_target t target l is = sym (ap (λ (b : Bool). if b then line_by t (codes "dead") None l else target_by t target l) is)
