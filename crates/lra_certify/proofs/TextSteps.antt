-- Lines of rows, of points and of multipliers, one after the other.
use Rattle.std.proofs.Common.{◌≡◌, ◌≤◌, ◌<◌, ◌+◌, ◌++◌, ◌∷◌, [], ℕ, suc, ℤ, List, length, map, Option, Some, None, codes, refl, ap, sym, ◌∙◌, subst, Result, Ok, Err, OnOk, IfSome, drop, take}
use Rattle.std.proofs.{Common.slice_index_or, Common.drop-cons, Common.option_copied, Common.arith, Common.add-one, Common.append_assoc, Common.append-nil, Math.Seq.take-suc, lemmas.List.take_all}
use Rattle.std.proofs.{lemmas.List.Elements.All-contains, lemmas.List.Elements.All-append, lemmas.List.Elements.All-cons, lemmas.List.Elements.All-nil, lemmas.Result.on_ok_weaker}
use Rattle.std.specs.{Borrow.Bor, Fmt.decimal, Fmt.signed_decimal, List.All, List.AllByRecursion, List.Contains}
use Rattle.lra_certify.specs.Crates.lra_certificate_spec.CertificateText.{numbers_text, relation_text, row_text, point_text, state_text, states_text, multipliers_text, edge_text}
use Rattle.lra_certify.specs.Crates.lra_certificate_spec.Certificates.{IsPointRow, IsState, AreStates}
use Rattle.lra_certify.specs.Crates.lra_systems.LinearSystems.{LinearSystem, constraints, rows_by_kind}
use Rattle.lra_certify.specs.Crates.{lra_certificate_lines.PathCheckViews.target_rows, lra_certificate_spec.Judged.RowsAtPoint, lra_linear_spec.Descriptions.LinearRow}
use Rattle.lra_certify.specs.Crates.{lra_linear_spec.Kinds.is_equality, lra_linear_spec.Range.InRange, lra_linear_spec.declared.ConKind.ConKind, lra_multipliers.Multipliers.Multipliers}
use Rattle.lra_certify.specs.Crates.{lra_path_segments.Segments.comes_to, lra_paths.Paths.path_by, lra_program.Sites.Site, lra_row_text.Texts.text_line}
use Rattle.lra_certify.proofs.Crates.lra_linear_spec.Membership.{contains_head, contains_tail}
use Rattle.lra_verify.specs.PointViews.{state_view, HaveDims}
use Rattle.lra_certify.specs.Lines.{rows_text, ArePointRows, HasPointRows}

-- ---- rows
pub row_line : (old first second new : List ℕ) (g : LinearRow) → first ≡ old ++ relation_text g.equal → second ≡ first ++ numbers_text g.row →
    new ≡ second ++ codes "\n" →
    new ≡ old ++ text_line (row_text g)
row_line old first second new g a b c =
    c ∙ ap (λ (t : List ℕ). t ++ codes "\n")
    (b ∙ ap (λ (t : List ℕ). t ++ numbers_text g.row) a ∙ append_assoc old (relation_text g.equal) (numbers_text g.row)) ∙
    append_assoc old (relation_text g.equal ++ numbers_text g.row) (codes "\n")

module _ (t0 t1 all : List ℕ) (g : LinearRow) (rest here : List LinearRow) (is : here ≡ g ∷ rest) (before : t0 ++ rows_text here ≡ all)
    (written : t1 ≡ t0 ++ text_line (row_text g)) where
  pub rows_left : t1 ++ rows_text rest ≡ all
  rows_left =
      ap (λ (t : List ℕ). t ++ rows_text rest) written ∙ append_assoc t0 (text_line (row_text g)) (rows_text rest) ∙
      ap (λ (gs : List LinearRow). t0 ++ rows_text gs) (sym is) ∙ before

pub rows_end : (t all : List ℕ) (here : List LinearRow) → here ≡ [] → t ++ rows_text here ≡ all → t ≡ all
rows_end t all here none before = sym (append-nil t) ∙ ap (λ (gs : List LinearRow). t ++ rows_text gs) (sym none) ∙ before

-- rows of the list's width, with numbers of the range
pub every_number : (xs : List ℤ) → ((x : ℤ) → Contains xs x → InRange x) → AllByRecursion InRange xs
every_number [] h = tt
every_number (x ∷ xs) h = (h x (contains_head x xs), every_number xs (λ y k. h y (contains_tail x y xs k)))

given_rows : (n : ℕ) (rows : List (List ℤ)) (kinds : List ConKind) → ((r : List ℤ) → Contains rows r → length r ≡ suc n) →
    ((r : List ℤ) → Contains rows r → All InRange r) → AllByRecursion (IsPointRow n) (rows_by_kind is_equality rows kinds)
given_rows n [] kinds w h = tt
given_rows n (r ∷ rows) [] w h = tt
given_rows n (r ∷ rows) (k ∷ kinds) w h = (
  record { width = w r (contains_head r rows); in_range = every_number r (λ x m. All-contains InRange r x (h r (contains_head r rows)) m) },
  given_rows n rows kinds (λ s m. w s (contains_tail r s rows m)) (λ s m. h s (contains_tail r s rows m)),
)

pub point_rows : (rows : LinearSystem ConKind) (seen : List (List ℤ)) → seen ≡ rows.rows → All (λ r. length r ≡ suc rows.dims) seen →
    All (All InRange) seen → ArePointRows rows
point_rows rows seen is w h =
    subst (λ (rs : List (List ℤ)). AllByRecursion (IsPointRow rows.dims) (rows_by_kind is_equality rs rows.kinds)) is
    (given_rows rows.dims seen rows.kinds (λ r m. All-contains (λ (r : List ℤ). length r ≡ suc rows.dims) seen r w m)
    (λ r m. All-contains (All InRange) seen r h m))

-- ---- points
module _ (t0 t1 all : List ℕ) (n : ℕ) (s : RowsAtPoint) (rest here : List RowsAtPoint) (is : here ≡ s ∷ rest) (before : t0 ++ states_text n here ≡ all)
    (written : t1 ≡ t0 ++ state_text n s) where
  pub states_left : t1 ++ states_text (suc n) rest ≡ all
  states_left =
      ap (λ (t : List ℕ). t ++ states_text (suc n) rest) written ∙ append_assoc t0 (state_text n s) (states_text (suc n) rest) ∙
      ap (λ (ss : List RowsAtPoint). t0 ++ states_text n ss) (sym is) ∙ before

pub states_end : (t all : List ℕ) (n : ℕ) (here : List RowsAtPoint) → here ≡ [] → t ++ states_text n here ≡ all → t ≡ all
states_end t all n here none before = sym (append-nil t) ∙ ap (λ (ss : List RowsAtPoint). t ++ states_text n ss) (sym none) ∙ before

-- they are as wide as their points
is_state : (live : ℕ) (o : Option (LinearSystem ConKind)) → ((rows : LinearSystem ConKind) → o ≡ Some rows → rows.dims ≡ live) → HasPointRows o →
    IsState live (state_view o)
is_state live None dims h = tt
is_state live (Some rows) dims h = subst (λ (n : ℕ). AllByRecursion (IsPointRow n) (constraints rows)) (dims rows refl) h

pub are_states : (sites : List Site) (states : List (Option (LinearSystem ConKind))) → length states ≡ length sites → HaveDims sites states →
    ((o : Option (LinearSystem ConKind)) →
    Contains states o → HasPointRows o) → AreStates sites (map state_view states)
are_states [] [] e dims h = tt
are_states [] (s ∷ ss) e dims h = absurd (omega (arith, e))
are_states (site ∷ sites) [] e dims h = absurd (omega (arith, e))
are_states (site ∷ sites) (s ∷ ss) e dims h = (
  is_state site.live s (λ rows some. dims 0 rows (ap Some some)) (h s (contains_head s ss)),
  are_states sites ss (omega (arith, e)) (λ q rows got. dims (suc q) rows got) (λ o m. h o (contains_tail s o ss m)),
)

-- ---- multipliers
pub multipliers_line : (old first second new word : List ℕ) (m : Multipliers) →
    first ≡ old ++ (word ++ (codes " " ++ (signed_decimal m.divisor ++ (codes " " ++ signed_decimal m.constant)))) →
    second ≡ first ++ numbers_text m.factors → new ≡ second ++ codes "\n" → new ≡ old ++ text_line (multipliers_text word m)
multipliers_line old first second new word m a b c =
    let d = codes " " ++ signed_decimal m.divisor in
    let k = codes " " ++ signed_decimal m.constant in
    let fs = numbers_text m.factors in
    let joined : word ++ (codes " " ++ (signed_decimal m.divisor ++ (codes " " ++ signed_decimal m.constant))) ≡ word ++ (d ++ k) =
    ap (λ (t : List ℕ). word ++ t) (sym (append_assoc (codes " ") (signed_decimal m.divisor) k)) in
    let all : (word ++ (d ++ k)) ++ fs ≡ word ++ (d ++ (k ++ fs)) =
    append_assoc word (d ++ k) fs ∙ ap (λ (t : List ℕ). word ++ t) (append_assoc d k fs) in
    c ∙ ap (λ (t : List ℕ). t ++ codes "\n")
    (b ∙ ap (λ (t : List ℕ). t ++ fs) (a ∙ ap (λ (t : List ℕ). old ++ t) joined) ∙ append_assoc old (word ++ (d ++ k)) fs ∙ ap (λ (t : List ℕ). old ++ t) all) ∙
    append_assoc old (word ++ (d ++ (k ++ fs))) (codes "\n")

-- ---- lines of one or two numbers
pub edge_written : (old new : List ℕ) (p q n : ℕ) → n ≡ q + 1 → new ≡ old ++ (codes "edge " ++ (decimal p ++ (codes " " ++ (decimal n ++ codes "\n")))) →
    new ≡ old ++ text_line (edge_text (path_by p (comes_to q) []))
edge_written old new p q n is e =
    e ∙ ap (λ (t : List ℕ). old ++ t)
    (ap (λ (k : ℕ). codes "edge " ++ (decimal p ++ (codes " " ++ (decimal k ++ codes "\n")))) (is ∙ add-one q) ∙
    sym (append_assoc (codes "edge ") (decimal p) (codes " " ++ (decimal (suc q) ++ codes "\n"))) ∙
    sym (append_assoc (codes "edge " ++ decimal p) (codes " ") (decimal (suc q) ++ codes "\n")) ∙
    sym (append_assoc ((codes "edge " ++ decimal p) ++ codes " ") (decimal (suc q)) (codes "\n")))

pub numbered_written : (word old new : List ℕ) (n k : ℕ) → n ≡ k → new ≡ old ++ (word ++ (decimal n ++ codes "\n")) → new ≡ old ++ text_line (word ++ decimal k)
numbered_written word old new n k is e =
    e ∙ ap (λ (t : List ℕ). old ++ t) (ap (λ (j : ℕ). word ++ (decimal j ++ codes "\n")) is ∙ sym (append_assoc word (decimal k) (codes "\n")))

pub empty_written : (old new : List ℕ) (n : ℕ) → new ≡ old ++ (codes "point " ++ (decimal n ++ codes " empty\n")) → new ≡ old ++ state_text n None
empty_written old new n e =
    e ∙ ap (λ (t : List ℕ). old ++ t)
    (sym (append_assoc (codes "point ") (decimal n) (codes " empty\n")) ∙ sym (append_assoc (codes "point " ++ decimal n) (codes " empty") (codes "\n")))

-- the lines of a point with rows
pub rows_written : (old first new : List ℕ) (n : ℕ) (rows : List LinearRow) → first ≡ old ++ text_line (point_text n) → new ≡ first ++ rows_text rows →
    new ≡ old ++ state_text n (Some rows)
rows_written old first new n rows a b =
    b ∙ ap (λ (t : List ℕ). t ++ rows_text rows) a ∙ append_assoc old (text_line (point_text n)) (rows_text rows)

-- ---- as they are handed on
module _ {X E : Type 0} (old new : List ℕ) (n : ℕ) (o : Option (Bor (LinearSystem ConKind))) where
  pub empty_told : (r : Result X E) → o ≡ None → OnOk r (new ≡ old ++ (codes "point " ++ (decimal n ++ codes " empty\n"))) →
      OnOk r (new ≡ old ++ state_text n (target_rows o))
  empty_told r is h =
      on_ok_weaker r (λ e. empty_written old new n e ∙ ap (λ (x : Option (Bor (LinearSystem ConKind))). old ++ state_text n (target_rows x)) (sym is)) h

  pub rows_told : (rows : Bor (LinearSystem ConKind)) → o ≡ Some rows → (first : List ℕ) → first ≡ old ++ (codes "point " ++ (decimal n ++ codes "\n")) →
      (r : Result X E) → OnOk r (new ≡ first ++ rows_text (constraints rows.now)) → OnOk r (new ≡ old ++ state_text n (target_rows o))
  rows_told rows is first a r h =
      on_ok_weaker r
      (λ e. rows_written old first new n (constraints rows.now) (numbered_written (codes "point ") old first n n refl a) e ∙
      ap (λ (x : Option (Bor (LinearSystem ConKind))). old ++ state_text n (target_rows x)) (sym is)) h

pub fit_none : {X E : Type 0} (r : Result X E) (o : Option (Bor (LinearSystem ConKind))) → o ≡ None → OnOk r (IfSome o (λ x. ArePointRows x.now))
fit_none (Ok x) o is = subst (λ (p : Option (Bor (LinearSystem ConKind))). IfSome p (λ x. ArePointRows x.now)) (sym is) tt
fit_none (Err e) o is = tt

pub fit_some : {X E : Type 0} (r : Result X E) (o : Option (Bor (LinearSystem ConKind))) (rows : Bor (LinearSystem ConKind)) → o ≡ Some rows →
    ArePointRows rows.now →
    OnOk r (IfSome o (λ x. ArePointRows x.now))
fit_some (Ok x) o rows is h = subst (λ (p : Option (Bor (LinearSystem ConKind))). IfSome p (λ x. ArePointRows x.now)) (sym is) h
fit_some (Err e) o rows is h = tt

-- a point of a list as the code takes it
module _ (r : Option (Bor (LinearSystem ConKind))) (o : Option (LinearSystem ConKind)) (is : option_copied r ≡ o) where
  here_seen : (x : Option (Bor (LinearSystem ConKind))) → target_rows x ≡ state_view (option_copied x)
  here_seen None = refl
  here_seen (Some rows) = refl

  here_fits : (x : Option (Bor (LinearSystem ConKind))) → IfSome x (λ y. ArePointRows y.now) → HasPointRows (option_copied x)
  here_fits None h = tt
  here_fits (Some rows) h = h

  state_seen : target_rows r ≡ state_view o
  state_seen = here_seen r ∙ ap state_view is

  state_fits : IfSome r (λ y. ArePointRows y.now) → HasPointRows o
  state_fits h = subst HasPointRows is (here_fits r h)

  module _ (xs : List (Option (LinearSystem ConKind))) (i : ℕ) (low : i < length xs) (item : o ≡ slice_index_or xs i o) where
    states_next : map state_view (drop i xs) ≡ state_view o ∷ map state_view (drop (i + 1) xs)
    states_next =
        ap (λ (l : List (Option (LinearSystem ConKind))). map state_view l) (drop-cons xs i o low) ∙
        ap (λ (x : Option (LinearSystem ConKind)). state_view x ∷ map state_view (drop (suc i) xs)) (sym item) ∙
        ap (λ (j : ℕ). state_view o ∷ map state_view (drop j xs)) (sym (add-one i))

    pub states_so_far : (old new all : List ℕ) → old ++ states_text (suc i) (map state_view (drop i xs)) ≡ all →
        new ≡ old ++ state_text (i + 1) (target_rows r) → new ++ states_text (suc (i + 1)) (map state_view (drop (i + 1) xs)) ≡ all
    states_so_far old new all before written =
        ap (λ (k : ℕ). new ++ states_text (suc k) (map state_view (drop (i + 1) xs))) (add-one i) ∙
        states_left old new all (suc i) (state_view o) (map state_view (drop (i + 1) xs)) (map state_view (drop i xs)) states_next before
        (written ∙ ap (λ (k : ℕ). old ++ state_text k (target_rows r)) (add-one i) ∙ ap (λ (s : RowsAtPoint). old ++ state_text (suc i) s) state_seen)

    pub fit_so_far : All HasPointRows (take i xs) → IfSome r (λ y. ArePointRows y.now) → All HasPointRows (take (i + 1) xs)
    fit_so_far before h =
        subst (λ (l : List (Option (LinearSystem ConKind))). All HasPointRows l)
        (sym (ap (λ (j : ℕ). take j xs) (add-one i) ∙ take-suc xs i o low ∙ ap (λ (x : Option (LinearSystem ConKind)). take i xs ++ x ∷ []) (sym item)))
        (All-append HasPointRows (take i xs) (o ∷ []) before (All-cons HasPointRows o [] (state_fits h) (All-nil HasPointRows)))

pub fit_all : (xs : List (Option (LinearSystem ConKind))) (i : ℕ) → length xs ≤ i → All HasPointRows (take i xs) → All HasPointRows xs
fit_all xs i h fit = subst (λ (l : List (Option (LinearSystem ConKind))). All HasPointRows l) (take_all i xs h) fit
