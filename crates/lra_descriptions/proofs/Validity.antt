-- Kinds that are looked through, and rows that are valid, generator by generator.
use Rattle.std.proofs.Common.{◌≡◌, ◌≢◌, ℕ, zero, suc, ◌+◌, ◌<◌, Bool, IsOk, List, [], ◌∷◌, ◌++◌, length, take, get_or, refl, ap, sym, ◌∙◌, subst, arith, ℤ, inl, inr, ◌↔◌, ◌≤◌, true, false, IsTrue}
use Rattle.std.proofs.lemmas.List.Elements.{All-contains, Contains-append_cases, Contains-append_left, Contains-append_right}
use Rattle.std.proofs.{Common.Result, Common.Ok, Common.Err, Math.Seq.take_all, Math.Seq.take-suc, lemmas.List.get_or_default}
use Rattle.std.specs.List.{All, Contains}
use Rattle.lra_descriptions.specs.Crates.{lra_linear_spec.CheckedArithmetic.checked_product, lra_linear_spec.Descriptions.LinearRow, lra_linear_spec.Descriptions.HoldsWith}
use Rattle.lra_descriptions.specs.Crates.{lra_linear_spec.Vectors.product, lra_linear_spec.declared.GenKind.GenKind, lra_linear_spec.declared.GenKind.TheVariants.Point}
use Rattle.lra_descriptions.proofs.Crates.lra_linear_spec.Membership.{all_from, contains_cases, contains_head, contains_none, contains_tail, each_one}
use Rattle.lra_systems.specs.LinearSystems.{rows_by_kind}
use Rattle.lra_systems.proofs.LinearRows.{given_pushed, all_given}
use Rattle.lra_descriptions.specs.ShownLists.{IsSeenValid}

-- kinds that are looked through
pub no_point_found : (kinds : List GenKind) → ((k : ℕ) → k < length kinds → get_or kinds k Point ≢ Point) → ¬ (Contains kinds Point)
no_point_found kinds h m = h m.0 m.1 (get_or_default kinds m.0 Point Point m.1 ∙ m.2)

-- ---- validity, generator by generator
pub valid_next : {K : Type 0} (equal : K → Bool) (e : Bool) (r : List ℤ) (rows : List (List ℤ)) (kinds : List K) (i : ℕ) (own : List (List ℤ)) → rows ≡ own → length kinds ≡ length own →
    i < length rows → (g : List ℤ) (d : K) (p : ℤ) → g ≡ get_or rows i g → p ≡ product r g →
    IsOk (checked_product r g) → HoldsWith e p → HoldsWith (equal (get_or kinds i d)) p → IsSeenValid e r (rows_by_kind equal (take i rows) (take i kinds)) →
    IsSeenValid e r (rows_by_kind equal (take (i + 1) rows) (take (i + 1) kinds))
valid_next equal e r rows kinds i own eo n h g d p eg ep ok first second before x m =
    let here : LinearRow = record { row = g; equal = equal (get_or kinds i d) } in
    let list = rows_by_kind equal (take i rows) (take i kinds) in
    let more = given_pushed equal rows kinds i own eo n h list (list ++ here ∷ []) here g d eg refl refl refl in
    elim (Contains-append_cases list (here ∷ []) x (subst (λ (l : List LinearRow). Contains l x) (sym more) m)) [
      | inl j ↦ before x j
      | inr j ↦ elim (contains_cases here x [] j) [
        | inl q ↦ subst (λ (y : LinearRow). IsOk (checked_product r y.row) × HoldsWith e (product r y.row) × HoldsWith y.equal (product r y.row)) q
            (ok, subst (HoldsWith e) ep first, subst (HoldsWith (equal (get_or kinds i d))) ep second)
        | inr z ↦ absurd (contains_none x z)
      ]
    ]

pub valid_none : (e : Bool) (r : List ℤ) (list : List LinearRow) → list ≡ [] → IsSeenValid e r list
valid_none e r list el g m = absurd (contains_none g (subst (λ (l : List LinearRow). Contains l g) el m))

pub valid_all : {K : Type 0} (equal : K → Bool) (e : Bool) (r : List ℤ) (rows own : List (List ℤ)) (kinds own_kinds : List K) (i : ℕ) → rows ≡ own → kinds ≡ own_kinds → length kinds ≡ length own →
    i ≡ length rows → IsSeenValid e r (rows_by_kind equal (take i rows) (take i kinds)) → IsSeenValid e r (rows_by_kind equal own own_kinds)
valid_all {K = K} equal e r rows own kinds own_kinds i er ek n h v =
    subst (λ (x : List (List ℤ)). IsSeenValid e r (rows_by_kind equal x own_kinds)) er (subst (λ (x : List K). IsSeenValid e r (rows_by_kind equal rows x)) ek
    (subst (IsSeenValid e r) (all_given equal rows kinds i (ap length er ∙ sym n) h) v))

-- the row of a place with its kind is among the given ones
given_there : {K : Type 0} (equal : K → Bool) (rows : List (List ℤ)) (kinds : List K) (i : ℕ) (g : List ℤ) (d : K) → length kinds ≡ length rows → i < length rows → g ≡ get_or rows i g →
    Contains (rows_by_kind equal rows kinds) (record { row = g; equal = equal (get_or kinds i d) })
given_there equal [] kinds i g d n h e = absurd (omega (arith, h))
given_there equal (r ∷ rows) [] i g d n h e = absurd (omega (arith, n))
given_there equal (r ∷ rows) (k ∷ kinds) zero g d n h e = subst (λ (x : List ℤ). Contains (rows_by_kind equal (r ∷ rows) (k ∷ kinds)) (record { row = x; equal = equal k })) (sym e)
    (contains_head (let x : LinearRow = record { row = r; equal = equal k } in x) (rows_by_kind equal rows kinds))
given_there equal (r ∷ rows) (k ∷ kinds) (suc i) g d n h e = contains_tail (let x : LinearRow = record { row = r; equal = equal k } in x) (record { row = g; equal = equal (get_or kinds i d) })
    (rows_by_kind equal rows kinds) (given_there equal rows kinds i g d (omega (arith, n)) (omega (arith, h)) e)

-- if one of the list passes the range, or isn't as a kind asks, the row isn't seen to be valid
pub unseen_at : {K : Type 0} (equal : K → Bool) (e : Bool) (r : List ℤ) (rows : List (List ℤ)) (kinds : List K) (i : ℕ) (g : List ℤ) (d : K) → length kinds ≡ length rows → i < length rows →
    g ≡ get_or rows i g → ¬ (IsOk (checked_product r g) × HoldsWith e (product r g) × HoldsWith (equal (get_or kinds i d)) (product r g)) → ¬ IsSeenValid e r (rows_by_kind equal rows kinds)
unseen_at equal e r rows kinds i g d n h eg out seen = out (seen (record { row = g; equal = equal (get_or kinds i d) }) (given_there equal rows kinds i g d n h eg))

-- no row that isn't seen to be valid is reported to be
pub refuses : {K : Type 0} {X : Type 0} (equal : K → Bool) (e : Bool) (r : List ℤ) (rows own : List (List ℤ)) (kinds own_kinds : List K) (i : ℕ) (g : List ℤ) (d : K) → rows ≡ own → kinds ≡ own_kinds →
    length kinds ≡ length own → i < length rows → g ≡ get_or rows i g →
    ¬ (IsOk (checked_product r g) × HoldsWith e (product r g) × HoldsWith (equal (get_or kinds i d)) (product r g)) →
    (IsTrue false → X) × (IsSeenValid e r (rows_by_kind equal own own_kinds) → IsTrue false)
refuses {K = K} equal e r rows own kinds own_kinds i g d er ek n h eg out = (
  λ t. let wrong : ⊥ = cc in absurd wrong,
  λ seen. absurd (unseen_at equal e r rows kinds i g d (n ∙ ap length (sym er)) h eg out
      (subst (λ (x : List K). IsSeenValid e r (rows_by_kind equal rows x)) (sym ek) (subst (λ (x : List (List ℤ)). IsSeenValid e r (rows_by_kind equal x own_kinds)) (sym er) seen))),
)

pub not_accepted : (e b : Bool) (p q : ℤ) → p ≡ q → (IsTrue b ↔ HoldsWith e p) → b ≡ false → HoldsWith e q → ⊥
not_accepted e b p q same told refused h =
    let yes : b ≡ true = told.1 (subst (HoldsWith e) (sym same) h) in
    let wrong : false ≡ true = sym refused ∙ yes in cc

pub not_told : (b : Bool) → b ≡ false → IsTrue b → ⊥
not_told b f t = cc

pub passes_not : {A E : Type 0} (f : E) (q : Result A E) → Err f ≡ q → IsOk q → ⊥
passes_not f (Ok x) e o = cc
passes_not f (Err g) e o = cc

-- ---- rows that are gone through: those kept are the ones that are seen to be valid
abbrev pub AreSeen : Bool → List LinearRow → List (List ℤ) → List (List ℤ) → Type 0
AreSeen e list rows kept = (r : List ℤ) → (Contains kept r ↔ (Contains rows r × IsSeenValid e r list))

one_more_gone : (rows : List (List ℤ)) (i : ℕ) (g : List ℤ) → i < length rows → g ≡ get_or rows i g → take (i + 1) rows ≡ take i rows ++ g ∷ []
one_more_gone rows i g h eg =
    let next : i + 1 ≡ suc i = omega arith in
    ap (λ (j : ℕ). take j rows) next ∙ take-suc rows i g h ∙ ap (λ (x : List ℤ). take i rows ++ x ∷ []) (sym eg)

pub seen_kept : (e : Bool) (list : List LinearRow) (rows kept after : List (List ℤ)) (i : ℕ) (g copied : List ℤ) → i < length rows → g ≡ get_or rows i g → IsSeenValid e g list →
    copied ≡ g → after ≡ kept ++ copied ∷ [] →
    AreSeen e list (take i rows) kept → AreSeen e list (take (i + 1) rows) after
seen_kept e list rows kept after i g copied h eg valid ec ea before r =
    let gone = one_more_gone rows i g h eg in
    let now : after ≡ kept ++ g ∷ [] = ea ∙ ap (λ (x : List ℤ). kept ++ x ∷ []) ec in (
      λ has. elim (Contains-append_cases kept (g ∷ []) r (subst (λ (l : List (List ℤ)). Contains l r) now has)) [
        | inl m ↦ let old = (before r).0 m in
            (subst (λ (l : List (List ℤ)). Contains l r) (sym gone) (Contains-append_left (take i rows) (g ∷ []) r old.0), old.1)
        | inr m ↦ (subst (λ (l : List (List ℤ)). Contains l r) (sym gone) (Contains-append_right (take i rows) (g ∷ []) r m), each_one (λ (x : List ℤ). IsSeenValid e x list) g valid r m)
      ],
      λ both. subst (λ (l : List (List ℤ)). Contains l r) (sym now)
          (elim (Contains-append_cases (take i rows) (g ∷ []) r (subst (λ (l : List (List ℤ)). Contains l r) gone both.0)) [
            | inl m ↦ Contains-append_left kept (g ∷ []) r ((before r).1 (m, both.1))
            | inr m ↦ Contains-append_right kept (g ∷ []) r m
          ]),
    )

pub seen_passed : (e : Bool) (list : List LinearRow) (rows kept after : List (List ℤ)) (i : ℕ) (g : List ℤ) → i < length rows → g ≡ get_or rows i g → ¬ IsSeenValid e g list → after ≡ kept →
    AreSeen e list (take i rows) kept → AreSeen e list (take (i + 1) rows) after
seen_passed e list rows kept after i g h eg out ea before r =
    let gone = one_more_gone rows i g h eg in (
      λ has. let old = (before r).0 (subst (λ (l : List (List ℤ)). Contains l r) ea has) in
          (subst (λ (l : List (List ℤ)). Contains l r) (sym gone) (Contains-append_left (take i rows) (g ∷ []) r old.0), old.1),
      λ both. subst (λ (l : List (List ℤ)). Contains l r) (sym ea)
          (elim (Contains-append_cases (take i rows) (g ∷ []) r (subst (λ (l : List (List ℤ)). Contains l r) gone both.0)) [
            | inl m ↦ (before r).1 (m, both.1)
            | inr m ↦ absurd (each_one (λ (x : List ℤ). IsSeenValid e x list → ⊥) g out r m both.1)
          ]),
    )

pub seen_none : (e : Bool) (list : List LinearRow) (rows kept : List (List ℤ)) → kept ≡ [] → AreSeen e list (take 0 rows) kept
seen_none e list rows kept ek r = (
  λ has. absurd (contains_none r (subst (λ (l : List (List ℤ)). Contains l r) ek has)),
  λ both. absurd (contains_none r both.0),
)

pub seen_all : (e : Bool) (list : List LinearRow) (rows kept : List (List ℤ)) (i : ℕ) → length rows ≤ i → AreSeen e list (take i rows) kept → AreSeen e list rows kept
seen_all e list rows kept i h told = subst (λ (l : List (List ℤ)). AreSeen e list l kept) (take_all i rows h) told

-- those kept have what each of the rows has
pub kept_widths : (w : ℕ) (e : Bool) (list : List LinearRow) (rows kept : List (List ℤ)) → All (λ r. length r ≡ w) rows → AreSeen e list rows kept → All (λ r. length r ≡ w) kept
kept_widths w e list rows kept all told = all_from (λ (r : List ℤ). length r ≡ w) kept (λ r has. All-contains (λ (x : List ℤ). length x ≡ w) rows r all ((told r).0 has).0)
