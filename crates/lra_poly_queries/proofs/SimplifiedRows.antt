-- Constraints gone through one by one: each is left out, or kept.
use Rattle.std.proofs.Common.{◌≡◌, ℕ, zero, suc, ◌<◌, ◌≤◌, ◌+◌, add-one, Bool, List, [], ◌∷◌, ◌++◌, length, drop, ap, refl, sym, ◌∙◌, subst, inl, inr, ◌⊎◌, arith, ℤ, slice_get, get_or, Option, None}
use Rattle.std.proofs.lemmas.List.Elements.{Contains-append_cases, Contains-append_left, Contains-append_right}
use Rattle.std.proofs.{Common.Some, lemmas.List.append-nil, lemmas.List.append_assoc, lemmas.List.drop_all}
use Rattle.std.specs.{List.Contains, Prelude.unwrap_or}
use Rattle.lra_poly_queries.specs.Crates.lra_linear_spec.Descriptions.{Con, LinearRow, Holds}
use Rattle.lra_poly_queries.specs.Crates.{lra_linear_spec.Kinds.is_equality, lra_linear_spec.Points.SameSet, lra_linear_spec.Polyhedra.Polyhedron, lra_linear_spec.SetOperations.Meet}
use Rattle.lra_poly_queries.specs.Crates.{lra_linear_spec.Strain.Loss, lra_linear_spec.declared.ConKind.ConKind}
use Rattle.lra_poly_queries.proofs.Crates.lra_linear_spec.Membership.{contains_cases, contains_middle, contains_tail, split_none}
use Rattle.lra_poly_queries.proofs.Crates.{lra_duality.SaturationLemmas.given_length, lra_linear_spec.ListPlaces.there_within}
use Rattle.lra_poly.specs.Outcomes.{IfExact, IfFlagged, first_of}
use Rattle.lra_poly.specs.{declared.outcome.Outcome.Outcome, declared.outcome.Outcome.TheVariants.Exact, declared.outcome.Outcome.TheVariants.Flagged}
use Rattle.lra_poly.proofs.PolyLemmas.{if_exact, if_flagged}
use Rattle.lra_systems.specs.LinearSystems.{LinearSystem, constraints, rows_by_kind}
use Rattle.lra_systems.proofs.LinearRows.{constraints_pushed}
use Rattle.lra_poly_queries.specs.Simplified.{AreNeeded, IsRedundant, IsNeededOrStrains, IsSimplified, IsSublist, OwnTrialStrains, SimplifyStrains, TellsRedundant, TrialStrains}
use Rattle.lra_poly_queries.proofs.{RelatedSets.two_exact, RelatedSets.two_flagged, Sublists.behind, Sublists.sublist_fewer, Sublists.sublist_longer, Sublists.sublist_pushed, Sublists.sublist_whole}

-- ---- lists
-- a list with one more after it is split at that one, or before it
abbrev LastSplit : {A : Type 0} → List A → A → List A → A → List A → Type 0
LastSplit {A = A} xs x front y back =
    ((back ≡ []) × (front ≡ xs) × (y ≡ x)) ⊎ ((rest : List A) × (back ≡ rest ++ x ∷ []) × (xs ≡ front ++ y ∷ rest))

last_split : {A : Type 0} (xs : List A) (x : A) (front : List A) (y : A) (back : List A) →
    xs ++ x ∷ [] ≡ front ++ y ∷ back → LastSplit xs x front y back
last_split [] x [] y back e = inl (sym (ap behind e), refl, sym (ap (λ l. get_or l 0 x) e))
last_split [] x (z ∷ front) y back e = absurd (split_none front y back (ap behind e))
last_split (z ∷ xs) x [] y back e =
    inr (xs, sym (ap behind e), ap (λ h. h ∷ xs) (ap (λ l. get_or l 0 z) e))
last_split (z ∷ xs) x (w ∷ front) y back e = elim (last_split xs x front y back (ap behind e)) [
  | inl l ↦ inl (l.0, ap (λ zs. w ∷ zs) l.1 ∙ ap (λ h. h ∷ xs) (sym same), l.2)
  | inr i ↦ inr (i.0, i.1, ap (λ h. h ∷ xs) same ∙ ap (λ zs. w ∷ zs) i.2)
]
  where
    same : z ≡ w
    same = ap (λ l. get_or l 0 z) e

-- ---- constraints that hold
holds_fewer : (more fewer : List LinearRow) (x : List ℤ) → ((t : LinearRow) → Contains fewer t → Contains more t) →
    Con more x → Con fewer x
holds_fewer more fewer x sub c t k = c t (sub t k)

wider : (front : List LinearRow) (g : LinearRow) (back : List LinearRow) (t : LinearRow) → Contains (front ++ back) t →
    Contains (front ++ g ∷ back) t
wider front g back t k = contains_middle front g back t (contains_tail g t (front ++ back) k)

wider_behind : (front back : List LinearRow) (g : LinearRow) (later : List LinearRow) (t : LinearRow) →
    Contains (front ++ (back ++ later)) t → Contains (front ++ (back ++ g ∷ later)) t
wider_behind front back g later t k = elim (Contains-append_cases front (back ++ later) t k) [
  | inl a ↦ Contains-append_left front (back ++ g ∷ later) t a
  | inr b ↦ Contains-append_right front (back ++ g ∷ later) t (wider back g later t b)
]

holds_between : (front : List LinearRow) (g : LinearRow) (back : List LinearRow) (x : List ℤ) → Con (front ++ back) x →
    Holds g x → Con (front ++ g ∷ back) x
holds_between front g back x c here t k = elim (Contains-append_cases front (g ∷ back) t k) [
  | inl a ↦ c t (Contains-append_left front back t a)
  | inr b ↦ elim (contains_cases g t back b) [
    | inl e ↦ subst (λ (r : LinearRow). Holds r x) e here
    | inr d ↦ c t (Contains-append_right front back t d)
  ]
]

-- ---- as far as one has come: these are kept, and those come later
abbrev EachSoFar : (List LinearRow → LinearRow → List LinearRow → Type 0) → List LinearRow → List LinearRow → Type 0
EachSoFar Q kept later = (front : List LinearRow) (g : LinearRow) (back : List LinearRow) → kept ≡ front ++ g ∷ back →
    Q front g (back ++ later)

abbrev NeededAmong : ℕ → List LinearRow → List LinearRow → LinearRow → List LinearRow → Type 0
NeededAmong n context front g back = ¬ (IsRedundant n context (front ++ back) g)

pub record StrainedSoFar (p context : Polyhedron) (kept later : List LinearRow) (loss : Loss) : Type 0 where
  pub front : List LinearRow
  pub tried : LinearRow
  pub back : List LinearRow
  pub are : kept ≡ front ++ tried ∷ back
  pub strains : OwnTrialStrains p context front tried (back ++ later) loss

pub record IsSoFar (p context : Polyhedron) (kept later : List LinearRow) (o : Outcome) : Type 0 where
  pub same : SameSet p.dims (Meet (Con context.rows) (Con (kept ++ later))) (Meet (Con context.rows) (Con p.rows))
  pub earlier : List LinearRow
  pub are : p.rows ≡ earlier ++ later
  pub own : IsSublist kept earlier
  pub each : EachSoFar (IsNeededOrStrains p context) kept later
  pub needed : IfExact (EachSoFar (NeededAmong p.dims context.rows) kept later) o
  pub flagged : IfFlagged (StrainedSoFar p context kept later) o

pub so_far_first : (p context : Polyhedron) → IsSoFar p context [] p.rows Exact
so_far_first p context = record {
  same = (λ x i m. m, λ x i m. m);
  earlier = [];
  are = refl;
  own = refl;
  each = λ front g back e. absurd (split_none front g back e);
  needed = λ front g back e. absurd (split_none front g back e);
  flagged = tt;
}

each_last : (Q : List LinearRow → LinearRow → List LinearRow → Type 0) (kept : List LinearRow) → EachSoFar Q kept [] →
    (front : List LinearRow) (g : LinearRow) (back : List LinearRow) → kept ≡ front ++ g ∷ back → Q front g back
each_last Q kept f front g back e = subst (λ (l : List LinearRow). Q front g l) (append-nil back) (f front g back e)

pub so_far_last : (p context : Polyhedron) (kept : List LinearRow) (o : Outcome) → IsSoFar p context kept [] o →
    IsSimplified p context kept o
so_far_last p context kept o s = record {
  same = subst (λ (l : List LinearRow). SameSet p.dims (Meet (Con context.rows) (Con l)) (Meet (Con context.rows) (Con p.rows)))
      (append-nil kept) s.same;
  own = subst (IsSublist kept) (sym (s.are ∙ append-nil s.earlier)) s.own;
  each = each_last (IsNeededOrStrains p context) kept s.each;
  needed = if_exact (EachSoFar (NeededAmong p.dims context.rows) kept []) (AreNeeded p.dims context.rows kept) o
      (each_last (NeededAmong p.dims context.rows) kept) s.needed;
  flagged = if_flagged (StrainedSoFar p context kept []) (SimplifyStrains p context kept) o (λ loss t. record {
    front = t.front;
    tried = t.tried;
    back = t.back;
    are = t.are;
    strains = subst (λ (l : List LinearRow). OwnTrialStrains p context t.front t.tried l loss) (append-nil t.back) t.strains;
  }) s.flagged;
}

-- ---- one that is given is left out
each_left : (Q : List LinearRow → LinearRow → List LinearRow → Type 0) (kept : List LinearRow) (g : LinearRow) (later : List LinearRow) →
    ((front : List LinearRow) (h : LinearRow) (back : List LinearRow) → Q front h (back ++ g ∷ later) → Q front h (back ++ later)) →
    EachSoFar Q kept (g ∷ later) → EachSoFar Q kept later
each_left Q kept g later fewer f front h back e = fewer front h back (f front h back e)

needed_left : (n : ℕ) (context : List LinearRow) (g : LinearRow) (later front : List LinearRow) (h : LinearRow) (back : List LinearRow) →
    NeededAmong n context front h (back ++ g ∷ later) → NeededAmong n context front h (back ++ later)
needed_left n context g later front h back needed valid = needed (λ x i m. valid x i (
  m.0,
  holds_fewer (front ++ (back ++ g ∷ later)) (front ++ (back ++ later)) x (wider_behind front back g later) m.1,
))

strain_left : (p context : Polyhedron) (g : LinearRow) (later front : List LinearRow) (h : LinearRow) (back : List LinearRow)
    (loss : Loss) → OwnTrialStrains p context front h (back ++ g ∷ later) loss →
    OwnTrialStrains p context front h (back ++ later) loss
strain_left p context g later front h back loss t = record {
  earlier = t.earlier;
  later = t.later;
  are = t.are;
  before = t.before;
  behind = sublist_fewer back g later t.later t.behind;
  strains = t.strains;
}

pub one_left : (p context : Polyhedron) (kept : List LinearRow) (g : LinearRow) (later : List LinearRow) (o : Outcome) →
    IsSoFar p context kept (g ∷ later) o → IsRedundant p.dims context.rows (kept ++ later) g →
    IsSoFar p context kept later o
one_left p context kept g later o s given = record {
  same = (
    λ x i m. s.same.0 x i (m.0, holds_between kept g later x m.1 (given x i m)),
    λ x i m. let b = s.same.1 x i m in
        (b.0, holds_fewer (kept ++ g ∷ later) (kept ++ later) x (wider kept g later) b.1),
  );
  earlier = s.earlier ++ g ∷ [];
  are = s.are ∙ sym (append_assoc s.earlier (g ∷ []) later);
  own = sublist_longer kept s.earlier g s.own;
  each = each_left (IsNeededOrStrains p context) kept g later (λ front h back t. elim t [
    | inl needed ↦ inl (needed_left p.dims context.rows g later front h back needed)
    | inr b ↦ inr (b.0, strain_left p context g later front h back b.0 b.1)
  ]) s.each;
  needed = if_exact (EachSoFar (NeededAmong p.dims context.rows) kept (g ∷ later))
      (EachSoFar (NeededAmong p.dims context.rows) kept later) o
      (each_left (NeededAmong p.dims context.rows) kept g later (needed_left p.dims context.rows g later)) s.needed;
  flagged = if_flagged (StrainedSoFar p context kept (g ∷ later)) (StrainedSoFar p context kept later) o
      (λ loss t. record {
        front = t.front;
        tried = t.tried;
        back = t.back;
        are = t.are;
        strains = strain_left p context g later t.front t.tried t.back loss t.strains;
      }) s.flagged;
}

-- ---- one that isn't is kept
each_kept : (Q : List LinearRow → LinearRow → List LinearRow → Type 0) (kept : List LinearRow) (g : LinearRow) (later : List LinearRow) →
    EachSoFar Q kept (g ∷ later) → Q kept g later → EachSoFar Q (kept ++ g ∷ []) later
each_kept Q kept g later f here front h back e = elim (last_split kept g front h back e) [
  | inl l ↦ subst (λ (b : List LinearRow). Q front h (b ++ later)) (sym l.0)
      (subst (λ (k : List LinearRow). Q k h later) (sym l.1) (subst (λ (r : LinearRow). Q kept r later) (sym l.2) here))
  | inr i ↦ subst (λ (b : List LinearRow). Q front h (b ++ later)) (sym i.1)
      (subst (Q front h) (sym (append_assoc i.0 (g ∷ []) later)) (f front h i.0 i.2))
]

own_trial : (p context : Polyhedron) (kept : List LinearRow) (g : LinearRow) (later : List LinearRow) (o : Outcome) →
    IsSoFar p context kept (g ∷ later) o → (loss : Loss) →
    TrialStrains p.dims (context.rows ++ (kept ++ later)) g loss → OwnTrialStrains p context kept g later loss
own_trial p context kept g later o s loss t = record {
  earlier = s.earlier;
  later = later;
  are = s.are;
  before = s.own;
  behind = sublist_whole later;
  strains = t;
}

needed_or_strains : (p context : Polyhedron) (kept : List LinearRow) (g : LinearRow) (later : List LinearRow) (o told : Outcome) →
    IsSoFar p context kept (g ∷ later) o → TellsRedundant p.dims context.rows (kept ++ later) g (Some told) →
    IsNeededOrStrains p context kept g later
needed_or_strains p context kept g later o Exact s t = inl t.0
needed_or_strains p context kept g later o (Flagged loss) s t =
    inr (loss, own_trial p context kept g later o s loss t.1)

strained_more : (p context : Polyhedron) (kept : List LinearRow) (g : LinearRow) (later : List LinearRow) (loss : Loss) →
    StrainedSoFar p context kept (g ∷ later) loss → StrainedSoFar p context (kept ++ g ∷ []) later loss
strained_more p context kept g later loss s = record {
  front = s.front;
  tried = s.tried;
  back = s.back ++ g ∷ [];
  are = ap (λ (l : List LinearRow). l ++ g ∷ []) s.are ∙ append_assoc s.front (s.tried ∷ s.back) (g ∷ []);
  strains = subst (λ (l : List LinearRow). OwnTrialStrains p context s.front s.tried l loss)
      (sym (append_assoc s.back (g ∷ []) later)) s.strains;
}

pub one_kept : (p context : Polyhedron) (kept : List LinearRow) (g : LinearRow) (later : List LinearRow) (o told : Outcome) →
    IsSoFar p context kept (g ∷ later) o → TellsRedundant p.dims context.rows (kept ++ later) g (Some told) →
    IsSoFar p context (kept ++ g ∷ []) later (first_of o told)
one_kept p context kept g later o told s t = record {
  same = subst (λ (l : List LinearRow). SameSet p.dims (Meet (Con context.rows) (Con l)) (Meet (Con context.rows) (Con p.rows)))
      (sym (append_assoc kept (g ∷ []) later)) s.same;
  earlier = s.earlier ++ g ∷ [];
  are = s.are ∙ sym (append_assoc s.earlier (g ∷ []) later);
  own = sublist_pushed kept s.earlier g s.own;
  each = each_kept (IsNeededOrStrains p context) kept g later s.each
      (needed_or_strains p context kept g later o told s t);
  needed = two_exact (EachSoFar (NeededAmong p.dims context.rows) kept (g ∷ later))
      (¬ (IsRedundant p.dims context.rows (kept ++ later) g))
      (EachSoFar (NeededAmong p.dims context.rows) (kept ++ g ∷ []) later)
      (each_kept (NeededAmong p.dims context.rows) kept g later) o told s.needed t.0;
  flagged = two_flagged (EachSoFar (NeededAmong p.dims context.rows) kept (g ∷ later))
      (StrainedSoFar p context kept (g ∷ later)) (TrialStrains p.dims (context.rows ++ (kept ++ later)) g)
      (StrainedSoFar p context (kept ++ g ∷ []) later) (strained_more p context kept g later) (λ loss is a. record {
        front = kept;
        tried = g;
        back = [];
        are = refl;
        strains = own_trial p context kept g later o s loss a;
      }) o told s.needed s.flagged t.1;
}

-- ---- as the code states it
-- the row at the place is the first that comes from there on
drop_at : {K : Type 0} (equal : K → Bool) (rows : List (List ℤ)) (kinds : List K) (i : ℕ) (r : List ℤ) (k : K) →
    slice_get rows i ≡ Some r → slice_get kinds i ≡ Some k →
    drop i (rows_by_kind equal rows kinds) ≡
    (let g : LinearRow = record { row = r; equal = equal k } in g) ∷ drop (suc i) (rows_by_kind equal rows kinds)
drop_at equal [] kinds i r k er ek = cc
drop_at equal (x ∷ rows) [] i r k er ek = cc
drop_at equal (x ∷ rows) (d ∷ kinds) zero r k er ek =
    ap (λ (y : List ℤ). (let g : LinearRow = record { row = y; equal = equal d } in g) ∷ rows_by_kind equal rows kinds)
    (ap (λ (o : Option (List ℤ)). unwrap_or o x) er) ∙ ap (λ e. (let g : LinearRow = record { row = r; equal = equal e } in g) ∷ rows_by_kind equal rows kinds)
    (ap (λ o. unwrap_or o d) ek)
drop_at equal (x ∷ rows) (d ∷ kinds) (suc i) r k er ek = drop_at equal rows kinds i r k er ek

pub at_place : (list : LinearSystem ConKind) (i : ℕ) (r : List ℤ) (k : ConKind) → slice_get list.rows i ≡ Some r →
    slice_get list.kinds i ≡ Some k →
    drop i (constraints list) ≡
    (let g : LinearRow = record { row = r; equal = is_equality k } in g) ∷ drop (i + 1) (constraints list)
at_place list i r k er ek = drop_at is_equality list.rows list.kinds i r k er ek
    ∙ ap (λ (j : ℕ). (let g : LinearRow = record { row = r; equal = is_equality k } in g) ∷ drop j (constraints list))
    (sym (add-one i))

pub one_pushed : (list old new : LinearSystem ConKind) (own : List LinearRow) (i j : ℕ) (r : List ℤ) (k : ConKind) →
    slice_get list.rows i ≡ Some r → slice_get list.kinds i ≡ Some k → length old.kinds ≡ length old.rows →
    new.rows ≡ old.rows ++ r ∷ [] → new.kinds ≡ old.kinds ++ k ∷ [] →
    constraints old ++ drop i (constraints list) ≡ own ++ drop j (constraints list) →
    constraints new ++ drop (i + 1) (constraints list) ≡ own ++ drop j (constraints list)
one_pushed list old new own i j r k er ek c nr nk e =
    ap (λ (l : List LinearRow). l ++ drop (i + 1) (constraints list)) (constraints_pushed old new r k c nr nk)
    ∙ append_assoc (constraints old) (record { row = r; equal = is_equality k } ∷ []) (drop (i + 1) (constraints list))
    ∙ ap (λ (l : List LinearRow). constraints old ++ l) (sym (at_place list i r k er ek)) ∙ e

pub all_pushed : (list all : LinearSystem ConKind) (own : List LinearRow) (i j : ℕ) → length list.kinds ≡ length list.rows →
    length list.rows ≤ i → constraints all ++ drop i (constraints list) ≡ own ++ drop j (constraints list) →
    constraints all ≡ own ++ drop j (constraints list)
all_pushed list all own i j n h e =
    let c = given_length is_equality list.rows list.kinds n in
    sym (append-nil (constraints all))
    ∙ ap (λ (l : List LinearRow). constraints all ++ l) (sym (drop_all i (constraints list) (omega (arith, c, h)))) ∙ e

pub at_first : (p context : Polyhedron) (list kept : LinearSystem ConKind) → constraints list ≡ p.rows → kept.rows ≡ [] →
    IsSoFar p context (constraints kept) (constraints list) Exact
at_first p context list kept el ek =
    subst (λ (l : List LinearRow). IsSoFar p context (constraints kept) l Exact) (sym el)
    (subst (λ (l : List (List ℤ)). IsSoFar p context (rows_by_kind is_equality l kept.kinds) p.rows Exact) (sym ek)
    (so_far_first p context))

-- the one at the place, and those after it
pub told_at : (n : ℕ) (context : List LinearRow) (list kept others : LinearSystem ConKind) (i : ℕ) (r : List ℤ) (k : ConKind)
    (told : Option Outcome) → slice_get list.rows i ≡ Some r → slice_get list.kinds i ≡ Some k →
    constraints others ≡ constraints kept ++ drop (i + 1) (constraints list) →
    TellsRedundant n context (constraints others) (record { row = r; equal = is_equality k }) told →
    (g : LinearRow) (later : List LinearRow) → drop i (constraints list) ≡ g ∷ later →
    TellsRedundant n context (constraints kept ++ later) g told
told_at n context list kept others i r k told er ek eo t g later e =
    let same = sym (at_place list i r k er ek) ∙ e in
    subst (λ (h : LinearRow). TellsRedundant n context (constraints kept ++ later) h told)
    (ap (λ (l : List LinearRow). get_or l 0 g) same)
    (subst (λ (l : List LinearRow). TellsRedundant n context (constraints kept ++ l) (record { row = r; equal = is_equality k }) told)
    (ap behind same)
    (subst (λ (l : List LinearRow). TellsRedundant n context l (record { row = r; equal = is_equality k }) told) eo t))

-- a place that there is has a row and a kind
pub row_at : (list : LinearSystem ConKind) (i : ℕ) → length list.kinds ≡ length list.rows → i < length list.rows →
    (g : LinearRow) × (drop i (constraints list) ≡ g ∷ drop (i + 1) (constraints list))
row_at list i n h =
    let r = there_within list.rows i h in
    let k = there_within list.kinds i (omega (arith, n, h)) in
    (record { row = r.0; equal = is_equality k.0 }, at_place list i r.0 k.0 r.1 k.1)

-- the next place, if the one at hand is left out
pub place_left : (p context : Polyhedron) (list kept : LinearSystem ConKind) (i n : ℕ) (o : Outcome) → n ≡ p.dims →
    length list.kinds ≡ length list.rows → i < length list.rows →
    IsSoFar p context (constraints kept) (drop i (constraints list)) o →
    ((g : LinearRow) (later : List LinearRow) → drop i (constraints list) ≡ g ∷ later →
    TellsRedundant n context.rows (constraints kept ++ later) g None) →
    IsSoFar p context (constraints kept) (drop (i + 1) (constraints list)) o
place_left p context list kept i n o en c h s t =
    let here = row_at list i c h in
    one_left p context (constraints kept) here.0 (drop (i + 1) (constraints list)) o
    (subst (λ (l : List LinearRow). IsSoFar p context (constraints kept) l o) here.1 s)
    (subst (λ (m : ℕ). IsRedundant m context.rows (constraints kept ++ drop (i + 1) (constraints list)) here.0) en
    (t here.0 (drop (i + 1) (constraints list)) here.1))

pub place_kept : (p context : Polyhedron) (list kept more : LinearSystem ConKind) (i n : ℕ) (r : List ℤ) (k : ConKind)
    (o told all : Outcome) → n ≡ p.dims → slice_get list.rows i ≡ Some r →
    slice_get list.kinds i ≡ Some k → IsSoFar p context (constraints kept) (drop i (constraints list)) o →
    ((g : LinearRow) (later : List LinearRow) → drop i (constraints list) ≡ g ∷ later →
    TellsRedundant n context.rows (constraints kept ++ later) g (Some told)) →
    length kept.kinds ≡ length kept.rows → more.rows ≡ kept.rows ++ r ∷ [] → more.kinds ≡ kept.kinds ++ k ∷ [] →
    all ≡ first_of o told → IsSoFar p context (constraints more) (drop (i + 1) (constraints list)) all
place_kept p context list kept more i n r k o told all en er ek s t c mr mk ea =
    let g : LinearRow = record { row = r; equal = is_equality k } in
    let later = drop (i + 1) (constraints list) in
    let here = at_place list i r k er ek in
    subst (IsSoFar p context (constraints more) later) (sym ea)
    (subst (λ (l : List LinearRow). IsSoFar p context l later (first_of o told))
    (sym (constraints_pushed kept more r k c mr mk))
    (one_kept p context (constraints kept) g later o told
    (subst (λ (l : List LinearRow). IsSoFar p context (constraints kept) l o) here s)
    (subst (λ (m : ℕ). TellsRedundant m context.rows (constraints kept ++ later) g (Some told)) en (t g later here))))

pub all_told : (p context : Polyhedron) (list kept : LinearSystem ConKind) (i : ℕ) (o : Outcome) →
    length list.kinds ≡ length list.rows → length list.rows ≤ i →
    IsSoFar p context (constraints kept) (drop i (constraints list)) o → IsSimplified p context (constraints kept) o
all_told p context list kept i o n h s =
    let c = given_length is_equality list.rows list.kinds n in
    so_far_last p context (constraints kept) o
    (subst (λ (l : List LinearRow). IsSoFar p context (constraints kept) l o)
    (drop_all i (constraints list) (omega (arith, c, h))) s)
