-- What is reported about lost rows.
use Rattle.std.proofs.Common.{◌≡◌, ◌≢◌, ℕ, zero, suc, ◌<◌, Bool, true, false, List, [], ◌∷◌, ◌++◌, length, get_or, drop, refl, ap, sym, ◌∙◌, subst, arith, ℤ, inl, inr, Option, Some, None}
use Rattle.std.proofs.lemmas.List.{append-nil, get_or_default}
use Rattle.std.proofs.lemmas.List.Elements.{Contains-append_cases, Contains-append_left, Contains-append_right}
use Rattle.std.specs.{List.Contains, Option.IfNone}
use Rattle.lra_description_pair.specs.Crates.lra_linear_spec.Descriptions.{LinearRow, Con, inequality, system_of}
use Rattle.lra_description_pair.specs.Crates.lra_linear_spec.OperationStrain.{with_positivity, FromRowsStrains, FromGeneratorsStrains}
use Rattle.lra_description_pair.specs.Crates.lra_linear_spec.Polyhedra.{Polyhedron, IsPolyhedronOf, positivity}
use Rattle.lra_description_pair.specs.Crates.lra_linear_spec.Strain.{Loss, Strains, IsStrained, OwnReductionPasses, OwnTooMany}
use Rattle.lra_description_pair.specs.Crates.{lra_linear_spec.Canonical.IsCanonicalOf, lra_linear_spec.Cones.with_row, lra_linear_spec.Cones.AreDual, lra_linear_spec.Cones.all_rows}
use Rattle.lra_description_pair.specs.Crates.{lra_linear_spec.Points.PointSet, lra_linear_spec.Points.IsWithin, lra_linear_spec.Vectors.negated, lra_linear_spec.declared.Cause.Cause}
use Rattle.lra_description_pair.specs.Crates.{lra_linear_spec.declared.Cause.TheVariants.Excess, lra_linear_spec.declared.Cause.TheVariants.TooMany, lra_systems.LinearSystems.rows_by_kind}
use Rattle.lra_description_pair.proofs.Crates.lra_linear_spec.Descriptions.{con_none, system_has, system_has_negated}
use Rattle.lra_description_pair.proofs.Crates.lra_linear_spec.Membership.{contains_head, contains_tail, contains_none, contains_cases}
use Rattle.lra_description_pair.proofs.Crates.{lra_linear_spec.Combinations.generated_row, lra_linear_spec.LinearMaps.generated_through}
use Rattle.lra_cone.specs.{Cones.ConeContent, Cones.IsCone, Conversions.IsConversion, Losses.IfLost}
use Rattle.lra_cone.proofs.TightRows.{with_later}
use Rattle.lra_description_pair.specs.OwnLists.{IsOwnLoss, IsOwnCause, IsPositive, TellsOwnLoss}
use Rattle.lra_description_pair.specs.{KeptRows.IsOfSome, TriedRows.IsMadeOf, TriedRows.IsOfTried, TriedRows.StrainsWhenTried}

-- ---- a row of a list once more
row_again : (list : List LinearRow) (g : LinearRow) → Contains list g → (t : List ℤ) → Contains (with_row g.equal g.row (system_of list)) t → Contains (system_of list) t
row_again list g m t k = by_kind g.equal refl k
  where
    by_kind : (b : Bool) → g.equal ≡ b → Contains (with_row b g.row (system_of list)) t → Contains (system_of list) t
    by_kind true e k = elim (contains_cases g.row t (negated g.row ∷ system_of list) k) [
      | inl f ↦ subst (Contains (system_of list)) f (system_has list g m)
      | inr n ↦ elim (contains_cases (negated g.row) t (system_of list) n) [ inl f ↦ subst (Contains (system_of list)) f (system_has_negated list g m e) | inr o ↦ o ]
    ]
    by_kind false e k = elim (contains_cases g.row t (system_of list) k) [ inl f ↦ subst (Contains (system_of list)) f (system_has list g m) | inr o ↦ o ]

-- it changes nothing of what the list generates
canonical_again : (w : ℕ) (list : List LinearRow) (g : LinearRow) (lines rays : List (List ℤ)) → Contains list g → IsCanonicalOf w (system_of list) lines rays →
    IsCanonicalOf w (with_row g.equal g.row (system_of list)) lines rays
canonical_again w list g lines rays m c =
    let system : List (List ℤ) = system_of list in
    let longer : List (List ℤ) = with_row g.equal g.row system in
    record {
      canonical = c.canonical;
      widths = c.widths;
      same = λ u. (
        (λ h. (c.same u).0 (generated_through system longer u (λ t k. generated_row system t (row_again list g m t k)) h)),
        (λ h. generated_through longer system u (λ t k. generated_row longer t (with_later g.equal g.row system t k)) ((c.same u).1 h)),
      );
    }

many_again : (w : ℕ) (list : List LinearRow) (g : LinearRow) (count : ℕ) → Contains list g → OwnTooMany w (system_of list) count → OwnTooMany w (with_row g.equal g.row (system_of list)) count
many_again w list g count m x = record { lines = x.lines; rays = x.rays; canonical = canonical_again w list g x.lines x.rays m x.canonical; are = x.are; long = x.long }

-- ---- the own list
own_strained : (s : ConeContent) (cause : Cause) (loss : Loss) → IsOwnLoss s cause loss → IsOwnCause s cause → IsStrained (suc s.dims) loss.chosen loss.further s.lines s.rays cause
own_strained s (Excess e) loss l x = inr (inr (inl (subst (λ (g : List LinearRow). OwnReductionPasses (suc s.dims) g s.rays e) (sym l.chosen) x)))
own_strained s (TooMany count) loss l x =
    let w = suc s.dims in
    let c = loss.further in
    inr (subst (λ (g : List LinearRow). OwnTooMany w (with_row c.equal c.row (system_of g)) count) (sym l.chosen) (many_again w s.taken c count l.further x))

-- if no row was left out before, the own list's strain is the list's
pub own_strain : (s : ConeContent) (all : List LinearRow) (cause : Cause) (loss : Loss) → IsCone s → s.taken ≡ all → IsOwnLoss s cause loss → IsOwnCause s cause → Strains (suc s.dims) all loss
own_strain s all cause loss k t l x = record {
  rest = [];
  begins = sym t ∙ sym l.chosen ∙ sym (append-nil loss.chosen);
  next = inr (subst (λ (g : List LinearRow). Contains g loss.further) (sym l.chosen) l.further);
  lines = s.lines;
  rays = s.rays;
  dual = subst (λ (g : List LinearRow). AreDual (suc s.dims) (system_of g) (all_rows s.lines s.rays)) (sym l.chosen) k.dual;
  canonical = k.canonical;
  strained = subst (IsStrained (suc s.dims) loss.chosen loss.further s.lines s.rays) (sym l.cause) (own_strained s cause loss l x);
}

pub own_lost : (first all kept : List LinearRow) (s : ConeContent) (cause : Cause) (losses after : List Loss) (loss : Loss) → IsCone s → IsConversion first all kept s losses →
    after ≡ losses ++ loss ∷ [] →
    IsOwnLoss s cause loss → IsOwnCause s cause → IfLost (Strains (suc s.dims) (first ++ all)) after
own_lost first all kept s cause losses after loss k c ea l x = subst (IfLost (Strains (suc s.dims) (first ++ all))) (sym ea) (by_losses losses c)
  where
    by_losses : (losses : List Loss) → IsConversion first all kept s losses → IfLost (Strains (suc s.dims) (first ++ all)) (losses ++ loss ∷ [])
    by_losses [] c = own_strain s (first ++ all) cause loss k (c.taken ∙ ap (λ (g : List LinearRow). first ++ g) (c.whole refl)) l x
    by_losses (y ∷ later) c = c.strain

pub from_strain : (n : ℕ) (rows : List LinearRow) (losses : List Loss) → IfLost (Strains (suc n) (with_positivity n rows)) losses → IfLost (FromRowsStrains n rows) losses
from_strain n rows [] s = tt
from_strain n rows (loss ∷ later) s = inl s

-- ---- the row that is named
given_at : {K : Type 0} (equal : K → Bool) (rows : List (List ℤ)) (kinds : List K) (i : ℕ) (d : K) → length kinds ≡ length rows → i < length rows →
    Contains (rows_by_kind equal rows kinds) (record { row = get_or rows i []; equal = equal (get_or kinds i d) })
given_at equal [] kinds i d n h = absurd (omega (arith, h))
given_at equal (r ∷ rows) [] i d n h = absurd (omega (arith, n))
given_at equal (r ∷ rows) (k ∷ kinds) zero d n h = contains_head (let g : LinearRow = record { row = r; equal = equal k } in g) (rows_by_kind equal rows kinds)
given_at equal (r ∷ rows) (k ∷ kinds) (suc i) d n h = contains_tail
    (let g : LinearRow = record { row = r; equal = equal k } in g)
    (let g : LinearRow = record { row = get_or rows i []; equal = equal (get_or kinds i d) } in g)
    (rows_by_kind equal rows kinds) (given_at equal rows kinds i d (omega (arith, n)) (omega (arith, h)))

pub own_loss_is : {K : Type 0} (equal : K → Bool) (s : ConeContent) (cause : Cause) (loss : Loss) (listed rows : List (List ℤ)) (seen kinds : List K) (i : ℕ) (r : List ℤ) (d : K) →
    rows_by_kind equal rows kinds ≡ s.taken → listed ≡ rows → seen ≡ kinds → length seen ≡ length rows → i < length listed → r ≡ get_or listed i r →
    loss ≡ record { chosen = rows_by_kind equal rows kinds; further = record { row = r; equal = equal (get_or seen i d) }; cause = cause } →
    IsOwnLoss s cause loss
own_loss_is {K = K} equal s cause loss listed rows seen kinds i r d et el ek n h er eq =
    let here : r ≡ get_or rows i [] = er ∙ get_or_default listed i r [] h ∙ ap (λ (l : List (List ℤ)). get_or l i []) el in
    let many : length kinds ≡ length rows = ap length (sym ek) ∙ n in
    let inside : i < length rows = subst (λ (l : List (List ℤ)). i < length l) el h in
    record {
      chosen = ap (λ (l : Loss). l.chosen) eq ∙ et;
      further = subst (λ (g : LinearRow). Contains s.taken g) (sym (ap (λ (l : Loss). l.further) eq ∙ ap (λ (y : List ℤ). record { row = y; equal = equal (get_or seen i d) }) here))
          (subst (λ (l : List LinearRow). Contains l (record { row = get_or rows i []; equal = equal (get_or seen i d) })) et
          (subst (λ (q : List K). Contains (rows_by_kind equal rows kinds) (record { row = get_or rows i []; equal = equal (get_or q i d) })) (sym ek) (given_at equal rows kinds i d many inside)));
      cause = ap (λ (l : Loss). l.cause) eq;
    }

-- ---- generators
pub from_generators_strain : (n : ℕ) (given : List LinearRow) (losses : List Loss) → IfLost (Strains (suc n) given) losses → IfLost (FromGeneratorsStrains n given) losses
from_generators_strain n given [] s = tt
from_generators_strain n given (loss ∷ later) s = inl s

-- ---- sets of points
pub first_within : (n : ℕ) (kept rows : List LinearRow) (P : PointSet) → ((g : LinearRow) → Contains kept g → Contains rows g) →
    IsWithin n (Con kept) P → IsWithin n (Con rows) P
first_within n kept rows P among h x point con = h x point (λ g m. con g (among g m))

-- ---- as the code states it, of constraints
pub taken_behind : (n : ℕ) (first rows kept : List LinearRow) (s : ConeContent) (losses : List Loss) → IsPositive n first →
    IsConversion first rows kept s losses → drop 1 s.taken ≡ drop 1 first ++ kept
taken_behind n first rows kept s losses positive c =
    ap (drop 1) (c.taken ∙ ap (λ (l : List LinearRow). l ++ kept) positive.1) ∙ ap (λ (l : List LinearRow). drop 1 l ++ kept) (sym positive.1)

-- rows among others, after the same
pub still_among : (front kept rows : List LinearRow) → ((g : LinearRow) → Contains kept g → Contains rows g) → (g : LinearRow) → Contains (front ++ kept) g →
    Contains (front ++ rows) g
still_among front kept rows among g m = elim (Contains-append_cases front kept g m) [
  | inl f ↦ Contains-append_left front rows g f
  | inr k ↦ Contains-append_right front rows g (among g k)
]

pub universe_within : (n d : ℕ) (rows : List LinearRow) (p : Polyhedron) → d ≡ n → IsPolyhedronOf d (Con []) p → IsWithin n (Con rows) (Con p.rows)
universe_within n d rows p e h = subst (λ (m : ℕ). IsWithin m (Con rows) (Con p.rows)) e (λ x point con. h.points.0 x point (con_none x))

-- after the positivity row alone, the list itself
pub none_behind : (n d : ℕ) (taken rows : List LinearRow) → d ≡ n → taken ≡ inequality (positivity d) ∷ [] → drop 1 taken ++ rows ≡ rows
none_behind n d taken rows e first = ap (λ (l : List LinearRow). drop 1 l ++ rows) first

pub positive_alone : (n d : ℕ) (taken : List LinearRow) → d ≡ n → taken ≡ inequality (positivity d) ∷ [] → IsPositive n taken
positive_alone n d taken e first = ([], first ∙ ap (λ (m : ℕ). inequality (positivity m) ∷ []) e)

-- nothing more was lost
pub same_strain : (d : ℕ) (s : ConeContent) (losses : List Loss) → s.dims ≡ d → (first all kept : List LinearRow) → IsConversion first all kept s losses →
    IfLost (Strains (suc d) (first ++ all)) losses
same_strain d s losses e first all kept c = subst (λ (m : ℕ). IfLost (Strains (suc m) (first ++ all)) losses) e c.strain

-- the own list exceeds a limit
pub later_strain : (d : ℕ) (s : ConeContent) (cause : Cause) (losses after : List Loss) → s.dims ≡ d → IsCone s → TellsOwnLoss s cause losses after →
    IsOwnCause s cause → (first all kept : List LinearRow) → IsConversion first all kept s losses → IfLost (Strains (suc d) (first ++ all)) after
later_strain d s cause losses after e k t h first all kept c =
    subst (λ (m : ℕ). IfLost (Strains (suc m) (first ++ all)) after) e (own_lost first all kept s cause losses after t.loss k c t.told t.own h)

-- a list that was added to isn't empty
pub some_loss : (s : ConeContent) (cause : Cause) (losses after told : List Loss) → TellsOwnLoss s cause losses after → told ≡ after → told ≡ [] → ⊥
some_loss s cause losses after told t f g = not_none losses (sym t.told ∙ sym f ∙ g)
  where
    not_none : (losses : List Loss) → losses ++ t.loss ∷ [] ≡ [] → ⊥
    not_none [] e = let z : t.loss ∷ [] ≡ [] = e in cc
    not_none (x ∷ losses) e = let z : x ∷ (losses ++ t.loss ∷ []) ≡ [] = e in cc

-- ---- what is left of the rows
pub all_of : (n : ℕ) (rows : List LinearRow) (p : Polyhedron) → IsPolyhedronOf n (Con rows) p → IsOfSome n rows p
all_of n rows p h = record { rows = rows; among = λ g m. m; made = h }

pub none_of : (n : ℕ) (rows : List LinearRow) (p : Polyhedron) → IsPolyhedronOf n (Con []) p → IsOfSome n rows p
none_of n rows p h = record { rows = []; among = λ g m. absurd (contains_none g m); made = h }

-- ---- rows that were tried
pub of_tried : (n d : ℕ) (rows kept : List LinearRow) (s start : ConeContent) (losses after : List Loss) (p : Polyhedron) → d ≡ n → s.dims ≡ start.dims →
    start.dims ≡ n →
    IsConversion start.taken rows kept s losses → IsMadeOf d s losses p after → IsOfTried n start.taken rows p after
of_tried n d rows kept s start losses after p e same dims c h = record {
  cone = s;
  dims = same ∙ dims;
  kept = kept;
  left = losses;
  conversion = c;
  made = subst (λ (m : ℕ). IsMadeOf m s losses p after) e h;
}

pub behind_positivity : (n d : ℕ) (taken : List LinearRow) → d ≡ n → taken ≡ inequality (positivity d) ∷ [] → taken ≡ with_positivity n []
behind_positivity n d taken e first = first ∙ ap (λ (m : ℕ). inequality (positivity m) ∷ []) e

pub one_left_out : (n : ℕ) (first all kept rows : List LinearRow) (s : ConeContent) (losses : List Loss) → s.dims ≡ n → rows ≡ all → IsConversion first rows kept s losses → losses ≢ [] →
    StrainsWhenTried n first all
one_left_out n first all kept rows s losses d e c some = record {
  cone = s;
  dims = d;
  kept = kept;
  left = losses;
  conversion = subst (λ (l : List LinearRow). IsConversion first l kept s losses) e c;
  strains = inl some;
}

pub list_strains : (n : ℕ) (first all kept rows : List LinearRow) (s : ConeContent) (losses : List Loss) → s.dims ≡ n → rows ≡ all → IsConversion first rows kept s losses → losses ≡ [] →
    (cause : Cause) × IsOwnCause s cause → StrainsWhenTried n first all
list_strains n first all kept rows s losses d e c none h = record {
  cone = s;
  dims = d;
  kept = kept;
  left = losses;
  conversion = subst (λ (l : List LinearRow). IsConversion first l kept s losses) e c;
  strains = inr (none, h);
}

pub if_none : {A : Type 0} (o : Option A) (P Q : Type 0) → (P → Q) → IfNone o P → IfNone o Q
if_none None P Q f h = f h
if_none (Some x) P Q f h = tt
