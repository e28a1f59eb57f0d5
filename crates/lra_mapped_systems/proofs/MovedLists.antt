-- The rows of a list moved one by one, its lines apart.
use Rattle.std.proofs.Common.{◌≡◌, ℕ, suc, ◌<◌, ◌+◌, add-one, Bool, true, false, cond, List, [], ◌∷◌, ◌++◌, length, map, get_or, ap, refl, sym, ◌∙◌, subst, ℤ, inl, inr}
use Rattle.std.proofs.{lemmas.List.map-append, lemmas.List.Elements.All-contains}
use Rattle.std.specs.List.{All, Contains}
use Rattle.lra_mapped_systems.specs.Crates.{lra_canonical.Echelons.HaveWidth, lra_linear_spec.Descriptions.LinearRow, lra_linear_spec.Descriptions.lines_of, lra_linear_spec.Descriptions.rays_of}
use Rattle.lra_mapped_systems.proofs.Crates.lra_linear_spec.Membership.{contains_cases, contains_head, contains_none, contains_tail, map_from}
use Rattle.lra_mapped_systems.proofs.Crates.lra_linear_spec.Polyhedra.{lines_of_append, rays_of_append}
use Rattle.lra_systems.specs.LinearSystems.{LinearSystem, rows_by_kind}
use Rattle.lra_description_pair.proofs.OwnRows.{all_width}
use Rattle.lra_systems.proofs.FirstMembers.{front, given_more, member}

-- the parts of the rows before the place
pub record ArePartsOf {K : Type 0} (f : List ℤ → List ℤ) (equal : K → Bool) (rows : List (List ℤ)) (kinds : List K) (i : ℕ) (lines rays : List (List ℤ)) : Type 0 where
  pub lines_are : lines ≡ map f (lines_of (front equal rows kinds i))
  pub rays_are : rays ≡ map f (rays_of (front equal rows kinds i))

-- one more row, a line or not
part_more : {K : Type 0} (f : List ℤ → List ℤ) (equal : K → Bool) (rows : List (List ℤ)) (kinds : List K) (i : ℕ) (lines rays lines' rays' : List (List ℤ)) (r t : List ℤ) (k : K) →
    ArePartsOf f equal rows kinds i lines rays → length kinds ≡ length rows → i < length rows → r ≡ get_or rows i r → t ≡ f r →
    lines' ≡ lines ++ cond (equal (get_or kinds i k)) (t ∷ []) [] → rays' ≡ rays ++ cond (equal (get_or kinds i k)) [] (t ∷ []) →
    ArePartsOf f equal rows kinds (i + 1) lines' rays'
part_more {K = K} f equal rows kinds i lines rays lines' rays' r t k h n low is et el er =
    let fr = front equal rows kinds i in
    let m = member equal kinds i r k in
    let more : front equal rows kinds (i + 1) ≡ fr ++ m ∷ [] = ap (front equal rows kinds) (add-one i) ∙ given_more equal rows kinds i r k n low is in
    record {
      lines_are = el ∙ ap (λ (l : List (List ℤ)). l ++ cond m.equal (t ∷ []) []) h.lines_are ∙ ap (λ (y : List ℤ). map f (lines_of fr) ++ cond m.equal (y ∷ []) []) et ∙
          ap (λ (l : List (List ℤ)). map f (lines_of fr) ++ l) (lines_one m.equal r) ∙
          sym (map-append f (lines_of fr) (cond m.equal (r ∷ []) [])) ∙ ap (map f) (sym (lines_of_append fr (m ∷ []))) ∙ ap (λ (l : List LinearRow). map f (lines_of l)) (sym more);
      rays_are = er ∙ ap (λ (l : List (List ℤ)). l ++ cond m.equal [] (t ∷ [])) h.rays_are ∙ ap (λ (y : List ℤ). map f (rays_of fr) ++ cond m.equal [] (y ∷ [])) et ∙
          ap (λ (l : List (List ℤ)). map f (rays_of fr) ++ l) (rays_one m.equal r) ∙
          sym (map-append f (rays_of fr) (cond m.equal [] (r ∷ []))) ∙ ap (map f) (sym (rays_of_append fr (m ∷ []))) ∙ ap (λ (l : List LinearRow). map f (rays_of l)) (sym more);
    }
  where
    lines_one : (b : Bool) (r : List ℤ) → cond b (f r ∷ []) [] ≡ map f (cond b (r ∷ []) [])
    lines_one true r = refl
    lines_one false r = refl

    rays_one : (b : Bool) (r : List ℤ) → cond b [] (f r ∷ []) ≡ map f (cond b [] (r ∷ []))
    rays_one true r = refl
    rays_one false r = refl

pub part_seen : {K : Type 0} (f : List ℤ → List ℤ) (equal : K → Bool) (rows : List (List ℤ)) (kinds : List K) (i : ℕ) (lines rays lines' rays' : List (List ℤ)) (r t : List ℤ) (k : K) (b : Bool) →
    ArePartsOf f equal rows kinds i lines rays → length kinds ≡ length rows → i < length rows → r ≡ get_or rows i r → t ≡ f r → b ≡ equal (get_or kinds i k) →
    lines' ≡ lines ++ cond b (t ∷ []) [] → rays' ≡ rays ++ cond b [] (t ∷ []) → ArePartsOf f equal rows kinds (i + 1) lines' rays'
part_seen f equal rows kinds i lines rays lines' rays' r t k b h n low is et eb el er =
    part_more f equal rows kinds i lines rays lines' rays' r t k h n low is et
    (el ∙ ap (λ (a : Bool). lines ++ cond a (t ∷ []) []) eb) (er ∙ ap (λ (a : Bool). rays ++ cond a [] (t ∷ [])) eb)

-- ---- widths
lines_among : {K : Type 0} (equal : K → Bool) (rows : List (List ℤ)) (kinds : List K) (t : List ℤ) → Contains (lines_of (rows_by_kind equal rows kinds)) t → Contains rows t
lines_among equal [] kinds t k = absurd (contains_none t k)
lines_among equal (r ∷ rows) [] t k = absurd (contains_none t k)
lines_among {K = K} equal (r ∷ rows) (x ∷ kinds) t k = go (equal x) (lines_among equal rows kinds t) k
  where
    go : (b : Bool) → (Contains (lines_of (rows_by_kind equal rows kinds)) t → Contains rows t) →
        Contains (cond b (r ∷ lines_of (rows_by_kind equal rows kinds)) (lines_of (rows_by_kind equal rows kinds))) t → Contains (r ∷ rows) t
    go true h c = elim (contains_cases r t (lines_of (rows_by_kind equal rows kinds)) c) [
      | inl e ↦ subst (Contains (r ∷ rows)) e (contains_head r rows)
      | inr n ↦ contains_tail r t rows (h n)
    ]
    go false h c = contains_tail r t rows (h c)

rays_among : {K : Type 0} (equal : K → Bool) (rows : List (List ℤ)) (kinds : List K) (t : List ℤ) → Contains (rays_of (rows_by_kind equal rows kinds)) t → Contains rows t
rays_among equal [] kinds t k = absurd (contains_none t k)
rays_among equal (r ∷ rows) [] t k = absurd (contains_none t k)
rays_among {K = K} equal (r ∷ rows) (x ∷ kinds) t k = go (equal x) (rays_among equal rows kinds t) k
  where
    go : (b : Bool) → (Contains (rays_of (rows_by_kind equal rows kinds)) t → Contains rows t) →
        Contains (cond b (rays_of (rows_by_kind equal rows kinds)) (r ∷ rays_of (rows_by_kind equal rows kinds))) t → Contains (r ∷ rows) t
    go true h c = contains_tail r t rows (h c)
    go false h c = elim (contains_cases r t (rays_of (rows_by_kind equal rows kinds)) c) [
      | inl e ↦ subst (Contains (r ∷ rows)) e (contains_head r rows)
      | inr n ↦ contains_tail r t rows (h n)
    ]

-- the list's rows, as they are seen, have the width, and the map keeps it
pub record KeepsWidth {K : Type 0} (m : List ℤ → List ℤ) (w : ℕ) (list : LinearSystem K) (seen : List (List ℤ)) : Type 0 where
  pub width : w ≡ suc list.dims
  pub are : seen ≡ list.rows
  pub widths : All (λ r. length r ≡ suc list.dims) seen
  pub keeps : (r : List ℤ) → length r ≡ suc list.dims → length (m r) ≡ suc list.dims

mapped_width : {K : Type 0} (m : List ℤ → List ℤ) (w : ℕ) (list : LinearSystem K) (seen some : List (List ℤ)) → KeepsWidth m w list seen →
    ((t : List ℤ) → Contains some t → Contains list.rows t) → HaveWidth w (map m some)
mapped_width m w list seen some h among = all_width w (map m some) (λ t k.
    let i = map_from m some t k in
    ap length (sym i.2) ∙
    h.keeps i.0 (All-contains (λ (r : List ℤ). length r ≡ suc list.dims) seen i.0 h.widths (subst (λ (l : List (List ℤ)). Contains l i.0) (sym h.are) (among i.0 i.1))) ∙ sym h.width)

pub lines_wide : {K : Type 0} (m : List ℤ → List ℤ) (equal : K → Bool) (w : ℕ) (list : LinearSystem K) (seen lines : List (List ℤ)) → KeepsWidth m w list seen →
    lines ≡ map m (lines_of (rows_by_kind equal list.rows list.kinds)) → HaveWidth w lines
lines_wide m equal w list seen lines h e =
    subst (HaveWidth w) (sym e) (mapped_width m w list seen (lines_of (rows_by_kind equal list.rows list.kinds)) h (lines_among equal list.rows list.kinds))

pub rays_wide : {K : Type 0} (m : List ℤ → List ℤ) (equal : K → Bool) (w : ℕ) (list : LinearSystem K) (seen rays : List (List ℤ)) → KeepsWidth m w list seen →
    rays ≡ map m (rays_of (rows_by_kind equal list.rows list.kinds)) → HaveWidth w rays
rays_wide m equal w list seen rays h e =
    subst (HaveWidth w) (sym e) (mapped_width m w list seen (rays_of (rows_by_kind equal list.rows list.kinds)) h (rays_among equal list.rows list.kinds))
