-- Numbers that pass as a list is moved and made canonical again.
use Rattle.std.proofs.Common.{◌≡◌, ℕ, ◌<◌, List, ◌∷◌, length, map, drop, get_or, ap, sym, ◌∙◌, subst, ℤ, inl, inr, Bool, false, IsTrue, Result, Err, suc}
use Rattle.std.proofs.lemmas.List.Elements.{Contains-append_right}
use Rattle.std.specs.List.{Contains}
use Rattle.lra_mapped_systems.specs.Crates.lra_linear_spec.declared.Excess as E
use Rattle.lra_mapped_systems.specs.Crates.lra_linear_spec.CheckedArithmetic.{checked_product, checked_substitution}
use Rattle.lra_mapped_systems.specs.Crates.{lra_canonical.Echelons.IsEchelonExcess, lra_linear_spec.Descriptions.LinearRow, lra_linear_spec.Descriptions.lines_of, lra_linear_spec.Descriptions.rays_of}
use Rattle.lra_mapped_systems.specs.Crates.{lra_linear_spec.Echelon.IsEchelonOf, lra_linear_spec.SetOperations.assigned, lra_linear_spec.Vectors.substituted, lra_row.Rows.IsExcessOf}
use Rattle.lra_mapped_systems.specs.Crates.{lra_row.declared.error.RowError.RowError, lra_row.declared.error.RowError.TheVariants.Excess, lra_row.declared.error.RowError.TheVariants.Memory}
use Rattle.lra_mapped_systems.proofs.Crates.lra_linear_spec.Membership.{contains_head}
use Rattle.lra_systems.specs.LinearSystems.{rows_by_kind}
use Rattle.lra_systems.proofs.FirstMembers.{front, given_split, member}
use Rattle.lra_description_pair.specs.OwnLists.{AnyReductionExcess}
use Rattle.lra_mapped_systems.specs.Moving.{AssignmentPasses, CanonicalPasses, OnExcess, SubstitutionPasses}

pub never : (b : Bool) → b ≡ false → IsTrue b → ⊥
never b f t = cc

pub on_excess : (P Q : E.Excess → Type 0) (error : RowError) → ((e : E.Excess) → P e → Q e) → OnExcess P error → OnExcess Q error
on_excess P Q (Excess e) f h = f e h
on_excess P Q Memory f h = tt

-- at one of the rows
pub some_passes : {K : Type 0} {A : Type 0} (equal : K → Bool) (check : List ℤ →
    Result A E.Excess) (rows seen : List (List ℤ)) (kinds also : List K) (place : ℕ) (r : List ℤ) (k : K) (error : RowError) →
    seen ≡ rows → also ≡ kinds → length also ≡ length rows → place < length seen → r ≡ get_or seen place r → IsExcessOf (check r) error →
    OnExcess (λ e. (g : LinearRow) × Contains (rows_by_kind equal rows kinds) g × (check g.row ≡ Err e)) error
some_passes equal check rows seen kinds also place r k Memory er ek n low is x = tt
some_passes {K = K} equal check rows seen kinds also place r k (Excess e) er ek n low is x =
    let here : r ≡ get_or rows place r = is ∙ ap (λ (l : List (List ℤ)). get_or l place r) er in
    let many : length kinds ≡ length rows = ap length (sym ek) ∙ n in
    let inside : place < length rows = subst (λ (l : List (List ℤ)). place < length l) er low in
    let g : LinearRow = member equal kinds place r k in
    let later : List LinearRow = rows_by_kind equal (drop (suc place) rows) (drop (suc place) kinds) in
    let has : Contains (rows_by_kind equal rows kinds) g =
    subst (λ (l : List LinearRow). Contains l g) (sym (given_split equal rows kinds place r k many inside here))
    (Contains-append_right (front equal rows kinds place) (g ∷ later) g (contains_head g later)) in
    (g, has, x)

-- in the echelon form, or as the others are reduced by it
pub echelon_passes : (lines rays : List (List ℤ)) (error : RowError) → IsEchelonExcess lines error → OnExcess (CanonicalPasses lines rays) error
echelon_passes lines rays (Excess e) x = inl x
echelon_passes lines rays Memory x = tt

pub reduction_passes : (lines rays form : List (List ℤ)) (error : RowError) → IsEchelonOf form lines → AnyReductionExcess form rays error → OnExcess (CanonicalPasses lines rays) error
reduction_passes lines rays form (Excess e) is x = inr (form, is, x)
reduction_passes lines rays form Memory is x = tt

-- of all that is moved
pub substitution_forms : (k : ℕ) (form : List ℤ) (rows : List LinearRow) (error : RowError) →
    OnExcess (λ e. (g : LinearRow) × Contains rows g × (checked_substitution k form g.row ≡ Err e)) error → OnExcess (SubstitutionPasses k form rows) error
substitution_forms k form rows (Excess e) h = inl h
substitution_forms k form rows Memory h = tt

pub substitution_canonical : (k : ℕ) (form : List ℤ) (rows : List LinearRow) (lines rays : List (List ℤ)) (error : RowError) → lines ≡ map (substituted k form) (lines_of rows) →
    rays ≡ map (substituted k form) (rays_of rows) → OnExcess (CanonicalPasses lines rays) error → OnExcess (SubstitutionPasses k form rows) error
substitution_canonical k form rows lines rays Memory el er h = tt
substitution_canonical k form rows lines rays (Excess e) el er h = inr (subst (λ (l : List (List ℤ)). CanonicalPasses l (map (substituted k form) (rays_of rows)) e) el
    (subst (λ (l : List (List ℤ)). CanonicalPasses lines l e) er h))

pub assignment_forms : (k : ℕ) (form : List ℤ) (generators : List LinearRow) (error : RowError) →
    OnExcess (λ e. (g : LinearRow) × Contains generators g × (checked_product form g.row ≡ Err e)) error → OnExcess (AssignmentPasses k form generators) error
assignment_forms k form generators (Excess e) h = inl h
assignment_forms k form generators Memory h = tt

pub assignment_canonical : (k : ℕ) (form : List ℤ) (generators : List LinearRow) (lines rays : List (List ℤ)) (error : RowError) → lines ≡ map (assigned k form) (lines_of generators) →
    rays ≡ map (assigned k form) (rays_of generators) → OnExcess (CanonicalPasses lines rays) error → OnExcess (AssignmentPasses k form generators) error
assignment_canonical k form generators lines rays Memory el er h = tt
assignment_canonical k form generators lines rays (Excess e) el er h = inr (subst (λ (l : List (List ℤ)). CanonicalPasses l (map (assigned k form) (rays_of generators)) e) el
    (subst (λ (l : List (List ℤ)). CanonicalPasses lines l e) er h))
