-- The own list, from what the code has made on the way, and the matrix of its rays.
use Rattle.std.proofs.Common.{◌≡◌, ◌∙◌, ◌+◌, ◌<◌, ◌++◌, ◌∷◌, ℕ, zero, suc, Bool, true, false, List, [], ap, arith, get_or, length, map, refl, subst, sym, ℤ}
use Rattle.std.proofs.lemmas.List.{ext_get_or, get_or-map, length-append, length-map}
use Rattle.lra_description_pair.specs.Crates.lra_canonical.Echelons.{HaveWidth, SameEqualities}
use Rattle.lra_description_pair.specs.Crates.lra_canonical.Irredundant.{AreKept, IsSaturation, WithoutRedundant}
use Rattle.lra_description_pair.specs.Crates.lra_linear_spec.Descriptions.{LinearRow, rows_as, rows_of}
use Rattle.lra_description_pair.specs.Crates.{lra_bits.Matrix.Matrix, lra_bits.Matrix.unmarked, lra_linear_spec.Echelon.IsEchelonOf, lra_linear_spec.Vectors.product}
use Rattle.lra_cone.specs.Cones.{ConeContent, IsCone}
use Rattle.lra_descriptions.specs.Tightness.{tight_at, tight_matrix}
use Rattle.lra_descriptions.proofs.TightLemmas.{tight_values_are}
use Rattle.lra_description_pair.specs.OwnLists.{AllTellTight, AreParts, AreReducedBy, IsOwnList, columns_of}
use Rattle.lra_description_pair.proofs.OwnRows.{as_many, kept_widths}
use Rattle.lra_description_pair.proofs.OwnSaturation.{Made, cone_generators, is_saturation, many_generators, own_canonical}

-- the rows as `drop_redundant` asks for them
made_of : (s : ConeContent) (tight loose form seen reduced : List (List ℤ)) (matrix : Matrix) → IsCone s →
    AreParts s.rays (length s.lines) (rows_of s.taken) tight loose matrix.rows → IsEchelonOf form tight → SameEqualities tight form → HaveWidth (suc s.dims)
    form →
    seen ≡ form → AreReducedBy seen loose reduced → Made s form reduced
made_of s tight loose form seen reduced matrix k parts f same widths ef are = record {
  cone = k;
  is_form = (f.pivots, f.echelon);
  form_widths = widths;
  same = subst (λ (l : List (List ℤ)). SameEqualities l form) parts.is_tight same;
  are_reduced = subst (λ (l : List (List ℤ)). AreReducedBy form l reduced) parts.is_loose
      (subst (λ (l : List (List ℤ)). AreReducedBy l loose reduced) ef are);
}

saturated_so : (s : ConeContent) (tight loose form reduced : List (List ℤ)) (matrix : Matrix) (n : ℕ) →
    AreParts s.rays (length s.lines) (rows_of s.taken) tight loose matrix.rows → Made s form reduced → n ≡ suc s.dims → HaveWidth n reduced →
    IsSaturation (suc s.dims) form (cone_generators s) reduced matrix
saturated_so s tight loose form reduced matrix n parts made en wide =
    is_saturation s form reduced matrix made (subst (λ (i : ℕ). HaveWidth i reduced) en wide)
    (subst (λ (l : List (List ℤ)). AllTellTight s.rays (length s.lines) l matrix.rows) parts.is_loose parts.told)

pub own_made : (s : ConeContent) (tight loose form seen reduced kept : List (List ℤ)) (matrix left : Matrix) (n : ℕ) → IsCone s →
    AreParts s.rays (length s.lines) (rows_of s.taken) tight loose matrix.rows → IsEchelonOf form tight → SameEqualities tight form → HaveWidth (suc s.dims)
    form →
    seen ≡ form → AreReducedBy seen loose reduced → n ≡ suc s.dims → HaveWidth n reduced → AreKept reduced kept matrix left → WithoutRedundant reduced matrix
    kept →
    IsOwnList s form kept
own_made s tight loose form seen reduced kept matrix left n k parts f same widths ef are en wide x without =
    let made = made_of s tight loose form seen reduced matrix k parts f same widths ef are in
    let all : HaveWidth (suc s.dims) reduced = subst (λ (i : ℕ). HaveWidth i reduced) en wide in
    own_canonical s form reduced kept made (kept_widths (suc s.dims) x.marks reduced kept x.rows_kept all)
    (without (suc s.dims) form (cone_generators s) (saturated_so s tight loose form reduced matrix n parts made en wide))

-- ---- the matrix of the rows that stay
-- the generator at a place is the ray or line there
generator_row : (b q : Bool) (rays lines : List (List ℤ)) (j : ℕ) (g : LinearRow) → j < length rays + length lines →
    (get_or (rows_as b rays ++ rows_as q lines) j g).row ≡ get_or (rays ++ lines) j []
generator_row b q [] [] j g h = absurd (omega (arith, h))
generator_row b q [] (l ∷ lines) zero g h = refl
generator_row b q [] (l ∷ lines) (suc j) g h = generator_row b q [] lines j g (omega (arith, h))
generator_row b q (r ∷ rays) lines zero g h = refl
generator_row b q (r ∷ rays) lines (suc j) g h = generator_row b q rays lines j g (omega (arith, h))

unmarked_map : {A B : Type 0} (f : A → B) (marks : List Bool) (rows : List A) → unmarked marks (map f rows) ≡ map f (unmarked marks rows)
unmarked_map f marks [] = refl
unmarked_map f [] (r ∷ rows) = refl
unmarked_map f (true ∷ marks) (r ∷ rows) = unmarked_map f marks rows
unmarked_map {B = B} f (false ∷ marks) (r ∷ rows) = ap (λ (l : List B). f r ∷ l) (unmarked_map f marks rows)

-- a row of the matrix says where the reduced row vanishes
row_told : (s : ConeContent) (form reduced : List (List ℤ)) (matrix : Matrix) → IsSaturation (suc s.dims) form (cone_generators s) reduced matrix → (i : ℕ) →
    i <
    length reduced →
    get_or matrix.rows i [] ≡ tight_at (columns_of s) (get_or reduced i [])
row_told s form reduced matrix x i h =
    let nothing : LinearRow = record { row = []; equal = true } in
    let many : length (columns_of s) ≡ length s.rays + length s.lines = length-append s.rays s.lines in
    tight_values_are (columns_of s) (get_or reduced i []) (get_or matrix.rows i []) (x.columns i h ∙ many_generators s ∙ sym many) (λ j l.
    let at : j < length s.rays + length s.lines = omega (arith, l, many) in
    let is = generator_row false true s.rays s.lines j nothing at in
    let told = x.tight i j nothing h (omega (arith, at, many_generators s)) in (
      (λ e. ap (product (get_or reduced i [])) (sym is) ∙ told.0 e),
      (λ e. told.1 (ap (product (get_or reduced i [])) is ∙ e)),
    ))

pub own_matrix : (s : ConeContent) (tight loose form seen reduced kept : List (List ℤ)) (matrix left : Matrix) (n : ℕ) → IsCone s →
    AreParts s.rays (length s.lines) (rows_of s.taken) tight loose matrix.rows → IsEchelonOf form tight → SameEqualities tight form → HaveWidth (suc s.dims)
    form →
    seen ≡ form → AreReducedBy seen loose reduced → n ≡ suc s.dims → HaveWidth n reduced → matrix.width ≡ length s.rays + length s.lines → AreKept reduced kept
    matrix left →
    left ≡ tight_matrix (columns_of s) kept
own_matrix s tight loose form seen reduced kept matrix left n k parts f same widths ef are en wide ew x =
    let made = made_of s tight loose form seen reduced matrix k parts f same widths ef are in
    let saturation = saturated_so s tight loose form reduced matrix n parts made en wide in
    let many : length matrix.rows ≡ length reduced = as_many s.rays (length s.lines) seen loose reduced matrix.rows parts.told are in
    let told : matrix.rows ≡ map (tight_at (columns_of s)) reduced = ext_get_or [] matrix.rows (map (tight_at (columns_of s)) reduced)
    (many ∙ sym (length-map reduced (tight_at (columns_of s))))
    (λ i h.
    let l : i < length reduced = omega (arith, h, many) in
    row_told s form reduced matrix saturation i l ∙ sym (get_or-map (tight_at (columns_of s)) reduced i [] [] l)) in
    ap (λ (w : ℕ). (let m : Matrix = record { width = w; rows = left.rows } in m)) (x.same_width ∙ ew ∙ sym (length-append s.rays s.lines)) ∙
    ap (λ (l : List (List Bool)). (let m : Matrix = record { width = length (columns_of s); rows = l } in m))
    (x.bits_kept ∙ ap (unmarked x.marks) told ∙ unmarked_map (tight_at (columns_of s)) x.marks reduced ∙ ap (map (tight_at (columns_of s))) (sym x.rows_kept))
