-- Lists whose rows are of several kinds.
use Rattle.std.proofs.Common.{◌≡◌, Bool, true, false, List, [], ◌∷◌, ◌++◌, length, map, replicate, refl, ap, ◌∙◌, arith, ℤ}
use Rattle.std.specs.List.{Contains}
use Rattle.lra_descriptions.specs.Crates.lra_linear_spec.Descriptions.{LinearRow, rows_as, system_of}
use Rattle.lra_descriptions.specs.Crates.lra_linear_spec.Kinds.{is_equality, is_line}
use Rattle.lra_descriptions.specs.Crates.lra_linear_spec.declared.GenKind.TheVariants.{Point, Ray, Line}
use Rattle.lra_descriptions.specs.Crates.{lra_linear_spec.Cones.both_ways, lra_linear_spec.Cones.with_row, lra_linear_spec.Vectors.negated, lra_linear_spec.declared.GenKind.GenKind}
use Rattle.lra_descriptions.proofs.Crates.lra_linear_spec.Membership.{contains_head, contains_tail}
use Rattle.lra_systems.specs.LinearSystems.{rows_by_kind, FitsKind, FitKinds}
use Rattle.lra_descriptions.specs.ShownLists.{dual_kind}

pub system_append : (xs ys : List LinearRow) → system_of (xs ++ ys) ≡ system_of xs ++ system_of ys
system_append [] ys = refl
system_append (x ∷ xs) ys = by_kind x.equal (system_append xs ys)
  where
    by_kind : (b : Bool) → system_of (xs ++ ys) ≡ system_of xs ++ system_of ys → with_row b x.row (system_of (xs ++ ys)) ≡ with_row b x.row (system_of xs) ++ system_of ys
    by_kind true e = ap (λ (l : List (List ℤ)). x.row ∷ negated x.row ∷ l) e
    by_kind false e = ap (λ (l : List (List ℤ)). x.row ∷ l) e

pub system_rays : (rows : List (List ℤ)) → system_of (rows_as false rows) ≡ rows
system_rays [] = refl
system_rays (r ∷ rows) = ap (λ (l : List (List ℤ)). r ∷ l) (system_rays rows)

pub system_lines : (rows : List (List ℤ)) → system_of (rows_as true rows) ≡ both_ways rows
system_lines [] = refl
system_lines (r ∷ rows) = ap (λ (l : List (List ℤ)). r ∷ negated r ∷ l) (system_lines rows)

pub given_append : {K : Type 0} (equal : K → Bool) (xs ys : List (List ℤ)) (ks ls : List K) → length xs ≡ length ks →
    rows_by_kind equal (xs ++ ys) (ks ++ ls) ≡ rows_by_kind equal xs ks ++ rows_by_kind equal ys ls
given_append equal [] ys [] ls n = refl
given_append equal [] ys (k ∷ ks) ls n = absurd (omega (arith, n))
given_append equal (x ∷ xs) ys [] ls n = absurd (omega (arith, n))
given_append equal (x ∷ xs) ys (k ∷ ks) ls n = ap (λ (l : List LinearRow). record { row = x; equal = equal k } ∷ l) (given_append equal xs ys ks ls (omega (arith, n)))

pub given_same : {K : Type 0} (equal : K → Bool) (rows : List (List ℤ)) (k : K) → rows_by_kind equal rows (replicate (length rows) k) ≡ rows_as (equal k) rows
given_same equal [] k = refl
given_same equal (r ∷ rows) k = ap (λ (l : List LinearRow). record { row = r; equal = equal k } ∷ l) (given_same equal rows k)

pub fit_append : (xs ys : List (List ℤ)) (ks ls : List GenKind) → length xs ≡ length ks → FitKinds xs ks → FitKinds ys ls → FitKinds (xs ++ ys) (ks ++ ls)
fit_append [] ys [] ls n f g = g
fit_append [] ys (k ∷ ks) ls n f g = absurd (omega (arith, n))
fit_append (x ∷ xs) ys [] ls n f g = absurd (omega (arith, n))
fit_append (x ∷ xs) ys (k ∷ ks) ls n f g = (f.0, fit_append xs ys ks ls (omega (arith, n)) f.1 g)

pub fit_same : (rows : List (List ℤ)) (k : GenKind) → ((r : List ℤ) → Contains rows r → FitsKind k r) → FitKinds rows (replicate (length rows) k)
fit_same [] k f = tt
fit_same (r ∷ rows) k f = (f r (contains_head r rows), fit_same rows k (λ t m. f t (contains_tail r t rows m)))

-- generators as rows of the cone of what is valid on them
pub dual_given : (rows : List (List ℤ)) (kinds : List GenKind) → rows_by_kind is_equality rows (map dual_kind kinds) ≡ rows_by_kind is_line rows kinds
dual_given [] kinds = refl
dual_given (r ∷ rows) [] = refl
dual_given (r ∷ rows) (k ∷ kinds) = ap (λ (l : List LinearRow). record { row = r; equal = is_equality (dual_kind k) } ∷ l) (dual_given rows kinds) ∙
    ap (λ (b : Bool). record { row = r; equal = b } ∷ rows_by_kind is_line rows kinds) (same k)
  where
    same : (k : GenKind) → is_equality (dual_kind k) ≡ is_line k
    same Point = refl
    same Ray = refl
    same Line = refl
