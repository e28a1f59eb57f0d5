-- The order of rows ties only equal rows. The laws of `Ord` cite this.
use Rattle.std.proofs.Common.{◌≡◌, suc, List, [], ◌∷◌, ◌++◌, length, ap, sym, ◌∙◌, refl, ℤ, arith}
use Rattle.std.proofs.lemmas.List.{length-append}
use Rattle.std.specs.FinMap.{IsAntisymmetric, slice_cmp-IsAntisymmetric, int_cmp-IsAntisymmetric}
use Rattle.std.specs.Ordering.{eq_by_cmp, int_eq, is_eq}
use Rattle.std.specs.{Cmp.Equal-is, Cmp.both_ways, Cmp.tied_itself, Cmp.Lexicographic.pointwise, Cmp.Rules.signed_items}
use Rattle.lra_linear_spec.specs.RowOrder.{constant_last, row_cmp}
use Rattle.lra_linear_spec.proofs.RowOrder.{row_cmp_total}

pub constant_last_length : (xs : List ℤ) → length (constant_last xs) ≡ length xs
constant_last_length [] = refl
constant_last_length (x ∷ xs) = length-append xs (x ∷ []) ∙ omega arith

last_same : (xs ys : List ℤ) (x y : ℤ) → xs ++ x ∷ [] ≡ ys ++ y ∷ [] → x ∷ xs ≡ y ∷ ys
last_same [] [] x y e = cc
last_same [] (b ∷ ys) x y e =
    absurd (let n = ap length e ∙ ap suc (length-append ys (y ∷ [])) in omega (arith, n))
last_same (a ∷ xs) [] x y e =
    absurd (let n = sym (ap length e) ∙ ap suc (length-append xs (x ∷ [])) in omega (arith, n))
last_same (a ∷ xs) (b ∷ ys) x y e =
    let h : a ≡ b = cc in
    let t : xs ++ x ∷ [] ≡ ys ++ y ∷ [] = cc in
    let r = last_same xs ys x y t in
    let p : x ≡ y = cc in
    let q : xs ≡ ys = cc in cc

constant_last_same : (xs ys : List ℤ) → constant_last xs ≡ constant_last ys → xs ≡ ys
constant_last_same [] [] e = refl
constant_last_same [] (y ∷ ys) e = absurd (let n = ap length e ∙ length-append ys (y ∷ []) in omega (arith, n))
constant_last_same (x ∷ xs) [] e = absurd (let n = sym (ap length e) ∙ length-append xs (x ∷ []) in omega (arith, n))
constant_last_same (x ∷ xs) (y ∷ ys) e = last_same xs ys x y e

pub row_cmp_ties : IsAntisymmetric row_cmp
row_cmp_ties xs ys e = constant_last_same xs ys
    (slice_cmp-IsAntisymmetric int_cmp-IsAntisymmetric (constant_last xs) (constant_last ys) e)

-- what the order doesn't distinguish is equal, number by number
pub row_eq_by_cmp : (xs ys : List ℤ) → pointwise int_eq xs ys ≡ eq_by_cmp row_cmp xs ys
row_eq_by_cmp xs ys = both_ways (pointwise int_eq xs ys) (eq_by_cmp row_cmp xs ys)
    (λ e. ap (λ r. eq_by_cmp row_cmp r ys) ((signed_items xs ys).0 e) ∙ ap is_eq (tied_itself row_cmp_total ys))
    (λ e. (signed_items xs ys).1 (row_cmp_ties xs ys ((Equal-is (row_cmp xs ys)).0 e)))
