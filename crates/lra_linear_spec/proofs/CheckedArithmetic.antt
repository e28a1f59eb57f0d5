-- What checked arithmetic on rows answers: an Ok is the product, or the sum of the two multiples, and in the range.
use Rattle.std.proofs.Common.{◌≡◌, List, [], ◌∷◌, refl, ap, subst, sym, ◌∙◌, pos, ℤ, ◌+ℤ◌, ◌*ℤ◌, arith, Bool, true, false, cond, Result, Ok, Err, IfOk}
use Rattle.std.proofs.{Math.IntN.+ℤ_assoc, Math.IntN.+ℤ_idr, Math.IntN.+ℤ_idl, lemmas.Bool.Decides.nat_tests, lemmas.List.Elements.All-from_recursion}
use Rattle.std.specs.List.{All, AllByRecursion}
use Rattle.lra_linear_spec.specs.CheckedArithmetic.{checked_product_from, checked_product, checked_entry, then_rest, checked_blend}
use Rattle.lra_linear_spec.specs.{Range.InRange, Range.in_range, Vectors.product, Vectors.blend, declared.Excess.Excess}
use Rattle.lra_linear_spec.proofs.Products.{product_none}

-- the test decides the range
pub in_range_yes : (z : ℤ) → InRange z → in_range z ≡ true
in_range_yes z h = grind (arith, nat_tests)

pub in_range_no : (z : ℤ) → ¬ (InRange z) → in_range z ≡ false
in_range_no z h = grind (arith, nat_tests)

-- ---- products
abbrev Number : Type 0
Number = Result ℤ Excess

ok_same : (a b : ℤ) → (let r : Number = Ok a in r) ≡ Ok b → a ≡ b
ok_same a b e = cc

product_tests : (s x y q p : ℤ) (rest : Number) (b d : Bool) (f g : Excess) → (rest ≡ Ok p → p ≡ (s +ℤ (x *ℤ y)) +ℤ q) →
    cond {A = Number} b (cond {A = Number} d rest (Err f)) (Err g) ≡ Ok p → p ≡ s +ℤ ((x *ℤ y) +ℤ q)
product_tests s x y q p rest true true f g ih e = ih e ∙ +ℤ_assoc s (x *ℤ y) q
product_tests s x y q p rest true false f g ih e = cc
product_tests s x y q p rest false d f g ih e = cc

-- an Ok is the sum so far and the product
pub checked_product_from_is : (s : ℤ) (xs ys : List ℤ) (p : ℤ) → checked_product_from s xs ys ≡ Ok p → p ≡ s +ℤ product xs ys
checked_product_from_is s [] ys p e = ok_same p s (sym e) ∙ sym (+ℤ_idr s)
checked_product_from_is s (x ∷ xs) [] p e = ok_same p s (sym e) ∙ sym (+ℤ_idr s) ∙ ap (λ z. s +ℤ z) (sym (product_none (x ∷ xs)))
checked_product_from_is s (x ∷ xs) (y ∷ ys) p e =
    product_tests s x y (product xs ys) p (checked_product_from (s +ℤ (x *ℤ y)) xs ys) (in_range (x *ℤ y)) (in_range (s +ℤ (x *ℤ y))) _ _ (checked_product_from_is (s +ℤ (x *ℤ y)) xs ys p) e

range_tests : (m n p : ℤ) (rest : Number) (b d : Bool) (f g : Excess) → d ≡ in_range n → (InRange n → rest ≡ Ok p → InRange p) → cond {A = Number} b (cond {A = Number} d rest (Err f)) (Err g) ≡ Ok p →
    InRange p
range_tests m n p rest true true f g t ih e = ih (grind (arith, nat_tests)) e
range_tests m n p rest true false f g t ih e = cc
range_tests m n p rest false d f g t ih e = cc

-- and is in the range
pub checked_product_from_in : (s : ℤ) (xs ys : List ℤ) (p : ℤ) → InRange s → checked_product_from s xs ys ≡ Ok p → InRange p
checked_product_from_in s [] ys p h e = subst InRange (ok_same s p e) h
checked_product_from_in s (x ∷ xs) [] p h e = subst InRange (ok_same s p e) h
checked_product_from_in s (x ∷ xs) (y ∷ ys) p h e =
    range_tests (x *ℤ y) (s +ℤ (x *ℤ y)) p (checked_product_from (s +ℤ (x *ℤ y)) xs ys) (in_range (x *ℤ y)) (in_range (s +ℤ (x *ℤ y))) _ _ refl
    (λ k f. checked_product_from_in (s +ℤ (x *ℤ y)) xs ys p k f) e

-- an Ok is the product
pub checked_product_value : (xs ys : List ℤ) (r : Number) → r ≡ checked_product xs ys → IfOk r (λ p. p ≡ product xs ys)
checked_product_value xs ys (Ok p) e = checked_product_from_is (pos 0) xs ys p (sym e) ∙ +ℤ_idl (product xs ys)
checked_product_value xs ys (Err f) e = tt

-- and it is in the range
pub checked_product_in_range : (xs ys : List ℤ) (r : Number) → r ≡ checked_product xs ys → IfOk r InRange
checked_product_in_range xs ys (Ok p) e = checked_product_from_in (pos 0) xs ys p (omega arith) (sym e)
checked_product_in_range xs ys (Err f) e = tt

-- ---- the sum of two multiples
entry_tests : (x e : ℤ) (f g h : Excess) (p q r : Bool) → cond {A = Number} p (cond {A = Number} q (cond {A = Number} r (Ok x) (Err f)) (Err g)) (Err h) ≡ Ok e → e ≡ x
entry_tests x e f g h true true true k = cc
entry_tests x e f g h true true false k = cc
entry_tests x e f g h true false r k = cc
entry_tests x e f g h false q r k = cc

-- one column of the sum of multiples
checked_entry_is : (a b u v e : ℤ) → checked_entry a b u v ≡ Ok e → e ≡ (a *ℤ u) +ℤ (b *ℤ v)
checked_entry_is a b u v e f = entry_tests ((a *ℤ u) +ℤ (b *ℤ v)) e _ _ _ (in_range (a *ℤ u)) (in_range (b *ℤ v)) (in_range ((a *ℤ u) +ℤ (b *ℤ v))) f

parts_is : (z : ℤ) (zs rs : List ℤ) (x : Number) (xs : Result (List ℤ) Excess) → ((y : ℤ) → x ≡ Ok y → y ≡ z) → ((ys : List ℤ) → xs ≡ Ok ys → ys ≡ zs) → then_rest x xs ≡ Ok rs → rs ≡ z ∷ zs
parts_is z zs rs (Err f) xs h k r = cc
parts_is z zs rs (Ok y) (Err f) h k r = cc
parts_is z zs rs (Ok y) (Ok ys) h k r =
    let p : y ≡ z = h y refl in
    let q : ys ≡ zs = k ys refl in cc

-- an Ok is the sum of the two multiples
pub checked_blend_is : (a b : ℤ) (us vs rs : List ℤ) → checked_blend a b us vs ≡ Ok rs → rs ≡ blend a b us vs
checked_blend_is a b [] vs rs e = cc
checked_blend_is a b (u ∷ us) [] rs e = cc
checked_blend_is a b (u ∷ us) (v ∷ vs) rs e = parts_is ((a *ℤ u) +ℤ (b *ℤ v)) (blend a b us vs) rs (checked_entry a b u v) (checked_blend a b us vs) (checked_entry_is a b u v)
    (checked_blend_is a b us vs) e

entry_in : (x e : ℤ) (f g h : Excess) (p q r : Bool) → r ≡ in_range x → cond {A = Number} p (cond {A = Number} q (cond {A = Number} r (Ok x) (Err f)) (Err g)) (Err h) ≡ Ok e → InRange e
entry_in x e f g h true true true l k = let i : e ≡ x = cc in subst InRange (sym i) (grind (arith, nat_tests))
entry_in x e f g h true true false l k = cc
entry_in x e f g h true false r l k = cc
entry_in x e f g h false q r l k = cc

parts_in : (rs : List ℤ) (x : Number) (xs : Result (List ℤ) Excess) → ((y : ℤ) → x ≡ Ok y → InRange y) → ((ys : List ℤ) → xs ≡ Ok ys → AllByRecursion InRange ys) → then_rest x xs ≡ Ok rs →
    AllByRecursion InRange rs
parts_in rs (Err f) xs h k r = cc
parts_in rs (Ok y) (Err f) h k r = cc
parts_in rs (Ok y) (Ok ys) h k r = let e : y ∷ ys ≡ rs = cc in subst (AllByRecursion InRange) e (h y refl, k ys refl)

in_by_recursion : (a b : ℤ) (us vs rs : List ℤ) → checked_blend a b us vs ≡ Ok rs → AllByRecursion InRange rs
in_by_recursion a b [] vs rs e = let k : [] ≡ rs = cc in subst (AllByRecursion InRange) k tt
in_by_recursion a b (u ∷ us) [] rs e = let k : [] ≡ rs = cc in subst (AllByRecursion InRange) k tt
in_by_recursion a b (u ∷ us) (v ∷ vs) rs e =
    parts_in rs (checked_entry a b u v) (checked_blend a b us vs)
    (λ y p. entry_in ((a *ℤ u) +ℤ (b *ℤ v)) y _ _ _ (in_range (a *ℤ u)) (in_range (b *ℤ v)) (in_range ((a *ℤ u) +ℤ (b *ℤ v))) refl p) (in_by_recursion a b us vs) e

-- and its entries are in the range
pub checked_blend_in_range : (a b : ℤ) (us vs rs : List ℤ) → checked_blend a b us vs ≡ Ok rs → All InRange rs
checked_blend_in_range a b us vs rs e = All-from_recursion InRange rs (in_by_recursion a b us vs rs e)
