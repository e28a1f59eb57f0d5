-- Checked arithmetic answers an excess exactly if one of its operations passes the range: the first that does.
use Rattle.std.proofs.Common.{arith, ◌≡◌, List, [], ◌∷◌, ◌++◌, ap, sym, ◌∙◌, refl, subst, pos, ℤ, ◌+ℤ◌, ◌*ℤ◌, neg_ℤ, Bool, true, false, cond, Result, Ok, Err, IfOk, IfErr, append_assoc}
use Rattle.std.proofs.{lemmas.Bool.Decides.nat_tests, lemmas.List.Elements.All-nil, lemmas.List.Elements.All-cons, lemmas.List.Elements.All-append}
use Rattle.std.specs.List.{All}
use Rattle.lra_linear_spec.specs.CheckedArithmetic.{checked_product_from, checked_product, then_rest, checked_blend, and_then, checked_added, checked_combination}
use Rattle.lra_linear_spec.specs.{Range.in_range, Vectors.product, declared.Excess.Excess, declared.Operation.TheVariants.Product, declared.Operation.TheVariants.Sum}
use Rattle.lra_linear_spec.proofs.CheckedArithmetic.{checked_product_value, checked_product_in_range, checked_blend_is, checked_blend_in_range}
use Rattle.lra_row.specs.Operations.{result_of, Fits, NamesFirst, IsFirstNamed, NamesFirstOrMemory, product_operations_from, product_operations, blend_operations, added_operations}
use Rattle.lra_row.specs.{Rows.IsExcessOf, Rows.combination_operations, declared.error.RowError.RowError}
use Rattle.lra_row.specs.declared.error.RowError.TheVariants as of_row

-- ---- one operation more
later_by : {A : Type 0} (o : Excess) (operations : List Excess) (r : Result A Excess) → Fits o → NamesFirst operations r → NamesFirst (o ∷ operations) r
later_by o operations (Ok x) f h = All-cons Fits o operations f h
later_by o operations (Err e) f h = record { earlier = o ∷ h.earlier; later = h.later; is = ap (λ os. o ∷ os) h.is; fit = All-cons Fits o h.earlier f h.fit; passes = h.passes }

operation_first : {A : Type 0} (o : Excess) (operations : List Excess) (r : Result A Excess) → NamesFirst operations r →
    NamesFirst (o ∷ operations) (cond (in_range (result_of o.op o.left o.right)) r (Err o))
operation_first {A} o operations r h = by_test (in_range (result_of o.op o.left o.right)) refl
  where
    by_test : (b : Bool) → b ≡ in_range (result_of o.op o.left o.right) → NamesFirst {A = A} (o ∷ operations) (cond b r (Err o))
    by_test true e = later_by o operations r (grind (arith, nat_tests)) h
    by_test false e = record { earlier = []; later = operations; is = refl; fit = All-nil Fits; passes = λ f. grind (arith, nat_tests) }

by_value : {A : Type 0} (operations : List Excess) (r q : Result A Excess) → r ≡ q → NamesFirst operations q → NamesFirst operations r
by_value {A} operations r q e h = subst (λ (x : Result A Excess). NamesFirst operations x) (sym e) h

-- ---- the product of two rows
names_product_from : (s : ℤ) (xs ys : List ℤ) → NamesFirst (product_operations_from s xs ys) (checked_product_from s xs ys)
names_product_from s [] ys = All-nil Fits
names_product_from s (x ∷ xs) [] = All-nil Fits
names_product_from s (x ∷ xs) (y ∷ ys) =
    let times : Excess = record { op = Product; left = x; right = y } in
    let plus : Excess = record { op = Sum; left = s; right = x *ℤ y } in
    let later = product_operations_from (s +ℤ (x *ℤ y)) xs ys in
    operation_first times (plus ∷ later) _ (operation_first plus later _ (names_product_from (s +ℤ (x *ℤ y)) xs ys))

pub product_names_first : (xs ys : List ℤ) (r : Result ℤ Excess) → r ≡ checked_product xs ys → NamesFirst (product_operations xs ys) r
product_names_first xs ys r e = by_value (product_operations xs ys) r (checked_product xs ys) e (names_product_from (pos 0) xs ys)

-- ---- rows column by column
abbrev Entries : Type 0
Entries = Result (List ℤ) Excess

rest_after : (b : Bool) (o : Excess) (r : Result ℤ Excess) (rest : Entries) → then_rest (cond b r (Err o)) rest ≡ cond {A = Entries} b (then_rest r rest) (Err o)
rest_after true o r rest = refl
rest_after false o r rest = refl

entry_made : (z : ℤ) (operations : List Excess) (rest : Entries) → NamesFirst operations rest → NamesFirst operations (then_rest (Ok z) rest)
entry_made z operations (Ok zs) h = h
entry_made z operations (Err e) h = h

-- the rest of the row after an operation of this column
in_column : (o : Excess) (operations : List Excess) (r : Result ℤ Excess) (rest : Entries) → NamesFirst operations (then_rest r rest) →
    NamesFirst (o ∷ operations) (then_rest (cond (in_range (result_of o.op o.left o.right)) r (Err o)) rest)
in_column o operations r rest h =
    by_value (o ∷ operations) _ _ (rest_after (in_range (result_of o.op o.left o.right)) o r rest) (operation_first o operations (then_rest r rest) h)

pub names_blend : (a b : ℤ) (us vs : List ℤ) → NamesFirst (blend_operations a b us vs) (checked_blend a b us vs)
names_blend a b [] vs = All-nil Fits
names_blend a b (u ∷ us) [] = All-nil Fits
names_blend a b (u ∷ us) (w ∷ vs) =
    let rest = checked_blend a b us vs in
    let later = blend_operations a b us vs in
    let left : Excess = record { op = Product; left = a; right = u } in
    let right : Excess = record { op = Product; left = b; right = w } in
    let plus : Excess = record { op = Sum; left = a *ℤ u; right = b *ℤ w } in
    in_column left (right ∷ plus ∷ later) _ rest
    (in_column right (plus ∷ later) _ rest (in_column plus later _ rest (entry_made ((a *ℤ u) +ℤ (b *ℤ w)) later rest (names_blend a b us vs))))

pub names_added : (b : ℤ) (us vs : List ℤ) → NamesFirst (added_operations b us vs) (checked_added b us vs)
names_added b [] vs = All-nil Fits
names_added b (u ∷ us) [] = All-nil Fits
names_added b (u ∷ us) (w ∷ vs) =
    let rest = checked_added b us vs in
    let later = added_operations b us vs in
    let times : Excess = record { op = Product; left = b; right = w } in
    let plus : Excess = record { op = Sum; left = u; right = b *ℤ w } in
    in_column times (plus ∷ later) _ rest (in_column plus later _ rest (entry_made (u +ℤ (b *ℤ w)) later rest (names_added b us vs)))

-- ---- one calculation after another
pub names_then : {A B : Type 0} (front back : List Excess) (r : Result A Excess) (next : A → Result B Excess) → NamesFirst front r → ((x : A) → r ≡ Ok x → NamesFirst back (next x)) →
    NamesFirst (front ++ back) (and_then r next)
names_then {A} {B} front back (Ok x) next h k = after (next x) (k x refl)
  where
    after : (q : Result B Excess) → NamesFirst back q → NamesFirst (front ++ back) q
    after (Ok y) p = All-append Fits front back h p
    after (Err e) p = record {
      earlier = front ++ p.earlier;
      later = p.later;
      is = ap (λ os. front ++ os) p.is ∙ sym (append_assoc front p.earlier (e ∷ p.later));
      fit = All-append Fits front p.earlier h p.fit;
      passes = p.passes;
    }
names_then front back (Err e) next h k = record {
  earlier = h.earlier;
  later = h.later ++ back;
  is = ap (λ os. os ++ back) h.is ∙ append_assoc h.earlier (e ∷ h.later) back;
  fit = h.fit;
  passes = h.passes;
}

-- ---- calls that may run out of memory
pub names_error : {B : Type 0} (operations : List Excess) (q : Result B Excess) (e : RowError) → NamesFirst operations q → IsExcessOf q e → IsFirstNamed operations e
names_error {B} operations q (of_row.Excess e) n h = subst (λ (z : Result B Excess). NamesFirst operations z) h n
names_error operations q of_row.Memory n h = tt

pub names_made : {B : Type 0} (operations : List Excess) (q : Result B Excess) (x : B) → NamesFirst operations q → q ≡ Ok x → All Fits operations
names_made {B} operations q x n h = subst (λ (z : Result B Excess). NamesFirst operations z) h n

pub names_result : (operations : List Excess) (q : Result (List ℤ) Excess) (r : Result (List ℤ) RowError) → NamesFirst operations q → IfOk r (λ row. q ≡ Ok row) → IfErr r (IsExcessOf q) →
    NamesFirstOrMemory operations r
names_result operations q (Ok row) n h k = names_made operations q row n h
names_result operations q (Err e) n h k = names_error operations q e n k

-- ---- combination
pub names_combination : (u w c : List ℤ) → NamesFirst (combination_operations u w c) (checked_combination u w c)
names_combination u w c =
    names_then (product_operations c u) _ (checked_product c u) (λ above. and_then (checked_product c w) (λ below. checked_blend (neg_ℤ below) above u w)) (names_product_from (pos 0) c u)
    (λ above e. names_then (product_operations c w) _ (checked_product c w) (λ below. checked_blend (neg_ℤ below) above u w) (names_product_from (pos 0) c w)
    (λ below f. subst (λ (a : ℤ). NamesFirst (blend_operations (neg_ℤ a) (product c u) u w) (checked_blend (neg_ℤ below) above u w)) (value c w below f)
    (subst (λ (b : ℤ). NamesFirst (blend_operations (neg_ℤ below) b u w) (checked_blend (neg_ℤ below) above u w)) (value c u above e) (names_blend (neg_ℤ below) above u w))))
  where
    value : (xs ys : List ℤ) (p : ℤ) → checked_product xs ys ≡ Ok p → p ≡ product xs ys
    value xs ys p e = checked_product_value xs ys (Ok p) (sym e)

pub combination_is : (u w c : List ℤ) (above below : ℤ) → Ok above ≡ checked_product c u → Ok below ≡ checked_product c w → checked_combination u w c ≡ checked_blend (neg_ℤ below) above u w
combination_is u w c above below e f = rw (← e, ← f) refl

pub combination_passes : (u w c : List ℤ) (above : ℤ) (x : Excess) → Ok above ≡ checked_product c u → Err x ≡ checked_product c w → checked_combination u w c ≡ Err x
combination_passes u w c above x e f = rw (← e, ← f) refl

-- what a product's contract follows from, and a blend's
pub ruleset product_rules = (checked_product_value, checked_product_in_range, product_names_first)

pub ruleset blend_rules = (checked_blend_is, checked_blend_in_range)
