-- What the code of echelon forms computes, step by step.
use Rattle.std.proofs.Common.{◌≡◌, ℕ, zero, suc, ◌+◌, ◌<◌, ◌≤◌, false, List, [], ◌∷◌, ◌++◌, length, All, take, drop, get_or, refl, ap, sym, ◌∙◌, subst, pos, negsuc, ℤ, ◌<ℤ◌, arith, inl, inr, Option}
use Rattle.std.proofs.Common.{Some, FitsSigned, of_z, to_z}
use Rattle.std.proofs.{lemmas.Int.ints, lemmas.Int.to_z-of_z, lemmas.List.take_more, lemmas.List.get_or-take, lemmas.List.get_or-drop, lemmas.List.length-take-le, lemmas.List.length-drop}
use borrow.Author.Tests.{ltb-false}
use Rattle.std.specs.{Int.w128, Int.Signed.lt_z}
use Rattle.lra_canonical.specs.Crates.{lra_linear_spec.Echelon.Before, lra_linear_spec.Echelon.pivot, lra_linear_spec.Vectors.entry, lra_linear_spec.Vectors.negated}
use Rattle.lra_canonical.proofs.Crates.lra_linear_spec.Products.{negated_length}
use Rattle.lra_row.specs.{declared.error.RowError.RowError, declared.error.RowError.TheVariants.Excess, declared.error.RowError.TheVariants.Memory}
use Rattle.lra_canonical.specs.Echelons.{IsDirected, AreCleared, IsClearedExcess, StartsAfter, IsPlaced, IsInserted, InsertionPasses, IsInsertionExcess, IsExtended, IsExtensionExcess}
use Rattle.lra_canonical.specs.Reduced.{IsCleared, IsClearingExcess, IsReducedBy, IsChainEnd, IsFirstExcess}
use Rattle.lra_canonical.proofs.{Chains.split_at, Extension.zero_at_pivot, Extension.negated_leads}

-- ---- the direction of a row
pub directed_zero : (r : List ℤ) (p : ℕ) (x : ℤ) → p ≡ pivot r → x ≡ entry r p → FitsSigned w128 x → of_z w128 x ≡ 0 → (j : ℕ) → entry r j ≡ pos 0
directed_zero r p x e f fx z = zero_at_pivot r (sym (f ∙ ap (entry r) e) ∙ sym (to_z-of_z w128 x fx) ∙ ap (to_z w128) z ∙ omega (arith, ints))

below_zero : (x : ℤ) → ¬ (x ≡ pos 0) → lt_z (pos 0) x ≡ false → x <ℤ pos 0
below_zero (negsuc n) h e = omega (arith, ints)
below_zero (pos n) h e = absurd (let l = ltb-false 0 n e in let z : n ≡ 0 = omega (arith, l) in h (ap pos z))

pub directed_negative : (r n : List ℤ) (p : ℕ) (x : ℤ) → p ≡ pivot r → x ≡ entry r p → ¬ (of_z w128 x ≡ 0) → lt_z (pos 0) x ≡ false → n ≡ negated r → IsDirected r (Some n)
directed_negative r n p x e f h l g =
    let at : x ≡ entry r (pivot r) = f ∙ ap (entry r) e in
    let below = below_zero x (λ z. h (ap (of_z w128) z ∙ refl)) l in
    (subst (λ (y : List ℤ). pos 0 <ℤ entry y (pivot y)) (sym g) (negated_leads r (subst (λ z. z <ℤ pos 0) at below)), inr g)

-- ---- rows cleared one after the other
cleared_push : (line : List ℤ) (rows out : List (List ℤ)) (row next : List ℤ) → AreCleared line rows out → IsCleared line row next → AreCleared line (rows ++ row ∷ []) (out ++ next ∷ [])
cleared_push line [] [] row next a c = (c, tt)
cleared_push line [] (t ∷ out) row next a c = absurd a
cleared_push line (r ∷ rows) [] row next a c = absurd a
cleared_push line (r ∷ rows) (t ∷ out) row next a c = (a.0, cleared_push line rows out row next a.1 c)

pub cleared_more : (line : List ℤ) (rows out new : List (List ℤ)) (i : ℕ) (row next : List ℤ) → i < length rows → row ≡ get_or rows i row → new ≡ out ++ next ∷ [] → AreCleared line (take i rows) out →
    IsCleared line row next → AreCleared line (take (i + 1) rows) new
cleared_more line rows out new i row next h g n a c =
    let more : take i rows ++ row ∷ [] ≡ take (i + 1) rows = ap (λ (x : List ℤ). take i rows ++ x ∷ []) g ∙ sym (take_more rows i row h) in
    subst (λ (xs : List (List ℤ)). AreCleared line xs new) more (subst (λ (ys : List (List ℤ)). AreCleared line (take i rows ++ row ∷ []) ys) (sym n)
    (cleared_push line (take i rows) out row next a c))

pub cleared_passes : (line : List ℤ) (rows out : List (List ℤ)) (i : ℕ) (row : List ℤ) (e : RowError) → i < length rows → row ≡ get_or rows i row → AreCleared line (take i rows) out →
    IsClearingExcess line row e → IsClearedExcess line rows e
cleared_passes line rows out i row Memory h g a x = tt
cleared_passes line rows out i row (Excess e) h g a x = record {
  earlier = take i rows;
  row = row;
  later = drop (i + 1) rows;
  is = split_at rows i row h g;
  made = out;
  cleared = a;
  cancels = x.0;
  passes = x.1;
}

-- ---- the line's place
split_list : (rows : List (List ℤ)) (i : ℕ) → rows ≡ take i rows ++ drop i rows
split_list rows zero = refl
split_list [] (suc i) = refl
split_list (r ∷ rows) (suc i) = ap (λ (xs : List (List ℤ)). r ∷ xs) (split_list rows i)

starts_behind : (rows : List (List ℤ)) (line : List ℤ) → (0 < length rows → ¬ (Before (pivot (get_or rows 0 [])) (pivot line))) → StartsAfter line rows
starts_behind [] line h = tt
starts_behind (r ∷ rows) line h = h (omega arith)

pub place_is : (form : List (List ℤ)) (line : List ℤ) (low high : List (List ℤ)) (place column : ℕ) → column ≡ pivot line → place ≤ length form →
    ((k : ℕ) → k < place → Before (pivot (get_or form k [])) column) →
    (place < length form → ¬ (Before (pivot (get_or form place [])) column)) → low ≡ take place form → high ≡ drop place form → IsPlaced form line low high
place_is form line low high place column e inside before behind l h = record {
  is = split_list form place ∙ ap (λ (xs : List (List ℤ)). xs ++ drop place form) (sym l) ∙ ap (λ (xs : List (List ℤ)). low ++ xs) (sym h);
  before = λ r k.
      let few : length low ≡ place = ap length l ∙ length-take-le place form inside in
      let i : k.0 < place = omega (arith, k.1, few) in
      let at : get_or form k.0 [] ≡ r = sym (ap (λ (xs : List (List ℤ)). get_or xs k.0 []) l ∙ get_or-take place form k.0 [] i) ∙ same_default low k.0 r k.1 k.2 in
      subst (λ (x : List ℤ). Before (pivot x) (pivot line)) at (subst (λ (n : ℕ). Before (pivot (get_or form k.0 [])) n) e (before k.0 i));
  behind = starts_behind high line (λ m.
      let many : length high ≡ length (drop place form) = ap length h in
      let more : place < length form = omega (arith, m, many, length-drop place form) in
      let zeroth : place + 0 ≡ place = omega arith in
      let at : get_or high 0 [] ≡ get_or form place [] = ap (λ (xs : List (List ℤ)). get_or xs 0 []) h ∙ get_or-drop place form 0 [] ∙ ap (λ n. get_or form n []) zeroth in
      λ b. behind more (subst (λ (n : ℕ). Before (pivot (get_or form place [])) n) (sym e) (subst (λ (x : List ℤ). Before (pivot x) (pivot line)) at b)));
}
  where
    same_default : (rows : List (List ℤ)) (i : ℕ) (r : List ℤ) → i < length rows → get_or rows i r ≡ r → get_or rows i [] ≡ r
    same_default [] i r h g = absurd (omega (arith, h))
    same_default (x ∷ rows) zero r h g = g
    same_default (x ∷ rows) (suc i) r h g = same_default rows i r (omega (arith, h)) g

pub inserted_excess : (form : List (List ℤ)) (line : List ℤ) (low high : List (List ℤ)) (e : RowError) → IsPlaced form line low high → IsClearedExcess line low e → IsInsertionExcess form line e
inserted_excess form line low high Memory p x = tt
inserted_excess form line low high (Excess e) p x = record { low = low; high = high; placed = p; passes = x }

pub inserted_ok : (form : List (List ℤ)) (line : List ℤ) (low high new more out : List (List ℤ)) → IsPlaced form line low high → AreCleared line low new → more ≡ new ++ line ∷ [] →
    out ≡ more ++ high → IsInserted form line out
inserted_ok form line low high new more out p c m o = record {
  low = low;
  high = high;
  placed = p;
  new = new;
  cleared = c;
  result = o ∙ ap (λ (xs : List (List ℤ)). xs ++ high) m ∙
      behind new line high;
}
  where
    behind : (xs : List (List ℤ)) (x : List ℤ) (ys : List (List ℤ)) → (xs ++ x ∷ []) ++ ys ≡ xs ++ x ∷ ys
    behind [] x ys = refl
    behind (z ∷ xs) x ys = ap (λ (zs : List (List ℤ)). z ∷ zs) (behind xs x ys)

-- ---- the whole step
pub directed_at : (rest line : List ℤ) (o : Option (List ℤ)) → o ≡ Some line → IsDirected rest o → IsDirected rest (Some line)
directed_at rest line o e d = subst (λ (x : Option (List ℤ)). IsDirected rest x) e d

pub directed_width : (rest line : List ℤ) → IsDirected rest (Some line) → length line ≡ length rest
directed_width rest line d = elim d.1 [ inl e ↦ ap length e | inr e ↦ ap length e ∙ negated_length rest ]

-- the form is read twice
pub extended_ok : (form seen again : List (List ℤ)) (row rest line : List ℤ) (out : List (List ℤ)) → seen ≡ form → again ≡ form → IsReducedBy seen row rest → IsChainEnd seen row rest →
    IsDirected rest (Some line) → IsInserted again line out → IsExtended form row out
extended_ok form seen again row rest line out e f r c d i = record {
  rest = rest;
  reduced = subst (λ (rows : List (List ℤ)). IsReducedBy rows row rest) e r;
  chain = subst (λ (rows : List (List ℤ)). IsChainEnd rows row rest) e c;
  extended = inr (line, d, subst (λ (rows : List (List ℤ)). IsInserted rows line out) f i);
}

pub extended_excess : (form seen again : List (List ℤ)) (row rest line : List ℤ) (e : RowError) → seen ≡ form → again ≡ form → IsReducedBy seen row rest → IsChainEnd seen row rest →
    IsDirected rest (Some line) → IsInsertionExcess again line e → IsExtensionExcess form row e
extended_excess form seen again row rest line Memory s t r c d i = tt
extended_excess form seen again row rest line (Excess e) s t r c d i =
    inr (record {
      rest = rest;
      reduced = subst (λ (rows : List (List ℤ)). IsReducedBy rows row rest) s r;
      chain = subst (λ (rows : List (List ℤ)). IsChainEnd rows row rest) s c;
      line = line;
      directed = d;
      passes = subst (λ (rows : List (List ℤ)). InsertionPasses rows line e) t i;
    })

pub width_same : (form again : List (List ℤ)) (row rest line : List ℤ) → again ≡ form → All (λ r. length r ≡ length row) form → length rest ≡ length row → IsDirected rest (Some line) →
    All (λ r. length r ≡ length line) again
width_same form again row rest line e w l d =
    subst (λ (rows : List (List ℤ)). All (λ r. length r ≡ length line) rows) (sym e) (subst (λ (n : ℕ). All (λ r. length r ≡ n) form) (sym (directed_width rest line d ∙ l)) w)

pub reducing_excess : (form : List (List ℤ)) (row : List ℤ) (e : RowError) → IsFirstExcess form row e → IsExtensionExcess form row e
reducing_excess form row Memory x = tt
reducing_excess form row (Excess e) x = inl x
