-- What the tests of a row with each generator report.
use Rattle.std.proofs.Common.{Bool, Err, List, Ok, Result, [], ap, arith, cond, false, get_or, inl, inr, length, refl, subst, suc, sym, true, zero, ℕ, ℤ, ◌++◌, ◌<◌, ◌∙◌, ◌∷◌, ◌≡◌, ◌⊎◌, IsOk}
use Rattle.std.proofs.lemmas.Bool.{and_right, and_from}
use Rattle.std.proofs.lemmas.List.Elements.{All-append, All-contains, Contains-append_cases, Contains-append_left, Contains-append_right}
use Rattle.std.specs.{List.All, List.Contains, List.list_all, Prelude.◌&&◌}
use Rattle.lra_poly_widening.specs.Crates.{lra_duality.Inclusions.Satisfies, lra_linear_spec.CheckedArithmetic.checked_product, lra_linear_spec.Descriptions.LinearRow}
use Rattle.lra_poly_widening.specs.Crates.{lra_linear_spec.OperationStrain.valid_on, lra_linear_spec.Polyhedra.Polyhedron, lra_linear_spec.Widening.holds_with, lra_linear_spec.Widening.is_valid}
use Rattle.lra_poly_widening.specs.Crates.lra_linear_spec.declared.Excess as E
use Rattle.lra_poly_widening.proofs.Crates.lra_linear_spec.Membership.{contains_head, contains_tail, list_all_at, list_all_from}
use Rattle.lra_poly_widening.specs.declared.validity.Validity.TheVariants.{Fails, Holds, Wide}
use Rattle.lra_poly_widening.specs.{Rank.fits, Rank.holds_in_range, Rank.kept_thresholds, Validity.IsValidity, declared.validity.Validity.Validity}
use Rattle.lra_poly_widening.proofs.Loops.{filter_step}

-- ---- of two lists
pub both_hold : (xs ys : List LinearRow) (r : LinearRow) (a : Validity) → IsValidity xs r Holds → IsValidity ys r a → IsValidity (xs ++ ys) r a
both_hold xs ys r Holds h k = All-append (λ g. Satisfies g r) xs ys h k
both_hold xs ys r Fails h k = (k.0, Contains-append_right xs ys k.0 k.1, k.2)
both_hold xs ys r (Wide e) h k = (k.0, Contains-append_right xs ys k.0 k.1, k.2)

pub first_fails : (xs ys : List LinearRow) (r : LinearRow) → IsValidity xs r Fails → IsValidity (xs ++ ys) r Fails
first_fails xs ys r k = (k.0, Contains-append_left xs ys k.0 k.1, k.2)

pub first_wide : (xs ys : List LinearRow) (r : LinearRow) (e : E.Excess) → IsValidity xs r (Wide e) → IsValidity (xs ++ ys) r (Wide e)
first_wide xs ys r e k = (k.0, Contains-append_left xs ys k.0 k.1, k.2)

-- ---- holding in the range
ok_fits : {A X : Type 0} (q : Result A X) → IsOk q → fits q ≡ true
ok_fits (Ok x) h = refl
ok_fits (Err e) h = cc

pub holds_said : (p : Polyhedron) (r : LinearRow) → IsValidity p.generators r Holds → true ≡ holds_in_range p r
holds_said p r h = sym (list_all_from (λ g. fits (checked_product r.row g.row) && holds_with r g) p.generators (λ g k.
    let m = All-contains (λ x. Satisfies x r) p.generators g h k in
    and_from (fits (checked_product r.row g.row)) (holds_with r g) (ok_fits (checked_product r.row g.row) m.0) m.1))

one_fails : {A : Type 0} (test : A → Bool) (xs : List A) (x : A) → Contains xs x → test x ≡ false → list_all test xs ≡ false
one_fails test xs x k e = by_value (list_all test xs) refl
  where
    by_value : (b : Bool) → list_all test xs ≡ b → list_all test xs ≡ false
    by_value false h = h
    by_value true h = let t = list_all_at test xs h x k in cc

pub fails_said : (p : Polyhedron) (r : LinearRow) → IsValidity p.generators r Fails → false ≡ holds_in_range p r
fails_said p r k = sym (one_fails (λ g. fits (checked_product r.row g.row) && holds_with r g) p.generators k.0 k.1 (and_right (fits (checked_product r.row k.0.row)) (holds_with r k.0) k.2.1))

pub wide_said : (p : Polyhedron) (r : LinearRow) (e : E.Excess) → IsValidity p.generators r (Wide e) → false ≡ holds_in_range p r
wide_said p r e k = sym (one_fails (λ g. fits (checked_product r.row g.row) && holds_with r g) p.generators k.0 k.1 (ended (holds_with r k.0) (checked_product r.row k.0.row) k.2))
  where
    ended : (b : Bool) (q : Result ℤ E.Excess) → q ≡ Err e → (fits q && b) ≡ false
    ended b (Ok x) h = cc
    ended b (Err x) h = refl

-- ---- a row that no product of which passes before it fails is kept exactly if it is valid on both
get_or-contains : (xs : List LinearRow) (k : ℕ) (d : LinearRow) → k < length xs → Contains xs (get_or xs k d)
get_or-contains [] k d h = absurd (omega (arith, h))
get_or-contains (x ∷ xs) zero d h = contains_head x xs
get_or-contains (x ∷ xs) (suc k) d h = contains_tail x (get_or xs k d) xs (get_or-contains xs k d (omega (arith, h)))

all_from : (xs : List LinearRow) (g : LinearRow) → ((x : LinearRow) → Contains xs x → Satisfies x g) → All (λ y. Satisfies y g) xs
all_from xs g f k d m = f (get_or xs k d) (get_or-contains xs k d m)

holds_both : (p q : Polyhedron) (g : LinearRow) → IsValidity (p.generators ++ q.generators) g Holds → (holds_in_range p g && holds_in_range q g) ≡ (is_valid p g && is_valid q g)
holds_both p q g h =
    by_values (holds_in_range p g) (holds_in_range q g) (is_valid p g) (is_valid q g) (sym (holds_said p g first)) (sym (holds_said q g second)) (valid p first) (valid q second)
  where
    first : IsValidity p.generators g Holds
    first = all_from p.generators g (λ x k. All-contains (λ y. Satisfies y g) (p.generators ++ q.generators) x h (Contains-append_left p.generators q.generators x k))

    second : IsValidity q.generators g Holds
    second = all_from q.generators g (λ x k. All-contains (λ y. Satisfies y g) (p.generators ++ q.generators) x h (Contains-append_right p.generators q.generators x k))

    valid : (p : Polyhedron) → IsValidity p.generators g Holds → is_valid p g ≡ true
    valid p h = list_all_from (holds_with g) p.generators (λ x k. (All-contains (λ y. Satisfies y g) p.generators x h k).1)

    by_values : (a b c d : Bool) → a ≡ true → b ≡ true → c ≡ true → d ≡ true → (a && b) ≡ (c && d)
    by_values true true true true e f x y = refl
    by_values false b c d e f x y = cc
    by_values true false c d e f x y = cc
    by_values true true false d e f x y = cc
    by_values true true true false e f x y = cc

fails_both : (p q : Polyhedron) (g : LinearRow) → IsValidity (p.generators ++ q.generators) g Fails → (holds_in_range p g && holds_in_range q g) ≡ (is_valid p g && is_valid q g)
fails_both p q g k = elim (Contains-append_cases p.generators q.generators k.0 k.1) [
  | inl a ↦ firsts (holds_in_range p g) (holds_in_range q g) (is_valid p g) (is_valid q g) (sym (fails_said p g (k.0, a, k.2))) (one_fails (holds_with g) p.generators k.0 a k.2.1)
  | inr a ↦ seconds (holds_in_range p g) (holds_in_range q g) (is_valid p g) (is_valid q g) (sym (fails_said q g (k.0, a, k.2))) (one_fails (holds_with g) q.generators k.0 a k.2.1)
]
  where
    firsts : (a b c d : Bool) → a ≡ false → c ≡ false → (a && b) ≡ (c && d)
    firsts false b false d e f = refl
    firsts true b c d e f = cc
    firsts false b true d e f = cc

    seconds : (a b c d : Bool) → b ≡ false → d ≡ false → (a && b) ≡ (c && d)
    seconds true false true false e f = refl
    seconds true false false false e f = refl
    seconds false false true false e f = refl
    seconds false false false false e f = refl
    seconds a true c d e f = cc
    seconds a false c true e f = cc

pub kept_valid : (p q : Polyhedron) (xs ys : List LinearRow) (g : LinearRow) (a : Validity) → ys ≡ xs ++ g ∷ [] → IsValidity (p.generators ++ q.generators) g a → (a ≡ Holds) ⊎ (a ≡ Fails) →
    kept_thresholds p q xs ≡ valid_on p q xs → kept_thresholds p q ys ≡ valid_on p q ys
kept_valid p q xs ys g a e h d same =
    let tests : (holds_in_range p g && holds_in_range q g) ≡ (is_valid p g && is_valid q g) = elim d [
      | inl x ↦ holds_both p q g (subst (IsValidity (p.generators ++ q.generators) g) x h)
      | inr x ↦ fails_both p q g (subst (IsValidity (p.generators ++ q.generators) g) x h)
    ] in
    filter_step (λ x. holds_in_range p x && holds_in_range q x) xs ys g e ∙ ap (λ l. l ++ cond (holds_in_range p g && holds_in_range q g) (g ∷ []) []) same ∙
    ap (λ b. valid_on p q xs ++ cond b (g ∷ []) []) tests ∙ sym (filter_step (λ x. is_valid p x && is_valid q x) xs ys g e)

-- ---- as the code states it
pub seen_validity : (l gens : List LinearRow) (r : LinearRow) (a : Validity) → l ≡ gens → IsValidity l r a → IsValidity gens r a
seen_validity l gens r a e h = subst (λ x. IsValidity x r a) e h
