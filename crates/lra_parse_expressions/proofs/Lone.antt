-- When a condition is an expression alone.
use Rattle.std.proofs.Common.{◌≡◌, ◌≢◌, Bool, true, false, List, [], ◌∷◌, length, map, Some, None, ◌==◌, eq-eqb, refl, sym, ap, ◌∙◌, vec_len, arith, Global, Vec}
use Rattle.std.proofs.{lemmas.Bool.eqb-true, lemmas.Grind.common_steps}
use Rattle.lra_syntax.specs.Trees.{ExprTree, TestTree, value, opposite, compare, group_of, test, ConjunctionTree, and, CondTree, conjunction, or}
use Rattle.lra_syntax.specs.Views.{all_tests, any_conjunction}
use Rattle.lra_parser_spec.specs.Expressions.{alone}

or_none : (c : CondTree) (d : ConjunctionTree) (cs : List ConjunctionTree) → alone (any_conjunction (or c d) cs) ≡ None
or_none c d [] = refl
or_none c d (e ∷ cs) = or_none (or c d) e cs

pub rest_none : (c : ConjunctionTree) (cs : List ConjunctionTree) → (cs ≡ [] → ⊥) → alone (any_conjunction (conjunction c) cs) ≡ None
rest_none c [] h = absurd (h refl)
rest_none c (d ∷ cs) h = or_none (conjunction c) d cs

and_none : (c : ConjunctionTree) (t : TestTree) (ts : List TestTree) (cs : List ConjunctionTree) → alone (any_conjunction (conjunction (all_tests (and c t) ts)) cs) ≡ None
and_none c t [] [] = refl
and_none c t [] (d ∷ cs) = or_none (conjunction (and c t)) d cs
and_none c t (u ∷ ts) cs = and_none (and c t) u ts cs

pub tests_none : (t : TestTree) (ts : List TestTree) (cs : List ConjunctionTree) → (ts ≡ [] → ⊥) → alone (any_conjunction (conjunction (all_tests (test t) ts)) cs) ≡ None
tests_none t [] cs h = absurd (h refl)
tests_none t (u ∷ ts) cs h = and_none (test t) u ts cs

-- `is_empty`
items_length : {X : Type 0} (v : Vec X Global) → length v.items ≡ vec_len v
items_length v = grind (arith, common_steps)

length_zero : {X : Type 0} (xs : List X) → length xs ≡ 0 → xs ≡ []
length_zero [] e = refl
length_zero (x ∷ xs) e = absurd (omega arith)

pub empty_is : {X : Type 0} (v : Vec X Global) (b : Bool) → b ≡ (vec_len v == 0) → b ≡ true → v.items ≡ []
empty_is v b e on = length_zero v.items (items_length v ∙ eqb-true (vec_len v) 0 (sym e ∙ on))

pub full_is : {X : Type 0} (v : Vec X Global) (b : Bool) → b ≡ (vec_len v == 0) → b ≡ false → v.items ≡ [] → ⊥
full_is v b e off h =
    let zero_length : vec_len v ≡ 0 = sym (items_length v) ∙ ap length h in
    let on : (vec_len v == 0) ≡ true = eq-eqb (vec_len v) 0 zero_length in
    let both : true ≡ false = sym on ∙ sym e ∙ off in
    cc

pub map_full : {X Y : Type 0} (f : X → Y) (xs : List X) → (xs ≡ [] → ⊥) → map f xs ≡ [] → ⊥
map_full f [] h e = h refl
map_full f (x ∷ xs) h e = cc

-- what `take_value` answers
abbrev pub Answers : CondTree → CondTree → Type 0
Answers r c = (r ≡ c) × (alone c ≡ None)

other_none : (t : TestTree) → ((e : ExprTree) → t ≢ value e) → alone (conjunction (test t)) ≡ None
other_none (opposite n) h = refl
other_none (value e) h = absurd (h e refl)
other_none (compare a op b) h = refl
other_none (group_of c) h = refl

-- the condition is c, of a first chain k and the others ks; k is of a first test t and the others ts
module _ (c : CondTree) (k : ConjunctionTree) (ks : List ConjunctionTree) (t : TestTree) (ts : List TestTree) (parts : c ≡ any_conjunction (conjunction k) ks) (first : k ≡ all_tests (test t) ts) where
  whole : c ≡ any_conjunction (conjunction (all_tests (test t) ts)) ks
  whole = parts ∙ ap (λ (j : ConjunctionTree). any_conjunction (conjunction j) ks) first

  short : ks ≡ [] → ts ≡ [] → c ≡ conjunction (test t)
  short none one = whole ∙ ap (λ (js : List ConjunctionTree). any_conjunction (conjunction (all_tests (test t) ts)) js) none ∙ ap (λ (us : List TestTree). conjunction (all_tests (test t) us)) one

  pub lone_value : (e : ExprTree) → ks ≡ [] → ts ≡ [] → t ≡ value e → alone c ≡ Some e
  lone_value e none one v = ap alone (short none one ∙ ap (λ (u : TestTree). conjunction (test u)) v)

  pub more_conjunctions : (r : CondTree) → (ks ≡ [] → ⊥) → r ≡ any_conjunction (conjunction (all_tests (test t) ts)) ks → Answers r c
  more_conjunctions r h e = (e ∙ sym whole, ap alone whole ∙ rest_none (all_tests (test t) ts) ks h)

  pub more_tests : (r : CondTree) → (ts ≡ [] → ⊥) → r ≡ any_conjunction (conjunction (all_tests (test t) ts)) ks → Answers r c
  more_tests r h e = (e ∙ sym whole, ap alone whole ∙ tests_none t ts ks h)

  pub other_test : (r : CondTree) (u : TestTree) → ks ≡ [] → ts ≡ [] → u ≡ t → ((e : ExprTree) → t ≢ value e) → r ≡ any_conjunction (conjunction (all_tests (test u) ts)) ks → Answers r c
  other_test r u none one same other e =
      (e ∙ ap (λ (v : TestTree). any_conjunction (conjunction (all_tests (test v) ts)) ks) same ∙ sym whole, ap alone (short none one) ∙ other_none t other)
