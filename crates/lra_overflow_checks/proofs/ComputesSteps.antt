-- Steps of the proofs on what an operation computes.
use Rattle.std.proofs.Common.{◌≡◌, ◌∙◌, ◌+◌, ◌<◌, ℕ, List, [], ◌∷◌, Bool, true, false, length, map, drop, get_or, rules, Box, Vec, Global, refl, sym, ap, subst, arith}
use Rattle.std.proofs.{Math.Bool.or-false, lemmas.List.drop_more}
use Rattle.std.specs.Prelude.{◌||◌}
use Rattle.lra_overflow_checks.specs.Crates.{lra_base.NumberTypes.wider, lra_base.Operators.Operator, lra_base.declared.number_types.NumberType.NumberType}
use Rattle.lra_program.specs.declared.program.Cond as declared_cond
use Rattle.lra_program.specs.Overflow.{expr_computes, cond_computes}
use Rattle.lra_program.specs.ProgramViews.{all_of, any_of, chained, cond_view, expr_view, operation_view}
use Rattle.lra_program.specs.{Program.Expr, Program.binary, Program.type_of, Program.Cond, declared.program.Expr.Chain, declared.program.Expr.the_lemmas, declared.program.Operation.Operation}
use Rattle.lra_program.specs.declared.program.Expr as declared
use Rattle.lra_overflow_checks.proofs.Crates.{lra_linearize.CondSteps.all_view, lra_linearize.CondSteps.any_view, lra_linearize.FormSteps.operation_is}
use Rattle.lra_overflow_checks.specs.Judged.{some_computes}

-- types ----------------------------------------------------------------------------------------------------------------

-- a chain's type, of which so much is there
abbrev pub rest_type : NumberType → List (Operator × Expr) → NumberType
rest_type t [] = t
rest_type t (o ∷ os) = rest_type (wider t (type_of o.1)) os

pub chain_type : (e : Expr) (os : List (Operator × Expr)) → type_of (chained e os) ≡ rest_type (type_of e) os
chain_type e [] = refl
chain_type e (o ∷ os) = chain_type (binary o.0 e o.1) os

pub type_begins : (first : Expr) (os : List Operation) (e : Expr) (t : NumberType) → e ≡ chained first (map operation_view os) → t ≡ type_of first
    → rest_type t (map operation_view os) ≡ type_of e
type_begins first os e t is typed =
    ap (λ (u : NumberType). rest_type u (map operation_view os)) typed ∙ sym (ap type_of is ∙ chain_type first (map operation_view os))

pub type_next : (whole t : NumberType) (os : List Operation) (i : ℕ) (o : Operation) → i < length os → o ≡ get_or os i o
    → rest_type t (map operation_view (drop i os)) ≡ whole
    → rest_type (wider t (type_of (expr_view o.operand))) (map operation_view (drop (i + 1) os)) ≡ whole
type_next whole t os i o h is so_far =
    let split : drop i os ≡ o ∷ drop (i + 1) os = drop_more os i o h ∙ ap (λ (x : Operation). x ∷ drop (i + 1) os) (sym is) in
    let here = subst (λ (xs : List Operation). rest_type t (map operation_view xs) ≡ whole) split so_far in
    subst (λ (p : Operator × Expr). rest_type (wider t (type_of p.1)) (map operation_view (drop (i + 1) os)) ≡ whole) (operation_is o) here

-- a chain of the code nests to the left
pub chain_view : (first : Box declared.Expr Global) (os : Vec Operation Global)
    → expr_view (Chain first os) ≡ chained (expr_view first.value) (map operation_view os.items)
chain_view first os = search (rules, the_lemmas)

-- expressions ----------------------------------------------------------------------------------------------------------

chained_computes : (e : Expr) (os : List (Operator × Expr)) → expr_computes e ≡ true → expr_computes (chained e os) ≡ true
chained_computes e [] h = h
chained_computes e (o ∷ os) h = chained_computes (binary o.0 e o.1) os refl

-- a chain without operators is its first operand
pub chain_of_none : (e : Expr) (os : List Operation) → length os ≡ 0 → expr_computes (chained e (map operation_view os)) ≡ expr_computes e
chain_of_none e [] h = refl
chain_of_none e (o ∷ os) h = absurd (omega (arith, h))

pub chain_of_some : (e : Expr) (os : List Operation) → (length os ≡ 0 → ⊥) → expr_computes (chained e (map operation_view os)) ≡ true
chain_of_some e [] h = absurd (h refl)
chain_of_some e (o ∷ os) h = chained_computes (binary (operation_view o).0 e (operation_view o).1) (map operation_view os) refl

-- conditions -----------------------------------------------------------------------------------------------------------

all_computes : (c : Cond) (ds : List Cond) → cond_computes (all_of c ds) ≡ (cond_computes c || some_computes ds)
all_computes c [] = sym (or-false (cond_computes c))
all_computes c (d ∷ ds) = ap (λ (b : Bool). cond_computes c || b) (all_computes d ds)

any_computes : (c : Cond) (ds : List Cond) → cond_computes (any_of c ds) ≡ (cond_computes c || some_computes ds)
any_computes c [] = sym (or-false (cond_computes c))
any_computes c (d ∷ ds) = ap (λ (b : Bool). cond_computes c || b) (any_computes d ds)

-- a chain of the code computes if its first operand does, or one of the others
module _ (x : declared_cond.Cond) (first : Box declared_cond.Cond Global) (rest : Vec declared_cond.Cond Global) where
  abbrev Says : Type 0
  Says = cond_computes (cond_view x) ≡ (cond_computes (cond_view first.value) || some_computes (map cond_view rest.items))

  pub all_says : x ≡ declared_cond.All first rest → Says
  all_says is = ap (λ (y : declared_cond.Cond). cond_computes (cond_view y)) is ∙ ap cond_computes (all_view first rest) ∙
      all_computes (cond_view first.value) (map cond_view rest.items)

  pub any_says : x ≡ declared_cond.Any first rest → Says
  any_says is = ap (λ (y : declared_cond.Cond). cond_computes (cond_view y)) is ∙ ap cond_computes (any_view first rest) ∙
      any_computes (cond_view first.value) (map cond_view rest.items)

-- the first or the others
pub first_computes : (whole a b : Bool) → whole ≡ (a || b) → a ≡ true → a ≡ whole
first_computes whole true b is so = sym is
first_computes whole false b is so = cc

pub others_compute : (whole a b : Bool) → whole ≡ (a || b) → a ≡ false → b ≡ whole
others_compute whole true b is so = cc
others_compute whole false b is so = sym is

-- a row of conditions from place i on
module _ (whole : Bool) (cs : List declared_cond.Cond) (i : ℕ) (x : declared_cond.Cond) (h : i < length cs) (is : x ≡ get_or cs i x)
    (so_far : some_computes (map cond_view (drop i cs)) ≡ whole) where
  here : (cond_computes (cond_view x) || some_computes (map cond_view (drop (i + 1) cs))) ≡ whole
  here =
      let split : drop i cs ≡ x ∷ drop (i + 1) cs = drop_more cs i x h ∙ ap (λ (y : declared_cond.Cond). y ∷ drop (i + 1) cs) (sym is) in
      subst (λ (ys : List declared_cond.Cond). some_computes (map cond_view ys) ≡ whole) split so_far

  pub computes_here : cond_computes (cond_view x) ≡ true → whole ≡ true
  computes_here so = sym here ∙ ap (λ (b : Bool). b || some_computes (map cond_view (drop (i + 1) cs))) so

  pub computes_next : cond_computes (cond_view x) ≡ false → some_computes (map cond_view (drop (i + 1) cs)) ≡ whole
  computes_next so = ap (λ (b : Bool). b || some_computes (map cond_view (drop (i + 1) cs))) (sym so) ∙ here
