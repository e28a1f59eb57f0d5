-- The faults of a chain are those of its operands in their order, and it means the chain of what they mean.
use Rattle.std.proofs.Common.{◌≡◌, List, [], ◌∷◌, ◌++◌, map, refl, sym, ap, ◌∙◌, append_assoc, append-nil, ℕ, ◌≤◌, take, length}
use Rattle.std.proofs.{lemmas.List.take_all, lemmas.List.Folds.flat_map-map, lemmas.Simd.map-map}
use Rattle.std.specs.List.{flat_map}
use Rattle.lra_base.specs.declared.refusals.Refusal.{Refusal}
use Rattle.lra_syntax.specs.Views.{further_factor, product, further_term, sum_of, unary_view, factor_view, term_view, summand_view, expr_view, unary_step, expr_step, factor_step, summand_step}
use Rattle.lra_syntax.specs.{Trees.UnaryTree, Trees.TermTree, Trees.unary, Trees.ExprTree, Trees.term, Views.term_step, declared.trees.Expr.Expr, declared.trees.Expr.out-Expr}
use Rattle.lra_syntax.specs.{declared.trees.Factor.Factor, declared.trees.FactorOperator.FactorOperator, declared.trees.SumOperator.SumOperator, declared.trees.Summand.Summand}
use Rattle.lra_syntax.specs.{declared.trees.Term.Term, declared.trees.Term.out-Term, declared.trees.Unary.TheFolds.fold_out-Term, declared.trees.Unary.TheFolds.fold_out-Expr}
use Rattle.lra_syntax.specs.declared.trees.FactorOperator.TheVariants as factor
use Rattle.lra_syntax.specs.declared.trees.SumOperator.TheVariants as sum
use Rattle.lra_scopes.proofs.FirstFaults.{tells_front, tells_behind}
use Rattle.lra_program.specs.Program as program
use Rattle.lra_base.specs.Operators as operators
use Rattle.lra_program.specs.ProgramViews.{chained}
use Rattle.lra_resolution_spec.specs.{NameFaults.unary_faults, NameFaults.term_faults, NameFaults.expr_faults, Resolve.resolve_unary, Resolve.resolve_term, Resolve.resolve_expr, Scope.Scope}
use Rattle.lra_scopes.specs.Chains.{factor_operator, sum_operator, factor_faults, resolve_factor, summand_faults, resolve_summand}

further_factor_faults : (s : Scope) (t : TermTree) (op : FactorOperator) (u : UnaryTree) → term_faults s (further_factor t op u) ≡ term_faults s t ++ unary_faults s u
further_factor_faults s t factor.Times u = refl
further_factor_faults s t factor.Over u = refl
further_factor_faults s t factor.Modulo u = refl

pub product_faults : (s : Scope) (t : TermTree) (fs : List (FactorOperator × UnaryTree)) → term_faults s (product t fs) ≡ term_faults s t ++ flat_map (factor_faults s) fs
product_faults s t [] = sym (append-nil _)
product_faults s t (f ∷ fs) =
    product_faults s (further_factor t f.0 f.1) fs
    ∙ ap (λ (l : List Refusal). l ++ flat_map (factor_faults s) fs) (further_factor_faults s t f.0 f.1)
    ∙ append_assoc (term_faults s t) (unary_faults s f.1) (flat_map (factor_faults s) fs)

further_factor_means : (s : Scope) (t : TermTree) (op : FactorOperator) (u : UnaryTree)
    → resolve_term s (further_factor t op u) ≡ program.binary (factor_operator op) (resolve_term s t) (resolve_unary s u)
further_factor_means s t factor.Times u = refl
further_factor_means s t factor.Over u = refl
further_factor_means s t factor.Modulo u = refl

pub product_means : (s : Scope) (t : TermTree) (fs : List (FactorOperator × UnaryTree)) → resolve_term s (product t fs) ≡ chained (resolve_term s t) (map (resolve_factor s) fs)
product_means s t [] = refl
product_means s t (f ∷ fs) =
    product_means s (further_factor t f.0 f.1) fs
    ∙ ap (λ (e : program.Expr). chained e (map (resolve_factor s) fs)) (further_factor_means s t f.0 f.1)

further_term_faults : (s : Scope) (e : ExprTree) (op : SumOperator) (t : TermTree) → expr_faults s (further_term e op t) ≡ expr_faults s e ++ term_faults s t
further_term_faults s e sum.Plus t = refl
further_term_faults s e sum.Minus t = refl

pub sum_faults : (s : Scope) (e : ExprTree) (fs : List (SumOperator × TermTree)) → expr_faults s (sum_of e fs) ≡ expr_faults s e ++ flat_map (summand_faults s) fs
sum_faults s e [] = sym (append-nil _)
sum_faults s e (f ∷ fs) =
    sum_faults s (further_term e f.0 f.1) fs
    ∙ ap (λ (l : List Refusal). l ++ flat_map (summand_faults s) fs) (further_term_faults s e f.0 f.1)
    ∙ append_assoc (expr_faults s e) (term_faults s f.1) (flat_map (summand_faults s) fs)

further_term_means : (s : Scope) (e : ExprTree) (op : SumOperator) (t : TermTree)
    → resolve_expr s (further_term e op t) ≡ program.binary (sum_operator op) (resolve_expr s e) (resolve_term s t)
further_term_means s e sum.Plus t = refl
further_term_means s e sum.Minus t = refl

pub sum_means : (s : Scope) (e : ExprTree) (fs : List (SumOperator × TermTree)) → resolve_expr s (sum_of e fs) ≡ chained (resolve_expr s e) (map (resolve_summand s) fs)
sum_means s e [] = refl
sum_means s e (f ∷ fs) =
    sum_means s (further_term e f.0 f.1) fs
    ∙ ap (λ (x : program.Expr). chained x (map (resolve_summand s) fs)) (further_term_means s e f.0 f.1)

-- the same of the code's chains
term_view_is : (t : Term) → term_view t ≡ product (unary (unary_view (out-Term t).first)) (map factor_view (out-Term t).rest.items)
term_view_is = fold_out-Term UnaryTree ExprTree (FactorOperator × UnaryTree) (SumOperator × TermTree) TermTree unary_step expr_step factor_step summand_step term_step

expr_view_is : (e : Expr) → expr_view e ≡ sum_of (term (term_view (out-Expr e).first)) (map summand_view (out-Expr e).rest.items)
expr_view_is = fold_out-Expr UnaryTree ExprTree (FactorOperator × UnaryTree) (SumOperator × TermTree) TermTree unary_step expr_step factor_step summand_step term_step

abbrev pub faults_of_factor : Scope → Factor → List Refusal
faults_of_factor s f = factor_faults s (factor_view f)

abbrev pub factor_means : Scope → Factor → operators.Operator × program.Expr
factor_means s f = resolve_factor s (factor_view f)

pub code_term_faults : (s : Scope) (t : Term)
    → term_faults s (term_view t) ≡ unary_faults s (unary_view (out-Term t).first) ++ flat_map (faults_of_factor s) (out-Term t).rest.items
code_term_faults s t =
    ap (term_faults s) (term_view_is t)
    ∙ product_faults s (unary (unary_view (out-Term t).first)) (map factor_view (out-Term t).rest.items)
    ∙ ap (λ (l : List Refusal). unary_faults s (unary_view (out-Term t).first) ++ l) (flat_map-map (factor_faults s) factor_view (out-Term t).rest.items)

pub code_term_means : (s : Scope) (t : Term)
    → resolve_term s (term_view t) ≡ chained (resolve_unary s (unary_view (out-Term t).first)) (map (factor_means s) (out-Term t).rest.items)
code_term_means s t =
    ap (resolve_term s) (term_view_is t)
    ∙ product_means s (unary (unary_view (out-Term t).first)) (map factor_view (out-Term t).rest.items)
    ∙ ap (chained (resolve_unary s (unary_view (out-Term t).first))) (map-map (resolve_factor s) factor_view (out-Term t).rest.items)

abbrev pub faults_of_summand : Scope → Summand → List Refusal
faults_of_summand s f = summand_faults s (summand_view f)

abbrev pub summand_means : Scope → Summand → operators.Operator × program.Expr
summand_means s f = resolve_summand s (summand_view f)

pub code_expr_faults : (s : Scope) (e : Expr)
    → expr_faults s (expr_view e) ≡ term_faults s (term_view (out-Expr e).first) ++ flat_map (faults_of_summand s) (out-Expr e).rest.items
code_expr_faults s e =
    ap (expr_faults s) (expr_view_is e)
    ∙ sum_faults s (term (term_view (out-Expr e).first)) (map summand_view (out-Expr e).rest.items)
    ∙ ap (λ (l : List Refusal). term_faults s (term_view (out-Expr e).first) ++ l) (flat_map-map (summand_faults s) summand_view (out-Expr e).rest.items)

pub code_expr_means : (s : Scope) (e : Expr)
    → resolve_expr s (expr_view e) ≡ chained (resolve_term s (term_view (out-Expr e).first)) (map (summand_means s) (out-Expr e).rest.items)
code_expr_means s e =
    ap (resolve_expr s) (expr_view_is e)
    ∙ sum_means s (term (term_view (out-Expr e).first)) (map summand_view (out-Expr e).rest.items)
    ∙ ap (chained (resolve_term s (term_view (out-Expr e).first))) (map-map (resolve_summand s) summand_view (out-Expr e).rest.items)

pub ruleset term_rules = (code_term_faults, code_term_means, tells_front, tells_behind)

pub ruleset expr_rules = (code_expr_faults, code_expr_means, tells_front, tells_behind)

-- the whole chain's meaning, if all operands are there
pub term_found : (s : Scope) (t : Term) (v w : program.Expr) (os : List (operators.Operator × program.Expr)) (fs : List Factor) (n : ℕ)
    → v ≡ chained w os → w ≡ resolve_unary s (unary_view (out-Term t).first) → os ≡ map (factor_means s) (take n fs)
    → length fs ≤ n → fs ≡ (out-Term t).rest.items → v ≡ resolve_term s (term_view t)
term_found s t v w os fs n e first found all is =
    let whole : take n fs ≡ fs = take_all n fs all in
    e ∙ ap (λ (x : program.Expr). chained x os) first ∙ ap (chained (resolve_unary s (unary_view (out-Term t).first))) (found ∙ ap (map (factor_means s)) (whole ∙ is))
    ∙ sym (code_term_means s t)

pub sum_found : (s : Scope) (e : Expr) (v w : program.Expr) (os : List (operators.Operator × program.Expr)) (fs : List Summand) (n : ℕ)
    → v ≡ chained w os → w ≡ resolve_term s (term_view (out-Expr e).first) → os ≡ map (summand_means s) (take n fs)
    → length fs ≤ n → fs ≡ (out-Expr e).rest.items → v ≡ resolve_expr s (expr_view e)
sum_found s e v w os fs n d first found all is =
    let whole : take n fs ≡ fs = take_all n fs all in
    d ∙ ap (λ (x : program.Expr). chained x os) first ∙ ap (chained (resolve_term s (term_view (out-Expr e).first))) (found ∙ ap (map (summand_means s)) (whole ∙ is))
    ∙ sym (code_expr_means s e)
