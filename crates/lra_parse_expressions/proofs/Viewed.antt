-- Trees that values of the code stand for.
use Rattle.std.proofs.Common.{◌≡◌, ℕ, ◌≤◌, List, [], ◌∷◌, ◌++◌, length, map, Result, Ok, Err, IfOk, rules, refl, sym, subst, Bor, Box, Global}
use Rattle.std.specs.Prelude.{MatchResult}
use Rattle.lra_base.specs.declared.number_types.NumberType.{NumberType}
use Rattle.lra_syntax.specs.Views.{unary_view, unary_step, factor_view, factor_step, term_view, term_step, summand_view, summand_step, expr_view, expr_step, product, sum_of, further_factor}
use Rattle.lra_syntax.specs.Views.{further_term, negation_view, negation_step, test_view, test_step, conjunction_view, conjunction_step, cond_view, cond_step, all_tests, any_conjunction}
use Rattle.lra_syntax.specs.declared.trees.Unary.{Unary, Literal, Variable, Group, Element, the_lemmas}
use Rattle.lra_syntax.specs.declared.trees.Unary.TheFolds.{fold-roll-Term, fold-roll-Expr, fold-roll-Factor, fold-roll-Summand}
use Rattle.lra_syntax.specs.declared.trees.Unary.TheOpen.{Term-F, Expr-F, Factor-F, Summand-F}
use Rattle.lra_syntax.specs.declared.trees.Unary.TheViews.{roll-Term, roll-Expr, roll-Factor, roll-Summand}
use Rattle.lra_syntax.specs.{declared.trees.Cond.Cond, declared.trees.Conjunction.Conjunction, declared.trees.Expr.Expr, declared.trees.Factor.Factor, declared.trees.FactorOperator.FactorOperator}
use Rattle.lra_syntax.specs.{declared.trees.Identifier.Identifier, declared.trees.Negation.Negation, declared.trees.Negation.Operand, declared.trees.Negation.the_lemmas as negation_lemmas}
use Rattle.lra_syntax.specs.{declared.trees.Negation.TheFolds.fold-roll-Conjunction, declared.trees.Negation.TheFolds.fold-roll-Cond, declared.trees.Negation.TheOpen.Conjunction-F}
use Rattle.lra_syntax.specs.{declared.trees.Negation.TheOpen.Cond-F, declared.trees.Negation.TheViews.roll-Conjunction, declared.trees.Negation.TheViews.roll-Cond}
use Rattle.lra_syntax.specs.{declared.trees.SumOperator.SumOperator, declared.trees.Summand.Summand, declared.trees.Term.Term, declared.trees.Test.Test, declared.trees.Test.Opposite}
use Rattle.lra_parser_spec.specs.{Reading.Text, Reading.Read, Reading.ParsesAs, Reading.ParsesAsErr, declared.reading.Stopped.Stopped}
use Rattle.lra_parser_spec.specs.declared.reading.Stopped.TheVariants as stopped
use Rattle.lra_syntax.specs.Trees as tree

pub literal_is : (t : NumberType) (n : ℕ) → unary_view (Literal t n) ≡ tree.literal t n
literal_is t n = search (rules, the_lemmas)

pub variable_is : (x : Identifier) → unary_view (Variable x) ≡ tree.variable x
variable_is x = search (rules, the_lemmas)

pub group_is : (e : Box Expr Global) → unary_view (Group e) ≡ tree.group (expr_view e.value)
group_is e = search (rules, the_lemmas)

pub element_is : (x : Identifier) (e : Box Expr Global) → unary_view (Element x e) ≡ tree.element x (expr_view e.value)
element_is x e = search (rules, the_lemmas)

pub factor_is : (x : Factor-F Unary Expr Factor Summand Term) → factor_view (roll-Factor x) ≡ (x.operator, unary_view x.unary)
factor_is = fold-roll-Factor tree.UnaryTree tree.ExprTree (FactorOperator × tree.UnaryTree) (SumOperator × tree.TermTree) tree.TermTree unary_step expr_step factor_step summand_step term_step

pub term_is : (x : Term-F Unary Expr Factor Summand Term) → term_view (roll-Term x) ≡ product (tree.unary (unary_view x.first)) (map factor_view x.rest.items)
term_is = fold-roll-Term tree.UnaryTree tree.ExprTree (FactorOperator × tree.UnaryTree) (SumOperator × tree.TermTree) tree.TermTree unary_step expr_step factor_step summand_step term_step

pub summand_is : (x : Summand-F Unary Expr Factor Summand Term) → summand_view (roll-Summand x) ≡ (x.operator, term_view x.term)
summand_is = fold-roll-Summand tree.UnaryTree tree.ExprTree (FactorOperator × tree.UnaryTree) (SumOperator × tree.TermTree) tree.TermTree unary_step expr_step factor_step summand_step term_step

pub expr_is : (x : Expr-F Unary Expr Factor Summand Term) → expr_view (roll-Expr x) ≡ sum_of (tree.term (term_view x.first)) (map summand_view x.rest.items)
expr_is = fold-roll-Expr tree.UnaryTree tree.ExprTree (FactorOperator × tree.UnaryTree) (SumOperator × tree.TermTree) tree.TermTree unary_step expr_step factor_step summand_step term_step

-- one more at the end ----------------------------------------------------------------------------------------------

pub product_push : (t : tree.TermTree) (fs : List (FactorOperator × tree.UnaryTree)) (f : FactorOperator × tree.UnaryTree) → product t (fs ++ f ∷ []) ≡ further_factor (product t fs) f.0 f.1
product_push t [] f = refl
product_push t (g ∷ fs) f = product_push (further_factor t g.0 g.1) fs f

pub sum_push : (e : tree.ExprTree) (ss : List (SumOperator × tree.TermTree)) (s : SumOperator × tree.TermTree) → sum_of e (ss ++ s ∷ []) ≡ further_term (sum_of e ss) s.0 s.1
sum_push e [] s = refl
sum_push e (g ∷ ss) s = sum_push (further_term e g.0 g.1) ss s

pub and_push : (c : tree.ConjunctionTree) (ts : List tree.TestTree) (t : tree.TestTree) → all_tests c (ts ++ t ∷ []) ≡ tree.and (all_tests c ts) t
and_push c [] t = refl
and_push c (u ∷ ts) t = and_push (tree.and c u) ts t

pub or_push : (c : tree.CondTree) (ds : List tree.ConjunctionTree) (d : tree.ConjunctionTree) → any_conjunction c (ds ++ d ∷ []) ≡ tree.or (any_conjunction c ds) d
or_push c [] d = refl
or_push c (e ∷ ds) d = or_push (tree.or c e) ds d

-- conditions -------------------------------------------------------------------------------------------------------

pub operand_is : (u : Unary) → negation_view (Operand u) ≡ tree.value_of_unary (unary_view u)
operand_is u = search (rules, negation_lemmas)

pub opposite_is : (n : Negation) → test_view (Opposite n) ≡ tree.opposite (negation_view n)
opposite_is n = search (rules, negation_lemmas)

pub conjunction_is : (x : Conjunction-F Negation Test Cond Conjunction) → conjunction_view (roll-Conjunction x) ≡ all_tests (tree.test (test_view x.first)) (map test_view x.rest.items)
conjunction_is = fold-roll-Conjunction tree.NegationTree tree.TestTree tree.CondTree tree.ConjunctionTree negation_step test_step cond_step conjunction_step

pub cond_is : (x : Cond-F Negation Test Cond Conjunction) → cond_view (roll-Cond x) ≡ any_conjunction (tree.conjunction (conjunction_view x.first)) (map conjunction_view x.rest.items)
cond_is = fold-roll-Cond tree.NegationTree tree.TestTree tree.CondTree tree.ConjunctionTree negation_step test_step cond_step conjunction_step

-- after `!`, a negation that is handed on
pub negation_handed : (result : Result (Negation × Bor Text) Stopped) (n : tree.NegationTree) (R : Text) (read : Read tree.NegationTree) → read ≡ Ok (n, R)
    → MatchResult result (λ r. (negation_view r.0 ≡ n) × (r.1.now ≡ R)) (λ e. e ≡ stopped.Memory) → ParsesAs (λ r. (negation_view r.0, r.1.now)) result read
negation_handed (Ok x) n R read e m = rw (m.0, m.1) e
negation_handed (Err s) n R read e m = subst (λ (k : Stopped). ParsesAsErr k read) (sym m) tt

pub negation_shorter : (result : Result (Negation × Bor Text) Stopped) (n : tree.NegationTree) (R T : Text) → length R ≤ length T
    → MatchResult result (λ r. (negation_view r.0 ≡ n) × (r.1.now ≡ R)) (λ e. e ≡ stopped.Memory) → IfOk result (λ r. length r.1.now ≤ length T)
negation_shorter (Ok x) n R T le m = subst (λ (S : Text). length S ≤ length T) (sym m.1) le
negation_shorter (Err s) n R T le m = tt
