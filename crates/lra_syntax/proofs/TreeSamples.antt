-- Trees of some sources, each standing on one line.
use Rattle.std.specs.Prelude.{ℕ, List, [], ◌∷◌, codes, Option, Some, None, suc}
use Rattle.lra_base.specs.Operators.{below, at_least, equal}
use Rattle.lra_base.specs.{declared.number_types.NumberType.TheVariants.Int, declared.number_types.NumberType.TheVariants.Long, declared.refusals.Place.Place}
use Rattle.lra_syntax.specs.Trees.{UnaryTree, literal, variable, unary, ExprTree, term, plus, TestTree, compare, conjunction, test, CondTree, CallTree, RvalueTree, expression, result, set, scalar}
use Rattle.lra_syntax.specs.Trees.{DeclarationTree, declared, block, nothing, assign, if_only, for, break, continue, return, assert, ItemsTree, no_items, declaration, statement, FunctionTree}
use Rattle.lra_syntax.specs.{Trees.function, Trees.FileTree, declared.trees.Identifier.Identifier, declared.trees.Parameter.Parameter}

-- of the first line
abbrev pub at : ℕ → Place
at c = record { line = 1; column = c }

abbrev pub name_at : List ℕ → ℕ → Identifier
name_at word c = record { word = word; place = at c }

abbrev pub x_at : ℕ → Identifier
x_at c = name_at (codes "x") c

abbrev pub alone : UnaryTree → ExprTree
alone u = term (unary u)

abbrev pub literal_text : ℕ → ExprTree
literal_text n = alone (literal Int n)

abbrev pub use_of : Identifier → ExprTree
use_of x = alone (variable x)

abbrev pub tested : TestTree → CondTree
tested t = conjunction (test t)

abbrev pub call_of : Identifier → List ExprTree → CallTree
call_of f es = record { name = f; arguments = es }

abbrev pub declared_as : Identifier → Option RvalueTree → DeclarationTree
declared_as x e = record { number_type = Long; first = record { name = x; shape = scalar e }; rest = [] }

abbrev pub long_parameter : Identifier → Parameter
long_parameter x = record { number_type = Long; name = x }

abbrev pub function_of : List ℕ → ℕ → List Parameter → ItemsTree → ℕ → FunctionTree
function_of word c parameters body end = record { result_type = Some Long; name = name_at word c; parameters = parameters; body = body; end = at end }

abbrev pub void_of : List ℕ → ℕ → List Parameter → ItemsTree → ℕ → FunctionTree
void_of word c parameters body end = record { result_type = None; name = name_at word c; parameters = parameters; body = body; end = at end }

-- int main(void){ and the body, up to the `}`
abbrev pub main_function : ℕ → ItemsTree → ℕ → FunctionTree
main_function c body end = record { result_type = Some Int; name = name_at (codes "main") c; parameters = []; body = body; end = at end }

-- and the whole file, up to the `}` and the end
abbrev pub main_of : ItemsTree → ℕ → FileTree
main_of body end = record { parts = function (main_function 5 body end) ∷ []; end = at (suc end) }

-- int main(void){ long x; x = 3; assert(x >= 3); }
abbrev pub one_variable : FileTree
one_variable = main_of (declaration (declared_as (x_at 22) None) (statement (assign (set (x_at 25) (expression (literal_text 3))))
    (statement (assert (at 32) (tested (compare (use_of (x_at 39)) at_least (literal_text 3)))) no_items))) 48

-- long inc(long x){ x=x+1; return x; } int main(void){ long x=inc(1); x=inc(x); assert(x==3); }
abbrev pub called_twice : FileTree
called_twice = record {
  parts = function (function_of (codes "inc") 6 (long_parameter (x_at 15) ∷ [])
      (statement (assign (set (x_at 19) (expression (plus (use_of (x_at 21)) (unary (literal Int 1)))))) (statement (return (at 26) (Some (expression (use_of (x_at 33))))) no_items)) 36)
      ∷ function (main_function 42
      (declaration (declared_as (x_at 59) (Some (result (call_of (name_at (codes "inc") 61) (literal_text 1 ∷ [])))))
      (statement (assign (set (x_at 69) (result (call_of (name_at (codes "inc") 71) (use_of (x_at 75) ∷ [])))))
      (statement (assert (at 79) (tested (compare (use_of (x_at 86)) equal (literal_text 3)))) no_items))) 93)
      ∷ [];
  end = at 94;
}

-- long k(long d){ return d+1; } and the functions after it
abbrev next_number : FunctionTree
next_number = function_of (codes "k") 6 (long_parameter (name_at (codes "d") 13) ∷ [])
    (statement (return (at 17) (Some (expression (plus (use_of (name_at (codes "d") 24)) (unary (literal Int 1)))))) no_items) 29

-- long k(long d){ return d+1; } long h(long a){ for(long i=0;i<a;i=k(i)) ; return k(a); } int main(void){ long m=h(2); }
abbrev pub call_in_step : FileTree
call_in_step = record {
  parts = function next_number
      ∷ function (function_of (codes "h") 36 (long_parameter (name_at (codes "a") 43) ∷ [])
      (statement (for (at 47) (declared (declared_as (name_at (codes "i") 56) (Some (expression (literal_text 0)))))
      (Some (tested (compare (use_of (name_at (codes "i") 60)) below (use_of (name_at (codes "a") 62)))))
      (Some (set (name_at (codes "i") 64) (result (call_of (name_at (codes "k") 66) (use_of (name_at (codes "i") 68) ∷ []))))) (nothing (at 72)))
      (statement (return (at 74) (Some (result (call_of (name_at (codes "k") 81) (use_of (name_at (codes "a") 83) ∷ []))))) no_items)) 87)
      ∷ function (main_function 93 (declaration (declared_as (name_at (codes "m") 110) (Some (result (call_of (name_at (codes "h") 112) (literal_text 2 ∷ []))))) no_items) 118)
      ∷ [];
  end = at 119;
}

-- long k(long d){ return d+1; } int main(void){ for(long i=0;i<9;i=k(i)){ if(i<2) continue; break; } ; }
abbrev pub repeated_step : FileTree
repeated_step = record {
  parts = function next_number
      ∷ function (main_function 35
      (statement (for (at 47) (declared (declared_as (name_at (codes "i") 56) (Some (expression (literal_text 0)))))
      (Some (tested (compare (use_of (name_at (codes "i") 60)) below (literal_text 9))))
      (Some (set (name_at (codes "i") 64) (result (call_of (name_at (codes "k") 66) (use_of (name_at (codes "i") 68) ∷ [])))))
      (block (statement (if_only (at 73) (tested (compare (use_of (name_at (codes "i") 76)) below (literal_text 2))) (continue (at 81))) (statement (break (at 91)) no_items)) (at 98)))
      (statement (nothing (at 100)) no_items)) 102)
      ∷ [];
  end = at 103;
}
