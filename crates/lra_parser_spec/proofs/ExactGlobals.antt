-- The reader of globals is exact.
use Rattle.std.proofs.Common.{◌≡◌, ℕ, false, List, [], ◌∷◌, ◌++◌, Option, Some, None, refl, sym, ap, subst, ◌∙◌, append_assoc, arith, inl, inr}
use Rattle.std.specs.Bool.{⊤}
use Rattle.lra_base.specs.{declared.number_types.NumberType.NumberType, declared.number_types.NumberType.TheVariants.Int, declared.refusals.Place.Place}
use Rattle.lra_syntax.specs.declared.tokens.Mark.TheVariants as mark
use Rattle.lra_syntax.specs.Trees.{ScalarOrArrayTree, scalar, array, GlobalTree, GlobalsTree, ExternalTree, globals}
use Rattle.lra_syntax.specs.{Grammar.IsType, Grammar.IsSigned, Grammar.IsScalarOrArray, Grammar.IsGlobal, Grammar.AreGlobals, Texts.Pieces, Texts.Texts, Texts.◌⋅◌, Texts.empty, Texts.mark as spells}
use Rattle.lra_syntax.specs.{Texts.name, Texts.further, declared.tokens.Token.Token, declared.trees.Identifier.Identifier, declared.trees.SignedLiteral.SignedLiteral}
use Rattle.lra_parser_spec.specs.{Files.global_of, Files.global_rest, Files.global_at, Files.globals_of, Files.globals_at, Statements.positive, Tests.is_mark}
use Rattle.lra_parser_spec.proofs.{Chain.regroup, Chain.all_last, Exact.Exact, Exact.Any, Exact.Free, Exact.Both, Exact.first_or, Exact.then, ExactExpressions.Of, ExactExpressions.first_opened}
use Rattle.lra_parser_spec.proofs.{ExactLabels.exact_signed, ExactLists.exact_commas_from, ExactShapes.AfterShape, ExactShapes.GivenText, ExactShapes.exact_shape, Forms.retell, Forms.mapped}
use Rattle.lra_parser_spec.proofs.{Parts.token, Parts.exact_ended, Tokens.IsInner, Tokens.exact_name, Tokens.some_literal, Tokens.some_name}

-- first values -----------------------------------------------------------------------------------------------------

abbrev AfterValue : SignedLiteral → Option Token → Type 0
AfterValue v o = ⊤

abbrev AfterGlobal : GlobalTree → Option Token → Type 0
AfterGlobal g o = AfterShape AfterValue g.shape o

-- as the grammar has it after a name
abbrev FirstValue : Option SignedLiteral → Texts
FirstValue None = empty
FirstValue (Some v) = spells mark.Assign ⋅ IsSigned v

value_out : (m : Option SignedLiteral) (z : Pieces) → GivenText IsSigned m z → FirstValue m z
value_out m z (inl (u, v, e, s, (a, f, t))) = subst (λ (c : Option SignedLiteral). FirstValue c z) f (u, v, e, s, t)
value_out m z (inr (e, f)) = subst (λ (c : Option SignedLiteral). FirstValue c z) (sym e) f

value_in : (m : Option SignedLiteral) (z : Pieces) → FirstValue m z → GivenText IsSigned m z
value_in None z s = inr (refl, s)
value_in (Some a) z (u, v, e, s, t) = inl (u, v, e, s, (a, refl, t))

-- after the name
abbrev pub ShapedText : Identifier → GlobalTree → Texts
ShapedText x g = Of (global_of x) (IsScalarOrArray FirstValue) g

pub exact_global_rest : (n : ℕ) (x : Identifier) → Exact n IsInner (global_rest x) Any (ShapedText x) (ShapedText x) AfterGlobal
exact_global_rest n x = mapped (exact_shape (exact_signed n) (positive some_literal, _, (Int, 0, omega arith, inl (refl, refl))) FirstValue value_out value_in)
    (global_of x) AfterGlobal
    (λ s o f. f) (λ s o f. f)

-- a global ---------------------------------------------------------------------------------------------------------

abbrev NamedShape : GlobalTree → Texts
NamedShape g z = Both (λ x. name x 0) ShapedText g z

-- the grammar's own form, case by case
shape_global : (x : Identifier) (k : ScalarOrArrayTree SignedLiteral) (u v z : Pieces) → z ≡ u ++ v → name x 0 u → IsScalarOrArray FirstValue k v →
    IsGlobal (global_of x k) z
shape_global x (array n) u v z e s t = (u, v, e, s, t)
shape_global x (scalar None) u v z e s t = (u, v, e, s, t)
shape_global x (scalar (Some a)) u v z e s t = (u, v, e, s, t)

shaped : (x : Identifier) (g : GlobalTree) (u v z : Pieces) → z ≡ u ++ v → name x 0 u → ShapedText x g v → IsGlobal g z
shaped x g u v z e s (k, h, t) = subst (λ (c : GlobalTree). IsGlobal c z) h (shape_global x k u v z e s t)

to_global : (g : GlobalTree) (z : Pieces) → NamedShape g z → IsGlobal g z
to_global g z (x, (u, v, e, s, t)) = shaped x g u v z e s t

from_global : (x : Identifier) (k : ScalarOrArrayTree SignedLiteral) (z : Pieces) → IsGlobal (global_of x k) z → NamedShape (global_of x k) z
from_global x (array n) z (u, v, e, s, t) = (x, (u, v, e, s, (array n, refl, t)))
from_global x (scalar None) z (u, v, e, s, t) = (x, (u, v, e, s, (scalar None, refl, t)))
from_global x (scalar (Some a)) z (u, v, e, s, t) = (x, (u, v, e, s, (scalar (Some a), refl, t)))

pub exact_global : (n : ℕ) → Exact n IsInner global_at Any IsGlobal IsGlobal AfterGlobal
exact_global n =
    let t = then (exact_name n 0 (omega arith)) (exact_global_rest n) (λ g z. NamedShape g z)
    (λ x g y o s f. tt) (λ x z v. (global_of x (scalar None), [], (x, (z, [], refl, v, (scalar None, refl, refl))))) (λ x g u v s r. (x, (u, v, refl, s, r))) in
    retell t IsGlobal to_global (λ g z s. from_global g.name g.shape z s)

-- globals, after the name of the first -----------------------------------------------------------------------------

abbrev Listed : Identifier → GlobalTree × List GlobalTree → Texts
Listed x gs = ShapedText x gs.0 ⋅ further IsGlobal gs.1

abbrev pub GlobalsText : NumberType → Identifier → ExternalTree → Texts
GlobalsText k x p z = Of (globals_of k) (λ gs. Listed x gs ⋅ spells mark.Semicolon) p z

goes_on : (k : ScalarOrArrayTree SignedLiteral) (at : Place) → AfterShape AfterValue k (Some (token mark.Comma at))
goes_on (array n) at = tt
goes_on (scalar None) at = (refl, refl)
goes_on (scalar (Some v)) at = tt

stops_here : (k : ScalarOrArrayTree SignedLiteral) (at : Place) → AfterShape AfterValue k (Some (token mark.Semicolon at))
stops_here (array n) at = tt
stops_here (scalar None) at = (refl, refl)
stops_here (scalar (Some v)) at = tt

pub exact_globals : (n : ℕ) (k : NumberType) (x : Identifier) → Exact n IsInner (globals_at k x) Any (GlobalsText k x) (GlobalsText k x) Free
exact_globals n k x =
    let list = exact_commas_from (exact_global_rest n x) (exact_global n) (global_of some_name (scalar None), _, (_, _, refl, refl, refl))
    (λ g at. goes_on g.shape at) in
    let whole = exact_ended mark.Semicolon list (λ gs at. (
      all_last {I = GlobalTree} AfterGlobal (AfterGlobal gs.0) gs.1 (Some (token mark.Semicolon at)) (stops_here gs.0.shape at)
          (λ g. stops_here g.shape at),
      refl,
    )) in
    mapped whole (globals_of k) Free (λ gs o f. tt) (λ gs o f. tt)

further_no_open : (gs : List GlobalTree) (x y z : Pieces) (o : Option Token) → z ≡ x ++ y → further IsGlobal gs x → spells mark.Semicolon y → is_mark mark.OpenParen (first_or z o) ≡ false
further_no_open [] x y z o e f (at, s) = rw (e, f, s) refl
further_no_open (g ∷ gs) x y z o e (u, v, f, s, r) t = first_opened (λ i. is_mark mark.OpenParen i ≡ false) mark.Comma 0 u (v ++ y) z o (e ∙ regroup x y u v f) s (λ at. refl)

pub globals_no_open : (k : NumberType) (x : Identifier) (p : ExternalTree) (z : Pieces) (o : Option Token) → GlobalsText k x p z → is_mark mark.OpenParen (first_or z o) ≡ false
globals_no_open k x p z o (gs, h, (a, b, e, (u, v, f, (array n, i, (c, d, g, m, t)), r), w)) = first_opened (λ i. is_mark mark.OpenParen i ≡ false)
    mark.OpenBracket 0 c (d ++ (v ++ b)) z o
    (e ∙ regroup a b u v f ∙ regroup u (v ++ b) c d g) m (λ at. refl)
globals_no_open k x p z o (gs, h, (a, b, e, (u, v, f, (scalar (Some j), i, (c, d, g, m, t)), r), w)) = first_opened (λ i. is_mark mark.OpenParen i ≡ false)
    mark.Assign 0 c (d ++ (v ++ b)) z o
    (e ∙ regroup a b u v f ∙ regroup u (v ++ b) c d g) m (λ at. refl)
globals_no_open k x p z o (gs, h, (a, b, e, (u, v, f, (scalar None, i, none), r), w)) =
    further_no_open gs.1 v b z o (e ∙ ap (λ (k : Pieces). k ++ b) (f ∙ ap (λ (k : Pieces). k ++ v) none)) r w

-- what they are in the grammar -------------------------------------------------------------------------------------

pub globals_out : (k : NumberType) (x : Identifier) (p : ExternalTree) (t n y z : Pieces) → z ≡ (t ++ n) ++ y → IsType k t → name x 0 n → GlobalsText k x p y
    → (g : GlobalsTree) × (globals g ≡ p) × AreGlobals g z
globals_out w x p t n y z e type named (gs, same, (a, b, f, (u, v, h, first, rest), semicolon)) = (
  record { number_type = w; first = gs.0; rest = gs.1 },
  same,
  (
    t,
    n ++ y,
    e ∙ append_assoc t n y,
    type,
    (
      n ++ a,
      b,
      ap (λ (k : Pieces). n ++ k) f ∙ sym (append_assoc n a b),
      (n ++ u, v, ap (λ (k : Pieces). n ++ k) h ∙ sym (append_assoc n u v), shaped x gs.0 n u (n ++ u) refl named first, rest),
      semicolon,
    ),
  ),
)

pub globals_in : (g : GlobalsTree) (z : Pieces) → AreGlobals g z
    → (x : Identifier) × (t : Pieces) × (n : Pieces) × (y : Pieces) × (z ≡ (t ++ n) ++ y) × IsType g.number_type t × name x 0 n × GlobalsText g.number_type x (globals g) y
globals_in g z (t, y, e, type, (a, b, f, (u, v, h, one, rest), semicolon)) =
    let k = from_global g.first.name g.first.shape u one in
    let n = k.1.0 in
    let w = k.1.1 in
    let inner : a ≡ n ++ (w ++ v) = h ∙ regroup u v n w k.1.2 in
    let behind : y ≡ n ++ ((w ++ v) ++ b) = f ∙ regroup a b n (w ++ v) inner in (
      k.0,
      t,
      n,
      (w ++ v) ++ b,
      e ∙ ap (λ (r : Pieces). t ++ r) behind ∙ sym (append_assoc t n ((w ++ v) ++ b)),
      type,
      k.1.3,
      ((g.first, g.rest), refl, (w ++ v, b, refl, (w, v, refl, k.1.4, rest), semicolon)),
    )
