-- Literals are numbers of tokens, and so numbers of their types.
use Rattle.std.proofs.Common.{◌≡◌, ℕ, ◌+◌, List, [], ◌∷◌, ◌++◌, Option, Some, None, sym, subst}
use Rattle.std.specs.{List.AllByRecursion, Prelude.pos, Prelude.IsTrue}
use Rattle.lra_base.specs.{NumberTypes.fits, declared.number_types.NumberType.NumberType}
use Rattle.lra_front_end.specs.Crates.lra_syntax.Grammar.{IsUnary, IsTerm, IsExpr, IsNegation, IsTest, IsConjunction, IsCond, InParens, IsCall, IsRvalue, IsAssign, IsGiven, IsScalarOrArray}
use Rattle.lra_front_end.specs.Crates.lra_syntax.Grammar.{IsDeclarator, IsDeclaration, IsInit, in_brackets, IsForTest, IsForStep, IsReturned, opened_by, level_of, IsStmt, AreCases, AreLabelled}
use Rattle.lra_front_end.specs.Crates.lra_syntax.Grammar.{AreStated, AreItems, IsExternalDeclaration, AreExternalDeclarations, Spells}
use Rattle.lra_front_end.specs.Crates.lra_syntax.Texts.{Piece, Pieces, plain, Texts, ◌⋅◌, further, separated}
use Rattle.lra_front_end.specs.Crates.{lra_parser_spec.Files.IsSmallKind, lra_syntax.declared.tokens.Kind.TheVariants.Number, lra_syntax.declared.tokens.Token.Token}
use Rattle.lra_front_end.specs.Crates.lra_syntax.Trees as tree
use Rattle.lra_front_end.proofs.Crates.lra_parser_spec.Ended.{lexed_small}
use Rattle.lra_front_end.specs.Crates.lra_syntax.Tokens as lexical
use Rattle.lra_front_end.specs.Crates.lra_syntax.Texts as text
use Rattle.lra_front_end.specs.Literals.{IsSmallUnary, IsSmallTerm, IsSmallExpr, IsSmallNegation, IsSmallTest, IsSmallConjunction, IsSmallCond, IsSmallCall, IsSmallRvalue, IsSmallGiven, IsSmallAssign}
use Rattle.lra_front_end.specs.Literals.{IsSmallShape, IsSmallDeclarator, IsSmallDeclaration, IsSmallInit, IsSmallForTest, IsSmallStep, IsSmallStmt, AreSmallCases, AreSmallItems, IsSmallPart}
use Rattle.lra_front_end.specs.Literals.{HasSmallLiterals}

-- tokens -----------------------------------------------------------------------------------------------------------

abbrev pub IsSmallToken : Token → Type 0
IsSmallToken t = IsSmallKind t.kind

-- pieces -----------------------------------------------------------------------------------------------------------

abbrev AreSmall : Pieces → Type 0
AreSmall z = AllByRecursion (λ (p : Piece). IsSmallToken p.0) z

plain_are_small : (z : Pieces) → AllByRecursion IsSmallToken (plain z) → AreSmall z
plain_are_small [] h = tt
plain_are_small (p ∷ z) h = (h.0, plain_are_small z h.1)

in_front : (x y : Pieces) → AreSmall (x ++ y) → AreSmall x
in_front [] y h = tt
in_front (p ∷ x) y h = (h.0, in_front x y h.1)

in_back : (x y : Pieces) → AreSmall (x ++ y) → AreSmall y
in_back [] y h = h
in_back (p ∷ x) y h = in_back x y h.1

front : (x y z : Pieces) → z ≡ x ++ y → AreSmall z → AreSmall x
front x y z e h = in_front x y (subst AreSmall e h)

back : (x y z : Pieces) → z ≡ x ++ y → AreSmall z → AreSmall y
back x y z e h = in_back x y (subst AreSmall e h)

small_number : (t : NumberType) (n : ℕ) (z : Pieces) → text.literal_text t n z → AreSmall z → IsTrue (fits t (pos n))
small_number t n z (at, e) h = let all : AreSmall ((record { kind = Number t n; place = at }, 0) ∷ []) = subst AreSmall e h in all.0

-- each of the items with commas between
small_further : {A : Type 0} (R : A → Texts) (Q : A → Type 0) → ((a : A) (z : Pieces) → R a z → AreSmall z → Q a) → (items : List A) (z : Pieces) → further R items z → AreSmall z →
    AllByRecursion Q items
small_further R Q each [] z s h = tt
small_further R Q each (a ∷ items) z (x, y, e, comma, (x2, y2, e2, s, more)) h =
    let later = back x y z e h in (each a x2 s (front x2 y2 y e2 later), small_further R Q each items y2 more (back x2 y2 y e2 later))

small_separated : {A : Type 0} (R : A → Texts) (Q : A → Type 0) → ((a : A) (z : Pieces) → R a z → AreSmall z → Q a) → (items : List A) (z : Pieces) → separated R items z → AreSmall z →
    AllByRecursion Q items
small_separated R Q each [] z s h = tt
small_separated R Q each (a ∷ items) z (x, y, e, s, more) h = (each a x s (front x y z e h), small_further R Q each items y more (back x y z e h))

-- expressions ------------------------------------------------------------------------------------------------------

-- what stands in brackets
inside : (l : ℕ) (R : Texts) (z : Pieces) → in_brackets l R z → AreSmall z → (x : Pieces) × R x × AreSmall x
inside l R z (x, y, e, opening, (x2, y2, e2, s, closing)) h = (x2, s, front x2 y2 y e2 (back x y z e h))

mutual
  small_unary : (l : ℕ) (u : tree.UnaryTree) (z : Pieces) → IsUnary l u z → AreSmall z → IsSmallUnary u
  small_unary l (tree.negated u) z (x, y, e, sign, s) h = small_unary (l + 1) u y s (back x y z e h)
  small_unary l (tree.positive u) z (x, y, e, sign, s) h = small_unary (l + 1) u y s (back x y z e h)
  small_unary l (tree.literal t n) z s h = small_number t n z s h
  small_unary l (tree.variable v) z s h = tt
  small_unary l tree.input z s h = tt
  small_unary l (tree.group a) z (x, y, e, opening, (x2, y2, e2, s, closing)) h = small_expr (l + 1) a x2 s (front x2 y2 y e2 (back x y z e h))
  small_unary l (tree.element v i) z (x, y, e, named, s) h =
      let index = inside l (IsExpr (l + 1) i) y s (back x y z e h) in small_expr (l + 1) i index.0 index.1 index.2

  small_term : (l : ℕ) (t : tree.TermTree) (z : Pieces) → IsTerm l t z → AreSmall z → IsSmallTerm t
  small_term l (tree.unary u) z s h = small_unary l u z s h
  small_term l (tree.times t u) z (x, y, e, s, (x2, y2, e2, sign, r)) h = (small_term l t x s (front x y z e h), small_unary l u y2 r (back x2 y2 y e2 (back x y z e h)))
  small_term l (tree.over t u) z (x, y, e, s, (x2, y2, e2, sign, r)) h = (small_term l t x s (front x y z e h), small_unary l u y2 r (back x2 y2 y e2 (back x y z e h)))
  small_term l (tree.modulo t u) z (x, y, e, s, (x2, y2, e2, sign, r)) h = (small_term l t x s (front x y z e h), small_unary l u y2 r (back x2 y2 y e2 (back x y z e h)))

  small_expr : (l : ℕ) (a : tree.ExprTree) (z : Pieces) → IsExpr l a z → AreSmall z → IsSmallExpr a
  small_expr l (tree.term t) z s h = small_term l t z s h
  small_expr l (tree.plus a t) z (x, y, e, s, (x2, y2, e2, sign, r)) h = (small_expr l a x s (front x y z e h), small_term l t y2 r (back x2 y2 y e2 (back x y z e h)))
  small_expr l (tree.minus a t) z (x, y, e, s, (x2, y2, e2, sign, r)) h = (small_expr l a x s (front x y z e h), small_term l t y2 r (back x2 y2 y e2 (back x y z e h)))

-- conditions -------------------------------------------------------------------------------------------------------

mutual
  small_negation : (l : ℕ) (n : tree.NegationTree) (z : Pieces) → IsNegation l n z → AreSmall z → IsSmallNegation n
  small_negation l (tree.opposite_again n) z (x, y, e, sign, s) h = small_negation (l + 1) n y s (back x y z e h)
  small_negation l (tree.value_of_unary u) z s h = small_unary l u z s h
  small_negation l (tree.group_opposed c) z ((x, y, e, opening, (x2, y2, e2, s, closing)), strict) h = small_cond (l + 1) c x2 s (front x2 y2 y e2 (back x y z e h))

  small_test : (l : ℕ) (t : tree.TestTree) (z : Pieces) → IsTest l t z → AreSmall z → IsSmallTest t
  small_test l (tree.opposite n) z (x, y, e, sign, s) h = small_negation (l + 1) n y s (back x y z e h)
  small_test l (tree.value a) z s h = small_expr l a z s h
  small_test l (tree.compare a op b) z (x, y, e, s, (x2, y2, e2, sign, r)) h = (small_expr l a x s (front x y z e h), small_expr l b y2 r (back x2 y2 y e2 (back x y z e h)))
  small_test l (tree.group_of c) z ((x, y, e, opening, (x2, y2, e2, s, closing)), strict) h = small_cond (l + 1) c x2 s (front x2 y2 y e2 (back x y z e h))

  small_conjunction : (l : ℕ) (c : tree.ConjunctionTree) (z : Pieces) → IsConjunction l c z → AreSmall z → IsSmallConjunction c
  small_conjunction l (tree.test t) z s h = small_test l t z s h
  small_conjunction l (tree.and c t) z (x, y, e, s, (x2, y2, e2, sign, r)) h = (small_conjunction l c x s (front x y z e h), small_test l t y2 r (back x2 y2 y e2 (back x y z e h)))

  small_cond : (l : ℕ) (c : tree.CondTree) (z : Pieces) → IsCond l c z → AreSmall z → IsSmallCond c
  small_cond l (tree.conjunction c) z s h = small_conjunction l c z s h
  small_cond l (tree.or c d) z (x, y, e, s, (x2, y2, e2, sign, r)) h = (small_cond l c x s (front x y z e h), small_conjunction l d y2 r (back x2 y2 y e2 (back x y z e h)))

small_in_parens : (l : ℕ) (c : tree.CondTree) (z : Pieces) → InParens l c z → AreSmall z → IsSmallCond c
small_in_parens l c z (x, y, e, opening, (x2, y2, e2, s, closing)) h = small_cond l c x2 s (front x2 y2 y e2 (back x y z e h))

-- calls, assignments, declarations ---------------------------------------------------------------------------------

small_call : (o l : ℕ) (c : tree.CallTree) (z : Pieces) → IsCall o l c z → AreSmall z → IsSmallCall c
small_call o l c z (x, y, e, called, (x2, y2, e2, opening, (x3, y3, e3, s, closing))) h =
    small_separated (IsExpr l) IsSmallExpr (small_expr l) c.arguments x3 s (front x3 y3 y2 e3 (back x2 y2 y e2 (back x y z e h)))

small_rvalue : (l : ℕ) (a : tree.RvalueTree) (z : Pieces) → IsRvalue l a z → AreSmall z → IsSmallRvalue a
small_rvalue l (tree.expression a) z s h = small_expr l a z s h
small_rvalue l (tree.result c) z s h = small_call 0 l c z s h

small_assign : (o l : ℕ) (a : tree.AssignTree) (z : Pieces) → IsAssign o l a z → AreSmall z → IsSmallAssign a
small_assign o l (tree.set v a) z (x, y, e, target, (x2, y2, e2, sign, s)) h = small_rvalue l a y2 s (back x2 y2 y e2 (back x y z e h))
small_assign o l (tree.set_element v i a) z (x, y, e, target, (x2, y2, e2, s, (x3, y3, e3, sign, r))) h =
    let later = back x y z e h in
    let index = inside l (IsExpr (l + 1) i) x2 s (front x2 y2 y e2 later) in
    (small_expr (l + 1) i index.0 index.1 index.2, small_rvalue l a y3 r (back x3 y3 y2 e3 (back x2 y2 y e2 later)))
small_assign o l (tree.update v op a) z (x, y, e, target, (x2, y2, e2, sign, s)) h = small_expr l a y2 s (back x2 y2 y e2 (back x y z e h))
small_assign o l (tree.after v step) z s h = tt
small_assign o l (tree.before at step v) z s h = tt

small_given : (l : ℕ) (a : Option tree.RvalueTree) (z : Pieces) → IsGiven l a z → AreSmall z → IsSmallGiven a
small_given l None z s h = tt
small_given l (Some a) z (x, y, e, sign, s) h = small_rvalue l a y s (back x y z e h)

small_returned : (l : ℕ) (a : Option tree.RvalueTree) (z : Pieces) → IsReturned l a z → AreSmall z → IsSmallGiven a
small_returned l None z s h = tt
small_returned l (Some a) z s h = small_rvalue l a z s h

small_shape : (l : ℕ) (d : tree.ScalarOrArrayTree tree.RvalueTree) (z : Pieces) → IsScalarOrArray (IsGiven l) d z → AreSmall z → IsSmallShape d
small_shape l (tree.scalar a) z s h = small_given l a z s h
small_shape l (tree.array n) z s h = tt

small_declarator : (l : ℕ) (d : tree.DeclaratorTree) (z : Pieces) → IsDeclarator l d z → AreSmall z → IsSmallDeclarator d
small_declarator l d z (x, y, e, declared, s) h = small_shape l d.shape y s (back x y z e h)

small_declaration : (l : ℕ) (d : tree.DeclarationTree) (z : Pieces) → IsDeclaration l d z → AreSmall z → IsSmallDeclaration d
small_declaration l d z (x, y, e, type, (x2, y2, e2, s, closing)) h = small_separated (IsDeclarator l) IsSmallDeclarator (small_declarator l) (d.first ∷ d.rest) x2 s
    (front x2 y2 y e2 (back x y z e h))

-- statements -------------------------------------------------------------------------------------------------------

small_init : (l : ℕ) (i : tree.InitTree) (z : Pieces) → IsInit l i z → AreSmall z → IsSmallInit i
small_init l tree.no_init z s h = tt
small_init l (tree.declared d) z s h = small_declaration l d z s h
small_init l (tree.assigned a) z (x, y, e, s, closing) h = small_assign 0 l a x s (front x y z e h)

small_for_test : (l : ℕ) (c : Option tree.CondTree) (z : Pieces) → IsForTest l c z → AreSmall z → IsSmallForTest c
small_for_test l None z s h = tt
small_for_test l (Some c) z s h = small_cond l c z s h

small_step : (l : ℕ) (a : Option tree.AssignTree) (z : Pieces) → IsForStep l a z → AreSmall z → IsSmallStep a
small_step l None z s h = tt
small_step l (Some a) z s h = small_assign 0 l a z s h

mutual
  small_stmt : (o l : ℕ) (t : tree.StmtTree) (z : Pieces) → IsStmt o l t z → AreSmall z → IsSmallStmt t
  small_stmt o l (tree.block items end) z (x, y, e, opening, (x2, y2, e2, s, closing)) h = small_items l items x2 s (front x2 y2 y e2 (back x y z e h))
  small_stmt o l (tree.nothing at) z s h = tt
  small_stmt o l (tree.assign a) z (x, y, e, s, closing) h = small_assign o l a x s (front x y z e h)
  small_stmt o l (tree.call c) z (x, y, e, s, closing) h = small_call o l c x s (front x y z e h)
  small_stmt o l (tree.if_only at c t) z (x, y, e, word, (x2, y2, e2, s, r)) h =
      let later = back x y z e h in (small_in_parens l c x2 s (front x2 y2 y e2 later), small_stmt (l + 1) (l + 1) t y2 r (back x2 y2 y e2 later))
  small_stmt o l (tree.if_else at c t u) z ((x, y, e, word, (x2, y2, e2, s, (x3, y3, e3, r, (x4, y4, e4, again, q)))), whole) h =
      let behind = back x y z e h in
      let branches = back x2 y2 y e2 behind in (
        small_in_parens l c x2 s (front x2 y2 y e2 behind),
        small_stmt (l + 1) (l + 1) t x3 r (front x3 y3 y2 e3 branches),
        small_stmt (l + 1) (l + 1) u y4 q (back x4 y4 y3 e4 (back x3 y3 y2 e3 branches)),
      )
  small_stmt o l (tree.while at c t) z (x, y, e, word, (x2, y2, e2, s, r)) h =
      let later = back x y z e h in (small_in_parens l c x2 s (front x2 y2 y e2 later), small_stmt (l + 1) (l + 1) t y2 r (back x2 y2 y e2 later))
  small_stmt o l (tree.for at i c a t) z (x, y, e, word, (x2, y2, e2, opening, (x3, y3, e3, s, (x4, y4, e4, r, (x5, y5, e5, semicolon, (x6, y6, e6, q, (x7, y7, e7, closing, p))))))) h =
      let from_init = back x2 y2 y e2 (back x y z e h) in
      let from_test = back x3 y3 y2 e3 from_init in
      let from_step = back x5 y5 y4 e5 (back x4 y4 y3 e4 from_test) in (
        small_init l i x3 s (front x3 y3 y2 e3 from_init),
        small_for_test l c x4 r (front x4 y4 y3 e4 from_test),
        small_step l a x6 q (front x6 y6 y5 e6 from_step),
        small_stmt (l + 1) (l + 1) t y7 p (back x7 y7 y6 e7 (back x6 y6 y5 e6 from_step)),
      )
  small_stmt o l (tree.break at) z s h = tt
  small_stmt o l (tree.continue at) z s h = tt
  small_stmt o l (tree.return at a) z (x, y, e, word, (x2, y2, e2, s, closing)) h = small_returned l a x2 s (front x2 y2 y e2 (back x y z e h))
  small_stmt o l (tree.assert at c) z (x, y, e, word, (x2, y2, e2, s, closing)) h = small_in_parens l c x2 s (front x2 y2 y e2 (back x y z e h))
  small_stmt o l (tree.assume at c) z (x, y, e, word, (x2, y2, e2, s, closing)) h = small_in_parens l c x2 s (front x2 y2 y e2 (back x y z e h))
  small_stmt o l (tree.switch at v cs) z (x, y, e, word, (x2, y2, e2, (x3, y3, e3, paren, (x4, y4, e4, s, close)), (x5, y5, e5, opening, (x6, y6, e6, r, closing)))) h =
      let later = back x y z e h in
      (small_expr l v x4 s (front x4 y4 y3 e4 (back x3 y3 x2 e3 (front x2 y2 y e2 later))), small_cases (l + 1) cs x6 r (front x6 y6 y5 e6 (back x5 y5 y2 e5 (back x2 y2 y e2 later))))

  small_cases : (l : ℕ) (cs : tree.CasesTree) (z : Pieces) → AreCases l cs z → AreSmall z → AreSmallCases cs
  small_cases l tree.no_cases z s h = tt
  small_cases l (tree.labelled b cs) z (x, y, e, s, r) h = small_labelled l cs y r (back x y z e h)
  small_cases l (tree.stated t cs) z s h = absurd s

  small_labelled : (l : ℕ) (cs : tree.CasesTree) (z : Pieces) → AreLabelled l cs z → AreSmall z → AreSmallCases cs
  small_labelled l tree.no_cases z s h = absurd s
  small_labelled l (tree.labelled b cs) z (x, y, e, s, r) h = small_labelled l cs y r (back x y z e h)
  small_labelled l (tree.stated t cs) z (x, y, e, s, r) h = (small_stmt (opened_by t l) (level_of t l) t x s (front x y z e h), small_stated l cs y r (back x y z e h))

  small_stated : (l : ℕ) (cs : tree.CasesTree) (z : Pieces) → AreStated l cs z → AreSmall z → AreSmallCases cs
  small_stated l tree.no_cases z s h = tt
  small_stated l (tree.labelled b cs) z (x, y, e, s, r) h = small_labelled l cs y r (back x y z e h)
  small_stated l (tree.stated t cs) z (x, y, e, s, r) h = (small_stmt (opened_by t l) (level_of t l) t x s (front x y z e h), small_stated l cs y r (back x y z e h))

  small_items : (l : ℕ) (items : tree.ItemsTree) (z : Pieces) → AreItems l items z → AreSmall z → AreSmallItems items
  small_items l tree.no_items z s h = tt
  small_items l (tree.declaration d items) z (x, y, e, s, r) h = (small_declaration l d x s (front x y z e h), small_items l items y r (back x y z e h))
  small_items l (tree.statement t items) z (x, y, e, s, r) h =
      (small_stmt (opened_by t l) (level_of t l) t x s (front x y z e h), small_items l items y r (back x y z e h))

-- the whole --------------------------------------------------------------------------------------------------------

small_part : (p : tree.ExternalTree) (z : Pieces) → IsExternalDeclaration p z → AreSmall z → IsSmallPart p
small_part tree.prototype z s h = tt
small_part (tree.globals g) z s h = tt
small_part (tree.function f) z (x, y, e, head, (x2, y2, e2, opening, (x3, y3, e3, parameters, (x4, y4, e4, closing, (x5, y5, e5, begin, (x6, y6, e6, s, end)))))) h =
    small_items 1 f.body x6 s (front x6 y6 y5 e6 (back x5 y5 y4 e5 (back x4 y4 y3 e4 (back x3 y3 y2 e3 (back x2 y2 y e2 (back x y z e h))))))

small_parts : (ps : List tree.ExternalTree) (z : Pieces) → AreExternalDeclarations ps z → AreSmall z → AllByRecursion IsSmallPart ps
small_parts [] z s h = tt
small_parts (p ∷ ps) z (x, y, e, s, r) h = (small_part p x s (front x y z e h), small_parts ps y r (back x y z e h))

pub spelled_are_small : (source : List ℕ) (tokens : List Token) (t : tree.FileTree) (z : Pieces) → lexical.Lex source tokens → Spells t z → plain z ≡ tokens → HasSmallLiterals t
spelled_are_small source tokens t z lexed (x, y, e, s, end) same =
    small_parts t.parts x s (front x y z e (plain_are_small z (subst (AllByRecursion IsSmallToken) (sym same) (lexed_small source tokens lexed))))
