-- The lines of a sample source: their tokens and their trees.
use Rattle.std.proofs.Common.{ℕ, ◌+◌, List, [], ◌∷◌, ◌++◌, refl, drop, get_or}
use Rattle.lra_sample.specs.Crates.lra_syntax.Trees.{literal, input, unary, ExprTree, plus, compare, conjunction, test, and, expression, set, StmtTree, assign, if_else, while, assume, ItemsTree}
use Rattle.lra_sample.specs.Crates.lra_syntax.declared.tokens.Kind.TheVariants.{Name, Number, Mark as MarkOf}
use Rattle.lra_sample.specs.Crates.{lra_base.Operators.below, lra_base.Operators.at_least, lra_base.Operators.at_most, lra_base.declared.number_types.NumberType.TheVariants.Int}
use Rattle.lra_sample.specs.Crates.{lra_base.declared.refusals.Place.Place, lra_syntax.Grammar.AreItems, lra_syntax.Lexeme.mark_text, lra_syntax.Texts.Pieces, lra_syntax.Texts.Texts}
use Rattle.lra_sample.specs.Crates.{lra_syntax.Texts.◌⋅◌, lra_syntax.Trees.statement, lra_syntax.declared.tokens.Mark.Mark, lra_syntax.declared.trees.Identifier.Identifier}
use Rattle.lra_sample.specs.Crates.lra_syntax.declared.tokens.Mark.TheVariants as mark
use Rattle.lra_sample.proofs.Crates.lra_syntax.Lexemes.{ExternalDeclaration, skip, lexeme, pieces, item_place, IsGood}
use Rattle.lra_sample.proofs.Crates.lra_syntax.TreeSamples.{alone, literal_text, use_of, tested}
use Rattle.lra_sample.specs.declared.block.Kind.{Kind}
use Rattle.lra_sample.specs.declared.block.Kind.TheVariants.{Sum, Choice, Count, Input}
use Rattle.lra_sample.proofs.Numerals.{IsFirstDigit, IsVariable}

-- the digits of two variables, and a numeral with its value
pub record Line : Type 0 where
  pub kind : Kind
  pub first : ℕ
  pub second : ℕ
  pub head : ℕ
  pub tail : List ℕ
  pub value : ℕ
  pub is_first : IsVariable first
  pub is_second : IsVariable second
  pub digit : IsFirstDigit head
  pub good : IsGood head tail (Number Int value)

-- tokens -------------------------------------------------------------------------------------------------------------

abbrev pub opening : Mark → ℕ → ExternalDeclaration
opening m o = lexeme (get_or (mark_text m) 0 0) (drop 1 (mark_text m)) (MarkOf m) o

abbrev pub sign : Mark → ExternalDeclaration
sign m = opening m 0

-- a variable, which may open a level
abbrev pub named : ℕ → ℕ → ExternalDeclaration
named x o = lexeme 118 (x ∷ []) (Name (118 ∷ x ∷ [])) o

-- a numeral of one digit
abbrev pub small : ℕ → ExternalDeclaration
small n = lexeme (48 + n) [] (Number Int n) 0

abbrev pub constant : Line → ExternalDeclaration
constant l = lexeme l.head l.tail (Number Int l.value) 0

abbrev pub items_as : Kind → Line → List ExternalDeclaration
items_as Sum l = named l.first 0 ∷ sign mark.Assign ∷ named l.second 0 ∷ sign mark.Plus ∷ constant l ∷
    sign mark.Semicolon ∷ skip 10 ∷ []
items_as Choice l = sign mark.If ∷ sign mark.OpenParen ∷ named l.first 0 ∷ sign mark.Less ∷ constant l ∷
    sign mark.CloseParen
    ∷ named l.second 2 ∷ sign mark.Assign ∷ named l.second 0 ∷ sign mark.Plus ∷ small 1 ∷ sign mark.Semicolon
    ∷ sign mark.Else ∷ skip 32 ∷ named l.second 2 ∷ sign mark.Assign ∷ constant l ∷ sign mark.Semicolon ∷ skip 10 ∷ []
items_as Count l = named l.first 0 ∷ sign mark.Assign ∷ small 0 ∷ sign mark.Semicolon
    ∷ sign mark.While ∷ sign mark.OpenParen ∷ named l.first 0 ∷ sign mark.Less ∷ constant l ∷ sign mark.CloseParen
    ∷ named l.first 2 ∷ sign mark.Assign ∷ named l.first 0 ∷ sign mark.Plus ∷ small 1 ∷ sign mark.Semicolon ∷ skip 10 ∷
    []
items_as Input l = named l.first 0 ∷ sign mark.Assign ∷ sign mark.Input ∷ sign mark.OpenParen ∷ sign mark.CloseParen ∷
    sign mark.Semicolon
    ∷ sign mark.Assume ∷ sign mark.OpenParen ∷ named l.first 0 ∷ sign mark.AtLeast ∷ small 0 ∷ sign mark.And ∷
    named l.first 0 ∷ sign mark.AtMost ∷ constant l
    ∷ sign mark.CloseParen ∷ sign mark.Semicolon ∷ skip 10 ∷ []

abbrev pub items_of : Line → List ExternalDeclaration
items_of l = items_as l.kind l

-- trees --------------------------------------------------------------------------------------------------------------

abbrev pub var : ℕ → Place → Identifier
var x at = record { word = 118 ∷ x ∷ []; place = at }

-- x = e
abbrev pub given : ℕ → Place → ExprTree → StmtTree
given x at e = assign (set (var x at) (expression e))

-- x + n
abbrev pub sum_of : ℕ → Place → ℕ → ExprTree
sum_of x at n = plus (use_of (var x at)) (unary (literal Int n))

-- the items of a block after those of a line; of the numbers of the line's tokens with their places
abbrev pub tree_as : Kind → Line → (ℕ → Place) → ItemsTree → ItemsTree
tree_as Sum l at rest = statement (given l.first (at 0) (sum_of l.second (at 2) l.value)) rest
tree_as Choice l at rest = statement (if_else (at 0)
    (tested (compare (use_of (var l.first (at 2))) below (literal_text l.value)))
    (given l.second (at 6) (sum_of l.second (at 8) 1)) (given l.second (at 14) (literal_text l.value))) rest
tree_as Count l at rest = statement (given l.first (at 0) (literal_text 0))
    (statement (while (at 4) (tested (compare (use_of (var l.first (at 6))) below (literal_text l.value)))
    (given l.first (at 10) (sum_of l.first (at 12) 1))) rest)
tree_as Input l at rest = statement (given l.first (at 0) (alone input)) (statement (assume (at 6)
    (conjunction (and (test (compare (use_of (var l.first (at 8))) at_least (literal_text 0)))
    (compare (use_of (var l.first (at 12))) at_most (literal_text l.value))))) rest)

abbrev pub tree_of : List ℕ → Line → ItemsTree → ItemsTree
tree_of before l rest = tree_as l.kind l (item_place before (items_of l)) rest

-- the tokens have the trees ------------------------------------------------------------------------------------------

-- a text after another
pub both : {R Q : Texts} (x y : Pieces) → R x → Q y → (R ⋅ Q) (x ++ y)
both x y a b = (x, y, refl, a, b)

pub spells_as : (k : Kind) (l : Line) (before : List ℕ) (rest : ItemsTree) (z : Pieces) → AreItems 1 rest z →
    AreItems 1 (tree_as k l (item_place before (items_as k l)) rest) (pieces before (items_as k l) ++ z)
spells_as Sum l before rest z r = both _ _ (both _ _ (both _ _ refl (both _ _ (_, refl) (both _ _ refl (both _ _ (_, refl) (_, refl))))) (_, refl)) r
spells_as Choice l before rest z r = both _ _ (
  both _ _ refl (both _ _
      -- the condition
      (both _ _ (_, refl) (both _ _ (both _ _ refl (both _ _ (_, refl) (_, refl))) (_, refl)))
      -- the first branch, `else`, the second
      (both _ _ (both _ _ (both _ _ refl (both _ _ (_, refl) (both _ _ refl (both _ _ (_, refl) (_, refl))))) (_, refl))
      (both _ _ (_, refl) (both _ _ (both _ _ refl (both _ _ (_, refl) (_, refl))) (_, refl))))),
  λ e. e,
) r
spells_as Count l before rest z r = both _ _ (both _ _ (both _ _ refl (both _ _ (_, refl) (_, refl))) (_, refl)) (both _ _ (both _ _ refl (both _ _
    -- the condition and the body
    (both _ _ (_, refl) (both _ _ (both _ _ refl (both _ _ (_, refl) (_, refl))) (_, refl)))
    (both _ _ (both _ _ refl (both _ _ (_, refl) (both _ _ refl (both _ _ (_, refl) (_, refl))))) (_, refl)))) r)
spells_as Input l before rest z r = both _ _
    (both _ _ (both _ _ refl (both _ _ (_, refl) (both _ _ (_, refl) (both _ _ (_, refl) (_, refl))))) (_, refl)) (both _ _ (both _ _ refl (both _ _
    -- the assumption
    (both _ _ (_, refl) (both _ _ (both _ _ (both _ _ refl (both _ _ (_, refl) (_, refl))) (both _ _ (_, refl) (both _ _ refl (both _ _ (_, refl) (_, refl))))) (_, refl)))
    (_, refl))) r)
