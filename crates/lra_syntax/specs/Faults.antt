-- The tree of a list of tokens, and the first token at fault if there is none; of the whole grammar, or of a part of
-- it.
use Rattle.std.specs.List.{AllByRecursion}
use Rattle.std.specs.Prelude.{◌≡◌, ℕ, ◌≤◌, ◌<◌, List, [], ◌∷◌, ◌++◌}
use Rattle.lra_base.specs.declared.refusals.Cause.TheVariants.{Syntax, TooDeep}
use Rattle.lra_base.specs.{declared.refusals.Cause.Cause, declared.refusals.Place.Place}
use Rattle.lra_syntax.specs.Texts.{Piece, Pieces, plain, Texts}
use Rattle.lra_syntax.specs.{Trees.FileTree, declared.tokens.Token.Token}

-- which texts each tree has: the grammar's, or those of a part of the grammar
abbrev pub Language : Type 1
Language = FileTree → Texts

abbrev pub greatest_level : ℕ
greatest_level = 64

-- no token opens a level past the greatest
abbrev pub IsLow : Pieces → Type 0
IsLow pieces = AllByRecursion (λ (p : Piece). p.1 ≤ greatest_level) pieces

-- the tokens are those of this tree, and no level is too deep
abbrev pub IsTree : Language → List Token → FileTree → Type 0
IsTree L tokens t = (pieces : Pieces) × L t pieces × (plain pieces ≡ tokens) × IsLow pieces

-- some text of the language, too deep or not, begins with these tokens
abbrev pub CanBegin : Language → List Token → Type 0
CanBegin L tokens = (t : FileTree) × (x : Pieces) × (y : Pieces) × L t (x ++ y) × (plain x ≡ tokens)

-- some text of the language begins with these tokens, none of which opens a level that is too deep
abbrev pub CanBeginLow : Language → List Token → Type 0
CanBeginLow L tokens = (t : FileTree) × (x : Pieces) × (y : Pieces) × L t (x ++ y) × (plain x ≡ tokens) × IsLow x

-- the token after `front` is at fault: no text begins so; or it opens a level that is too deep
abbrev pub IsAtFault : Language → Cause → List Token → Token → Type 0
IsAtFault L Syntax front token = CanBeginLow L front × (CanBegin L (front ++ token ∷ []) → ⊥)
IsAtFault L TooDeep front token =
    (t : FileTree) × (x : Pieces) × (level : ℕ) × (y : Pieces) × L t (x ++ (token, level) ∷ y) × (plain x ≡ front) ×
    IsLow x × (greatest_level < level)
IsAtFault L cause front token = ⊥

-- the first token at fault
abbrev pub IsTextFault : Language → List Token → Cause → Place → Type 0
IsTextFault L tokens c at = (front : List Token) × (token : Token) × (rest : List Token) ×
    (tokens ≡ front ++ token ∷ rest) × IsAtFault L c front token × (at ≡ token.place)

-- no text has two trees
abbrev pub OneTree : Language → Type 0
OneTree L = (s t : FileTree) (x y : Pieces) → L s x → L t y → plain x ≡ plain y → (s ≡ t) × (x ≡ y)

-- no list of tokens has two first faults, or a fault and a tree
abbrev pub OneTextFault : Language → Type 0
OneTextFault L = (tokens : List Token)
    → ((c d : Cause) (p q : Place) → IsTextFault L tokens c p → IsTextFault L tokens d q → (c ≡ d) × (p ≡ q))
    × ((t : FileTree) (c : Cause) (p : Place) → IsTree L tokens t → IsTextFault L tokens c p → ⊥)
