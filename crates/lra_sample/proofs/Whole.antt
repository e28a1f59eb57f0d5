-- Whole sources of such lines: their tokens and their trees.
use Rattle.std.proofs.Common.{◌≡◌, ℕ, List, [], ◌∷◌, ◌++◌, Some, refl, sym, ap, ◌∙◌, subst, append_assoc, arith, inl, inr}
use Rattle.std.proofs.lemmas.List.{append-nil}
use Rattle.std.specs.Prelude.{codes}
use Rattle.lra_sample.specs.Crates.lra_base.declared.number_types.NumberType.TheVariants.{Int, Long}
use Rattle.lra_sample.specs.Crates.lra_syntax.Trees.{compare, expression, scalar, ItemsTree, no_items, declaration, statement, assert, FunctionTree, function, FileTree}
use Rattle.lra_sample.specs.Crates.{lra_base.Operators.at_most, lra_base.Places.place_after, lra_base.declared.refusals.Place.Place, lra_syntax.Faults.IsTree, lra_syntax.Grammar.AreItems}
use Rattle.lra_sample.specs.Crates.{lra_syntax.Grammar.IsFunction, lra_syntax.Grammar.Spells, lra_syntax.Lexeme.word, lra_syntax.Lexeme.name, lra_syntax.Texts.Pieces, lra_syntax.Tokens.tokens_of}
use Rattle.lra_sample.specs.Crates.{lra_syntax.Tokens.end_token, lra_syntax.Tokens.Lex, lra_syntax.declared.tokens.Kind.TheVariants.Name, lra_syntax.declared.tokens.Token.Token}
use Rattle.lra_sample.specs.Crates.lra_syntax.declared.tokens.Mark.TheVariants as mark
use Rattle.lra_sample.proofs.Crates.lra_syntax.Lexemes.{ExternalDeclaration, skip, lexeme, written, behind, reading, pieces, item_place, IsGood, AreRead, ◌⨾◌, as_read, is_mark, written_append}
use Rattle.lra_sample.proofs.Crates.lra_syntax.Lexemes.{pieces_append, lexed, plain_pieces, low_pieces}
use Rattle.lra_sample.proofs.Crates.lra_syntax.TreeSamples.{literal_text, use_of, tested}
use Rattle.lra_sample.proofs.Lines.{Line, opening, sign, named, small, var, items_of, tree_of, both, spells_as}
use Rattle.lra_sample.proofs.{LineTokens.line_read, Numerals.zero_good, Numerals.IsVariable, Numerals.variable, Numerals.is_name}

-- tokens -------------------------------------------------------------------------------------------------------------

abbrev pub head_items : List ExternalDeclaration
head_items = sign mark.Int ∷ skip 32 ∷ lexeme 109 (codes "ain") (Name (codes "main")) 0 ∷ sign mark.OpenParen ∷
    sign mark.Void ∷ sign mark.CloseParen
    ∷ opening mark.OpenBrace 1 ∷ skip 10 ∷ []

abbrev pub declared_items : ℕ → List ExternalDeclaration
declared_items x = sign mark.Long ∷ skip 32 ∷ named x 0 ∷ sign mark.Assign ∷ small 0 ∷ sign mark.Semicolon ∷ skip 10 ∷
    []

abbrev pub declarations_items : List ℕ → List ExternalDeclaration → List ExternalDeclaration
declarations_items [] end = end
declarations_items (x ∷ xs) end = declared_items x ++ declarations_items xs end

-- of the four variables
abbrev pub four_digits : List ℕ
four_digits = 48 ∷ 49 ∷ 50 ∷ 51 ∷ []

abbrev pub four_declared : List ExternalDeclaration → List ExternalDeclaration
four_declared end = declarations_items four_digits end

abbrev pub last_items : List ExternalDeclaration
last_items = sign mark.Assert ∷ sign mark.OpenParen ∷ named 48 0 ∷ sign mark.AtMost ∷ named 48 0 ∷
    sign mark.CloseParen ∷ sign mark.Semicolon ∷ skip 10 ∷ []

abbrev pub close_items : List ExternalDeclaration
close_items = sign mark.CloseBrace ∷ skip 10 ∷ []

abbrev pub lines_items : List Line → List ExternalDeclaration → List ExternalDeclaration
lines_items [] end = end
lines_items (l ∷ ls) end = items_of l ++ lines_items ls end

-- of the function's body
abbrev pub body_items : List Line → List ExternalDeclaration
body_items ls = four_declared (lines_items ls last_items)

abbrev pub whole_items : List Line → List ExternalDeclaration
whole_items ls = head_items ++ (body_items ls ++ close_items)

lines_append : (ls : List Line) (xs ys : List ExternalDeclaration) → lines_items ls xs ++ ys ≡ lines_items ls (xs ++ ys)
lines_append [] xs ys = refl
lines_append (l ∷ ls) xs ys = append_assoc (items_of l) (lines_items ls xs) ys ∙
    ap (λ t. items_of l ++ t) (lines_append ls xs ys)

lines_read : (ls : List Line) (end : List ExternalDeclaration) → AreRead end → AreRead (lines_items ls end)
lines_read [] end g = g
lines_read (l ∷ ls) end g = line_read l.kind l (lines_items ls end) (lines_read ls end g)

declared_read : (x : ℕ) → IsVariable x → (xs : List ExternalDeclaration) → AreRead xs → AreRead (declared_items x ++ xs)
declared_read x v xs r =
    is_mark mark.Long refl refl refl (λ u. refl) ⨾ refl ⨾ is_name v 61 refl refl
    ⨾ is_mark mark.Assign refl refl refl (λ u. refl) ⨾ as_read zero_good (λ u. refl) refl
    ⨾ is_mark mark.Semicolon refl refl refl (λ u. refl) ⨾ refl ⨾ r

end_read : AreRead (last_items ++ close_items)
end_read =
    is_mark mark.Assert refl refl refl (λ u. refl) ⨾ is_mark mark.OpenParen refl refl refl (λ u. refl)
    ⨾ is_name (variable 0 (omega arith)) 60 refl refl ⨾ is_mark mark.AtMost refl refl refl (λ u. refl)
    ⨾ is_name (variable 0 (omega arith)) 41 refl refl ⨾ is_mark mark.CloseParen refl refl refl (λ u. refl)
    ⨾ is_mark mark.Semicolon refl refl refl (λ u. refl) ⨾ refl ⨾ is_mark mark.CloseBrace refl refl refl (λ u. refl) ⨾ refl ⨾ tt

main_good : IsGood 109 (codes "ain") (Name (codes "main"))
main_good = record { lexeme = word refl; spells = name refl refl refl; gapless = refl }

front_read : (xs : List ExternalDeclaration) → AreRead xs → AreRead (head_items ++ four_declared xs)
front_read xs r =
    is_mark mark.Int refl refl refl (λ u. refl) ⨾ refl ⨾ as_read main_good (λ u. refl) refl
    ⨾ is_mark mark.OpenParen refl refl refl (λ u. refl) ⨾ is_mark mark.Void refl refl refl (λ u. refl)
    ⨾ is_mark mark.CloseParen refl refl refl (λ u. refl) ⨾ is_mark mark.OpenBrace refl refl refl (λ u. refl) ⨾ refl
    ⨾ four_read
  where
    four_read : AreRead (four_declared xs)
    four_read = declared_read 48 (variable 0 (omega arith)) (declarations_items (49 ∷ 50 ∷ 51 ∷ []) xs)
        (declared_read 49 (variable 1 (omega arith)) (declarations_items (50 ∷ 51 ∷ []) xs)
        (declared_read 50 (variable 2 (omega arith)) (declarations_items (51 ∷ []) xs)
        (declared_read 51 (variable 3 (omega arith)) xs r)))

pub whole_read : (ls : List Line) → AreRead (whole_items ls)
whole_read ls = subst (λ t. AreRead (head_items ++ four_declared t)) (sym (lines_append ls last_items close_items))
    (front_read (lines_items ls (last_items ++ close_items)) (lines_read ls (last_items ++ close_items) end_read))

-- bytes --------------------------------------------------------------------------------------------------------------

abbrev pub lines_text : List Line → List ℕ
lines_text [] = []
lines_text (l ∷ ls) = written (items_of l) ++ lines_text ls

lines_written : (ls : List Line) (end : List ExternalDeclaration) → written (lines_items ls end) ≡ lines_text ls ++ written end
lines_written [] end = refl
lines_written (l ∷ ls) end = written_append (items_of l) (lines_items ls end) ∙
    ap (λ t. written (items_of l) ++ t) (lines_written ls end)
    ∙ sym (append_assoc (written (items_of l)) (lines_text ls) (written end))

pub whole_written : (ls : List Line) → written (whole_items ls) ≡
    written (head_items ++ four_declared []) ++ (lines_text ls ++ written (last_items ++ close_items))
whole_written ls = ap (λ t. written (head_items ++ four_declared []) ++ t)
    (ap written (lines_append ls last_items close_items) ∙ lines_written ls (last_items ++ close_items))

-- trees --------------------------------------------------------------------------------------------------------------

abbrev pub declared_tree : ℕ → Place → ItemsTree → ItemsTree
declared_tree x at rest = declaration (record {
  number_type = Long;
  first = record
      { name = var x at; shape = scalar (Some (expression (literal_text 0))) };
  rest = [];
}) rest

abbrev pub lines_tree : List ℕ → List Line → (List ℕ → ItemsTree) → ItemsTree
lines_tree before [] last = last before
lines_tree before (l ∷ ls) last = tree_of before l (lines_tree (behind before (items_of l)) ls last)

-- after these bytes
abbrev pub last_tree : List ℕ → ItemsTree
last_tree before = statement (assert (item_place before last_items 0)
    (tested (compare (use_of (var 48 (item_place before last_items 2))) at_most
    (use_of (var 48 (item_place before last_items 4)))))) no_items

abbrev pub declarations_tree : List ℕ → List ℕ → (List ℕ → ItemsTree) → ItemsTree
declarations_tree before [] last = last before
declarations_tree before (x ∷ xs) last = declared_tree x (item_place before (declared_items x) 2)
    (declarations_tree (behind before (declared_items x)) xs last)

abbrev pub body_tree : List ℕ → List Line → ItemsTree
body_tree before ls = declarations_tree before four_digits (λ b. lines_tree b ls last_tree)

abbrev pub main_tree : List Line → FunctionTree
main_tree ls = record {
  result_type = Some Int;
  name = record { word = codes "main"; place = item_place [] head_items 2 };
  parameters = [];
  body = body_tree (behind [] head_items) ls;
  end = place_after (behind (behind [] head_items) (body_items ls));
}

abbrev pub file_tree : List ℕ → List Line → FileTree
file_tree source ls = record { parts = function (main_tree ls) ∷ []; end = place_after source }

-- the tokens have the tree -------------------------------------------------------------------------------------------

lines_spell : (ls : List Line) (before : List ℕ) (end : List ExternalDeclaration) (last : List ℕ → ItemsTree) →
    ((b : List ℕ) → AreItems 1 (last b) (pieces b end)) →
    AreItems 1 (lines_tree before ls last) (pieces before (lines_items ls end))
lines_spell [] before end last e = e before
lines_spell (l ∷ ls) before end last e =
    subst (AreItems 1 (tree_of before l (lines_tree (behind before (items_of l)) ls last)))
    (sym (pieces_append before (items_of l) (lines_items ls end)))
    (spells_as l.kind l before (lines_tree (behind before (items_of l)) ls last)
    (pieces (behind before (items_of l)) (lines_items ls end))
    (lines_spell ls (behind before (items_of l)) end last e))

declared_spells : (x : ℕ) (before : List ℕ) (rest : ItemsTree) (z : Pieces) → AreItems 1 rest z →
    AreItems 1 (declared_tree x (item_place before (declared_items x) 2) rest) (pieces before (declared_items x) ++ z)
declared_spells x before rest z r = both _ _ (both _ _
    -- the type, the declarator, `;`
    (both _ _ (_, refl) (both _ _ (inr refl) (inr refl)))
    (both _ _ (both _ _ (both _ _ refl (both _ _ (_, refl) (_, refl))) refl) (_, refl))) r

last_spells : (before : List ℕ) → AreItems 1 (last_tree before) (pieces before last_items)
last_spells before = both _ _ (both _ _ refl (both _ _
    -- the condition, `;`
    (both _ _ (_, refl) (both _ _ (both _ _ refl (both _ _ (_, refl) refl)) (_, refl))) (_, refl))) refl

declarations_spell : (xs : List ℕ) (before : List ℕ) (end : List ExternalDeclaration) (last : List ℕ → ItemsTree) →
    ((b : List ℕ) → AreItems 1 (last b) (pieces b end)) →
    AreItems 1 (declarations_tree before xs last) (pieces before (declarations_items xs end))
declarations_spell [] before end last e = e before
declarations_spell (x ∷ xs) before end last e =
    declared_spells x before (declarations_tree (behind before (declared_items x)) xs last)
    (pieces (behind before (declared_items x)) (declarations_items xs end))
    (declarations_spell xs (behind before (declared_items x)) end last e)

body_spells : (before : List ℕ) (ls : List Line) → AreItems 1 (body_tree before ls) (pieces before (body_items ls))
body_spells before ls =
    declarations_spell four_digits before (lines_items ls last_items) (λ b. lines_tree b ls last_tree)
    (λ b. lines_spell ls b last_items last_tree last_spells)

function_spells : (ls : List Line) (body : Pieces) → AreItems 1 (main_tree ls).body body → IsFunction (main_tree ls)
    (pieces [] head_items ++ (body ++ pieces (behind (behind [] head_items) (body_items ls)) close_items))
function_spells ls body b = both _ _ (both _ _ (_, refl) refl)
    (both _ _ (_, refl) (both _ _ (inl (_, refl)) (both _ _ (_, refl) (both _ _ (_, refl) (both body _ b refl)))))

spelled : (source : List ℕ) (ls : List Line) → Spells (file_tree source ls)
    (pieces [] (whole_items ls) ++ (end_token source, 0) ∷ [])
spelled source ls = (
  pieces [] (whole_items ls),
  _,
  refl,
  (
    pieces [] (whole_items ls),
    [],
    sym (append-nil (pieces [] (whole_items ls))),
    subst (IsFunction (main_tree ls)) (ap (λ t. pieces [] head_items ++ t)
        (sym (pieces_append (behind [] head_items) (body_items ls) close_items)))
        (function_spells ls (pieces (behind [] head_items) (body_items ls)) (body_spells (behind [] head_items) ls)),
    refl,
  ),
  refl,
)

abbrev pub whole_tokens : List ℕ → List Line → List Token
whole_tokens source ls = tokens_of (reading [] (whole_items ls)) ++ end_token source ∷ []

pub whole_lexed : (source : List ℕ) (ls : List Line) → source ≡ written (whole_items ls) →
    Lex source (whole_tokens source ls)
whole_lexed source ls e = lexed source (whole_items ls) e (whole_read ls)

pub parsed : (source : List ℕ) (ls : List Line) → IsTree Spells (whole_tokens source ls) (file_tree source ls)
parsed source ls = (
  pieces [] (whole_items ls) ++ (end_token source, 0) ∷ [],
  spelled source ls,
  plain_pieces [] (whole_items ls) (end_token source),
  low_pieces [] (whole_items ls) (end_token source) (whole_read ls),
)
