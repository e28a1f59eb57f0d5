-- Such sources have no fault of names, and no call.
use Rattle.std.proofs.Common.{◌≡◌, ℕ, List, [], ◌∷◌, ◌++◌, refl, sym, ap, ◌∙◌, map, length, arith}
use Rattle.std.proofs.lemmas.List.{length-append}
use Rattle.lra_sample.specs.Crates.lra_resolution_spec.NameFaults.{Around, items_faults, name_faults}
use Rattle.lra_sample.specs.Crates.lra_syntax.Reach.{called_names, calls_in, NotRecursive}
use Rattle.lra_sample.specs.Crates.{lra_base.declared.refusals.Place.Place, lra_resolution_spec.Scope.function_scope, lra_syntax.Functions.functions_of, lra_syntax.Labels.items_labels}
use Rattle.lra_sample.specs.Crates.{lra_syntax.Trees.ItemsTree, lra_syntax.declared.trees.Identifier.Identifier}
use Rattle.lra_sample.specs.declared.block.Kind.{Kind}
use Rattle.lra_sample.specs.declared.block.Kind.TheVariants.{Sum, Choice, Count, Input}
use Rattle.lra_sample.proofs.Crates.lra_syntax.Lexemes.{behind, item_place}
use Rattle.lra_sample.proofs.{Lines.Line, Lines.items_of, Lines.tree_as, Numerals.four, Whole.head_items, Whole.lines_tree, Whole.last_tree, Whole.body_tree, Whole.main_tree, Whole.file_tree}

-- names --------------------------------------------------------------------------------------------------------------

line_faultless : (k : Kind) (l : Line) (a : Around) (at : ℕ → Place) (rest : ItemsTree) →
    items_faults a four (tree_as k l at rest) ≡ items_faults a four rest
line_faultless Sum l a at rest = rw (l.is_first.known, l.is_second.known) refl
line_faultless Choice l a at rest = rw (l.is_first.known, l.is_second.known) refl
line_faultless Count l a at rest = rw (l.is_first.known) refl
line_faultless Input l a at rest = rw (l.is_first.known) refl

lines_faultless : (ls : List Line) (a : Around) (before : List ℕ) →
    items_faults a four (lines_tree before ls last_tree) ≡ []
lines_faultless [] a before = refl
lines_faultless (l ∷ ls) a before =
    line_faultless l.kind l a (item_place before (items_of l)) (lines_tree (behind before (items_of l)) ls last_tree) ∙
    lines_faultless ls a (behind before (items_of l))

body_faultless : (before : List ℕ) (ls : List Line) (a : Around) →
    items_faults a (function_scope [] []) (body_tree before ls) ≡ []
body_faultless before ls a = lines_faultless ls a _

pub names : (source : List ℕ) (ls : List Line) → name_faults (file_tree source ls) ≡ []
names source ls = ap (λ t. (t ++ []) ++ []) (body_faultless (behind [] head_items) ls _)

-- calls --------------------------------------------------------------------------------------------------------------

line_calls : (k : Kind) (l : Line) (live : List (List ℕ)) (at : ℕ → Place) (rest : ItemsTree) (end : Place) →
    called_names (items_labels live (tree_as k l at rest) end) ≡ called_names (items_labels live rest end)
line_calls Sum l live at rest end = refl
line_calls Choice l live at rest end = refl
line_calls Count l live at rest end = refl
line_calls Input l live at rest end = refl

lines_calls : (ls : List Line) (live : List (List ℕ)) (before : List ℕ) (end : Place) →
    called_names (items_labels live (lines_tree before ls last_tree) end) ≡ []
lines_calls [] live before end = refl
lines_calls (l ∷ ls) live before end =
    line_calls l.kind l live (item_place before (items_of l)) (lines_tree (behind before (items_of l)) ls last_tree) end ∙
    lines_calls ls live (behind before (items_of l)) end

no_calls : (source : List ℕ) (ls : List Line) → calls_in (functions_of (file_tree source ls)) ≡ []
no_calls source ls = ap (λ (cs : List Identifier). map (λ (c : Identifier). ((main_tree ls).name.word, c)) cs ++ [])
    (lines_calls ls _ _ (main_tree ls).end)

pub not_recursive : (source : List ℕ) (ls : List Line) → NotRecursive (file_tree source ls)
not_recursive source ls at r =
    let none = ap length (sym (no_calls source ls) ∙ r.3) in
    let more = length-append r.0 (r.2 ∷ r.1) in
    omega (arith, none, more)
