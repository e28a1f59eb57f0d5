-- How many variables live after the items of a block, item by item.
use Rattle.std.proofs.Common.{◌≡◌, ℕ, suc, ◌+◌, ◌<◌, ◌≤◌, List, ◌∷◌, length, map, drop, get_or, refl, sym, ap, ◌∙◌, arith, add-one, drop-cons}
use Rattle.std.proofs.lemmas.List.{drop_all}
use Rattle.lra_inline_steps.specs.Crates.lra_base.Limits.{greatest_live}
use Rattle.lra_program.specs.Program as program
use Rattle.lra_program.specs.{Program.no_more, Program.declaration, Program.array, Program.statement, ProgramViews.item_view, ProgramViews.items_of, Sites.live_after_items}
use Rattle.lra_program.specs.{declared.arrays.Array.Array, declared.program.BlockItem.BlockItem, declared.program.Declarator.Declarator, declared.program.Stmt.Stmt}
use Rattle.lra_program.specs.declared.program.BlockItem as code_item
use Rattle.lra_inline_steps.proofs.Shown.{shown_declaration, shown_array, shown_statement}

pub live_low : (n : ℕ) (b : program.BlockItems) → n ≤ live_after_items n b
live_low n no_more = omega arith
live_low n (declaration d b) = let h = live_low (suc n) b in omega arith
live_low n (array at a b) = live_low n b
live_low n (statement s b) = live_low n b

abbrev pub behind_items : ℕ → List BlockItem → ℕ
behind_items n items = live_after_items n (items_of (map item_view items))

pub items_at : (items : List BlockItem) (i : ℕ) (x : BlockItem) → i < length items → x ≡ get_or items i x → drop i items ≡ x ∷ drop (i + 1) items
items_at items i x l e = drop-cons items i x l ∙ ap (λ (y : BlockItem). y ∷ drop (suc i) items) (sym e) ∙ rw add-one refl

pub declared_behind : (items : List BlockItem) (i n n' : ℕ) (x : BlockItem) (d : Declarator) → i < length items → x ≡ get_or items i x → x ≡ code_item.Declaration d → n' ≡ n + 1
    → behind_items n' (drop (i + 1) items) ≡ behind_items n (drop i items)
declared_behind items i n n' x d l e f same = rw (items_at items i x l e, f, shown_declaration d (items_of (map item_view (drop (i + 1) items))), same, add-one) refl

pub stated_behind : (items : List BlockItem) (i n : ℕ) (x : BlockItem) (s : Stmt) → i < length items → x ≡ get_or items i x → x ≡ code_item.Statement s
    → behind_items n (drop (i + 1) items) ≡ behind_items n (drop i items)
stated_behind items i n x s l e f = rw (items_at items i x l e, f, shown_statement s (items_of (map item_view (drop (i + 1) items)))) refl

pub filled_behind : (items : List BlockItem) (i n : ℕ) (x : BlockItem) (at : ℕ) (a : Array) → i < length items → x ≡ get_or items i x
    → x ≡ code_item.Array at a → behind_items n (drop (i + 1) items) ≡ behind_items n (drop i items)
filled_behind items i n x at a l e f = rw (items_at items i x l e, f, shown_array at a (items_of (map item_view (drop (i + 1) items)))) refl

-- if the number no longer fits
pub beyond : (items : List BlockItem) (i n whole : ℕ) (x : BlockItem) (d : Declarator) → i < length items → x ≡ get_or items i x → x ≡ code_item.Declaration d
    → behind_items n (drop i items) ≡ whole → (n + 1 < 18446744073709551616 → ⊥) → greatest_live < whole
beyond items i n whole x d l e f same h =
    let low = live_low (suc n) (items_of (map item_view (drop (i + 1) items))) in
    let step = declared_behind items i n (suc n) x d l e f (omega arith) in
    omega (arith, h)

pub none_behind : (items : List BlockItem) (i n whole : ℕ) → length items ≤ i → behind_items n (drop i items) ≡ whole → n ≡ whole
none_behind items i n whole l same = rw (drop_all i items l) at same
