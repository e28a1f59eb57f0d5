-- Readers of statements as the code takes them.
use Rattle.std.proofs.Common.{◌≡◌, ℕ, zero, suc, ◌-◌, ◌<◌, true, false, List, [], ◌∷◌, ◌++◌, length, map, Ok, Err, refl, sym, ap, subst, ◌∙◌, arith, rules}
use Rattle.std.proofs.lemmas.List.{map_push}
use Rattle.lra_parse_statements.specs.Crates.{lra_base.declared.refusals.Cause.TheVariants.TooDeep, lra_base.declared.refusals.Place.Place}
use Rattle.lra_syntax.specs.declared.tokens.Mark.TheVariants as mark
use Rattle.lra_syntax.specs.Trees.{DeclarationTree, StmtTree, CasesTree, labelled, stated as stated_case, ItemsTree, no_items, declaration, statement}
use Rattle.lra_syntax.specs.Views.{ItemPart, CasePart, declaration_view, stmt_view, item_view, case_view, block_view, cases_view, item_step, case_step, stmt_step, block_step, cases_step}
use Rattle.lra_syntax.specs.declared.trees.BlockItem.{BlockItem, the_lemmas, Declaration as DeclarationItem, Statement as StatementItem}
use Rattle.lra_syntax.specs.declared.trees.CaseItem.{CaseItem, Label as LabelItem, Stated as StatedItem}
use Rattle.lra_syntax.specs.{declared.trees.Block.Block, declared.trees.BlockItem.TheFolds.fold-roll-Block, declared.trees.BlockItem.TheFolds.fold-roll-Cases, declared.trees.BlockItem.TheOpen.Block-F}
use Rattle.lra_syntax.specs.{declared.trees.BlockItem.TheOpen.Cases-F, declared.trees.BlockItem.TheViews.roll-Block, declared.trees.BlockItem.TheViews.roll-Cases, declared.trees.Cases.Cases}
use Rattle.lra_syntax.specs.{declared.trees.Declaration.Declaration, declared.trees.PlacedLabel.PlacedLabel, declared.trees.Stmt.Stmt, declared.trees.Stmt.Block as BlockStmt}
use Rattle.lra_syntax.specs.Views as views
use Rattle.lra_parser_spec.specs.Reading.{Text, Read, Parse, stop, ◌>>=◌, map_read, expect, expect_at, list_step, ParsesAsErr}
use Rattle.lra_parser_spec.specs.Statements.{declaration_at, ItemTree, declared, stated, put, items_from, begins_type, begins_item, stated_of, body_of, block_from, too_deep, levels, branch_at}
use Rattle.lra_parser_spec.specs.Statements.{block_at, simple_at, stated_at, item_at, items_at}
use Rattle.lra_parser_spec.specs.{Tests.first, Tests.is_mark, declared.reading.Fault.Fault, declared.reading.Stopped.Stopped}
use Rattle.lra_parser_spec.specs.declared.reading.Stopped.TheVariants as stopped
use Rattle.lra_parse_expressions.proofs.Turning.{Left, on_side, turn_on, turn_err, turn_off}

pub branch_zero : (d : ℕ) (T : Text) → d ≡ 0 → branch_at d T ≡ too_deep T
unfolding levels
branch_zero zero T h = refl
branch_zero (suc d) T h = absurd (omega arith)

pub branch_some : (d : ℕ) (T : Text) → (d ≡ 0 → ⊥) → branch_at d T ≡ stated_of (simple_at (d - 1)) (map_read block_from (block_at d)) T
unfolding levels
branch_some zero T h = absurd (h refl)
branch_some (suc d) T h = let e : d ≡ suc d - 1 = omega arith in ap (λ (k : ℕ). stated_of (simple_at k) (map_read block_from (block_at (suc d))) T) e

pub branch_block : (d : ℕ) (T R : Text) (b : ItemsTree × Place) → (d ≡ 0 → ⊥) → true ≡ is_mark mark.OpenBrace (first T) → block_at d T ≡ Ok (b, R) → branch_at d T ≡ Ok (block_from b, R)
branch_block d T R b h on g = branch_some d T h ∙ rw (sym on) (rw g refl)

pub branch_simple : (d : ℕ) (T : Text) → (d ≡ 0 → ⊥) → false ≡ is_mark mark.OpenBrace (first T) → branch_at d T ≡ simple_at (d - 1) T
branch_simple d T h off = branch_some d T h ∙ rw (sym off) refl

pub block_zero : (d : ℕ) (T : Text) → d ≡ 0 → block_at d T ≡ stop TooDeep T
unfolding levels
block_zero zero T h = refl
block_zero (suc d) T h = absurd (omega arith)

pub block_some : (d : ℕ) (T : Text) → (d ≡ 0 → ⊥) → block_at d T ≡ body_of (items_at (d - 1)) T
unfolding levels
block_some zero T h = absurd (h refl)
block_some (suc d) T h = let e : d ≡ suc d - 1 = omega arith in ap (λ (k : ℕ). body_of (items_at k) T) e

some_levels : ◌≡◌ {A = ℕ} 64 0 → ⊥
some_levels h = absurd (omega (arith, h))

-- a function's body opens the first level
pub body_is : (T : Text) → body_of (items_at 63) T ≡ block_at 64 T
body_is T = sym (block_some 64 T some_levels)

pub ruleset branch_rules = (branch_zero, branch_some)

pub ruleset block_rules = (block_zero, block_some)

-- items ------------------------------------------------------------------------------------------------------------

twice : {A B C : Type 0} (r : Read A) (f : A → B) (g : B → C) → ((r >>= (λ x. Ok (f x.0, x.1))) >>= (λ x. Ok (g x.0, x.1))) ≡ (r >>= (λ x. Ok (g (f x.0), x.1)))
twice (Ok x) f g = refl
twice (Err e) f g = refl

thrice : {A B C D : Type 0} (r : Read A) (f : A → B) (g : B → C) (h : C → D) → (((r >>= (λ x. Ok (f x.0, x.1))) >>= (λ x. Ok (g x.0, x.1))) >>= (λ x. Ok (h x.0, x.1))) ≡
    (r >>= (λ x. Ok (h (g (f x.0)), x.1)))
thrice (Ok x) f g h = refl
thrice (Err e) f g h = refl

pub item_declared : (d : ℕ) (T : Text) → true ≡ begins_type (first T) → map_read put (item_at d) T ≡ map_read (λ (x : DeclarationTree) (t : ItemsTree). declaration x t) (declaration_at d) T
item_declared d T e =
    let side : item_at d T ≡ map_read declared (declaration_at d) T =
    on_side (begins_type (first T)) (map_read declared (declaration_at d) T) (map_read stated (stated_of (simple_at d) (map_read block_from (block_at d))) T) e in
    ap (λ (r : Read ItemTree). r >>= (λ x. Ok (put x.0, x.1))) side ∙ twice (declaration_at d T) declared put

pub item_stated : (d : ℕ) (T : Text)
    → false ≡ begins_type (first T) → map_read put (item_at d) T ≡ map_read (λ (x : StmtTree) (t : ItemsTree). statement x t) (stated_at d) T
item_stated d T e = rw (sym e) (twice (stated_at d T) stated put)

pub ruleset item_rules = (item_declared, item_stated)

pub item_other : (d : ℕ) (T R : Text) (t : StmtTree) → false ≡ begins_type (first T) → stated_at d T ≡ Ok (t, R)
    → map_read put (item_at d) T ≡ Ok ((λ (items : ItemsTree). statement t items), R)
item_other d T R t e g = item_stated d T e ∙ rw g refl

pub stated_block : (d : ℕ) (T R : Text) (b : ItemsTree × Place) → true ≡ is_mark mark.OpenBrace (first T) → block_at d T ≡ Ok (b, R)
    → stated_at d T ≡ Ok (block_from b, R)
stated_block d T R b on g = rw (sym on) (rw g refl)

pub stated_simple : (d : ℕ) (T : Text) → false ≡ is_mark mark.OpenBrace (first T) → stated_at d T ≡ simple_at d T
stated_simple d T off = rw (sym off) refl

pub declaration_item : (x : Declaration) → item_view (DeclarationItem x) ≡ (λ (t : ItemsTree). declaration (declaration_view x) t)
declaration_item x = search (rules, the_lemmas)

pub statement_item : (x : Stmt) → item_view (StatementItem x) ≡ (λ (t : ItemsTree). statement (stmt_view x) t)
statement_item x = search (rules, the_lemmas)

pub block_stmt : (b : Block) → stmt_view (BlockStmt b) ≡ block_from (block_view b)
block_stmt b = search (rules, the_lemmas)

pub body_view : (x : Block-F BlockItem CaseItem Stmt Block Cases) → block_view (roll-Block x) ≡ (views.items_of (map item_view x.items.items), x.end)
body_view = fold-roll-Block ItemPart CasePart StmtTree (ItemsTree × Place) CasesTree item_step case_step stmt_step block_step cases_step

pub braces_view : (x : Cases-F BlockItem CaseItem Stmt Block Cases) → cases_view (roll-Cases x) ≡ views.cases_of (map case_view x.items.items)
braces_view = fold-roll-Cases ItemPart CasePart StmtTree (ItemsTree × Place) CasesTree item_step case_step stmt_step block_step cases_step

pub label_part : (b : PlacedLabel) → case_view (LabelItem b) ≡ labelled b
label_part b = search (rules, the_lemmas)

pub stated_part : (x : Stmt) → case_view (StatedItem x) ≡ stated_case (stmt_view x)
stated_part x = search (rules, the_lemmas)

-- branches ---------------------------------------------------------------------------------------------------------

pub close_gives : (is : ItemsTree) (T R : Text) (end : Place) → expect_at mark.CloseBrace T ≡ Ok (end, R) →
    map_read {B = ItemsTree × Place} (λ (e : Place). (is, e)) (expect_at mark.CloseBrace) T ≡ Ok ((is, end), R)
close_gives is T R end g = rw g refl

-- the loop of a block ----------------------------------------------------------------------------------------------

-- items, as what they put before the items after them
abbrev put_list : List ItemTree → ItemsTree → ItemsTree
put_list [] t = t
put_list (i ∷ is) t = put i (put_list is t)

abbrev put_all : List (ItemsTree → ItemsTree) → ItemsTree → ItemsTree
put_all [] t = t
put_all (f ∷ fs) t = f (put_all fs t)

-- what the items of code put is what these items put
abbrev pub ArePut : List (ItemsTree → ItemsTree) → List ItemTree → Type 0
ArePut fs is = (t : ItemsTree) → put_all fs t ≡ put_list is t

put_last : (is : List ItemTree) (i : ItemTree) (t : ItemsTree) → put_list (is ++ i ∷ []) t ≡ put_list is (put i t)
put_last [] i t = refl
put_last (j ∷ is) i t = ap (put j) (put_last is i t)

all_last : (fs : List (ItemsTree → ItemsTree)) (f : ItemsTree → ItemsTree) (t : ItemsTree) → put_all (fs ++ f ∷ []) t ≡ put_all fs (f t)
all_last [] f t = refl
all_last (g ∷ fs) f t = ap g (all_last fs f t)

put_some : (r : Read ItemTree) (f : ItemsTree → ItemsTree) (R : Text) → (r >>= (λ x. Ok (put x.0, x.1))) ≡ Ok (f, R) → (i : ItemTree) × (r ≡ Ok (i, R)) × (put i ≡ f)
put_some (Err e) f R h = absurd cc
put_some (Ok x) f R h =
    let same : (put x.0, x.1) ≡ (f, R) = cc in
    (x.0, ap (λ (S : Text). Ok (x.0, S)) (ap (λ (p : (ItemsTree → ItemsTree) × Text). p.1) same), ap (λ (p : (ItemsTree → ItemsTree) × Text). p.0) same)

put_err : (r : Read ItemTree) (f : Fault) → (r >>= (λ x. Ok (put x.0, x.1))) ≡ Err f → r ≡ Err f
put_err (Ok x) f h = absurd cc
put_err (Err e) f h = cc

items_all : (fs : List (ItemsTree → ItemsTree)) → views.items_of fs ≡ put_all fs no_items
items_all [] = refl
items_all (f ∷ fs) = ap f (items_all fs)

from_list : (is : List ItemTree) → items_from is ≡ put_list is no_items
from_list [] = refl
from_list (i ∷ is) = ap (put i) (from_list is)

pub same_items : (fs : List (ItemsTree → ItemsTree)) (is : List ItemTree) → ArePut fs is → views.items_of fs ≡ items_from is
same_items fs is h = items_all fs ∙ h no_items ∙ sym (from_list is)

step_ok : (p : Parse ItemTree) (is : List ItemTree) (i : ItemTree) (T R : Text) → p T ≡ Ok (i, R) → list_step p is T ≡ Ok (is ++ i ∷ [], R)
step_ok p is i T R e = rw e refl

step_err : (p : Parse ItemTree) (is : List ItemTree) (T : Text) (f : Fault) → p T ≡ Err f → list_step p is T ≡ Err f
step_err p is T f e = rw e refl

module _ (d : ℕ) where
  -- items that put what the code's items put, and the loop from there on
  abbrev pub State : List BlockItem → Text → Read (List ItemTree) → Type 0
  State items T result = (is : List ItemTree) × ArePut (map item_view items) is × Left begins_item (list_step (item_at d)) is T result

  pub state_start : (items : List BlockItem) (T : Text) → items ≡ [] → State items T (items_at d T)
  state_start items T e = ([], (λ t. ap (λ (is : List BlockItem). put_all (map item_view is) t) e), (length T, omega arith, refl))

  pub state_turn : (items pushed : List BlockItem) (item : BlockItem) (T R : Text) (result : Read (List ItemTree)) → pushed ≡ items ++ item ∷ [] → State items T result → true ≡ begins_item (first T)
      → map_read put (item_at d) T ≡ Ok (item_view item, R) → length R < length T → State pushed R result
  state_turn items pushed item T R result e (is, h, l) on g less =
      let i = put_some (item_at d T) (item_view item) R g in
      let s : list_step (item_at d) is T ≡ Ok (is ++ i.0 ∷ [], R) = step_ok (item_at d) is i.0 T R i.1 in (
        is ++ i.0 ∷ [],
        (λ t. ap (λ (fs : List (ItemsTree → ItemsTree)). put_all fs t) (ap (map item_view) e ∙ map_push item_view items item) ∙ all_last (map item_view items) (item_view item) t ∙ h (item_view item t)
            ∙ ap (λ (f : ItemsTree → ItemsTree). put_list is (f t)) (sym i.2) ∙ sym (put_last is i.0 t)),
        turn_on begins_item (list_step (item_at d)) is (is ++ i.0 ∷ []) T R result l (sym on) s less,
      )

  state_err : (items : List BlockItem) (T : Text) (f : Fault) (result : Read (List ItemTree)) → State items T result → true ≡ begins_item (first T) → 0 < length T →
      map_read put (item_at d) T ≡ Err f → result ≡ Err f
  state_err items T f result (is, h, l) on some g =
      let s : list_step (item_at d) is T ≡ Err f = step_err (item_at d) is T f (put_err (item_at d T) f g) in
      turn_err begins_item (list_step (item_at d)) is T f result l (sym on) some s

  pub state_end : (items : List BlockItem) (T : Text) (result : Read (List ItemTree)) → State items T result → false ≡ begins_item (first T) → (is : List ItemTree) × ArePut (map item_view items) is ×
      (result ≡ Ok (is, T))
  state_end items T result (is, h, l) off = (is, h, turn_off begins_item (list_step (item_at d)) is T result l (sym off))

  nonempty : (T : Text) → true ≡ begins_item (first T) → 0 < length T
  nonempty [] e = absurd cc
  nonempty (t ∷ T) e = omega arith

  -- the exit by `?` in a turn
  body_exit : (items : List BlockItem) (S M T : Text) (e : Stopped) → expect mark.OpenBrace (tt {0}) S ≡ Ok (tt {0}, M) → State items T (items_at d M)
      → true ≡ begins_item (first T)
      → ParsesAsErr e (map_read put (item_at d) T) → ParsesAsErr e (body_of (items_at d) S)
  body_exit items S M T stopped.Memory o l on g = tt
  body_exit items S M T (stopped.Fault f) o l on g = rw (o, state_err items T f (items_at d M) l on (nonempty T on) g) refl

  -- the end
  body_closes : (items : List BlockItem) (S M T : Text) → expect mark.OpenBrace (tt {0}) S ≡ Ok (tt {0}, M) → State items T (items_at d M)
      → false ≡ begins_item (first T)
      → body_of (items_at d) S ≡ map_read (λ (end : Place). (views.items_of (map item_view items), end)) (expect_at mark.CloseBrace) T
  body_closes items S M T o l off =
      let s = state_end items T (items_at d M) l off in
      rw (o, s.2) (ap (λ (i : ItemsTree). map_read (λ (end : Place). (i, end)) (expect_at mark.CloseBrace) T) (sym (same_items (map item_view items) s.0 s.1)))

  -- and of a block that has one level more
  pub block_exit : (e : ℕ) (items : List BlockItem) (S M T : Text) (stopped : Stopped) → (e ≡ 0 → ⊥) → d ≡ e - 1
      → expect mark.OpenBrace (tt {0}) S ≡ Ok (tt {0}, M) → State items T (items_at d M)
      → true ≡ begins_item (first T) → ParsesAsErr stopped (map_read put (item_at d) T) → ParsesAsErr stopped (block_at e S)
  block_exit e items S M T stopped some is o l on g = subst (ParsesAsErr stopped) (ap (λ (k : ℕ). body_of (items_at k) S) is
      ∙ sym (block_some e S some)) (body_exit items S M T stopped o l on g)

  pub block_closes : (e : ℕ) (items : List BlockItem) (S M T : Text) → (e ≡ 0 → ⊥) → d ≡ e - 1 → expect mark.OpenBrace (tt {0}) S ≡ Ok (tt {0}, M)
      → State items T (items_at d M) → false ≡ begins_item (first T)
      → block_at e S ≡ map_read (λ (end : Place). (views.items_of (map item_view items), end)) (expect_at mark.CloseBrace) T
  block_closes e items S M T some is o l off = block_some e S some ∙ ap (λ (k : ℕ). body_of (items_at k) S) (sym is) ∙ body_closes items S M T o l off
