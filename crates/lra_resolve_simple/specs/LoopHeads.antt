-- A loop without its body, and what it says of the body: `while` and `for` alike. Here alone it is stated what stands
-- before a body, in which order.
use Rattle.std.specs.Prelude.{ℕ, suc, ◌+◌, List, [], ◌∷◌, ◌++◌, Option, option_map}
use Rattle.lra_base.specs.{declared.refusals.Place.Place, declared.refusals.Refusal.Refusal}
use Rattle.lra_syntax.specs.Trees.{CondTree, AssignTree, InitTree, StmtTree, while, for, FunctionTree}
use Rattle.lra_syntax.specs.Views.{stmt_view, cond_view, init_view, assign_view}
use Rattle.lra_syntax.specs.{Labels.Labelled, Labels.plain_label, Labels.live_in_for, declared.trees.Stmt.Stmt}
use Rattle.lra_resolve_simple.specs.Crates.lra_resolution_spec.NameFaults.{cond_faults, init_faults, test_of_for_faults}
use Rattle.lra_resolve_simple.specs.Crates.lra_resolution_spec.NameFaults.{step_faults}
use Rattle.lra_resolve_simple.specs.Crates.lra_resolution_spec.Resolve.{resolve_cond, resolve_init, resolve_for_test}
use Rattle.lra_resolve_simple.specs.Crates.lra_resolution_spec.Resolve.{resolve_step, init_count, step_count}
use Rattle.lra_resolve_simple.specs.Crates.lra_resolution_spec.Scope.{Scope, for_scope}
use Rattle.lra_program.specs.Program as program
use Rattle.lra_program.specs.ProgramViews as view
use Rattle.lra_resolve_simple.specs.Statements.{choice_tree, loop_of, for_of}
use Rattle.lra_resolve_simple.specs.{Labelling.for_front, declared.heads.Asked.Asked, declared.heads.LoopHead.LoopHead}
use Rattle.lra_resolve_simple.specs.{declared.heads.Rounds.Rounds}
use Rattle.lra_resolve_simple.specs.declared.heads.Rounds.TheVariants as rounds
use Rattle.lra_resolve_simple.specs.declared.heads.LoopHead.TheVariants as head

pub data HeadTree : Type 0 where
  while_head : Place → CondTree → HeadTree
  for_head : Place → InitTree → Option CondTree → Option AssignTree → HeadTree

abbrev pub with_body : HeadTree → StmtTree → StmtTree
with_body (while_head at c) b = while at c b
with_body (for_head at i c e) b = for at i c e b

-- what stands in the parentheses is refused for
abbrev pub head_faults : List FunctionTree → Scope → HeadTree → List Refusal
head_faults F s (while_head at c) = cond_faults s c
head_faults F s (for_head at i c e) =
    init_faults F s i ++ test_of_for_faults (for_scope s i) c ++ step_faults F (for_scope s i) e

-- the body's scope
abbrev pub body_scope : Scope → HeadTree → Scope
body_scope s (while_head at c) = s
body_scope s (for_head at i c e) = for_scope s i

-- the body's first label
abbrev pub body_label : ℕ → HeadTree → ℕ
body_label n (while_head at c) = suc n
body_label n (for_head at i c e) = suc n + init_count i + step_count e

-- the labels before the body, and the names that live there
abbrev pub head_labels : List (List ℕ) → HeadTree → List Labelled
head_labels live (while_head at c) = plain_label at live ∷ []
head_labels live (for_head at i c e) = for_front at live i e

abbrev pub body_live : List (List ℕ) → HeadTree → List (List ℕ)
body_live live (while_head at c) = live
body_live live (for_head at i c e) = live_in_for live i

-- the loop, by what its body means
abbrev pub loop_around : List FunctionTree → Scope → ℕ → HeadTree → program.Stmt → program.Stmt
loop_around F s n (while_head at c) b = loop_of n (resolve_cond s c) b program.absent
loop_around F s n (for_head at i c e) b =
    for_of n (resolve_init F s (suc n) i) (resolve_for_test (for_scope s i) c) b
    (resolve_step F (for_scope s i) (suc n + init_count i) e)

-- what stands for the code's values --------------------------------------------------------------------

abbrev pub rounds_view : Rounds → HeadTree
rounds_view (rounds.While at c) = while_head at.now (cond_view c.now)
rounds_view (rounds.For at i c e) = for_head at.now (init_view i.now) (option_map cond_view c.now)
    (option_map assign_view e.now)

-- the tree that stands for a choice of the code
abbrev pub choice_of : Asked → Stmt → Option Stmt → StmtTree
choice_of a branch other = choice_tree a.place.now (cond_view a.cond.now) (stmt_view branch)
    (option_map stmt_view other)

abbrev pub loop_tree : Rounds → Stmt → StmtTree
loop_tree r body = with_body (rounds_view r) (stmt_view body)

abbrev pub loop_with : LoopHead → program.Stmt → program.Stmt
loop_with (head.While h) b = loop_of h.label (view.cond_view h.cond) b program.absent
loop_with (head.For h) b = for_of h.head.label (view.items_view h.init) (view.cond_view h.head.cond) b
    (view.stmt_view h.step)
