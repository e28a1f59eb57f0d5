-- What must hold for a part, by what stands around it in code, and by the points before it and after it.
use Rattle.std.specs.Prelude.{◌≡◌, ℕ, List, [], ◌∷◌, map, true, ⊤, Vec, Option, Some, None, option_map}
use Rattle.std.specs.declared.alloc.Global.{Global}
use Rattle.lra_operations.specs.declared.tree.Node as code
use Rattle.lra_operations.specs.declared.tree.Site as code_site
use Rattle.lra_program.specs.Program.{Call, Element, Stmt, block, assign, write, call, if, loop, for, return, switch}
use Rattle.lra_program.specs.ProgramViews.{expr_view, element_view, cond_view, stmt_view, case_view, cases_of}
use Rattle.lra_program.specs.Sites.{Site, Event, comes, plain_site, stmt_events, items_events, call_events}
use Rattle.lra_program.specs.{Program.BlockItems, Program.Program, ProgramViews.program_view, Step.Op, Step.push}
use Rattle.lra_program.specs.{Step.push_for, Value.Argument, declared.receivers.Receiver.Receiver}
use Rattle.lra_program.specs.declared.program.Expr as code_expr
use Rattle.lra_program.specs.declared.program.CaseItem as code_case
use Rattle.lra_operations.specs.{Tree.Exit, Tree.Node, TreeViews.node_view, TreeViews.site_view}
use Rattle.lra_inline_steps.specs.Limits.{add_points, passed, stopped}
use Rattle.lra_inline_steps.specs.{declared.frame.Around.Around, declared.frame.Caller.Caller}
use Rattle.lra_inline_steps.specs.{declared.frame.Frame.Frame, declared.frame.Repeated.Repeated}
use Rattle.lra_inline_steps.specs.{declared.frame.Source.Source, declared.points.Limit.Limit}
use Rattle.lra_inline_steps.specs.Building as building

abbrev pub Points : Type 0
Points = Vec code_site.Site Global

abbrev pub points_in : Points → List Site
points_in points = map site_view points.items

abbrev pub program_of : Source → Program
program_of source = program_view source.program.now

-- loops, by what they repeat
abbrev pub body_of : Repeated → Stmt
body_of r = stmt_view r.body.now.value

abbrev pub step_of : Repeated → Stmt
step_of r = stmt_view r.step.now.value

abbrev pub loop_of : ℕ → Repeated → Stmt
loop_of at r = loop at (cond_view r.cond.now) (body_of r) (step_of r)

abbrev pub for_of : ℕ → BlockItems → Repeated → Stmt
for_of at init r = for at init (cond_view r.cond.now) (body_of r) (step_of r)

-- a `switch`, by its expression and its cases
abbrev pub switch_of : ℕ → code_expr.Expr → List code_case.CaseItem → Stmt
switch_of at e cs = switch at (expr_view e) (cases_of (map case_view cs))

-- a statement with no statements in it
abbrev pub IsSimple : Stmt → Type 0
IsSimple (block items end) = ⊥
IsSimple (if label c a b) = ⊥
IsSimple (loop label c a step) = ⊥
IsSimple (for label init c a step) = ⊥
IsSimple (switch label e cs) = ⊥
IsSimple s = ⊤

-- a statement with no part to be written out, which makes no call
abbrev pub IsLone : Stmt → Type 0
IsLone (block items end) = ⊥
IsLone (assign label x e) = ⊥
IsLone (write label x e) = ⊥
IsLone (call label c) = ⊥
IsLone (if label c a b) = ⊥
IsLone (loop label c a step) = ⊥
IsLone (for label init c a step) = ⊥
IsLone (return label e) = ⊥
IsLone (switch label e cs) = ⊥
IsLone s = ⊤

-- what gives a call's arguments: after the index of the element that the value is for, if it is for one
abbrev pub gives_for : ℕ → Option Element → List Argument → Op
gives_for base None = push base
gives_for base (Some x) = push_for base x

abbrev pub gives_of : ℕ → Caller → List Argument → Op
gives_of base caller = gives_for base (option_map (λ x. element_view x.now) caller.element)

-- the call, as this caller makes it
abbrev pub WritesCallOf : Program → List ℕ → Frame → Caller → List Site → Call → Node → List Site → Type 0
WritesCallOf P path r caller S c g U =
    building.WritesCall P path r caller.point caller.receiver (gives_of r.base caller) S c g U

module _ (at : Around) where
  abbrev pub program_around : Program
  program_around = program_view at.program.now

  abbrev pub inside : List ℕ → ℕ → Call → List Event
  inside = building.inside program_around at.path.now at.frame

  -- the point of a statement with this label, and of an assertion
  abbrev pub own_events : ℕ → List Event
  own_events label = plain_site at.path.now label at.frame.live ∷ []

  abbrev pub assertion_events : ℕ → List Event
  assertion_events label =
      comes (record { path = at.path.now; label = label; live = at.frame.live; asserts = true }) ∷ []

  abbrev pub on_stmt : Stmt → List Event
  on_stmt s = stmt_events inside at.path.now at.frame.live s

  -- it stands there, where so many variables live
  abbrev pub StmtStands : Stmt → Type 0
  StmtStands s = building.StmtStands program_around at.frame s

  abbrev pub ItemsStand : BlockItems → Type 0
  ItemsStand b = building.ItemsStand program_around at.frame b

  abbrev pub ItemStands : (BlockItems → BlockItems) → Type 0
  ItemStands item = building.ItemStands program_around at.frame item

  abbrev pub CallStands : Call → Type 0
  CallStands c = building.CallStands program_around at.frame c

  -- no call more may be made there, whatever points come before
  abbrev pub StopsAnywhere : Call → Limit → Type 0
  StopsAnywhere c x =
      (S : List Site) → add_points S (call_events program_around at.frame.calls_left at.path.now at.frame.live c)
      ≡ stopped x

  module _ (before : Points) where
    -- it passes the limit, after these points
    abbrev pub Stops : List Event → Limit → Type 0
    Stops es x = add_points (points_in before) es ≡ stopped x

    abbrev pub StopsStmt : Stmt → Limit → Type 0
    StopsStmt s = Stops (on_stmt s)

    abbrev pub StopsItems : BlockItems → Limit → Type 0
    StopsItems b = Stops (items_events inside at.path.now at.frame.live b)

    abbrev pub StopsItem : (BlockItems → BlockItems) → Limit → Type 0
    StopsItem item = building.StopsItem program_around at.path.now at.frame (points_in before) item

    -- after its callee's body, wherever that begins
    abbrev pub StopsBehind : Receiver → Call → code.Node → ℕ → Limit → Type 0
    StopsBehind x c g n l =
        (S : List Site) → building.WritesBody program_around at.path.now at.frame x c S (node_view g) n
        (points_in before)
        → add_points S (call_events program_around at.frame.calls_left at.path.now at.frame.live c) ≡ stopped l

    module _ (after : Points) where
      -- the points after it are those of these events
      abbrev pub Passes : List Event → Type 0
      Passes es = add_points (points_in before) es ≡ passed (points_in after)

      -- it is written out as this tree
      abbrev pub IsStmtWrittenOut : Stmt → code.Node → Type 0
      IsStmtWrittenOut s g =
          building.WritesStmt program_around at.path.now at.frame (points_in before) s (node_view g) (points_in after)

      -- so it is in any program
      abbrev pub IsPlain : Stmt → code.Node → Type 0
      IsPlain s g =
          (P : Program)
          → building.WritesStmt P at.path.now at.frame (points_in before) s (node_view g) (points_in after)

      abbrev pub IsExit : ℕ → Exit → code.Node → Type 0
      IsExit label exit g =
          building.LeavesLoop at.path.now at.frame (points_in before) label exit (node_view g) (points_in after)

      abbrev pub AreItemsWrittenOut : BlockItems → code.Node → Type 0
      AreItemsWrittenOut b g =
          building.WritesItems program_around at.path.now at.frame (points_in before) b (node_view g) (points_in after)

      -- g is the call's tree, if h is its callee's body, wherever that begins
      abbrev pub IsCallWrittenOut : Caller → Call → code.Node → ℕ → code.Node → Type 0
      IsCallWrittenOut caller c h n g =
          (S : List Site)
          → building.WritesBody program_around at.path.now at.frame caller.receiver c S (node_view h) n
          (points_in before)
          → WritesCallOf program_around at.path.now at.frame caller S c (node_view g) (points_in after)
