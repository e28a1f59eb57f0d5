-- What must hold when a program is written out along a list of open places: in each of them a part is under way, and
-- with that the place's own part is written.
use Rattle.std.specs.Prelude.{◌≡◌, ℕ, ◌+◌, ◌≤◌, List, [], ◌∷◌, ◌++◌, map, length, Option, Some, None}
use Rattle.lra_inline_steps.specs.Crates.lra_base.Limits.{greatest_live}
use Rattle.lra_inline_steps.specs.Crates.lra_base.declared.case_labels.CaseLabel.{CaseLabel}
use Rattle.lra_program.specs.Program.{Declarator, declaration, array, BlockItems, Program, Cond}
use Rattle.lra_program.specs.ProgramViews.{expr_view, cond_view, call_view, stmt_view, declarator_view, item_view}
use Rattle.lra_program.specs.ProgramViews.{items_of, case_view, cases_of}
use Rattle.lra_program.specs.Sites.{Site, live_after_items, plain_site, stmt_events, cases_events, items_events}
use Rattle.lra_program.specs.{Sites.call_events, Step.append, Step.truncate_to, declared.program.CaseItem.CaseItem}
use Rattle.lra_operations.specs.Tree.{Node, point, act, seq, choose, Arms}
use Rattle.lra_operations.specs.TreeViews.{node_view, row, ArmPart, arm_view, arms_before}
use Rattle.lra_operations.specs.{Inlined.loop_node, Inlined.switch_node, declared.tree.Arm.Arm}
use Rattle.lra_program.specs.Program as resolved
use Rattle.lra_program.specs.declared.arrays.Array as arrays
use Rattle.lra_operations.specs.Tree as graph
use Rattle.lra_inline_steps.specs.Building.{inside, call_left, ItemsStand, ItemStands, StmtStands, CasesStand}
use Rattle.lra_inline_steps.specs.Building.{CallStands, cases_frame, WritesStmt, WritesCases, WritesItems, WritesItem}
use Rattle.lra_inline_steps.specs.Building.{WritesLoop, WritesBody, StopsItem}
use Rattle.lra_inline_steps.specs.Inlining.{Points, points_in, body_of, step_of, program_around, WritesCallOf}
use Rattle.lra_inline_steps.specs.declared.stack.Forked.TheVariants.{OnTrue, OnFalse, Step, Body}
use Rattle.lra_inline_steps.specs.declared.stack.InlineContext.TheVariants.{Items as ItemsAt, Cases as CasesAt, Forked}
use Rattle.lra_inline_steps.specs.declared.stack.InlineContext.TheVariants.{Init, Around as AroundAt, Block, Given}
use Rattle.lra_inline_steps.specs.declared.stack.InlineContext.TheVariants.{Declared, Returned, Callee}
use Rattle.lra_inline_steps.specs.declared.stack.Next.TheVariants.{Written, Opens}
use Rattle.lra_inline_steps.specs.declared.stack.Part.TheVariants.{Stmt, Declaration, Array, Items, Call, Rounds}
use Rattle.lra_inline_steps.specs.{Limits.add_points, Limits.passed, Limits.stopped, declared.frame.Around.Around}
use Rattle.lra_inline_steps.specs.{declared.frame.Caller.Caller, declared.frame.Frame.Frame}
use Rattle.lra_inline_steps.specs.{declared.points.Limit.Limit, declared.stack.CalledFrom.CalledFrom}
use Rattle.lra_inline_steps.specs.{declared.stack.CaseRow.CaseRow, declared.stack.InlineFrame.InlineFrame}
use Rattle.lra_inline_steps.specs.{declared.stack.ItemRow.ItemRow, declared.stack.NextCase.NextCase}
use Rattle.lra_inline_steps.specs.declared.stack.Part as part
use Rattle.lra_inline_steps.specs.declared.stack.InlineContext as place
use Rattle.lra_inline_steps.specs.declared.stack.Forked as forked
use Rattle.lra_inline_steps.specs.declared.stack.Written as written
use Rattle.lra_inline_steps.specs.declared.stack.Next as next

-- what is to be written out: a statement; a declarator with its variable; one of an array, by its label; items; a call,
-- for what calls; the rounds of a loop after its own point, by its body and its step
pub data Work : Type 0 where
  a_stmt : resolved.Stmt → Work
  a_declaration : Declarator → Work
  an_array : ℕ → arrays.Array → Work
  all_items : BlockItems → Work
  a_call : Caller → resolved.Call → Work
  all_rounds : ℕ → Cond → resolved.Stmt → resolved.Stmt → Work

abbrev pub part_view : part.Part → Work
part_view (Stmt s) = a_stmt (stmt_view s.now)
part_view (Declaration d) = a_declaration (declarator_view d.now)
part_view (Array at a) = an_array at a
part_view (Items b) = all_items (items_of (map item_view b.now))
part_view (Call caller c) = a_call caller (call_view c.now)
part_view (Rounds q r) = all_rounds q (cond_view r.cond.now) (body_of r) (step_of r)

-- work that is due: on this path, in this frame, after these points
pub record InlineTask : Type 0 where
  pub part : Work
  pub path : List ℕ
  pub frame : Frame
  pub before : List Site

abbrev pub inline_task : Work → List ℕ → Frame → List Site → InlineTask
inline_task w path r S = record { part = w; path = path; frame = r; before = S }

-- the path of what is under way in a place on this path
abbrev pub path_inside : place.InlineContext → List ℕ → List ℕ
path_inside (Callee from) path = from.call.now.label ∷ path
path_inside p path = path

module _ (P : Program) where
  -- it is written out as this tree, with so many live after it; these are the points then
  abbrev pub WrittenAs : Work → List ℕ → Frame → List Site → Node → ℕ → List Site → Type 0
  WrittenAs (a_stmt s) path r S g n V = WritesStmt P path r S s g V × (n ≡ r.live)
  WrittenAs (a_declaration d) path r S g n V = WritesItem P path r S (declaration d) g n V
  WrittenAs (an_array at a) path r S g n V = WritesItem P path r S (array at a) g n V
  WrittenAs (all_items b) path r S g n V = WritesItems P path r S b g V × (n ≡ live_after_items r.live b)
  WrittenAs (a_call caller c) path r S g n V = WritesCallOf P path r caller S c g V × (n ≡ r.live)
  WrittenAs (all_rounds q c a step) path r S g n V = WritesLoop P path r q S c a step g V

  abbrev pub IsWritten : InlineTask → Node → ℕ → List Site → Type 0
  IsWritten d g n V = WrittenAs d.part d.path d.frame d.before g n V

  -- it passes the limit
  abbrev pub StopsAs : Work → List ℕ → Frame → List Site → Limit → Type 0
  StopsAs (a_stmt s) path r S l = add_points S (stmt_events (inside P path r) path r.live s) ≡ stopped l
  StopsAs (a_declaration d) path r S l = StopsItem P path r S (declaration d) l
  StopsAs (an_array at a) path r S l = StopsItem P path r S (array at a) l
  StopsAs (all_items b) path r S l = add_points S (items_events (inside P path r) path r.live b) ≡ stopped l
  StopsAs (a_call caller c) path r S l = add_points S (call_events P r.calls_left path r.live c) ≡ stopped l
  StopsAs (all_rounds q c a step) path r S l =
      add_points S (stmt_events (inside P path r) path r.live step ++ stmt_events (inside P path r) path r.live a)
      ≡ stopped l

  abbrev pub Stops : InlineTask → Limit → Type 0
  Stops d l = StopsAs d.part d.path d.frame d.before l

  -- it can be written there
  abbrev pub StandsAs : Work → Frame → Type 0
  StandsAs (a_stmt s) r = StmtStands P r s
  StandsAs (a_declaration d) r = ItemStands P r (declaration d)
  StandsAs (an_array at a) r = ItemStands P r (array at a)
  StandsAs (all_items b) r = ItemsStand P r b
  StandsAs (a_call caller c) r = CallStands P r c × (r.live ≤ greatest_live + 1)
  StandsAs (all_rounds q c a step) r =
      StmtStands P (record r { breaks = Some r.live; continues = Some r.live }) a ×
      StmtStands P (record r { breaks = None; continues = None }) step

  -- places -----------------------------------------------------------------------------------------------------------

  -- with the part the whole is written: its tree is of this form, and so many live after it
  abbrev pub Closes : InlineTask → InlineTask → (Node → Node) → ℕ → Type 0
  Closes whole under form live =
      (g : Node) (n : ℕ) (V : List Site) → IsWritten under g n V → IsWritten whole (form g) live V

  -- after the part comes another one, and with both the whole is written
  pub record Forks (whole under : InlineTask) (other : ℕ → List Site → InlineTask) (form : Node → Node → Node) : Type 0
    where
      pub stands : (g : Node) (n : ℕ) (V : List Site) → IsWritten under g n V
          → StandsAs (other n V).part (other n V).frame
      pub writes : (g h : Node) (n k : ℕ) (V U : List Site) → IsWritten under g n V → IsWritten (other n V) h k U
          → IsWritten whole (form g h) whole.frame.live U
      pub stops : (g : Node) (n : ℕ) (V : List Site) (l : Limit) → IsWritten under g n V → Stops (other n V) l
          → Stops whole l

  -- after the part comes the point of a block's end, at which all that lives after the part lives
  pub record EndsBlock (whole under : InlineTask) (end : ℕ) : Type 0 where
    pub writes : (g : Node) (n : ℕ) (V U : List Site) → IsWritten under g n V
        → add_points V (plain_site whole.path end n ∷ []) ≡ passed U
        → IsWritten whole (seq g (seq (point (length V)) (act (length V) (truncate_to whole.frame.live))))
        whole.frame.live U
    pub stops : (g : Node) (n : ℕ) (V : List Site) (l : Limit) → IsWritten under g n V
        → add_points V (plain_site whole.path end n ∷ []) ≡ stopped l → Stops whole l

  -- items of which these are written, and these are left: whatever is written of those comes after them
  pub record ItemsLoop (path : List ℕ) (r : Frame) (S : List Site) (all rest : BlockItems) (gs : List Node) (n : ℕ)
      (V : List Site) : Type 0 where
    pub live : live_after_items n rest ≡ live_after_items r.live all
    pub stands : ItemsStand P (record r { live = n }) rest
    pub writes : (h : Node) (U : List Site) → WritesItems P path (record r { live = n }) V rest h U
        → WritesItems P path r S all (row gs h) U
    pub stops : (l : Limit) → add_points V (items_events (inside P path r) path n rest) ≡ stopped l
        → add_points S (items_events (inside P path r) path r.live all) ≡ stopped l

  -- the item under way comes after those that are written, and before those that are left
  pub record IsRow (whole under : InlineTask) (r : ItemRow) : Type 0 where
    pub all : BlockItems
    pub is : whole.part ≡ all_items all
    pub writes : (g : Node) (n : ℕ) (V : List Site) → IsWritten under g n V
        → ItemsLoop whole.path whole.frame whole.before all (items_of (map item_view r.rest.now))
        (map node_view r.parts.items ++ g ∷ []) n V

  -- a `switch` after its point q, of which these arms are written and these cases are left: whatever is written of
  -- those comes after them
  pub record SwitchLoop (path : List ℕ) (r : Frame) (S : List Site) (q at : ℕ) (e : resolved.Expr)
      (all rest : resolved.Cases) (arms : List ArmPart) (V : List Site) : Type 0 where
    pub stands : CasesStand P (cases_frame r) rest
    pub writes : (h : Arms) (U : List Site) → WritesCases P path (cases_frame r) V rest h U
        → WritesStmt P path r S (resolved.switch at e all)
        (seq (point q) (switch_node q r.base e (arms_before arms h))) U
    pub stops : (l : Limit) → add_points V (cases_events (inside P path r) path r.live rest) ≡ stopped l
        → add_points S (stmt_events (inside P path r) path r.live (resolved.switch at e all)) ≡ stopped l

  -- the statement under way comes after what is written of the `switch`, and before what is left
  pub record IsCaseRow (whole under : InlineTask) (r : CaseRow) : Type 0 where
    pub at : ℕ
    pub all : resolved.Cases
    pub is : whole.part ≡ a_stmt (resolved.switch at (expr_view r.value.now) all)
    pub writes : (g : Node) (n : ℕ) (V : List Site) → IsWritten under g n V
        → SwitchLoop whole.path whole.frame whole.before r.point at (expr_view r.value.now) all
        (cases_of (map case_view r.rest.now)) (map arm_view r.arms.items ++ graph.arm g ∷ []) V

  -- the body of the function that the call names
  pub record IsBody (whole under : InlineTask) (from : CalledFrom) : Type 0 where
    pub is : whole.part ≡ a_call from.caller (call_view from.call.now)
    pub path : from.path ≡ whole.path
    pub stands : CallStands P whole.frame (call_view from.call.now)
    pub few : whole.frame.live ≤ greatest_live + 1
    pub writes : (g : Node) (n : ℕ) (V : List Site) → IsWritten under g n V
        → WritesBody P whole.path whole.frame from.caller.receiver (call_view from.call.now) whole.before g n V

  -- one case for each kind of place
  abbrev pub ForkContinues : InlineTask → InlineTask → forked.Forked → Type 0
  ForkContinues whole under (OnTrue b) = Forks whole under
      (λ n V. inline_task (a_stmt (stmt_view b.on_false.now)) whole.path whole.frame V)
      (λ g h. seq (point b.point) (choose b.point whole.frame.base (cond_view b.cond.now) g h))
  ForkContinues whole under (OnFalse q c g) = Closes whole under
      (λ h. seq (point q) (choose q whole.frame.base (cond_view c.now) (node_view g) h)) whole.frame.live
  ForkContinues whole under (Step q r) = Forks whole under
      (λ n V. inline_task (a_stmt (body_of r)) whole.path
      (record whole.frame { breaks = Some whole.frame.live; continues = Some whole.frame.live }) V)
      (λ g h. loop_node q whole.frame.base (cond_view r.cond.now) h g)
  ForkContinues whole under (Body q c g) = Closes whole under
      (λ h. loop_node q whole.frame.base (cond_view c.now) h (node_view g)) whole.frame.live

  abbrev pub Continues : InlineTask → InlineTask → place.InlineContext → Type 0
  Continues whole under (ItemsAt r) = IsRow whole under r
  Continues whole under (CasesAt r) = IsCaseRow whole under r
  Continues whole under (Forked x) = ForkContinues whole under x
  Continues whole under (Init q r) = Forks whole under
      (λ n V. inline_task (part_view (Rounds q r)) whole.path (record whole.frame { live = n }) V)
      (λ g h. seq g (seq h (act q (truncate_to whole.frame.live))))
  Continues whole under (AroundAt q g) = Closes whole under
      (λ h. seq (node_view g) (seq h (act q (truncate_to whole.frame.live)))) whole.frame.live
  Continues whole under (Block end) = EndsBlock whole under end
  Continues whole under (Given q) = Closes whole under (λ g. seq (point q) g) whole.frame.live
  Continues whole under (Declared q t) = (g : Node) (n : ℕ) (V : List Site) → IsWritten under g n V
      → IsWritten whole (seq (point q) (seq (act q (append t)) g)) n V
  Continues whole under (Returned q) = Closes whole under
      (λ g. seq (point q) (call_left whole.frame.back q g whole.frame.live)) whole.frame.live
  Continues whole under (Callee from) = IsBody whole under from

  -- with the part under way in the place the whole is written, and a limit that the part passes is the whole's
  pub record IsInlineFrame (whole under : InlineTask) (o : InlineFrame) : Type 0 where
    pub frame : o.frame ≡ whole.frame
    pub path : under.path ≡ path_inside o.place whole.path
    pub continues : Continues whole under o.place
    pub stops : (l : Limit) → Stops under l → Stops whole l

  -- the part under way at the place is written, as this
  abbrev pub IsAfterFrame : InlineTask → InlineTask → InlineFrame → written.Written → List ℕ → List Site → Type 0
  IsAfterFrame whole under o w path V =
      IsInlineFrame whole under o × IsWritten under (node_view w.node) w.live V × (path ≡ under.path)

  -- the places from the outermost on
  abbrev pub AreInlineFrames : InlineTask → InlineTask → List InlineFrame → Type 0
  AreInlineFrames whole under [] = under ≡ whole
  AreInlineFrames whole under (o ∷ os) =
      (inner : InlineTask) × IsInlineFrame whole inner o × AreInlineFrames inner under os

  -- what a step towards the whole leads to, with this path and these points then
  abbrev pub InlineStepLeads : InlineTask → next.Next → List ℕ → List Site → Type 0
  InlineStepLeads whole (Written w) path V = IsWritten whole (node_view w.node) w.live V × (path ≡ whole.path)
  InlineStepLeads whole (Opens o r p) path V =
      IsInlineFrame whole (inline_task (part_view p) path r V) o × StandsAs (part_view p) r

  -- the loop: what comes next leads to what the innermost place has under way
  abbrev pub InliningIsUnderWay : InlineTask → List InlineFrame → next.Next → List ℕ → List Site → Type 0
  InliningIsUnderWay whole places n path V =
      (under : InlineTask) × AreInlineFrames whole under places × InlineStepLeads under n path V

-- these labels, then the cases
abbrev pub labelled_all : List CaseLabel → resolved.Cases → resolved.Cases
labelled_all [] cs = cs
labelled_all (l ∷ ls) cs = resolved.labelled l (labelled_all ls cs)

-- the next statement of a `switch` and what comes after it; none if no statement is left
abbrev pub from_next : Option NextCase → resolved.Cases
from_next None = resolved.no_cases
from_next (Some x) = resolved.stated (stmt_view x.stmt.now) (cases_of (map case_view x.rest.now))

-- a label, before the arms after it
abbrev pub entry_part : CaseLabel → ArmPart
entry_part l = graph.entry l

-- the labels before what is left are written after the arms
abbrev pub PassesLabels : List Arm → List Arm → List CaseItem → resolved.Cases → Type 0
PassesLabels before after cases left =
    (labels : List CaseLabel) × (cases_of (map case_view cases) ≡ labelled_all labels left)
    × (map arm_view after ≡ map arm_view before ++ map entry_part labels)

-- where a step leads, by what stands around in code and the points before and after it
abbrev pub InlineStepLeadsFrom : Around → Points → Points → Work → next.Next → Type 0
InlineStepLeadsFrom at before after w n =
    InlineStepLeads (program_around at) (inline_task w at.path.now at.frame (points_in before)) n at.path.now
    (points_in after)
