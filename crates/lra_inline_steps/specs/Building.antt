-- What must hold for each part of a program that is written out: its points come after those before it, and whatever
-- points follow, its tree is that of the definition.
use Rattle.std.specs.Prelude.{◌≡◌, ◌≢◌, ℕ, suc, ◌+◌, ◌-◌, ◌≤◌, true, List, ◌∷◌, ◌++◌, length, Option, Some, None}
use Rattle.std.specs.Prelude.{slice_get}
use Rattle.lra_program.specs.Program.{Expr, Cond, Call, Rvalue, Stmt, loop, break, continue, return, Cases, BlockItems}
use Rattle.lra_program.specs.Program.{Function, Program}
use Rattle.lra_program.specs.Sites.{Site, Event, live_after_items, rvalue_events, given_events, stmt_events}
use Rattle.lra_program.specs.Sites.{cases_events, items_events, call_events}
use Rattle.lra_program.specs.Step.{Op, store_value, havoc, truncate_to, main_receiver}
use Rattle.lra_program.specs.WellFormed.{Jumps, IsGoodCall, IsGoodGiven, IsGoodStmt, AreGoodCases, AreGoodItems}
use Rattle.lra_program.specs.{Receivers.result_receiver, Value.Argument, declared.receivers.Receiver.Receiver}
use Rattle.lra_program.specs.Step as step
use Rattle.lra_inline_steps.specs.Crates.lra_base.declared.number_types.NumberType.{NumberType}
use Rattle.lra_operations.specs.Tree.{Exit, broken, continued, returned, Node, act, leave, seq, Arms}
use Rattle.lra_operations.specs.Inlined as inlined
use Rattle.lra_inline_steps.specs.Limits.{add_points, passed, stopped}
use Rattle.lra_inline_steps.specs.{declared.frame.Frame.Frame, declared.points.Limit.Limit}

-- frames ------------------------------------------------------------------------------------------------------------

-- how long the caller's store is
abbrev pub back_length : Option step.ReturnFrame → Option ℕ
back_length None = None
back_length (Some b) = Some b.length

-- what gets the value of the function that runs
abbrev pub function_receiver : Program → Option step.ReturnFrame → Receiver
function_receiver P None = main_receiver P
function_receiver P (Some b) = b.receiver

pub record IsFrame (P : Program) (calls : List ℕ) (r : Frame) (f : inlined.Frame) : Type 0 where
  pub path : f.here.path ≡ calls
  pub base : f.here.base ≡ r.base
  pub breaks : f.breaks ≡ r.breaks
  pub continues : f.continues ≡ r.continues
  pub receiver : function_receiver P f.back ≡ r.receiver
  pub back : back_length f.back ≡ r.back

-- a well-formed part stands in the frame: the call's own variables live, `break` and `continue` find where they go, and
-- what is cut to lives
pub record Stands (r : Frame) (X : Jumps → ℕ → Type 0) : Type 0 where
  pub jumps : Jumps
  pub own : ℕ
  pub good : X jumps own
  pub within : r.base + own ≤ r.live
  pub breaks : jumps.breaks ≡ true → (m : ℕ) × (r.breaks ≡ Some m)
  pub continues : jumps.continues ≡ true → (m : ℕ) × (r.continues ≡ Some m)
  pub break_low : (m : ℕ) → r.breaks ≡ Some m → m ≤ r.live
  pub continue_low : (m : ℕ) → r.continues ≡ Some m → m ≤ r.live
  pub back_low : (n : ℕ) → r.back ≡ Some n → n ≤ r.live

module _ (P : Program) (r : Frame) where
  abbrev pub StmtStands : Stmt → Type 0
  StmtStands s = Stands r (λ jumps own. IsGoodStmt P jumps own s)

  abbrev pub CasesStand : Cases → Type 0
  CasesStand cs = Stands r (λ jumps own. AreGoodCases P jumps own cs)

  abbrev pub ItemsStand : BlockItems → Type 0
  ItemsStand items = Stands r (λ jumps own. AreGoodItems P jumps own items)

  abbrev pub GivenStands : Option Rvalue → Type 0
  GivenStands o = Stands r (λ jumps own. (at : ℕ) × IsGoodGiven P at own o)

  abbrev pub CallStands : Call → Type 0
  CallStands c = Stands r (λ jumps own. (at : ℕ) × IsGoodCall P at own c)

-- where the statements of a `switch` stand
abbrev pub cases_frame : Frame → Frame
cases_frame r = record r { breaks = Some r.live }

-- where the body of a called function stands
abbrev pub callee_frame : Frame → Receiver → ℕ → Frame
callee_frame r x params = record {
  base = r.live;
  live = r.live + params;
  calls_left = r.calls_left - 1;
  breaks = None;
  continues = None;
  receiver = x;
  back = Some r.live;
}

-- what a `return` does after its point q: the receiver gets the value, in `main` too, where nothing is kept; in a
-- called function the store is cut to the caller's n
abbrev pub any_left : Option ℕ → Receiver → ℕ → ℕ → Node
any_left None x q live = leave live returned
any_left (Some n) x q live = inlined.return_node q (havoc x) n live

abbrev pub value_left : Option ℕ → Receiver → ℕ → ℕ → Expr → ℕ → Node
value_left None x q base e live = seq (act q (store_value base x e)) (leave live returned)
value_left (Some n) x q base e live = inlined.return_node q (store_value base x e) n live

abbrev pub call_left : Option ℕ → ℕ → Node → ℕ → Node
call_left None q g live = seq g (leave live returned)
call_left (Some n) q g live = seq g (seq (act q (truncate_to n)) (leave live returned))

-- what is written ---------------------------------------------------------------------------------------------------

-- the points of the one are the first of the other
abbrev pub Begins : List Site → List Site → Type 0
Begins S T = (i : ℕ) (x : Site) → slice_get S i ≡ Some x → slice_get T i ≡ Some x

pub record Writes (P : Program) (path : List ℕ) (r : Frame) (es : List Event) (S U : List Site)
    (X : List Site → inlined.Frame → Type 0) : Type 0 where
  pub walked : add_points S es ≡ passed U
  pub placed : (T : List Site) (f : inlined.Frame) → Begins U T → IsFrame P path r f → X T f

module _ (P : Program) (path : List ℕ) (r : Frame) where
  abbrev pub inside : List ℕ → ℕ → Call → List Event
  inside = call_events P r.calls_left

  abbrev pub WritesStmt : List Site → Stmt → Node → List Site → Type 0
  WritesStmt S s g U = Writes P path r (stmt_events inside path r.live s) S U
      (λ T f. inlined.InlineStmt P T (inlined.spot_of f r.live (length S)) s g (length U))

  -- the statements of a `switch`
  abbrev pub WritesCases : List Site → Cases → Arms → List Site → Type 0
  WritesCases S cs arms U = Writes P path r (cases_events inside path r.live cs) S U
      (λ T f. inlined.InlineCases P T (inlined.spot_of f r.live (length S)) cs arms (length U))

  abbrev pub WritesItems : List Site → BlockItems → Node → List Site → Type 0
  WritesItems S b g U = Writes P path r (items_events inside path r.live b) S U
      (λ T f. inlined.InlineItems P T (inlined.spot_of f r.live (length S)) b g (live_after_items r.live b) (length U))

  -- what a receiver gets, from the point q on
  abbrev pub WritesRvalue : ℕ → Receiver → List Site → Rvalue → Node → List Site → Type 0
  WritesRvalue q x S e g U = Writes P path r (rvalue_events inside path r.live e) S U
      (λ T f. inlined.InlineRvalue P T (inlined.spot_of f r.live q) (length S) x e g (length U))

  -- a call for the receiver, at the point q, whose arguments an operation gives
  abbrev pub WritesCall : ℕ → Receiver → (List Argument → Op) → List Site → Call → Node → List Site → Type 0
  WritesCall q x gives S c g U = Writes P path r (inside path r.live c) S U
      (λ T f. inlined.InlineCall P T (inlined.spot_of f r.live q) (length S) x gives c g (length U))

  -- a loop after its own point q
  abbrev pub WritesLoop : ℕ → List Site → Cond → Stmt → Stmt → Node → List Site → Type 0
  WritesLoop q S c a step g U =
      Writes P path r (stmt_events inside path r.live step ++ stmt_events inside path r.live a) S U
      (λ T f. (at : ℕ) → inlined.IsSiteAt T (inlined.spot_of f r.live q) at
      → inlined.InlineLoop P T (inlined.spot_of f r.live q) (length S) (loop at c a step) g (length U))

  -- a declarator, and its variable's value, after its point q
  abbrev pub WritesDeclared : ℕ → List Site → NumberType → Option Rvalue → Node → List Site → Type 0
  WritesDeclared q S t o g U = Writes P path r (given_events inside path (suc r.live) o) S U
      (λ T f. inlined.InlineDeclarator P T (inlined.spot_of f r.live q) (length S) t o g (length U))

-- the body of the function that a call names, from the points S to V, after which n live
pub record WritesBody (P : Program) (path : List ℕ) (r : Frame) (x : Receiver) (c : Call) (S : List Site) (g : Node)
    (n : ℕ) (V : List Site) : Type 0 where
  pub fn : Function
  pub found : slice_get P.functions c.function ≡ Some fn
  pub some_left : r.calls_left ≢ 0
  pub written : WritesItems P (c.label ∷ path)
      (callee_frame r (result_receiver fn.result_type x) (length fn.parameters)) S fn.body g V
  pub last : n ≡ live_after_items (r.live + length fn.parameters) fn.body

-- an item takes what comes after it: it stands in the frame with some items after it
abbrev pub ItemStands : Program → Frame → (BlockItems → BlockItems) → Type 0
ItemStands P r item = (b : BlockItems) × ItemsStand P r (item b)

module _ (P : Program) (path : List ℕ) (r : Frame) where
  -- it is written out, and n live after it: whatever comes after it then begins there
  pub record WritesItem (S : List Site) (item : BlockItems → BlockItems) (g : Node) (n : ℕ) (V : List Site)
      : Type 0 where
    pub live : (b : BlockItems) → live_after_items n b ≡ live_after_items r.live (item b)
    pub stands : (b : BlockItems) → ItemsStand P r (item b) → ItemsStand P (record r { live = n }) b
    pub writes : (b : BlockItems) (h : Node) (U : List Site) → WritesItems P path (record r { live = n }) V b h U
        → WritesItems P path r S (item b) (seq g h) U
    pub stops : (b : BlockItems) (x : Limit) → add_points V (items_events (inside P path r) path n b) ≡ stopped x
        → add_points S (items_events (inside P path r) path r.live (item b)) ≡ stopped x

  -- it passes a limit, whatever comes after it
  abbrev pub StopsItem : List Site → (BlockItems → BlockItems) → Limit → Type 0
  StopsItem S item x = (b : BlockItems) → add_points S (items_events (inside P path r) path r.live (item b)) ≡ stopped x

-- how long the store is where the jump comes out
abbrev pub length_left : Exit → Frame → Option ℕ
length_left broken r = r.breaks
length_left continued r = r.continues
length_left returned r = r.back

-- `break` and `continue`: the statement that leaves so
abbrev pub leaving : Exit → ℕ → Stmt
leaving broken at = break at
leaving continued at = continue at
leaving returned at = return at None

abbrev pub LeavesLoop : List ℕ → Frame → List Site → ℕ → Exit → Node → List Site → Type 0
LeavesLoop path r S at exit g U =
    (P : Program) → exit ≢ returned → ((m : ℕ) → length_left exit r ≡ Some m → m ≤ r.live)
    → WritesStmt P path r S (leaving exit at) g U
