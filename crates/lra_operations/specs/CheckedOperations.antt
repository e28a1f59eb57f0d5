-- The operations of a tree of which something is asked, each with the point to which it belongs: those that compute
-- something, which alone can stop a run by a number, and those that access arrays. A declarator's comes after its new
-- variable, so it is reported with that variable's type.
use Rattle.std.specs.List.{Contains}
use Rattle.std.specs.Prelude.{◌≡◌, ℕ, List, [], ◌∷◌, ◌++◌, Option, None, Some, Bool, true, if◌then◌else◌, slice_get}
use Rattle.lra_operations.specs.Crates.lra_base.declared.number_types.NumberType.{NumberType}
use Rattle.lra_program.specs.Accesses.{op_accesses_any, OpOutOfBounds}
use Rattle.lra_program.specs.Step.{State, Op, append, fill, store_value, store_element, havoc, push, push_for}
use Rattle.lra_program.specs.Step.{truncate_to, test, run_op, Config}
use Rattle.lra_program.specs.{NextOperation.NextOpIs, Overflow.op_computes, Overflow.OpOverflows, Program.Program}
use Rattle.lra_program.specs.{Receivers.nobody, Run.IsOn, Run.Reaches, Sites.Site, Sites.sites_of}
use Rattle.lra_operations.specs.Agree.{IsInlinedTree, point_of, AreDistinct}
use Rattle.lra_operations.specs.Tree.{Node, empty, probe, point, act, check, seq, choose, iterate, catch, leave, select}
use Rattle.lra_operations.specs.Tree.{Arms, no_arms, entry, arm}

-- an operation that is asked: its point, the type of the variable that is new before it, if one is, and what is done
pub record OpAtPoint : Type 0 where
  pub point : ℕ
  pub fresh : Option NumberType
  pub op : Op

-- the type of the variable that is new after a least change; after a tree at whose beginning one was
abbrev pub fresh_of : Op → Option NumberType
fresh_of (append t) = Some t
fresh_of (fill a) = None
fresh_of (store_value base x e) = None
fresh_of (store_element base x e) = None
fresh_of (havoc x) = None
fresh_of (push base given) = None
fresh_of (push_for base x given) = None
fresh_of (truncate_to n) = None
fresh_of (test base c wanted) = None

abbrev pub fresh_after : Option NumberType → Node → Option NumberType
fresh_after fresh empty = fresh
fresh_after fresh (probe here what) = fresh
fresh_after fresh (point q) = None
fresh_after fresh (act q op) = fresh_of op
fresh_after fresh (check q base c) = None
fresh_after fresh (seq a b) = fresh_after (fresh_after fresh a) b
fresh_after fresh (choose q base c a b) = None
fresh_after fresh (iterate q base c a) = None
fresh_after fresh (catch q k a) = None
fresh_after fresh (leave n k) = None
fresh_after fresh (select q base e arms) = None

-- the operations of a tree that pass this test, each with its point
module _ (asks : Op → Bool) where
  abbrev pub op_where : ℕ → Option NumberType → Op → List OpAtPoint
  op_where q fresh op = if asks op then record { point = q; fresh = fresh; op = op } ∷ [] else []

  abbrev mutual
    -- all of a tree; a condition is asked once, whichever side goes on
    pub ops_where : Option NumberType → Node → List OpAtPoint
    ops_where fresh empty = []
    ops_where fresh (probe here what) = []
    ops_where fresh (point q) = []
    ops_where fresh (act q op) = op_where q fresh op
    ops_where fresh (check q base c) = op_where q None (test base c true)
    ops_where fresh (seq a b) = ops_where fresh a ++ ops_where (fresh_after fresh a) b
    ops_where fresh (choose q base c a b) =
        op_where q None (test base c true) ++ ops_where None a ++ ops_where None b
    ops_where fresh (iterate q base c a) = op_where q None (test base c true) ++ ops_where None a
    ops_where fresh (catch q k a) = ops_where None a
    ops_where fresh (leave n k) = []
    -- a value that is looked for goes to no receiver
    ops_where fresh (select q base e arms) = op_where q None (store_value base nobody e) ++ ops_where_in_arms None arms

    -- one after the other
    pub ops_where_in_arms : Option NumberType → Arms → List OpAtPoint
    ops_where_in_arms fresh no_arms = []
    ops_where_in_arms fresh (entry l arms) = ops_where_in_arms fresh arms
    ops_where_in_arms fresh (arm a arms) = ops_where fresh a ++ ops_where_in_arms (fresh_after fresh a) arms

-- the operations that compute something
abbrev pub computing_op : ℕ → Option NumberType → Op → List OpAtPoint
computing_op q fresh op = op_where op_computes q fresh op

abbrev pub computing_ops : Option NumberType → Node → List OpAtPoint
computing_ops fresh g = ops_where op_computes fresh g

abbrev pub computing_ops_in_arms : Option NumberType → Arms → List OpAtPoint
computing_ops_in_arms fresh arms = ops_where_in_arms op_computes fresh arms

-- the operations that access arrays
abbrev pub accessing_ops : Option NumberType → Node → List OpAtPoint
accessing_ops fresh g = ops_where op_accesses_any fresh g

-- Q holds of the operation and of the state in which it runs, if the point is on top in this state
abbrev pub HoldsWithFresh : (Op → State → Type 0) → Option NumberType → Op → State → Type 0
HoldsWithFresh Q None op s = Q op s
HoldsWithFresh Q (Some t) op s = (m : State) × (run_op (append t) s ≡ Some m) × Q op m

abbrev pub HoldsAtPoint : (Op → State → Type 0) → OpAtPoint → State → Type 0
HoldsAtPoint Q a s = HoldsWithFresh Q a.fresh a.op s

-- it stops by a number
abbrev pub FreshOverflows : Option NumberType → Op → State → Type 0
FreshOverflows fresh op s = HoldsWithFresh OpOverflows fresh op s

abbrev pub OverflowsAtPoint : OpAtPoint → State → Type 0
OverflowsAtPoint a s = HoldsAtPoint OpOverflows a s

-- What each tree of a program must guarantee: it asks once at each point at most; and if Q holds of what is on top
-- of a run with a point on top, it asks there, and Q holds of that operation.
abbrev pub AreOncePerPoint : (Op → Bool) → Node → Type 0
AreOncePerPoint asks g = (i j : ℕ) (a b : OpAtPoint) → slice_get (ops_where asks None g) i ≡ Some a →
    slice_get (ops_where asks None g) j ≡ Some b → a.point ≡ b.point → i ≡ j

pub record AgreesOnOps (asks : Op → Bool) (Q : Op → State → Type 0) (P : Program) (g : Node) : Type 0 where
  pub once : AreOncePerPoint asks g
  pub there : (number : ℕ) (s : Site) (c : Config) → slice_get (sites_of P) number ≡ Some s → Reaches P c →
      IsOn c (point_of s) → NextOpIs Q P c.items c.here c.state → (a : OpAtPoint) ×
      Contains (ops_where asks None g) a × (a.point ≡ number) × HoldsAtPoint Q a c.state

-- where a run stops by a number
abbrev pub AgreesOnOverflows : Program → Node → Type 0
AgreesOnOverflows P g = AgreesOnOps op_computes OpOverflows P g

-- where its n-th access is outside
abbrev pub AgreesOnAccesses : Program → Node → Type 0
AgreesOnAccesses P g = (n : ℕ) → AgreesOnOps op_accesses_any (λ op s. OpOutOfBounds op s n) P g

abbrev pub TreesAgreeOnOverflows : Type 0
TreesAgreeOnOverflows = (P : Program) (g : Node) → AreDistinct (sites_of P) → IsInlinedTree P g → AgreesOnOverflows P g

abbrev pub TreesAgreeOnAccesses : Type 0
TreesAgreeOnAccesses = (P : Program) (g : Node) → AreDistinct (sites_of P) → IsInlinedTree P g → AgreesOnAccesses P g
