-- The iteration over a program whose calls are written out: one case for each form of its tree.
-- What is counted here are values at points, values with which the tree is left, and the first point with a flagged
-- operation.
use Rattle.std.specs.List.{list_any}
use Rattle.std.specs.Prelude.{◌≡◌, ℕ, zero, suc, ◌-◌, ℤ, List, [], ◌∷◌, ◌++◌, Option, None, Some, Bool, true, false}
use Rattle.lra_analysis_spec.specs.Crates.lra_base.CaseLabels.{is_same_case}
use Rattle.lra_analysis_spec.specs.Crates.lra_base.declared.case_labels.CaseLabel.TheVariants.{Case, Default}
use Rattle.lra_analysis_spec.specs.Crates.lra_program.Program.{Expr, Cond}
use Rattle.lra_analysis_spec.specs.Crates.{lra_base.declared.case_labels.CaseLabel.CaseLabel, lra_program.Step.Op}
use Rattle.lra_domain.specs.declared.Exactness.TheVariants.{Exact, Flagged}
use Rattle.lra_domain.specs.{Abstraction.worse, declared.Exactness.Exactness}
use Rattle.lra_operations.specs.Tree.{Exit, broken, continued, returned, Node, empty, point, probe, act, check, seq}
use Rattle.lra_operations.specs.Tree.{choose, iterate, catch, leave, select, Arms, no_arms, entry, arm, entries_of}
use Rattle.lra_operations.specs.declared.probes.Probe.TheVariants.{InterferencePoint, RecordWrite}
use Rattle.lra_analysis_spec.specs.MovesOf.{guard, value_moves, moves_of}
use Rattle.lra_analysis_spec.specs.Plan.{Plan, Widening, mode_at}
use Rattle.lra_analysis_spec.specs.{Moves.AreMade, Operations.Operations, Thresholds.loop_thresholds}

-- what is found on the way
pub data PassEntry (V : Type 0) : Type 0 where
  -- the value at the point of this number
  value : ℕ → V → PassEntry V
  -- the value where the assertion at the point is false
  failing : ℕ → V → PassEntry V
  -- what was there when at the point of the first number the variable at this place had got a value
  recorded : ℕ → ℕ → V → PassEntry V

-- what a pass gives: its entries in the order in which they are found, the value after the tree, the values of its
-- jumps in text order, and the point of the first flagged operation, if there is one
pub record PassResult (V : Type 0) : Type 0 where
  pub entries : List (PassEntry V)
  pub normal : V
  pub breaks : List V
  pub continues : List V
  pub returns : List V
  pub flag : Option ℕ

-- an operation of this point is done: the first flagged point so far
abbrev pub noted : ℕ → Exactness → Option ℕ → Option ℕ
noted q e (Some p) = Some p
noted q Exact None = None
noted q Flagged None = Some q

-- the values of the jumps of this kind
abbrev pub jumps_of : {V : Type 0} → Exit → PassResult V → List V
jumps_of broken r = r.breaks
jumps_of continued r = r.continues
jumps_of returned r = r.returns

-- without a jump
abbrev pub goes_on : {V : Type 0} → List (PassEntry V) → V → Option ℕ → PassResult V
goes_on xs v f = record { entries = xs; normal = v; breaks = []; continues = []; returns = []; flag = f }

-- the jump takes the value, and nothing goes on
abbrev pub jumps : {V : Type 0} → Exit → V → V → Option ℕ → PassResult V
jumps broken v nothing f = record {
  entries = [];
  normal = nothing;
  breaks = v ∷ [];
  continues = [];
  returns = [];
  flag = f;
}
jumps continued v nothing f = record {
  entries = [];
  normal = nothing;
  breaks = [];
  continues = v ∷ [];
  returns = [];
  flag = f;
}
jumps returned v nothing f = record {
  entries = [];
  normal = nothing;
  breaks = [];
  continues = [];
  returns = v ∷ [];
  flag = f;
}

-- what both find, and the jumps of both; this value goes on
abbrev pub in_turn : {V : Type 0} → PassResult V → PassResult V → V → Option ℕ → PassResult V
in_turn r s v f = record {
  entries = r.entries ++ s.entries;
  normal = v;
  breaks = r.breaks ++ s.breaks;
  continues = r.continues ++ s.continues;
  returns = r.returns ++ s.returns;
  flag = f;
}

-- the first of the values that come out after a catch, and the others: a loop's own end comes before its jumps, a
-- call's after them
abbrev pub first_of_call : {V : Type 0} → List V → V → V × List V
first_of_call [] normal = (normal, [])
first_of_call (v ∷ vs) normal = (v, vs ++ normal ∷ [])

abbrev pub values_behind : {V : Type 0} → Exit → PassResult V → V × List V
values_behind broken r = (r.normal, r.breaks)
values_behind continued r = (r.normal, r.continues)
values_behind returned r = first_of_call r.returns r.normal

-- the jumps of this kind end here, and the value goes on
abbrev pub jumps_caught : {V : Type 0} → Exit → PassResult V → V → Option ℕ → PassResult V
jumps_caught broken r v f = record r { normal = v; breaks = []; flag = f }
jumps_caught continued r v f = record r { normal = v; continues = []; flag = f }
jumps_caught returned r v f = record r { normal = v; returns = []; flag = f }

-- the values joined one by one, from the left
abbrev pub AreJoined : {V H : Type 0} → Operations V H → V → List V → Exactness → V → Type 0
AreJoined {V} ops v [] e w = (w ≡ v) × (e ≡ Exact)
AreJoined {V} ops v (u ∷ us) e w = (m : V) × (c d : Exactness) × ops.joined v u c m × AreJoined ops m us d w ×
    (e ≡ worse c d)

-- from v the condition, wanted true or false, leaves w
abbrev pub Filters : {V H : Type 0} → Operations V H → ℕ → Cond → Bool → V → Exactness → V → Type 0
Filters ops base c wanted v e w = AreMade ops (guard (ops.dims v) base wanted c) v e w

-- the least change makes w of v
abbrev pub OpTransfer : {V H : Type 0} → Operations V H → Op → V → Exactness → V → Type 0
OpTransfer ops op v e w = AreMade ops (moves_of (ops.dims v) op) v e w

-- from v, if the expression has the value z, wanted so or not, w
abbrev pub ValueIs : {V H : Type 0} → Operations V H → ℕ → Expr → ℤ → Bool → V → Exactness → V → Type 0
ValueIs ops base e z wanted v x w = AreMade ops (value_moves (ops.dims v) base wanted e z) v x w

-- if the expression has none of these labels' values: `e != z` for one after the other
abbrev pub MatchesNone : {V H : Type 0} → Operations V H → ℕ → Expr → List CaseLabel → V → Exactness → V → Type 0
MatchesNone ops base e [] v x w = (w ≡ v) × (x ≡ Exact)
MatchesNone {V} ops base e (Case z ∷ labels) v x w = (m : V) × (c d : Exactness) × ValueIs ops base e z false v c m ×
    MatchesNone ops base e labels m d w × (x ≡ worse c d)
MatchesNone ops base e (Default ∷ labels) v x w = MatchesNone ops base e labels v x w

-- what comes in at a label, from v and from the value `other` of no match
abbrev pub Enters : {V H : Type 0} → Operations V H → ℕ → Expr → CaseLabel → V → V → Exactness → V → Type 0
Enters ops base e (Case z) v other x w = ValueIs ops base e z true v x w
Enters ops base e Default v other x w = (w ≡ other) × (x ≡ Exact)

-- joined to what runs there, if something does: before the first label nothing does
abbrev pub JoinsRunning : {V H : Type 0} → Operations V H → Option V → V → Exactness → V → Type 0
JoinsRunning ops None u x w = (w ≡ u) × (x ≡ Exact)
JoinsRunning ops (Some running) u x w = ops.joined running u x w

-- after the last arm: what runs there; if no label is `default`, what has no match joins it
abbrev pub ComesOut : {V H : Type 0} → Operations V H → Bool → Option V → V → Exactness → V → Type 0
ComesOut ops has_default None other x w = (w ≡ other) × (x ≡ Exact)
ComesOut ops true (Some running) other x w = (w ≡ running) × (x ≡ Exact)
ComesOut ops false (Some running) other x w = ops.joined running other x w

-- what an arm is passed from; before the first label no run comes
abbrev pub RunsFrom : {V H : Type 0} → Operations V H → ℕ → ℕ → Option V → V → Type 0
RunsFrom ops live cap None w = ops.bottom live cap w
RunsFrom ops live cap (Some running) w = w ≡ running

-- from the first flagged point so far and a value to a result
abbrev pub Transformer : Type 0 → Type 1
Transformer V = Option ℕ → V → PassResult V → Type 0

module _ (V H : Type 0) (ops : Operations V H) where
  -- the loop at point q, by its condition and what its body does
  module _ (q base : ℕ) (c : Cond) (body : Transformer V) where
    -- one pass from a value of the loop's head
    abbrev pub LoopRoundFrom : Transformer V
    LoopRoundFrom f v r =
        (w : V) × (e : Exactness) × (s : PassResult V)
        × Filters ops base c true v e w × body (noted q e f) w s × (r ≡ record s { entries = value q v ∷ s.entries })

    -- one pass from the head itself
    abbrev pub LoopRoundFromHead : H → Transformer V
    LoopRoundFromHead h f v r = (e : Exactness) × ops.valued h e v × LoopRoundFrom (noted q e f) v r

    -- the head becomes each of the later ones, until what its pass leaves after the body lies in it: this value and
    -- result are of that pass. The first `left` rounds join, the others widen
    abbrev pub AscendingIteration : Widening → ℕ → Option ℕ → H → List H → V → PassResult V → Type 0
    AscendingIteration widening left f h [] v r =
        LoopRoundFromHead h f v r × ops.stays h r.normal (mode_at widening left)
    AscendingIteration widening left f h (next ∷ later) v r =
        (u : V) × (s : PassResult V) × (e : Exactness)
        × LoopRoundFromHead h f u s × ops.grown h s.normal (mode_at widening left) e next ×
        AscendingIteration widening (left - 1) (noted q e s.flag) next later v r

    -- so many times the value at the head becomes the join of the first one with what its pass left after the body,
    -- and is passed again; the last pass stays
    abbrev pub DescendingIteration : ℕ → V → V → PassResult V → V → PassResult V → Type 0
    DescendingIteration zero first u s v r = (v ≡ u) × (r ≡ s)
    DescendingIteration (suc more) first u s v r =
        (next : V) × (t : PassResult V) × (e : Exactness)
        × ops.joined first s.normal e next × LoopRoundFrom (noted q e s.flag) next t
        × DescendingIteration more first next t v r

-- what others may do is added: of the value before, the exactness, and the value after
abbrev pub Absorption : Type 0 → Type 1
Absorption V = V → Exactness → V → Type 0

-- no interference: no other thread does anything
abbrev pub nothing_absorbed : {V : Type 0} → Absorption V
nothing_absorbed v e w = (w ≡ v) × (e ≡ Exact)

module _ (V H : Type 0) (ops : Operations V H) (admission : Absorption V) where
  abbrev mutual
    pub PassUnder : Plan → Node → Transformer V
    PassUnder set empty f v r = r ≡ goes_on [] v f
    PassUnder set (point q) f v r = r ≡ goes_on (value q v ∷ []) v f
    PassUnder set (probe q InterferencePoint) f v r = (w : V) × (e : Exactness) × admission v e w ×
        (r ≡ goes_on [] w (noted q e f))
    PassUnder set (probe q (RecordWrite place)) f v r = r ≡ goes_on (recorded q place v ∷ []) v f
    PassUnder set (act q op) f v r = (w : V) × (e : Exactness) × OpTransfer ops op v e w ×
        (r ≡ goes_on [] w (noted q e f))
    -- where the condition is false, and then where it is true
    PassUnder set (check q base c) f v r =
        (u w : V) × (d e : Exactness) × Filters ops base c false v d u × Filters ops base c true v e w
        × (r ≡ goes_on (failing q u ∷ []) w (noted q e (noted q d f)))
    PassUnder set (seq a b) f v r =
        (s t : PassResult V) × PassUnder set a f v s × PassUnder set b s.flag s.normal t ×
        (r ≡ in_turn s t t.normal t.flag)
    PassUnder set (choose q base c a b) f v r =
        (on off w : V) × (d e i : Exactness) × (s t : PassResult V)
        × Filters ops base c true v d on × PassUnder set a (noted q d f) on s
        × Filters ops base c false v e off × PassUnder set b (noted q e s.flag) off t
        × ops.joined s.normal t.normal i w × (r ≡ in_turn s t w (noted q i t.flag))
    PassUnder set (iterate q base c a) f v r =
        (h : H) × (later : List H) × (u top out : V) × (s t : PassResult V) × (e : Exactness)
        × ops.started v (loop_thresholds set.widening (ops.dims v) base c a) h
        × AscendingIteration V H ops q base c (PassUnder set a) set.widening set.delay f h later u s
        × DescendingIteration V H ops q base c (PassUnder set a) set.narrow v u s top t
        × Filters ops base c false top e out × (r ≡ record t { normal = out; flag = noted q e t.flag })
    PassUnder set (catch q k a) f v r =
        (w : V) × (e : Exactness) × (s : PassResult V)
        × PassUnder set a f v s × AreJoined ops (values_behind k s).0 (values_behind k s).1 e w
        × (r ≡ jumps_caught k s w (noted q e s.flag))
    -- the value that jumps may be cut already; the one that goes on has the dimensions of where the jump stands
    PassUnder set (leave n k) f v r = (w : V) × ops.bottom n set.parts w × (r ≡ jumps k v w f)
    -- first the value of no match, then the arms; all that isn't an arm's own belongs to the point q
    PassUnder set (select q base e arms) f v r =
        (other : V) × (x : Exactness) × MatchesNone ops base e (entries_of arms) v x other ×
        ArmsPassUnder set q base e (list_any (is_same_case Default) (entries_of arms)) v other arms (noted q x f) None r

    -- of a `select` from v, with what runs before these arms
    pub ArmsPassUnder : Plan → ℕ → ℕ → Expr → Bool → V → V → Arms → Option ℕ → Option V →
        PassResult V → Type 0
    ArmsPassUnder set q base e has_default v other no_arms f running r =
        (w : V) × (x : Exactness) × ComesOut ops has_default running other x w × (r ≡ goes_on [] w (noted q x f))
    ArmsPassUnder set q base e has_default v other (entry l arms) f running r =
        (u w : V) × (x y : Exactness) × Enters ops base e l v other x u × JoinsRunning ops running u y w
        × ArmsPassUnder set q base e has_default v other arms (noted q y (noted q x f)) (Some w) r
    ArmsPassUnder set q base e has_default v other (arm a arms) f running r =
        (w : V) × (s t : PassResult V) × RunsFrom ops (ops.dims v) set.parts running w × PassUnder set a f w s
        × ArmsPassUnder set q base e has_default v other arms s.flag (Some s.normal) t
        × (r ≡ in_turn s t t.normal t.flag)

-- if a program runs alone
abbrev pub Pass : (V H : Type 0) → Operations V H → Plan → Node → Transformer V
Pass V H ops = PassUnder V H ops nothing_absorbed

abbrev pub ArmsPass : (V H : Type 0) → Operations V H → Plan → ℕ → ℕ → Expr → Bool → V → V → Arms → Option ℕ →
    Option V → PassResult V → Type 0
ArmsPass V H ops = ArmsPassUnder V H ops nothing_absorbed
