-- Runs: lists of configurations, each following the one before, from main's start with any draws of 64 bits.
use Rattle.std.specs.Prelude.{◌≡◌, ℕ, zero, suc, ℤ, pos, List, [], ◌∷◌, length, map, replicate, Option, Some, None}
use Rattle.std.specs.{List.AllByRecursion, Prelude.false, Prelude.IsTrue}
use Rattle.lra_program.specs.Program.{Stmt, absent, nothing, block, assign, write, call, if, loop, for, break, continue}
use Rattle.lra_program.specs.Program.{return, assert, assume, switch, Program}
use Rattle.lra_program.specs.Step.{State, test, run_op, CallContext, Item, run, declare, declare_array, all, end_of}
use Rattle.lra_program.specs.Step.{next_round, cases, end_switch, end_for, return_frame, leave_call, Config, next}
use Rattle.lra_program.specs.declared.program.GlobalVariable.{GlobalVariable}
use Rattle.lra_program.specs.{Value.is_word, declared.arrays.Array.Array}
use Rattle.lra_base.specs.declared.refusals.Place.{Place}

-- so many steps lead from the one to the other
abbrev pub Steps : Program → ℕ → Config → Config → Type 0
Steps P zero c d = c ≡ d
Steps P (suc n) c d = (e : Config) × (next P c ≡ Some e) × Steps P n e d

abbrev pub zeros : Array → Place × List ℤ
zeros a = (a.declared, replicate a.length (pos 0))

-- where a run begins: the global variables at their first values, the global arrays with zeros, and its draws
abbrev pub begun : Program → List ℤ → State
begun P draws = record {
  store = map (λ (g : GlobalVariable). g.value) P.globals;
  arrays = map zeros P.arrays;
  waiting = [];
  draws = draws;
}

-- main's body, from there
abbrev pub start : Program → List ℤ → Config
start P draws = record {
  items = all P.main.body ∷ end_of P.main.end (length P.globals) ∷ [];
  here = record { path = []; base = length P.globals };
  state = begun P draws;
}

-- the label of the point on top, if there is one
abbrev pub label_of : Stmt → Option ℕ
label_of absent = None
label_of (nothing at) = Some at
label_of (block body end) = None
label_of (assign at x e) = Some at
label_of (write at x e) = Some at
label_of (call at c) = Some at
label_of (if at c a b) = Some at
label_of (loop at c a step) = Some at
label_of (for at init c a step) = None
label_of (break at) = Some at
label_of (continue at) = Some at
label_of (return at e) = Some at
label_of (assert at c) = Some at
label_of (assume at c) = Some at
label_of (switch at e cs) = Some at

abbrev pub label_on : List Item → Option ℕ
label_on [] = None
label_on (run s ∷ k) = label_of s
label_on (declare d ∷ k) = Some d.label
label_on (declare_array at a ∷ k) = Some at
label_on (all s ∷ k) = None
label_on (end_of at n ∷ k) = Some at
label_on (next_round step again n ∷ k) = None
label_on (cases cs ∷ k) = None
label_on (end_switch n ∷ k) = None
label_on (end_for n ∷ k) = None
label_on (return_frame b ∷ k) = None
label_on (leave_call ∷ k) = None

-- a point: the calls that lead to it, the innermost first, and the label of its statement, declarator or block's end
pub record Point : Type 0 where
  pub path : List ℕ
  pub label : ℕ

pub record IsOn (c : Config) (p : Point) : Type 0 where
  pub label : label_on c.items ≡ Some p.label
  pub path : c.here.path ≡ p.path

-- some run ends in the configuration
pub record Reaches (P : Program) (c : Config) : Type 0 where
  pub draws : List ℤ
  pub words : AllByRecursion (λ z. IsTrue (is_word z)) draws
  pub length : ℕ
  pub steps : Steps P length (start P draws) c

-- some run ends with the point on top and this store
abbrev pub At : Program → Point → List ℤ → Type 0
At P p store = (c : Config) × Reaches P c × IsOn c p × (c.state.store ≡ store)

-- the condition of the assertion on top is false
abbrev pub IsFailing : List Item → CallContext → State → Type 0
IsFailing (run (assert at c) ∷ k) h s = (t : State) × (run_op (test h.base c false) s ≡ Some t)
IsFailing k h s = ⊥

-- some run ends with the assertion on top, a store and draws for which its condition is false
abbrev pub Fails : Program → Point → Type 0
Fails P p = (c : Config) × Reaches P c × IsOn c p × IsFailing c.items c.here c.state
