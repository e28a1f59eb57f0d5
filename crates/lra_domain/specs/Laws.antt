-- What every meaning keeps. What is said of stores, and of what is reported about a form, is asked of contents that
-- values and heads hold; what relates dimensions, caps, parts and answers to each other is asked of all contents.
use Rattle.std.specs.Prelude.{◌≡◌, ◌≢◌, ◌↔◌, ◌≤◌, ℕ, ℤ, List, [], length, Option, None}
use Rattle.lra_linear_forms.specs.Form.{Form, form_value}
use Rattle.lra_systems.specs.LinearSystems.{LinearSystem}
use Rattle.lra_domain.specs.Crates.lra_linear_spec.declared.ConKind.{ConKind}
use Rattle.lra_domain.specs.Actions.{Action, Leads, Within}
use Rattle.lra_domain.specs.declared.Included.TheVariants.{Yes, No}
use Rattle.lra_domain.specs.{Abstraction.Abstraction, Bounds.IsBetween, Parts.SomePartHolds, declared.Mode.Mode}

pub record Laws {V H : Type 0} (m : Abstraction V H) : Type 0 where
  -- a store has as many numbers as there are dimensions
  pub sized : (v : V) (s : List ℤ) → m.well_formed v → m.gamma v s → length s ≡ m.dims v
  pub head_sized : (h : H) (s : List ℤ) → m.head_well_formed h → m.head_gamma h s → length s ≡ m.head_dims h
  -- a top value of n dimensions has them, and all lists of n numbers; a bottom value has them, and no store
  pub top_dims : (n cap : ℕ) (v : V) → m.top n cap v → m.dims v ≡ n
  pub top_stores : (n cap : ℕ) (v : V) → m.well_formed v → m.top n cap v
      → (s : List ℤ) → length s ≡ n → m.gamma v s
  pub bottom_dims : (n cap : ℕ) (v : V) → m.bottom n cap v → m.dims v ≡ n
  pub bottom_stores : (n cap : ℕ) (v : V) → m.well_formed v → m.bottom n cap v → (s : List ℤ) → ¬ m.gamma v s
  -- a value has no more parts than its caps; a top and a bottom one of some cap are capped by it
  pub capped_parts : (v : V) (c : ℕ) → m.capped v c → length (m.parts v) ≤ c
  pub top_capped : (n cap : ℕ) (v : V) → 1 ≤ cap → m.top n cap v → m.capped v cap
  pub bottom_capped : (n cap : ℕ) (v : V) → 1 ≤ cap → m.bottom n cap v → m.capped v cap
  -- a value without parts has no store
  pub partless : (v : V) → m.well_formed v → m.parts v ≡ [] → (s : List ℤ) → ¬ m.gamma v s
  -- a form's value at each store lies within what is reported about it; one thing is reported; nothing of a value
  -- without parts
  pub bounded_stores : (v : V) (f : Form) (l h : Option ℤ) (s : List ℤ) → m.well_formed v
      → length f.coefficients ≡ m.dims v → m.bounded v f l h → m.gamma v s → IsBetween l h (form_value f s)
  pub one_bounded : (v : V) (f : Form) (l h j k : Option ℤ) → m.well_formed v
      → m.bounded v f l h → m.bounded v f j k → (l ≡ j) × (h ≡ k)
  pub bounded_partless : (v : V) (f : Form) (l h : Option ℤ) → m.well_formed v
      → m.parts v ≡ [] → m.bounded v f l h → (l ≡ None) × (h ≡ None)
  -- what is covered has no store beyond those of what covers it
  pub leq_stores : (a b : V) → m.well_formed a → m.well_formed b → m.leq a b → Within (m.gamma a) (m.gamma b)
  pub head_leq_stores : (a b : H) → m.head_well_formed a → m.head_well_formed b → m.head_leq a b
      → Within (m.head_gamma a) (m.head_gamma b)
  -- what has all points to which a change leads has all stores to which it does; a head that has the points of another
  -- one and of next has their stores
  pub kept_stores : (step : Action) (v w : V) → m.well_formed v → m.well_formed w → m.keeps step v w
      → (s t : List ℤ) → m.gamma v s → Leads step s t → m.gamma w t
  pub old_stores : (old : H) (next : V) (new : H) → m.head_well_formed old → m.head_well_formed new
      → m.holds_both old next new → Within (m.head_gamma old) (m.head_gamma new)
  pub next_stores : (old : H) (next : V) (new : H) → m.well_formed next → m.head_well_formed new
      → m.holds_both old next new → Within (m.gamma next) (m.head_gamma new)
  -- the stores of what lies in a head are the head's
  pub stays_stores : (h : H) (v : V) (mode : Mode) → m.head_well_formed h → m.well_formed v → m.stays h v mode
      → Within (m.gamma v) (m.head_gamma h)
  -- an inclusion answers Yes only if next lies in the head, No only if it doesn't; this is asked of all contents
  pub answers_yes : (h : H) (v : V) (mode : Mode) → m.answers h v mode Yes → m.stays h v mode
  pub answers_no : (h : H) (v : V) (mode : Mode) → m.answers h v mode No → ¬ m.stays h v mode
  -- a head that is given up has all stores; it has a defined value, and each such value is a top value
  pub given_up_stores : (old : H) (mode : Mode) (new : H) → m.head_well_formed old → m.head_well_formed new
      → m.given_up old mode new → (s : List ℤ) → length s ≡ m.head_dims old → m.head_gamma new s
  pub given_up_valued : (old : H) (mode : Mode) (new : H) → m.head_well_formed old → m.head_well_formed new
      → m.given_up old mode new → (v : V) × m.valued new v
  pub given_up_value : (old : H) (mode : Mode) (new : H) (v : V) → m.head_well_formed old → m.head_well_formed new
      → m.given_up old mode new → m.valued new v → (cap : ℕ) × m.top (m.head_dims old) cap v

-- the way back from what the parts of a value report: what meets all rows of one of them is a store
abbrev pub PartsAreExact : {V H : Type 0} → Abstraction V H → V → Type 0
PartsAreExact m v = (s : List ℤ) → length s ≡ m.dims v → SomePartHolds (m.parts v) s → m.gamma v s

-- that every definition of a meaning allows one thing: then the written iteration finds one value at each point
pub record SingleLaws {V H : Type 0} (m : Abstraction V H) : Type 0 where
  pub one_top : (n cap : ℕ) (v w : V) → m.top n cap v → m.top n cap w → v ≡ w
  pub one_bottom : (n cap : ℕ) (v w : V) → m.bottom n cap v → m.bottom n cap w → v ≡ w
  pub one_transferred : (step : Action) (a v w : V) → m.transferred step a v → m.transferred step a w → v ≡ w
  pub one_joined : (a b v w : V) → m.joined a b v → m.joined a b w → v ≡ w
  pub one_started : (v : V) (given : LinearSystem ConKind) (g h : H) → m.started v given g → m.started v given h → g ≡ h
  pub one_grown : (h : H) (v : V) (mode : Mode) (i j : H) → m.grown h v mode i → m.grown h v mode j → i ≡ j
  pub one_valued : (h : H) (v w : V) → m.valued h v → m.valued h w → v ≡ w

-- what values of one part at most keep further, so that sets of them can be made; over all contents
pub record BaseLaws {V H : Type 0} (m : Abstraction V H) : Type 0 where
  pub one_part : (v : V) → length (m.parts v) ≤ 1
  -- there is one top value, whatever the cap; one join, one head that starts with a value, one value of a head
  pub one_top : (n c d : ℕ) (v w : V) → m.top n c v → m.top n d w → v ≡ w
  pub one_joined : (a b v w : V) → m.joined a b v → m.joined a b w → v ≡ w
  pub one_started : (v : V) (given : LinearSystem ConKind) (g h : H) → m.started v given g → m.started v given h → g ≡ h
  pub one_valued : (h : H) (v w : V) → m.valued h v → m.valued h w → v ≡ w
  pub leq_reflexive : (a : V) → m.leq a a
  pub leq_transitive : (a b c : V) → m.leq a b → m.leq b c → m.leq a c
  -- a value is included in those that cover it
  pub included_leq : (a b : V) → (m.included a b ↔ m.leq a b)
  -- what is covered by a value without parts has none
  pub partless_leq : (a b : V) → m.leq a b → m.parts b ≡ [] → m.parts a ≡ []
  -- what covers both operands covers their join
  pub joined_covered : (a b j c : V) → m.joined a b j → m.leq a c → m.leq b c → m.leq j c
  -- what lies in a head: its value, its first value, what is covered by what lies in it, and the join of what lies in
  -- it
  pub stays_covered : (h : H) (a b : V) (mode : Mode) → m.leq a b → m.stays h b mode → m.stays h a mode
  pub stays_joined : (h : H) (a b j : V) (mode : Mode)
      → m.joined a b j → m.stays h a mode → m.stays h b mode → m.stays h j mode
  pub stays_value : (h : H) (v : V) (mode : Mode) → m.valued h v → m.stays h v mode
  pub stays_started : (h : H) (v : V) (given : LinearSystem ConKind) (mode : Mode) → m.started v given h →
      m.stays h v mode
  -- a head that is held started with a value that is; a top value has a part
  pub started_formed : (h : H) (v : V) (given : LinearSystem ConKind) → m.started v given h → m.head_well_formed h →
      m.well_formed v
  pub universal_filled : (n cap : ℕ) (v : V) → m.top n cap v → m.parts v ≢ []
  -- a head that starts with a value has no store beyond it
  pub started_stores : (h : H) (v : V) (given : LinearSystem ConKind) → m.started v given h →
      Within (m.head_gamma h) (m.gamma v)
  -- the first number of a rank is 1
  pub rank_first : (h : H) → (m.rank h).first ≡ 1
