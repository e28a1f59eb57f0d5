-- What a domain does that goes back: from the value after a change to one before it.
use Rattle.std.specs.Prelude.{◌≡◌, ℤ, List}
use Rattle.lra_domain.specs.declared.Exactness.TheVariants.{Exact, Flagged}
use Rattle.lra_domain.specs.{Abstraction.Abstraction, Actions.Action, Actions.Leads, declared.Exactness.Exactness}

-- V: contents of values
pub record BackwardAbstraction (V : Type 0) : Type 1 where
  -- the defined result of going back over an assignment or a test; when it may be flagged
  pub pre : Action → V → V → Type 0
  pub pre_strains : Action → V → Type 0
  -- the defined meet of the first two; when it may be flagged
  pub met : V → V → V → Type 0
  pub meet_strains : V → V → Type 0

-- that these definitions allow one thing
pub record SingleBackward {V : Type 0} (b : BackwardAbstraction V) : Type 0 where
  pub one_pre : (step : Action) (behind v w : V) → b.pre step behind v → b.pre step behind w → v ≡ w
  pub one_met : (one two v w : V) → b.met one two v → b.met one two w → v ≡ w

-- from the value after a change to the one before it, with this exactness
pub record TransfersBackTo {V H : Type 0} (m : Abstraction V H) (b : BackwardAbstraction V) (step : Action) (behind : V)
    (exactness : Exactness) (before : V) : Type 0 where
  pub formed : m.well_formed before
  -- each store from which the change may lead into the value is kept
  pub stores : (s t : List ℤ) → m.gamma behind t → Leads step s t → m.gamma before s
  -- the result covers the defined one; an exact one is it, a flagged one comes only from a strain
  pub covers : (v : V) → b.pre step behind v → m.leq v before
  pub exact : exactness ≡ Exact → b.pre step behind before
  pub flagged : exactness ≡ Flagged → b.pre_strains step behind

-- a meet of two values
pub record MeetsBoth {V H : Type 0} (m : Abstraction V H) (b : BackwardAbstraction V) (one two : V)
    (exactness : Exactness) (new : V)
    : Type 0 where
  pub formed : m.well_formed new
  -- each store of both is kept
  pub stores : (s : List ℤ) → m.gamma one s → m.gamma two s → m.gamma new s
  -- the result covers the defined meet; an exact one is it, a flagged one comes only from a strain
  pub covers : (v : V) → b.met one two v → m.leq v new
  pub exact : exactness ≡ Exact → b.met one two new
  pub flagged : exactness ≡ Flagged → b.meet_strains one two
