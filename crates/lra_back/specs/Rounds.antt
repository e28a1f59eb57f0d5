-- Rounds of going back: in each, from the last point to the first, the point's head grows by its next value.
use Rattle.std.specs.Prelude.{◌≡◌, ◌&&◌, ℕ, zero, suc, ◌⊎◌, List, [], ◌∷◌, Option, None, Some, Bool, true, false}
use Rattle.std.specs.Prelude.{nat_eq, cond, slice_get, slice_set}
use Rattle.lra_back.specs.Crates.lra_systems.LinearSystems.{LinearSystem}
use Rattle.lra_back.specs.Crates.{lra_analysis_spec.Pass.noted, lra_linear_spec.declared.ConKind.ConKind}
use Rattle.lra_domain.specs.declared.Mode.TheVariants.{Join, Widen}
use Rattle.lra_domain.specs.{Abstraction.worse, Actions.Action, declared.Exactness.Exactness}
use Rattle.lra_domain.specs.{declared.Exactness.TheVariants.Exact, declared.Mode.Mode}
use Rattle.lra_back.specs.{Operations.BackwardOperations, Preconditions.IsNext}

-- what is gone back over: the paths from each point to each, the forward values at the points, and the assertion's
-- number with the value at which it is false
pub record Task (V : Type 0) : Type 0 where
  pub paths : ℕ → ℕ → List (List Action)
  pub forward : List V
  pub assertion : ℕ
  pub seed : V

abbrev pub seed_at : {V : Type 0} → Task V → ℕ → Option V
seed_at task p = cond (nat_eq p task.assertion) (Some task.seed) None

-- no row is given
abbrev pub no_rows : ℕ → LinearSystem ConKind
no_rows n = record { dims = n; rows = []; kinds = [] }

module _ {V H : Type 0} (ops : BackwardOperations V H) where
  -- each head starts with an empty value, of one part and as many dimensions as the forward value at its point
  abbrev pub AreStarted : List V → List H → Type 0
  AreStarted [] [] = Unit {0}
  AreStarted [] (h ∷ heads) = ⊥
  AreStarted (x ∷ forward) [] = ⊥
  AreStarted (x ∷ forward) (h ∷ heads) =
      (v : V) × ops.forward.bottom (ops.forward.dims x) 1 v × ops.forward.started v (no_rows (ops.forward.dims x)) h ×
      AreStarted forward heads

  -- the head stays, and is stable, or grows
  abbrev pub StaysOrGrows : Mode → H → V → Exactness → Bool → H → Type 0
  StaysOrGrows mode h next e true k = ops.forward.stays h next mode × (k ≡ h) × (e ≡ Exact)
  StaysOrGrows mode h next e false k = ops.forward.grown h next mode e k

  module _ (task : Task V) where
    -- at one point: over these heads its own becomes the last one
    abbrev pub IsUpdated : Mode → ℕ → Option ℕ → List H → Option ℕ → Bool → H → Type 0
    IsUpdated mode p f heads g stable k =
        (x next : V) × (h : H) × (d e : Exactness) × (slice_get task.forward p ≡ Some x)
        × (slice_get heads p ≡ Some h) ×
        IsNext ops (task.paths p) x (seed_at task p) heads d next × StaysOrGrows mode h next e stable k ×
        (g ≡ noted p e (noted p d f))

    -- from these heads to the last ones, at the first so many points from the last of them to the first: whether all
    -- were stable
    abbrev pub Round : Mode → ℕ → Option ℕ → List H → Option ℕ → Bool → List H → Type 0
    Round mode zero f heads g stable last = (last ≡ heads) × (g ≡ f) × (stable ≡ true)
    Round mode (suc p) f heads g stable last =
        (k : H) × (i : Option ℕ) × (own others : Bool) × IsUpdated mode p f heads i own k ×
        Round mode p i (slice_set heads p k) g others last × (stable ≡ own && others)

    -- so many rounds that widen, and a last one, in which all heads are stable
    abbrev pub Widens : ℕ → ℕ → Option ℕ → List H → Option ℕ → List H → Type 0
    Widens n zero f heads g last = Round Widen n f heads g true last
    Widens n (suc more) f heads g last =
        (i : Option ℕ) × (between : List H) × Round Widen n f heads i false between × Widens n more i between g last

    -- the first round joins; if it left all heads stable it is the last
    abbrev pub Rounds : ℕ → Option ℕ → List H → Option ℕ → List H → Type 0
    Rounds n f heads g last =
        Round Join n f heads g true last
        ⊎ ((i : Option ℕ) × (between : List H) × (more : ℕ) × Round Join n f heads i false between ×
        Widens n more i between g last)

  -- the value of each head, met with the forward value at its point, the first of which has this number
  abbrev pub AreBackwardValues : ℕ → Option ℕ → List H → List V → Option ℕ → List V → Type 0
  AreBackwardValues q f [] [] g values = (g ≡ f) × (values ≡ [])
  AreBackwardValues q f [] (x ∷ forward) g values = ⊥
  AreBackwardValues q f (h ∷ heads) [] g values = ⊥
  AreBackwardValues q f (h ∷ heads) (x ∷ forward) g values =
      (v w : V) × (c d : Exactness) × (more : List V) × ops.forward.valued h c v × ops.meet v x d w ×
      AreBackwardValues (suc q) (noted q (worse c d) f) heads forward g more × (values ≡ w ∷ more)
