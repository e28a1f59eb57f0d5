-- Rounds: what is still to be turned ends as the whole does; ranks fall.
use Rattle.std.proofs.Common.{◌≡◌, ◌≢◌, ◌≤◌, ◌<◌, ℕ, zero, suc, List, Option, Bool, true, false, ◌&&◌, inl, inr, refl, sym, ap, subst, ◌∙◌, arith, slice_set}
use Rattle.lra_domain.specs.{Abstraction.Abstraction, Actions.Action, declared.Mode.Mode, declared.Mode.TheVariants.Join, declared.Mode.TheVariants.Widen}
use Rattle.lra_back.specs.{BackwardCalls.ranks_of, Operations.BackwardOperations, Rounds.Task, Rounds.IsUpdated, Rounds.Round, Rounds.Rounds, Rounds.Widens, Rounds.seed_at}
use Rattle.lra_back.proofs.JoinSteps.{same_next}

and_assoc : (a b c : Bool) → (a && (b && c)) ≡ ((a && b) && c)
and_assoc true b c = refl
and_assoc false b c = refl

and_true : (a : Bool) → (a && true) ≡ a
and_true true = refl
and_true false = refl

module _ {V H : Type 0} (ops : BackwardOperations V H) (task : Task V) where
  -- a round ------------------------------------------------------------------------------------------------------------

  -- whatever comes of the points before this one, comes of the round
  abbrev pub StillTurns : Mode → ℕ → Option ℕ → List H → ℕ → Option ℕ → List H → Bool → Type 0
  StillTurns mode n first heads p flag now all =
      (g : Option ℕ) (rest : Bool) (last : List H) → Round ops task mode p flag now g rest last → Round ops task mode n first heads g (all && rest) last

  pub next_turn : (mode : Mode) (n : ℕ) (first : Option ℕ) (heads : List H) (q p : ℕ) (flag : Option ℕ) (now : List H) (all : Bool) (i : Option ℕ) (own : Bool)
      (k : H) (later : List H) (both : Bool) → q ≡ suc p → StillTurns mode n first heads q flag now all → IsUpdated ops task mode p flag now i own k
      → later ≡ slice_set now p k → both ≡ (all && own) → StillTurns mode n first heads p i later both
  next_turn mode n first heads q p flag now all i own k later both next before turned is both_is g rest last round =
      let still = subst (λ j. StillTurns mode n first heads j flag now all) next before in
      let whole : Round ops task mode (suc p) flag now g (own && rest) last =
      (k, i, own, rest, turned, subst (λ (hs : List H). Round ops task mode p i hs g rest last) is round, refl) in
      subst (λ b. Round ops task mode n first heads g b last) (and_assoc all own rest ∙ sym (ap (λ b. b && rest) both_is)) (still g (own && rest) last whole)

  pub last_turn : (mode : Mode) (n : ℕ) (first : Option ℕ) (heads : List H) (flag : Option ℕ) (now : List H) (all : Bool)
      → StillTurns mode n first heads 0 flag now all → Round ops task mode n first heads flag all now
  last_turn mode n first heads flag now all still =
      subst (λ b. Round ops task mode n first heads flag b now) (and_true all) (still flag true now (refl, refl, refl))

  -- rounds that widen ----------------------------------------------------------------------------------------------------

  abbrev pub StillWidens : ℕ → Option ℕ → List H → Option ℕ → List H → Type 0
  StillWidens n first heads flag now =
      (g : Option ℕ) (last : List H) (more : ℕ) → Widens ops task n more flag now g last → (all : ℕ) × Widens ops task n all first heads g last

  pub next_round : (n : ℕ) (first : Option ℕ) (heads : List H) (flag : Option ℕ) (now : List H) (i : Option ℕ) (later : List H) (stable : Bool)
      → stable ≡ false → StillWidens n first heads flag now → Round ops task Widen n flag now i stable later → StillWidens n first heads i later
  next_round n first heads flag now i later stable off still round g last more widens =
      still g last (suc more) (i, later, subst (λ b. Round ops task Widen n flag now i b later) off round, widens)

  pub last_round : (n : ℕ) (first : Option ℕ) (heads : List H) (flag : Option ℕ) (now : List H) (g : Option ℕ) (last : List H) (stable : Bool)
      → stable ≡ true → StillWidens n first heads flag now → Round ops task Widen n flag now g stable last
      → (all : ℕ) × Widens ops task n all first heads g last
  last_round n first heads flag now g last stable on still round =
      still g last zero (subst (λ b. Round ops task Widen n flag now g b last) on round)

-- ranks ----------------------------------------------------------------------------------------------------------------

-- if nothing joins, the ranks don't rise, and fall if something grew
abbrev pub RanksFall : {V H : Type 0} → Abstraction V H → Mode → List H → List H → Bool → Type 0
RanksFall m mode before now stable = mode ≢ Join → (ranks_of m now ≤ ranks_of m before) × (stable ≡ false → ranks_of m now < ranks_of m before)

le_then : (a b c : ℕ) → a ≤ b → b ≤ c → a ≤ c
le_then a b c one two = omega arith

le_then_lt : (a b c : ℕ) → a ≤ b → b < c → a < c
le_then_lt a b c one two = omega arith

lt_then_le : (a b c : ℕ) → a < b → b ≤ c → a < c
lt_then_le a b c one two = omega arith

pub ranks_next : {V H : Type 0} (m : Abstraction V H) (mode : Mode) (first before now : List H) (all own both : Bool) → RanksFall m mode first before all
    → RanksFall m mode before now own → both ≡ (all && own) → RanksFall m mode first now both
ranks_next m mode first before now true own both one two is widens =
    let a = one widens in
    let b = two widens in
    (le_then _ _ _ b.0 a.0, λ off. lt_then_le _ _ _ (b.1 (sym is ∙ off)) a.0)
ranks_next m mode first before now false own both one two is widens =
    let a = one widens in
    let b = two widens in
    (le_then _ _ _ b.0 a.0, λ off. le_then_lt _ _ _ b.0 (a.1 refl))

-- the same paths -------------------------------------------------------------------------------------------------------

abbrev pub task_by : {V : Type 0} → (ℕ → ℕ → List (List Action)) → List V → ℕ → V → Task V
task_by paths forward p seed = record { paths = paths; forward = forward; assertion = p; seed = seed }

module _ {V H : Type 0} (ops : BackwardOperations V H) (forward : List V) (assertion : ℕ) (seed : V) (paths others : ℕ → ℕ → List (List Action)) where
  abbrev one : Task V
  one = task_by paths forward assertion seed

  abbrev two : Task V
  two = task_by others forward assertion seed

  abbrev AreSame : ℕ → Type 0
  AreSame n = (p q : ℕ) → p < n → paths p q ≡ others p q

  same_turned : (n p : ℕ) → AreSame n → p < n → (mode : Mode) (f : Option ℕ) (heads : List H) (g : Option ℕ) (stable : Bool) (k : H)
      → IsUpdated ops one mode p f heads g stable k → IsUpdated ops two mode p f heads g stable k
  same_turned n p same inside mode f heads g stable k (x, next, h, d, e, at, there, is, grows, flags) = (
    x,
    next,
    h,
    d,
    e,
    at,
    there,
    same_next ops x (paths p) (others p) (λ q. same p q inside) (seed_at one p) heads d next is,
    grows,
    flags,
  )

  same_round : (n p : ℕ) → AreSame n → p ≤ n → (mode : Mode) (f : Option ℕ) (heads : List H) (g : Option ℕ) (stable : Bool) (last : List H)
      → Round ops one mode p f heads g stable last → Round ops two mode p f heads g stable last
  same_round n zero same inside mode f heads g stable last round = round
  same_round n (suc p) same inside mode f heads g stable last (k, i, own, rest, turned, round, is) = (
    k,
    i,
    own,
    rest,
    same_turned n p same (omega arith) mode f heads i own k turned,
    same_round n p same (omega arith) mode i (slice_set heads p k) g rest last round,
    is,
  )

  same_widens : (n : ℕ) → AreSame n → (more : ℕ) (f : Option ℕ) (heads : List H) (g : Option ℕ) (last : List H)
      → Widens ops one n more f heads g last → Widens ops two n more f heads g last
  same_widens n same zero f heads g last round = same_round n n same (omega arith) Widen f heads g true last round
  same_widens n same (suc more) f heads g last (i, between, round, widens) =
      (i, between, same_round n n same (omega arith) Widen f heads i false between round, same_widens n same more i between g last widens)

  pub same_rounds : (n : ℕ) → AreSame n → (f : Option ℕ) (heads : List H) (g : Option ℕ) (last : List H)
      → Rounds ops one n f heads g last → Rounds ops two n f heads g last
  same_rounds n same f heads g last (inl round) = inl (same_round n n same (omega arith) Join f heads g true last round)
  same_rounds n same f heads g last (inr (i, between, more, round, widens)) =
      inr (i, between, more, same_round n n same (omega arith) Join f heads i false between round, same_widens n same more i between g last widens)
