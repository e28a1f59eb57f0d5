-- The last round of going back leaves all heads as they are: so the next value of each point, over these heads, lies in
-- its head. And all heads are formed.
use Rattle.std.proofs.Common.{◌≡◌, ◌<◌, ℕ, zero, suc, List, [], ◌∷◌, Option, Some, Bool, true, false, ◌⊎◌, inl, inr, refl, sym, ap, ◌∙◌, subst, arith}
use Rattle.std.proofs.{lemmas.List.set-get_or, lemmas.Option.same_Some, lemmas.Option.none-some, lemmas.Option.get_or_from_slice_get}
use Rattle.std.specs.Prelude.{slice_get, slice_set, ◌&&◌}
use Rattle.lra_back_sound.specs.Crates.lra_domain.declared.Mode.TheVariants.{Join, Widen}
use Rattle.lra_back_sound.specs.Crates.{lra_domain.Abstraction.Abstraction, lra_domain.Backward.BackwardAbstraction, lra_domain.declared.Exactness.Exactness, lra_domain.declared.Mode.Mode}
use Rattle.lra_back.specs.Rounds.{Task, seed_at, AreStarted, IsUpdated, Round, Rounds, StaysOrGrows, Widens}
use Rattle.lra_back.specs.{Operations.lossy_back_operations, Preconditions.IsNext}

-- lists of heads ---------------------------------------------------------------------------------------------------------

below_cases : (q p : ℕ) → q < suc p → (q ≡ p) ⊎ (q < p)
below_cases zero zero low = inl refl
below_cases zero (suc p) low = inr (omega arith)
below_cases (suc q) zero low = absurd (omega (arith, low))
below_cases (suc q) (suc p) low = elim (below_cases q p (omega (arith, low))) [ inl same ↦ inl (ap suc same) | inr less ↦ inr (omega (arith, less)) ]

module _ {V H : Type 0} (m : Abstraction V H) (b : BackwardAbstraction V) where
  abbrev pub AreFormed : List H → Type 0
  AreFormed heads = (p : ℕ) (h : H) → slice_get heads p ≡ Some h → m.head_well_formed h

  set_formed : (heads : List H) (p : ℕ) (k : H) → AreFormed heads → m.head_well_formed k → AreFormed (slice_set heads p k)
  set_formed [] p k formed fine q h at = absurd (none-some h at)
  set_formed (x ∷ heads) zero k formed fine zero h at = subst (λ y. m.head_well_formed y) (same_Some k h at) fine
  set_formed (x ∷ heads) zero k formed fine (suc q) h at = formed (suc q) h at
  set_formed (x ∷ heads) (suc p) k formed fine zero h at = formed 0 h at
  set_formed (x ∷ heads) (suc p) k formed fine (suc q) h at = set_formed heads p k (λ i y there. formed (suc i) y there) fine q h at

  started_formed : (forward : List V) (heads : List H) → AreStarted (lossy_back_operations m b) forward heads → AreFormed heads
  started_formed [] [] started q h at = absurd (none-some h at)
  started_formed [] (y ∷ heads) started q h at = absurd started
  started_formed (x ∷ forward) [] started q h at = absurd started
  started_formed (x ∷ forward) (y ∷ heads) (v, none, start, rest) zero h at = subst (λ z. m.head_well_formed z) (same_Some y h at) start.0.formed
  started_formed (x ∷ forward) (y ∷ heads) (v, none, start, rest) (suc q) h at = started_formed forward heads rest q h at

  turned_formed : (mode : Mode) (h : H) (next : V) (e : Exactness) (stable : Bool) (k : H) → StaysOrGrows (lossy_back_operations m b) mode h next e stable k
      → m.head_well_formed h
      → m.head_well_formed k
  turned_formed mode h next e true k (stays, same, exact) fine = subst (λ y. m.head_well_formed y) (sym same) fine
  turned_formed mode h next e false k grown fine = grown.0.formed

  module _ (task : Task V) where
    round_formed : (mode : Mode) (p : ℕ) (f : Option ℕ) (heads : List H) (g : Option ℕ) (stable : Bool) (last : List H)
        → Round (lossy_back_operations m b) task mode p f heads g stable last → AreFormed heads → AreFormed last
    round_formed mode zero f heads g stable last (same, flag, all) formed = subst AreFormed (sym same) formed
    round_formed mode (suc p) f heads g stable last (k, i, own, others, turned, rest, all) formed =
        let (x, next, h, d, e, at, here, is, stays, flag) = turned in
        round_formed mode p i (slice_set heads p k) g others last rest (set_formed heads p k formed (turned_formed mode h next e own k stays (formed p h here)))

    -- its next value lies in its head, over these heads
    pub record IsStable (mode : Mode) (heads : List H) (p : ℕ) : Type 0 where
      pub value : V
      pub value_at : slice_get task.forward p ≡ Some value
      pub head : H
      pub head_at : slice_get heads p ≡ Some head
      pub next : V
      pub exactness : Exactness
      pub is_next : IsNext (lossy_back_operations m b) (task.paths p) value (seed_at task p) heads exactness next
      pub stays : (lossy_back_operations m b).forward.stays head next mode

    abbrev pub StableBelow : Mode → List H → ℕ → Type 0
    StableBelow mode heads n = (p : ℕ) → p < n → IsStable mode heads p

    stable_round : (mode : Mode) (p : ℕ) (f : Option ℕ) (heads : List H) (g : Option ℕ) (last : List H) →
        Round (lossy_back_operations m b) task mode p f heads g true last
        → (last ≡ heads) × StableBelow mode heads p
    stable_round mode zero f heads g last (same, flag, all) = (same, λ q low. absurd (omega (arith, low)))
    stable_round mode (suc p) f heads g last (k, i, own, others, turned, rest, all) = by own others turned rest all (λ r. stable_round mode p i heads g last r)
      where
        by : (own others : Bool) → IsUpdated (lossy_back_operations m b) task mode p f heads i own k →
            Round (lossy_back_operations m b) task mode p i (slice_set heads p k) g others last
            → true ≡ own && others → (Round (lossy_back_operations m b) task mode p i heads g true last → (last ≡ heads) × StableBelow mode heads p)
            → (last ≡ heads) × StableBelow mode heads (suc p)
        by true true (x, next, h, d, e, at, here, is, (stays, same, exact), flag) rest all on =
            let kept : slice_set heads p k ≡ heads = ap (λ y. slice_set heads p y) (same ∙ sym (get_or_from_slice_get heads p h h here)) ∙ set-get_or heads p h in
            let (ends, others) = on (subst (λ hs. Round (lossy_back_operations m b) task mode p i hs g true last) kept rest) in
            let own : IsStable mode heads p = record {
              value = x;
              value_at = at;
              head = h;
              head_at = here;
              next = next;
              exactness = d;
              is_next = is;
              stays = stays;
            } in
            (ends, λ q low. elim (below_cases q p low) [ inl this ↦ subst (λ j. IsStable mode heads j) (sym this) own | inr less ↦ others q less ])
        by true false turned rest all on = absurd (let no : true ≡ false = all in cc)
        by false others turned rest all on = absurd (let no : true ≡ false = all in cc)

    -- all are formed, and each of the first so many is stable
    pub record AreLast (n : ℕ) (last : List H) : Type 0 where
      pub formed : AreFormed last
      pub mode : Mode
      pub stable : StableBelow mode last n

    round_last : (mode : Mode) (n : ℕ) (f : Option ℕ) (heads : List H) (g : Option ℕ) (last : List H) →
        Round (lossy_back_operations m b) task mode n f heads g true last
        → AreFormed heads → AreLast n last
    round_last mode n f heads g last round formed =
        let (same, stable) = stable_round mode n f heads g last round in
        record { formed = subst AreFormed (sym same) formed; mode = mode; stable = subst (λ hs. StableBelow mode hs n) (sym same) stable }

    widens_last : (n more : ℕ) (f : Option ℕ) (heads : List H) (g : Option ℕ) (last : List H) → Widens (lossy_back_operations m b) task n more f heads g last
        → AreFormed heads → AreLast n last
    widens_last n zero f heads g last round formed = round_last Widen n f heads g last round formed
    widens_last n (suc more) f heads g last (i, between, round, rest) formed =
        widens_last n more i between g last rest (round_formed Widen n f heads i false between round formed)

    rounds_last : (n : ℕ) (f : Option ℕ) (heads : List H) (g : Option ℕ) (last : List H) → Rounds (lossy_back_operations m b) task n f heads g last →
        AreFormed heads
        → AreLast n last
    rounds_last n f heads g last (inl round) formed = round_last Join n f heads g last round formed
    rounds_last n f heads g last (inr (i, between, more, round, rest)) formed =
        widens_last n more i between g last rest (round_formed Join n f heads i false between round formed)

    -- from the heads as they were started
    pub heads_are_last : (n : ℕ) (f : Option ℕ) (first : List H) (g : Option ℕ) (last : List H) → AreStarted (lossy_back_operations m b) task.forward first
        → Rounds (lossy_back_operations m b) task n f first g last → AreLast n last
    heads_are_last n f first g last started rounds = rounds_last n f first g last rounds (started_formed task.forward first started)
