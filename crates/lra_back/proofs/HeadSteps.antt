-- Heads of points: how they start, and one that is set.
use Rattle.std.proofs.Common.{◌≡◌, ◌≢◌, ◌≤◌, ◌<◌, ℕ, zero, suc, List, [], ◌∷◌, ◌++◌, length, take, Some, refl, sym, ap, subst, ◌∙◌, arith, slice_get, slice_set}
use Rattle.std.proofs.{lemmas.List.take_all, lemmas.Option.slice_get_within, lemmas.Option.none-some}
use Rattle.lra_back.proofs.Crates.lra_path_disjuncts.SideLists.{take_next}
use Rattle.lra_domain.specs.{Abstraction.Abstraction, Rank.RankFits}
use Rattle.lra_back.specs.{BackwardCalls.AreHeads, Operations.BackwardOperations, Rounds.AreStarted, Rounds.no_rows}

-- how they start -----------------------------------------------------------------------------------------------------

module _ {V H : Type 0} (ops : BackwardOperations V H) (m : Abstraction V H) where
  -- the head starts with an empty value of so many dimensions, and has them
  pub record IsFirst (n : ℕ) (h : H) : Type 0 where
    pub nothing : V
    pub void : ops.forward.bottom n 1 nothing
    pub starts : ops.forward.started nothing (no_rows n) h
    pub has : m.head_dims h ≡ n
    pub fits : RankFits (m.rank h)

  -- so each of these
  abbrev pub AreFirst : List V → List H → Type 0
  AreFirst [] [] = Unit {0}
  AreFirst [] (h ∷ heads) = ⊥
  AreFirst (x ∷ forward) [] = ⊥
  AreFirst (x ∷ forward) (h ∷ heads) = IsFirst (m.dims x) h × AreFirst forward heads

  first_more : (forward : List V) (heads : List H) (x : V) (h : H) → AreFirst forward heads → IsFirst (m.dims x) h
      → AreFirst (forward ++ x ∷ []) (heads ++ h ∷ [])
  first_more [] [] x h so one = (one, tt)
  first_more [] (g ∷ heads) x h so one = absurd so
  first_more (y ∷ forward) [] x h so one = absurd so
  first_more (y ∷ forward) (g ∷ heads) x h so one = (so.0, first_more forward heads x h so.1 one)

  pub first_next : (forward : List V) (i j : ℕ) (heads : List H) (x : V) (h : H) → j ≡ suc i → slice_get forward i ≡ Some x → AreFirst (take i forward) heads
      → IsFirst (m.dims x) h → AreFirst (take j forward) (heads ++ h ∷ [])
  first_next forward i j heads x h next at so one =
      subst (λ (xs : List V). AreFirst xs (heads ++ h ∷ [])) (sym (ap (λ k. take k forward) next ∙ take_next forward i x at))
      (first_more (take i forward) heads x h so one)

  pub first_all : (forward : List V) (i : ℕ) (heads : List H) → length forward ≤ i → AreFirst (take i forward) heads → AreFirst forward heads
  first_all forward i heads end so = subst (λ (xs : List V). AreFirst xs heads) (take_all i forward end) so

  pub first_started : ((v : V) → ops.forward.dims v ≡ m.dims v) → (forward : List V) (heads : List H) → AreFirst forward heads → AreStarted ops forward heads
  first_started same [] [] so = tt
  first_started same [] (h ∷ heads) so = so
  first_started same (x ∷ forward) [] so = so
  first_started same (x ∷ forward) (h ∷ heads) so =
      let one = so.0 in (
        one.nothing,
        subst (λ n. ops.forward.bottom n 1 one.nothing) (sym (same x)) one.void,
        subst (λ n. ops.forward.started one.nothing (no_rows n) h) (sym (same x)) one.starts,
        first_started same forward heads so.1,
      )

  first_count : (forward : List V) (heads : List H) → AreFirst forward heads → length heads ≡ length forward
  first_count [] [] so = refl
  first_count [] (h ∷ heads) so = absurd so
  first_count (x ∷ forward) [] so = absurd so
  first_count (x ∷ forward) (h ∷ heads) so = ap suc (first_count forward heads so.1)

  first_at : (forward : List V) (heads : List H) (q : ℕ) (h : H) (x : V) → AreFirst forward heads → slice_get heads q ≡ Some h → slice_get forward q ≡ Some x
      → IsFirst (m.dims x) h
  first_at [] heads q h x so at there = absurd (none-some x there)
  first_at (y ∷ forward) [] q h x so at there = absurd (none-some h at)
  first_at (y ∷ forward) (g ∷ heads) zero h x so at there =
      let one : g ≡ h = cc in
      let two : y ≡ x = cc in
      subst (λ (z : V). IsFirst (m.dims z) h) two (subst (λ (z : H). IsFirst (m.dims y) z) one so.0)
  first_at (y ∷ forward) (g ∷ heads) (suc q) h x so at there = first_at forward heads q h x so.1 at there

  first_ranks : (forward : List V) (heads : List H) (q : ℕ) (h : H) → AreFirst forward heads → slice_get heads q ≡ Some h → RankFits (m.rank h)
  first_ranks forward [] q h so at = absurd (none-some h at)
  first_ranks [] (g ∷ heads) q h so at = absurd so
  first_ranks (y ∷ forward) (g ∷ heads) zero h so at =
      let one : g ≡ h = cc in
      let first = so.0 in
      subst (λ (z : H). RankFits (m.rank z)) one first.fits
  first_ranks (y ∷ forward) (g ∷ heads) (suc q) h so at = first_ranks forward heads q h so.1 at

  pub first_heads : (forward : List V) (heads : List H) → AreFirst forward heads → AreHeads m forward heads
  first_heads forward heads so = record {
    count = first_count forward heads so;
    dims = λ q h x at there. let one = first_at forward heads q h x so at there in one.has;
    ranks = λ q h at. first_ranks forward heads q h so at;
  }

-- one that is set ----------------------------------------------------------------------------------------------------

pub get_set_other : {A : Type 0} (xs : List A) (p q : ℕ) (x : A) → q ≢ p → slice_get (slice_set xs p x) q ≡ slice_get xs q
get_set_other [] p q x apart = refl
get_set_other (y ∷ xs) zero zero x apart = absurd (apart refl)
get_set_other (y ∷ xs) zero (suc q) x apart = refl
get_set_other (y ∷ xs) (suc p) zero x apart = refl
get_set_other (y ∷ xs) (suc p) (suc q) x apart = get_set_other xs p q x (λ e. apart (ap suc e))

set_length : {A : Type 0} (xs : List A) (p : ℕ) (x : A) → length (slice_set xs p x) ≡ length xs
set_length [] p x = refl
set_length (y ∷ xs) zero x = refl
set_length (y ∷ xs) (suc p) x = ap suc (set_length xs p x)

-- what stands in a list in which one is set is that one, or stood there
pub set_cases : {A : Type 0} (P : ℕ → A → Type 0) (xs : List A) (p : ℕ) (x : A) → p < length xs → P p x
    → ((q : ℕ) (y : A) → slice_get xs q ≡ Some y → P q y) → (q : ℕ) (y : A) → slice_get (slice_set xs p x) q ≡ Some y → P q y
set_cases P [] p x inside here all q y at = absurd (omega arith)
set_cases P (z ∷ xs) zero x inside here all zero y at =
    let same : x ≡ y = cc in subst (λ a. P 0 a) same here
set_cases P (z ∷ xs) zero x inside here all (suc q) y at = all (suc q) y at
set_cases P (z ∷ xs) (suc p) x inside here all zero y at = all 0 y at
set_cases P (z ∷ xs) (suc p) x inside here all (suc q) y at =
    set_cases (λ r a. P (suc r) a) xs p x (omega arith) here (λ r a there. all (suc r) a there) q y at

module _ {V H : Type 0} (m : Abstraction V H) (forward : List V) where
  pub heads_set : (heads : List H) (p : ℕ) (h k : H) → AreHeads m forward heads → slice_get heads p ≡ Some h → m.head_dims k ≡ m.head_dims h
      → RankFits (m.rank k) → AreHeads m forward (slice_set heads p k)
  heads_set heads p h k are at same fits =
      let inside = slice_get_within heads p h at in
      record {
        count = set_length heads p k ∙ are.count;
        dims = λ q g x is there. set_cases (λ r (i : H). (y : V) → slice_get forward r ≡ Some y → m.head_dims i ≡ m.dims y) heads p k inside
            (λ y here. same ∙ are.dims p h y at here) (λ r i has y here. are.dims r i y has here) q g is x there;
        ranks = set_cases (λ q (g : H). RankFits (m.rank g)) heads p k inside fits are.ranks;
      }
