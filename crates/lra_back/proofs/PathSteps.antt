-- Going back over the changes of a path, from the last one.
use Rattle.std.proofs.Common.{◌≡◌, ◌≤◌, ◌<◌, ◌^◌, ℕ, zero, suc, List, [], ◌∷◌, length, map, get_or, drop, take, Some, refl, sym, ap, subst, ◌∙◌, arith, slice_get, option_map}
use Rattle.std.proofs.lemmas.Option.{slice_get_within, slice_get_read, slice_get-map, get_or_from_slice_get, none-some, same_Some}
use Rattle.std.proofs.{Math.Seq.drop-cons, lemmas.List.length-map}
use Rattle.lra_domain.specs.Actions.{Action, assign, forget, test, embed, remove_last, dims_after}
use Rattle.lra_domain.specs.{Abstraction.worse, Changes.AllCanBeMade, Changes.CanBeMade, Changes.dims_after_actions, declared.Exactness.Exactness}
use Rattle.lra_back.proofs.Crates.lra_analysis_spec.Takes.{worse_worse}
use Rattle.lra_back.specs.Operations.{BackwardOperations, PreOfAction}
use Rattle.lra_back.specs.{BackwardCalls.PreAlongMet, BackwardCalls.Fits, BackwardCalls.reversed, Preconditions.PreOfPath, Preconditions.PreAlong}

pub drop_at : {A : Type 0} (xs : List A) (j : ℕ) (x : A) → slice_get xs j ≡ Some x → drop j xs ≡ x ∷ drop (suc j) xs
drop_at xs j x at = drop-cons xs j x (slice_get_within xs j x at) ∙ ap (λ y. y ∷ drop (suc j) xs) (get_or_from_slice_get xs j x x at)

-- dimensions along the path ------------------------------------------------------------------------------------------

after_few : (step : Action) (n : ℕ) → n ≤ 2 ^ 30 → CanBeMade step n → dims_after step n ≤ 2 ^ 30
after_few (assign x f) n few can = few
after_few (forget x) n few can = few
after_few (test kind f) n few can = few
after_few (embed k) n few can = can
after_few (remove_last k) n few can = omega arith

-- the change there can be made, and leaves what comes after it
record IsAlong (step : Action) (n m : ℕ) : Type 0 where
  pub can : CanBeMade step n
  pub few : n ≤ 2 ^ 30
  pub after : m ≡ dims_after step n

along : (path : List Action) (n j : ℕ) (step : Action) → slice_get path j ≡ Some step → n ≤ 2 ^ 30 → AllCanBeMade path n
    → IsAlong step (dims_after_actions (take j path) n) (dims_after_actions (take (suc j) path) n)
along [] n j step at few can = absurd (none-some step at)
along (s ∷ path) n zero step at few can =
    let same : s ≡ step = cc in
    subst (λ (z : Action). IsAlong z n (dims_after s n)) same (record { can = can.0; few = few; after = refl })
along (s ∷ path) n (suc j) step at few can = along path (dims_after s n) j step at (after_few s n few can.0) can.1

turned_back : (step : Action) (n : ℕ) → CanBeMade step n → n ≤ 2 ^ 30
    → CanBeMade (reversed step) (dims_after step n) × (dims_after (reversed step) (dims_after step n) ≡ n)
turned_back (assign x f) n can few = (can, refl)
turned_back (forget x) n can few = (can, refl)
turned_back (test kind f) n can few = (can, refl)
turned_back (embed k) n can few = (omega arith, omega arith)
turned_back (remove_last k) n can few = (omega arith, omega arith)

-- the change at the place can be gone back over
pub undo_fits : (path : List Action) (n behind j : ℕ) (step : Action) (d : ℕ) → slice_get path j ≡ Some step → Fits path n behind
    → d ≡ dims_after_actions (take (suc j) path) n → CanBeMade (reversed step) d
undo_fits path n behind j step d at fits here =
    let a = along path n j step at fits.0 fits.1 in
    subst (λ k. CanBeMade (reversed step) k) (sym (here ∙ a.after)) (turned_back step (dims_after_actions (take j path) n) a.can a.few).0

pub undo_dims : (path : List Action) (n behind j : ℕ) (step : Action) (d e : ℕ) → slice_get path j ≡ Some step → Fits path n behind
    → d ≡ dims_after_actions (take (suc j) path) n → e ≡ dims_after (reversed step) d → e ≡ dims_after_actions (take j path) n
undo_dims path n behind j step d e at fits here made =
    let a = along path n j step at fits.0 fits.1 in
    made ∙ ap (dims_after (reversed step)) (here ∙ a.after) ∙ (turned_back step (dims_after_actions (take j path) n) a.can a.few).1

-- the changes from a place on ----------------------------------------------------------------------------------------

-- gone over from this place on
pub record IsOverFrom {V H : Type 0} (ops : BackwardOperations V H) (dims : V → ℕ) (path : List Action) (n j : ℕ) (v : V) (e : Exactness) (w : V) : Type 0 where
  pub over : PreAlong ops (drop j path) v e w
  pub has : dims w ≡ dims_after_actions (take j path) n

module _ {V H : Type 0} (ops : BackwardOperations V H) (dims : V → ℕ) (path : List Action) (n : ℕ) (v : V) where
  pub over_one : (behind i j : ℕ) (step : Action) (u : V) (c d : Exactness) (w : V) → i ≡ suc j → slice_get path j ≡ Some step → Fits path n behind
      → IsOverFrom ops dims path n i v c u → PreOfAction ops step u d w → dims w ≡ dims_after (reversed step) (dims u)
      → IsOverFrom ops dims path n j v (worse c d) w
  over_one behind i j step u c d w next at fits before undone made =
      let so = subst (λ k. IsOverFrom ops dims path n k v c u) next before in record {
        over = subst (λ (steps : List Action). PreAlong ops steps v (worse c d) w) (sym (drop_at path j step at)) (u, c, d, so.over, undone, refl);
        has = undo_dims path n behind j step (dims u) (dims w) at fits so.has made;
      }

-- and from the head of the path's target -------------------------------------------------------------------------------

pub comes_back : {V H : Type 0} (ops : BackwardOperations V H) (forward : V) (target : H) (path : List Action) (v : V) (c e all : Exactness) (w : V)
    → ops.forward.valued target c v → PreAlongMet ops forward v path e w → all ≡ worse c e → PreOfPath ops forward target path all w
comes_back ops forward target path v c e all w valued (u, d, i, over, met, is) made =
    (v, u, c, d, i, valued, over, met, made ∙ ap (worse c) is ∙ sym (worse_worse c d i))

-- what is read at a place ----------------------------------------------------------------------------------------------

pub read_at : {A : Type 0} (xs : List A) (i : ℕ) (x : A) → i < length xs → x ≡ get_or xs i x → slice_get xs i ≡ Some x
read_at xs i x inside is = slice_get_read xs (length xs) i x refl inside is

pub read_mapped : {A B : Type 0} (f : A → B) (xs : List A) (i : ℕ) (x : A) → i < length xs → x ≡ get_or xs i x → slice_get (map f xs) i ≡ Some (f x)
read_mapped f xs i x inside is = slice_get-map f xs i ∙ ap (option_map f) (read_at xs i x inside is)

pub mapped_past : {A B : Type 0} (f : A → B) (xs : List A) (i : ℕ) → length xs ≤ i → length (map f xs) ≤ i
mapped_past f xs i past = simp length-map past

pub same_there : {A : Type 0} (xs : List A) (i : ℕ) (x y : A) → slice_get xs i ≡ Some x → slice_get xs i ≡ Some y → (f : A → ℕ) → f x ≡ f y
same_there xs i x y at here f = ap f (same_Some x y (sym at ∙ here))
