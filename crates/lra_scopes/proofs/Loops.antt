-- Loops over the parts of a chain: what each part's value and its faults say of the whole.
use Rattle.std.proofs.Common.{◌≡◌, ℕ, ◌+◌, ◌<◌, ◌≤◌, List, [], ◌∷◌, ◌++◌, length, map, take, drop, get_or, sym, ap, ◌∙◌, Result, Ok, Err}
use Rattle.std.proofs.lemmas.List.{map_push, map_more, take_all, at_drop_more, at_drop_all}
use Rattle.std.specs.{List.flat_map, Result.IsErrAnd, Result.IfOk, Result.IfErr}
use Rattle.lra_base.specs.{declared.error.SourceError.SourceError, declared.error.SourceError.TheVariants.Memory, declared.refusals.Refusal.Refusal}
use Rattle.lra_scopes.specs.Outcome.{IsFirstFault, StopsAtFirstFault}
use Rattle.lra_scopes.proofs.FirstFaults.{tells_front, tells_behind, exit_tells, exit_tells_all, parts_tell}

-- an exit when memory runs out
pub memory_told : {T : Type 0} (whole : List Refusal) (r : Result T SourceError) → IsErrAnd r (λ y. y ≡ Memory) → StopsAtFirstFault whole r
memory_told whole r is = exit_tells whole r Memory is (tt {0})

-- an exit by an error that runs out of memory
pub wanting_told : {T : Type 0} (whole : List Refusal) (r : Result T SourceError) (e : SourceError) → e ≡ Memory → IsErrAnd r (λ y. y ≡ e) →
    StopsAtFirstFault whole r
wanting_told whole r e m is = let t : IsFirstFault whole e = rw m (tt {0}) in exit_tells whole r e is t

-- a result that is handed on, of a call that fails only when memory runs out
pub made_told : {T : Type 0} (whole : List Refusal) (r : Result T SourceError) → whole ≡ [] → IfErr r (λ y. y ≡ Memory) → StopsAtFirstFault whole r
made_told whole (Ok v) clean wants = clean
made_told whole (Err e) clean wants = rw wants (tt {0})

-- and what it means
pub found_so : {T E : Type 0} (r : Result T SourceError) (view : T → E) (a b : E) → a ≡ b → IfOk r (λ v. view v ≡ a) → IfOk r (λ v. view v ≡ b)
found_so (Ok v) view a b e h = h ∙ e
found_so (Err x) view a b e h = tt {0}

-- the same of all that may come after a part
pub memory_told_all : {T X : Type 0} (faults : X → List Refusal) (r : Result T SourceError)
    → IsErrAnd r (λ y. y ≡ Memory) → IfErr r (λ y. (rest : X) → IsFirstFault (faults rest) y)
memory_told_all faults r is = exit_tells_all faults r Memory is (λ _. tt {0})

-- an exit by the error of the only part
pub only_told : {T : Type 0} (whole a : List Refusal) (r : Result T SourceError) (e : SourceError)
    → whole ≡ a → IsErrAnd r (λ y. y ≡ e) → IsFirstFault a e → StopsAtFirstFault whole r
only_told whole a r e only is h = exit_tells whole r e is (rw only h)

-- an exit by the error of the first part
pub first_told : {T : Type 0} (whole a b : List Refusal) (r : Result T SourceError) (e : SourceError)
    → whole ≡ a ++ b → IsErrAnd r (λ y. y ≡ e) → IsFirstFault a e → StopsAtFirstFault whole r
first_told whole a b r e split is h = let t = tells_front a b e h in exit_tells whole r e is (rw split t)

-- an exit by the error of the second part
pub second_told : {T : Type 0} (whole a b : List Refusal) (r : Result T SourceError) (e : SourceError)
    → whole ≡ a ++ b → a ≡ [] → IsErrAnd r (λ y. y ≡ e) → IsFirstFault b e → StopsAtFirstFault whole r
second_told whole a b r e split clean is h = let t = tells_behind a b e clean h in exit_tells whole r e is (rw split t)

-- two parts without faults
pub both_clean : (whole a b : List Refusal) → whole ≡ a ++ b → a ≡ [] → b ≡ [] → whole ≡ []
both_clean whole a b split clean h = split ∙ rw (clean, h)

-- an exit by the error of a part in the loop
pub part_told : {T X : Type 0} (F : X → List Refusal) (xs : List X) (i : ℕ) (x : X) (whole : List Refusal) (r : Result T SourceError) (e : SourceError)
    → i < length xs → x ≡ get_or xs i x → whole ≡ flat_map F (drop i xs) → IsErrAnd r (λ y. y ≡ e) → IsFirstFault (F x) e → StopsAtFirstFault whole r
part_told F xs i x whole r e h item clean is t = exit_tells whole r e is (parts_tell F xs i x whole e h item clean t)

-- the end of the loop
pub all_clean : {X : Type 0} (F : X → List Refusal) (xs : List X) (i : ℕ) (whole : List Refusal)
    → whole ≡ flat_map F (drop i xs) → length xs ≤ i → whole ≡ []
all_clean F xs i whole clean h = clean ∙ at_drop_all (flat_map F) xs i h

-- after a first part without faults
pub rest_clean : {X : Type 0} (F : X → List Refusal) (xs ys : List X) (whole a : List Refusal)
    → whole ≡ a ++ flat_map F ys → a ≡ [] → xs ≡ ys → whole ≡ flat_map F xs
rest_clean F xs ys whole a split clean is = split ∙ rw (clean, is)

-- one more value
pub parts_found : {X Y Z : Type 0} (view : Y → Z) (mean : X → Z) (xs : List X) (i : ℕ) (x : X) (old new : List Y) (y : Y)
    → i < length xs → x ≡ get_or xs i x → new ≡ old ++ y ∷ [] → view y ≡ mean x → map view old ≡ map mean (take i xs) → map view new ≡ map mean (take (i + 1) xs)
parts_found {Z = Z} view mean xs i x old new y h item added means found =
    ap (map view) added ∙ map_push view old y
    ∙ ap (λ (l : List Z). l ++ view y ∷ []) found
    ∙ ap (λ (z : Z). map mean (take i xs) ++ z ∷ []) (means ∙ ap mean item)
    ∙ sym (map_more mean xs i x h)

-- all values, at the end of the loop
pub all_found : {X Y Z : Type 0} (view : Y → Z) (mean : X → Z) (xs : List X) (i : ℕ) (ys : List Y)
    → map view ys ≡ map mean (take i xs) → length xs ≤ i → map view ys ≡ map mean xs
all_found view mean xs i ys found h = found ∙ ap (map mean) (take_all i xs h)

-- what the parts that are left give begins with what the first of them gives
pub parts_step : {X Y Z : Type 0} (G : List Y → Z) (v : X → Y) (xs : List X) (i : ℕ) (x : X) → i < length xs → x ≡ get_or xs i x
    → G (map v (drop i xs)) ≡ G (v x ∷ map v (drop (i + 1) xs))
parts_step {X = X} G v xs i x h is =
    at_drop_more (λ (l : List X). G (map v l)) xs i x h ∙ ap (λ (w : X). G (v w ∷ map v (drop (i + 1) xs))) (sym is)

-- at the end none is left
pub parts_end : {X Y Z : Type 0} (G : List Y → Z) (v : X → Y) (xs : List X) (i : ℕ) → length xs ≤ i → G (map v (drop i xs)) ≡ G []
parts_end {X = X} G v xs i h = at_drop_all (λ (l : List X). G (map v l)) xs i h
