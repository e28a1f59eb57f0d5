-- The first fault of a list of parts is that of its first part with a fault.
use Rattle.std.proofs.Common.{◌≡◌, ℕ, ◌+◌, ◌<◌, List, [], ◌∷◌, ◌++◌, length, map, drop, get_or, sym, ap, subst, ◌∙◌, Result, Some}
use Rattle.std.proofs.{lemmas.List.drop_more, lemmas.Result.err_from_is_err_and}
use Rattle.std.specs.{List.flat_map, Result.IsErrAnd, Result.IfErr}
use Rattle.lra_base.specs.{declared.error.SourceError.SourceError, declared.error.SourceError.TheVariants.Refused, declared.error.SourceError.TheVariants.Memory, declared.refusals.Refusal.Refusal}
use Rattle.lra_scopes.specs.Outcome.{first_fault, IsFirstFault, StopsAtFirstFault}

first_of_front : (a b : List Refusal) (r : Refusal) → first_fault a ≡ Some r → first_fault (a ++ b) ≡ Some r
first_of_front [] b r e = absurd cc
first_of_front (x ∷ xs) b r e = e

pub tells_front : (a b : List Refusal) (e : SourceError) → IsFirstFault a e → IsFirstFault (a ++ b) e
tells_front a b (Refused r) h = first_of_front a b r h
tells_front a b Memory h = tt {0}

pub tells_behind : (a b : List Refusal) (e : SourceError) → a ≡ [] → IsFirstFault b e → IsFirstFault (a ++ b) e
tells_behind a b e is h = rw is h

-- what the exit by an error returns reports the first fault of the whole
pub exit_tells : {T : Type 0} (whole : List Refusal) (r : Result T SourceError) (e : SourceError) → IsErrAnd r (λ y. y ≡ e) → IsFirstFault whole e →
    StopsAtFirstFault whole r
exit_tells whole r e is h = let p = err_from_is_err_and r is in rw (p.1, p.2) h

-- the same of all that may come after a part
pub exit_tells_all : {T X : Type 0} (faults : X → List Refusal) (r : Result T SourceError) (e : SourceError)
    → IsErrAnd r (λ y. y ≡ e) → ((rest : X) → IsFirstFault (faults rest) e) → IfErr r (λ y. (rest : X) → IsFirstFault (faults rest) y)
exit_tells_all faults r e is h = let p = err_from_is_err_and r is in rw (p.1, p.2) h

-- in a loop over the parts
pub parts_clean : {X : Type 0} (F : X → List Refusal) (xs : List X) (i : ℕ) (x : X) (whole : List Refusal)
    → i < length xs → x ≡ get_or xs i x → whole ≡ flat_map F (drop i xs) → F x ≡ [] → whole ≡ flat_map F (drop (i + 1) xs)
parts_clean F xs i x whole h is e f =
    let y = ap (flat_map F) (drop_more xs i x h) in
    let z = ap F is in
    e ∙ y ∙ ap (λ (l : List Refusal). l ++ flat_map F (drop (i + 1) xs)) (sym z ∙ f)

pub parts_tell : {X : Type 0} (F : X → List Refusal) (xs : List X) (i : ℕ) (x : X) (whole : List Refusal) (err : SourceError)
    → i < length xs → x ≡ get_or xs i x → whole ≡ flat_map F (drop i xs) → IsFirstFault (F x) err → IsFirstFault whole err
parts_tell F xs i x whole err h is e f =
    let y = ap (flat_map F) (drop_more xs i x h) in
    let z = ap F is in
    rw (e, y, ← z) (tells_front (F x) (flat_map F (drop (i + 1) xs)) err f)

-- in a loop whose step says of all that may come after it
pub rest_tells : {X Y : Type 0} (G : List Y → List Refusal) (v : X → Y) (xs : List X) (i : ℕ) (x : X) (whole : List Refusal) (err : SourceError)
    → i < length xs → x ≡ get_or xs i x → whole ≡ G (map v (drop i xs)) → ((rest : List Y) → IsFirstFault (G (v x ∷ rest)) err) → IsFirstFault whole err
rest_tells {X = X} G v xs i x whole err h is e f =
    let y = ap (λ (l : List X). G (map v l)) (drop_more xs i x h) in
    let z = ap (λ (w : X). G (v w ∷ map v (drop (i + 1) xs))) (sym is) in
    let T : List Refusal → Type 0 = λ l. IsFirstFault l err in subst T (sym (e ∙ y ∙ z)) (f (map v (drop (i + 1) xs)))

pub ruleset telling_rules = (tells_front, tells_behind)
