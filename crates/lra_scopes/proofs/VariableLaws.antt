-- Scalars and arrays, whose names and meanings stand apart.
use Rattle.std.proofs.Common.{◌≡◌, ◌≤◌, ℕ, zero, suc, ◌+◌, ◌-◌, List, [], ◌∷◌, ◌++◌, length, take, Option, Some, None, refl, sym, ap, ◌∙◌, Bor, min, length-append, arith}
use Rattle.std.proofs.{lemmas.List.length-take, lemmas.Option.same_Some, lemmas.Option.slice_get_past, lemmas.Option.slice_get_read}
use Rattle.std.specs.{Option.option_copied, Prelude.slice_get, Prelude.option_map, Slice.IsItemAt}
use Rattle.lra_program.specs.Program.{Slot}
use Rattle.lra_resolution_spec.specs.Scope as scope
use Rattle.lra_resolution_spec.specs.Scope.{SymbolEntry, Binding, Lookup, names_in, found_at, width_of, width_of_all}
use Rattle.lra_scopes.specs.{Bindings.binding_view, Variables.entries_of, Variables.AreCounted, Variables.placed_view, declared.variables.Placed.Placed}

pub entries_named : (xs : List (List ℕ)) (ps : List Placed) → length ps ≡ length xs → names_in (entries_of xs ps) ≡ xs
entries_named [] ps e = refl
entries_named (x ∷ xs) [] e = absurd cc
entries_named (x ∷ xs) (p ∷ ps) e = let f : length ps ≡ length xs = omega (arith, e) in ap (λ (l : List (List ℕ)). x ∷ l) (entries_named xs ps f)

pub entries_length : (xs : List (List ℕ)) (ps : List Placed) → length ps ≡ length xs → length (entries_of xs ps) ≡ length xs
entries_length [] ps e = refl
entries_length (x ∷ xs) [] e = absurd cc
entries_length (x ∷ xs) (p ∷ ps) e = let f : length ps ≡ length xs = omega (arith, e) in ap suc (entries_length xs ps f)

pub entries_push : (xs : List (List ℕ)) (ps : List Placed) (x : List ℕ) (p : Placed) → length ps ≡ length xs
    → entries_of (xs ++ x ∷ []) (ps ++ p ∷ []) ≡ entries_of xs ps ++ record { name = x; binding = binding_view p.meaning } ∷ []
entries_push [] [] x p e = refl
entries_push [] (q ∷ qs) x p e = absurd cc
entries_push (y ∷ ys) [] x p e = absurd cc
entries_push (y ∷ ys) (q ∷ qs) x p e =
    let f : length qs ≡ length ys = omega (arith, e) in
    ap (λ (l : List SymbolEntry). record { name = y; binding = binding_view q.meaning } ∷ l) (entries_push ys qs x p f)

pub entries_take : (n : ℕ) (xs : List (List ℕ)) (ps : List Placed) → entries_of (take n xs) (take n ps) ≡ take n (entries_of xs ps)
entries_take zero xs ps = refl
entries_take (suc n) [] ps = refl
entries_take (suc n) (x ∷ xs) [] = refl
entries_take (suc n) (x ∷ xs) (p ∷ ps) = ap (λ (l : List SymbolEntry). record { name = x; binding = binding_view p.meaning } ∷ l) (entries_take n xs ps)

one_at_most : (m : Binding) → width_of m ≤ 1
one_at_most (scope.scalar t) = omega arith
one_at_most (scope.array a) = omega arith

none_left : (xs : List (List ℕ)) → entries_of xs [] ≡ []
none_left [] = refl
none_left (x ∷ xs) = refl

-- how many scalars are before each ---------------------------------------------------------------------------------------

-- of what comes after so many scalars
abbrev seen_at : (ℕ → Slot) → ℕ → List SymbolEntry → ℕ → Option Lookup
seen_at slot n es k = option_map (λ (e : SymbolEntry). record { slot = slot (n + width_of_all (take k es)); binding = e.binding }) (slice_get es k)

seen_behind : (slot : ℕ → Slot) (n w k : ℕ) (es : List SymbolEntry) → seen_at slot (n + w) es k
    ≡ option_map (λ (e : SymbolEntry). record { slot = slot (n + (w + width_of_all (take k es))); binding = e.binding }) (slice_get es k)
seen_behind slot n w k es =
    let same : n + w + width_of_all (take k es) ≡ n + (w + width_of_all (take k es)) = omega arith in
    ap (λ (i : ℕ). option_map (λ (e : SymbolEntry). record { slot = slot i; binding = e.binding }) (slice_get es k)) same

placed_at : (slot : ℕ → Slot) (n : ℕ) (xs : List (List ℕ)) (ps : List Placed) (k : ℕ) → length ps ≡ length xs → AreCounted n ps
    → option_map (placed_view slot) (slice_get ps k) ≡ seen_at slot n (entries_of xs ps) k
placed_at slot n [] [] k e counted = refl
placed_at slot n [] (p ∷ ps) k e counted = absurd cc
placed_at slot n (x ∷ xs) [] k e counted = absurd cc
placed_at slot n (x ∷ xs) (p ∷ ps) zero e counted =
    let here : p.scalars ≡ n + 0 = omega (arith, counted.0) in
    ap (λ (i : ℕ). Some (record { slot = slot i; binding = binding_view p.meaning })) here
placed_at slot n (x ∷ xs) (p ∷ ps) (suc k) e counted =
    let f : length ps ≡ length xs = omega (arith, e) in
    placed_at slot (n + width_of (binding_view p.meaning)) xs ps k f counted.1
    ∙ seen_behind slot n (width_of (binding_view p.meaning)) k (entries_of xs ps)

-- what is found at a place
pub entry_found : (slot : ℕ → Slot) (xs : List (List ℕ)) (ps : List Placed) (k : ℕ) → length ps ≡ length xs → AreCounted 0 ps
    → option_map (placed_view slot) (slice_get ps k) ≡ found_at slot (entries_of xs ps) (Some k)
entry_found slot xs ps k e counted =
    let es = entries_of xs ps in
    let none : 0 + width_of_all (take k es) ≡ width_of_all (take k es) = omega arith in
    placed_at slot 0 xs ps k e counted ∙ ap (λ (i : ℕ). option_map (λ (x : SymbolEntry). record { slot = slot i; binding = x.binding }) (slice_get es k)) none

-- what a slice lends
pub lent_item : {X : Type 0} (xs : List X) (i : ℕ) (r : Option (Bor X)) → IsItemAt xs i r → option_copied r ≡ slice_get xs i
lent_item xs i None h = sym (slice_get_past xs i h.3)
lent_item xs i (Some x) h = sym (slice_get_read xs (length xs) i x.now refl h.3.0 h.1)

pub pushed_length : {A B : Type 0} (xs : List A) (ys : List B) (x : A) (y : B) → length xs ≡ length ys → length (xs ++ x ∷ []) ≡ length (ys ++ y ∷ [])
pushed_length xs ys x y e = let a = length-append xs (x ∷ []) in let b = length-append ys (y ∷ []) in omega (arith, a, b, e)

pub taken_length : {A B : Type 0} (n : ℕ) (xs : List A) (ys : List B) → length xs ≡ length ys → length (take n xs) ≡ length (take n ys)
taken_length n xs ys e = length-take n xs ∙ ap (min n) e ∙ sym (length-take n ys)

-- one more, after all scalars
pub counted_push : (n : ℕ) (xs : List (List ℕ)) (ps : List Placed) (p : Placed) → length ps ≡ length xs → AreCounted n ps
    → p.scalars ≡ n + width_of_all (entries_of xs ps) → AreCounted n (ps ++ p ∷ [])
counted_push n [] [] p e counted is = let here : p.scalars ≡ n = omega (arith, is) in (here, tt {0})
counted_push n [] (q ∷ qs) p e counted is = absurd cc
counted_push n (y ∷ ys) [] p e counted is = absurd cc
counted_push n (y ∷ ys) (q ∷ qs) p e counted is =
    let w = width_of (binding_view q.meaning) in
    let f : length qs ≡ length ys = omega (arith, e) in
    let next : p.scalars ≡ n + w + width_of_all (entries_of ys qs) = omega (arith, is) in
    (counted.0, counted_push (n + w) ys qs p f counted.1 next)

pub counted_take : (k n : ℕ) (ps : List Placed) → AreCounted n ps → AreCounted n (take k ps)
counted_take zero n ps counted = tt {0}
counted_take (suc k) n [] counted = tt {0}
counted_take (suc k) n (p ∷ ps) counted = (counted.0, counted_take k (n + width_of (binding_view p.meaning)) ps counted.1)

-- all scalars are those before the last, and it
counted_last : (n k : ℕ) (xs : List (List ℕ)) (ps : List Placed) (p : Placed) → length ps ≡ length xs → AreCounted n ps → suc k ≡ length ps
    → slice_get ps k ≡ Some p → p.scalars + width_of (binding_view p.meaning) ≡ n + width_of_all (entries_of xs ps)
counted_last n k xs [] p e counted is last = absurd cc
counted_last n k [] (q ∷ qs) p e counted is last = absurd cc
counted_last n zero (y ∷ ys) (q ∷ []) p e counted is last =
    let same : q ≡ p = same_Some q p last in
    let all : q.scalars + width_of (binding_view q.meaning) ≡ n + (width_of (binding_view q.meaning) + 0) = omega (arith, counted.0) in
    ap (λ (r : Placed). r.scalars + width_of (binding_view r.meaning)) (sym same) ∙ rw (none_left ys) all
counted_last n zero (y ∷ ys) (q ∷ r ∷ rs) p e counted is last = absurd cc
counted_last n (suc k) (y ∷ ys) (q ∷ qs) p e counted is last =
    let w = width_of (binding_view q.meaning) in
    let f : length qs ≡ length ys = omega (arith, e) in
    let g : suc k ≡ length qs = omega (arith, is) in
    let all : n + w + width_of_all (entries_of ys qs) ≡ n + (w + width_of_all (entries_of ys qs)) = omega arith in
    counted_last (n + w) k ys qs p f counted.1 g last ∙ all

pub all_scalars : (xs : List (List ℕ)) (ps : List Placed) (p : Placed) → length ps ≡ length xs → AreCounted 0 ps → slice_get ps (length ps - 1) ≡ Some p
    → p.scalars + width_of (binding_view p.meaning) ≡ width_of_all (entries_of xs ps)
all_scalars xs [] p e counted last = absurd cc
all_scalars xs (q ∷ qs) p e counted last =
    let there : suc (length (q ∷ qs) - 1) ≡ length (q ∷ qs) = omega arith in
    let all = counted_last 0 (length (q ∷ qs) - 1) xs (q ∷ qs) p e counted there last in omega (arith, all)

-- no more of them than names
pub scalars_within : (xs : List (List ℕ)) (ps : List Placed) → width_of_all (entries_of xs ps) ≤ length ps
scalars_within [] ps = omega arith
scalars_within (x ∷ xs) [] = omega arith
scalars_within (x ∷ xs) (p ∷ ps) = let h = scalars_within xs ps in let one = one_at_most (binding_view p.meaning) in omega arith
