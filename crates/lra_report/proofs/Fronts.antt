-- Where a text goes on: what stands before is given by what follows it.
use Rattle.std.specs.{Char.is_ascii_digit, List.AllByRecursion, Prelude.⊤}
use Rattle.std.proofs.Common.{◌≡◌, ◌≢◌, ℕ, ◌<◌, nat_lt, Bool, true, false, List, [], ◌∷◌, ◌++◌, length, refl, ap, sym, ◌∙◌, arith}
use Rattle.std.proofs.lemmas.Bool.{both_ways}

pub first_same : {A : Type 0} {x y : A} {xs ys : List A} → x ∷ xs ≡ y ∷ ys → x ≡ y
first_same e = cc

pub rest_same : {A : Type 0} {x y : A} {xs ys : List A} → x ∷ xs ≡ y ∷ ys → xs ≡ ys
rest_same e = cc

pub both_same : {A : Type 0} {x y : A} {xs ys : List A} → x ≡ y → xs ≡ ys → x ∷ xs ≡ y ∷ ys
both_same e f = cc

-- the bytes pass a test
abbrev pub Passes : (ℕ → Bool) → List ℕ → Type 0
Passes p [] = ⊤
Passes p (b ∷ bs) = (p b ≡ true) × Passes p bs

-- the text is at its end, or goes on with a byte that doesn't
abbrev pub Ends : (ℕ → Bool) → List ℕ → Type 0
Ends p [] = ⊤
Ends p (b ∷ bs) = p b ≡ false

apart : (p : ℕ → Bool) (a b : ℕ) → p a ≡ true → p b ≡ false → a ≡ b → ⊥
apart p a b yes_a no_b e = both_ways (p b) no_b (sym (ap p e) ∙ yes_a)

not_longer : (p : ℕ → Bool) (y : ℕ) (ys u : List ℕ) → p y ≡ true → Ends p u → u ≡ y ∷ ys → ⊥
not_longer p y ys [] pass end e = cc
not_longer p y ys (b ∷ u) pass end e = apart p y b pass end (sym (first_same e))

-- the longest prefix that passes
pub front_same : (p : ℕ → Bool) (xs ys u v : List ℕ) → Passes p xs → Passes p ys → Ends p u → Ends p v → xs ++ u ≡ ys ++ v → (xs ≡ ys) × (u ≡ v)
front_same p [] [] u v px py eu ev e = (refl, e)
front_same p [] (y ∷ ys) u v px py eu ev e = absurd (not_longer p y (ys ++ v) u py.0 eu e)
front_same p (x ∷ xs) [] u v px py eu ev e = absurd (not_longer p x (xs ++ u) v px.0 ev (sym e))
front_same p (x ∷ xs) (y ∷ ys) u v px py eu ev e = let s = front_same p xs ys u v px.1 py.1 eu ev (rest_same e) in (both_same (first_same e) s.0, s.1)

-- its first byte
pub front_first : (p : ℕ → Bool) (xs u v : List ℕ) (b : ℕ) → 0 < length xs → Passes p xs → xs ++ u ≡ b ∷ v → p b ≡ true
front_first p [] u v b some px e = absurd (omega arith)
front_first p (x ∷ xs) u v b some px e = sym (ap p (first_same e)) ∙ px.0

-- above the blank: no blank and no line feed
abbrev pub is_visible : ℕ → Bool
is_visible b = nat_lt 32 b

abbrev pub AllVisible : List ℕ → Type 0
AllVisible [] = ⊤
AllVisible (b ∷ bs) = (is_visible b ≡ true) × AllVisible bs

-- a word of visible bytes that doesn't begin with a digit
abbrev pub IsShownName : List ℕ → Type 0
IsShownName [] = ⊥
IsShownName (b ∷ bs) = (is_ascii_digit b ≡ false) × (is_visible b ≡ true) × AllVisible bs

-- such words, pairwise different
abbrev pub AreShownNames : List (List ℕ) → Type 0
AreShownNames [] = ⊤
AreShownNames (n ∷ ns) = IsShownName n × AllByRecursion (λ m. n ≢ m) ns × AreShownNames ns

pub visible_passes : (bs : List ℕ) → AllVisible bs → Passes is_visible bs
visible_passes [] h = h
visible_passes (b ∷ bs) h = (h.0, visible_passes bs h.1)
