-- Whether a function reaches another is decided; so each source has a first recursive call, or none.
use Rattle.std.proofs.Common.{◌≡◌, ℕ, List, [], ◌∷◌, ◌++◌, map, bytes_eq, ◌⊎◌, inl, inr, refl, sym, ap, ◌∙◌, subst}
use Rattle.std.proofs.lemmas.List.Elements.{Contains-append_cases, Contains-append_left, Contains-append_right}
use Rattle.std.proofs.{lemmas.Bool.cases_Bool, lemmas.Bool.both_ways, lemmas.Slice.Eq.bytes_eq-Decides}
use Rattle.std.specs.List.{Contains, AllByRecursion}
use Rattle.lra_recursion.specs.Crates.lra_syntax.Reach.{calls_of, IsCalling, ReachesByCalls, there, by_call, calls_in, IsRecursive, IsFirstRecursive, NotRecursive}
use Rattle.lra_recursion.specs.Crates.lra_syntax.Trees.{FunctionTree, FileTree}
use Rattle.lra_recursion.specs.Crates.{lra_base.declared.refusals.Place.Place, lra_syntax.Functions.functions_of, lra_syntax.declared.trees.Identifier.Identifier}
use Rattle.lra_recursion.proofs.Elements.{in_cons, in_further, nothing_in, has_one, all_at}

-- what holds or doesn't
abbrev Decided : Type 0 → Type 0
Decided X = X ⊎ (X → ⊥)

same_name : (a b : List ℕ) → Decided (a ≡ b)
same_name a b = elim (cases_Bool (bytes_eq a b)) [
  | inl same ↦ inl ((bytes_eq-Decides a b).0 same)
  | inr other ↦ inr (λ e. both_ways (bytes_eq a b) other ((bytes_eq-Decides a b).1 e))
]

-- paths ------------------------------------------------------------------------------------------------------------------

abbrev Call : Type 0
Call = List ℕ × Identifier

-- from a to b by these calls: along the first of them, or without it
abbrev Path : List Call → List ℕ → List ℕ → Type 0
Path [] a b = a ≡ b
Path (c ∷ cs) a b = Path cs a b ⊎ (Path cs a c.0 × Path cs c.1.word b)

either : (X Y Z : Type 0) → Decided X → Decided Y → Decided Z → Decided (X ⊎ (Y × Z))
either X Y Z (inl x) q r = inl (inl x)
either X Y Z (inr x) (inl y) (inl z) = inl (inr (y, z))
either X Y Z (inr x) (inr y) r = inr (λ h. elim h [ inl a ↦ x a | inr b ↦ y b.0 ])
either X Y Z (inr x) (inl y) (inr z) = inr (λ h. elim h [ inl a ↦ x a | inr b ↦ z b.1 ])

path : (cs : List Call) (a b : List ℕ) → Decided (Path cs a b)
path [] a b = same_name a b
path (c ∷ cs) a b = either (Path cs a b) (Path cs a c.0) (Path cs c.1.word b) (path cs a b) (path cs a c.0) (path cs c.1.word b)

no_call : (cs : List Call) (a : List ℕ) → Path cs a a
no_call [] a = refl
no_call (c ∷ cs) a = inl (no_call cs a)

joined : (cs : List Call) (a b d : List ℕ) → Path cs a b → Path cs b d → Path cs a d
joined [] a b d p q = p ∙ q
joined (c ∷ cs) a b d (inl p) (inl q) = inl (joined cs a b d p q)
joined (c ∷ cs) a b d (inl p) (inr q) = inr (joined cs a b c.0 p q.0, q.1)
joined (c ∷ cs) a b d (inr p) (inl q) = inr (p.0, joined cs c.1.word b d p.1 q)
joined (c ∷ cs) a b d (inr p) (inr q) = inr (p.0, q.1)

one_call : (cs : List Call) (c : Call) → Contains cs c → Path cs c.0 c.1.word
one_call [] c h = absurd (nothing_in c h)
one_call (d ∷ cs) c h = elim (in_cons d cs c h) [
  | inl same ↦ subst (λ (x : Call). Path (d ∷ cs) x.0 x.1.word) same (inr (no_call cs d.0, no_call cs d.1.word))
  | inr behind ↦ inl (one_call cs c behind)
]

-- the calls of a source ----------------------------------------------------------------------------------------------------

itself : {A : Type 0} (x : A) → Contains (x ∷ []) x
itself x = has_one x x refl

in_map : (f : Identifier → Call) (xs : List Identifier) (x : Identifier) → Contains xs x → Contains (map f xs) (f x)
in_map f [] x h = absurd (nothing_in x h)
in_map f (y ∷ xs) x h = elim (in_cons y xs x h) [
  | inl same ↦ subst (λ z. Contains (map f (y ∷ xs)) (f z)) same (Contains-append_left (f y ∷ []) (map f xs) (f y) (itself (f y)))
  | inr behind ↦ in_further (f y) (map f xs) (f x) (in_map f xs x behind)
]

from_map : (f : Identifier → Call) (xs : List Identifier) (c : Call) → Contains (map f xs) c → (x : Identifier) × Contains xs x × (c ≡ f x)
from_map f [] c h = absurd (nothing_in c h)
from_map f (y ∷ xs) c h = elim (in_cons (f y) (map f xs) c h) [
  | inl same ↦ (y, Contains-append_left (y ∷ []) xs y (itself y), sym same)
  | inr behind ↦ let k = from_map f xs c behind in (k.0, in_further y xs k.0 k.1, k.2)
]

abbrev call_of : FunctionTree → Identifier → Call
call_of f x = (f.name.word, x)

pub call_there : (fs : List FunctionTree) (f : FunctionTree) (x : Identifier) → Contains fs f → Contains (calls_of f) x → Contains (calls_in fs) (call_of f x)
call_there [] f x h k = absurd (nothing_in f h)
call_there (g ∷ fs) f x h k = elim (in_cons g fs f h) [
  | inl same ↦ Contains-append_left (map (call_of g) (calls_of g)) (calls_in fs) (call_of f x)
      (subst (λ (z : FunctionTree). Contains (map (call_of z) (calls_of z)) (call_of f x)) (sym same) (in_map (call_of f) (calls_of f) x k))
  | inr behind ↦ Contains-append_right (map (call_of g) (calls_of g)) (calls_in fs) (call_of f x) (call_there fs f x behind k)
]

abbrev pub IsHeld : List FunctionTree → Call → Type 0
IsHeld fs c = (f : FunctionTree) × Contains fs f × (f.name.word ≡ c.0) × Contains (calls_of f) c.1

pub call_held : (fs : List FunctionTree) (c : Call) → Contains (calls_in fs) c → IsHeld fs c
call_held [] c h = absurd (nothing_in c h)
call_held (g ∷ fs) c h = elim (Contains-append_cases (map (call_of g) (calls_of g)) (calls_in fs) c h) [
  | inl here ↦
      let k = from_map (call_of g) (calls_of g) c here in
      (g, Contains-append_left (g ∷ []) fs g (itself g), ap (λ (x : Call). x.0) (sym k.2), subst (Contains (calls_of g)) (ap (λ (x : Call). x.1) (sym k.2)) k.1)
  | inr behind ↦ let k = call_held fs c behind in (k.0, in_further g fs k.0 k.1, k.2, k.3)
]

module _ (t : FileTree) where
  is_calling : (c : Call) → Contains (calls_in (functions_of t)) c → IsCalling t c.0 c.1.word
  is_calling c h = let k = call_held (functions_of t) c h in record { function = k.0; is_there = k.1; name = k.2; called = c.1; calls = k.3; called_name = refl }

  goes_on : (goal b a : List ℕ) → ReachesByCalls t b a → ReachesByCalls t goal b → ReachesByCalls t goal a
  goes_on goal b _ there r = r
  goes_on goal b a (by_call _ g call further) r = by_call a g call (goes_on goal b g further r)

  -- a path is one by calls of the source
  path_reaches : (cs : List Call) (a b : List ℕ) → ((c : Call) → Contains cs c → Contains (calls_in (functions_of t)) c) → Path cs a b → ReachesByCalls t b a
  path_reaches [] a b within p = subst (λ z. ReachesByCalls t z a) p there
  path_reaches (c ∷ cs) a b within (inl p) = path_reaches cs a b (λ d h. within d (in_further c cs d h)) p
  path_reaches (c ∷ cs) a b within (inr p) =
      let inside = λ (d : Call) (h : Contains cs d). within d (in_further c cs d h) in
      let call = is_calling c (within c (Contains-append_left (c ∷ []) cs c (itself c))) in
      goes_on b c.0 a (path_reaches cs a c.0 inside p.0) (by_call c.0 c.1.word call (path_reaches cs c.1.word b inside p.1))

  call_path : (a b : List ℕ) → IsCalling t a b → Path (calls_in (functions_of t)) a b
  call_path a b c =
      let p = one_call (calls_in (functions_of t)) (c.function.name.word, c.called) (call_there (functions_of t) c.function c.called c.is_there c.calls) in
      subst (λ z. Path (calls_in (functions_of t)) z b) c.name (subst (Path (calls_in (functions_of t)) c.function.name.word) c.called_name p)

  reaches_path : (goal a : List ℕ) → ReachesByCalls t goal a → Path (calls_in (functions_of t)) a goal
  reaches_path goal _ there = no_call (calls_in (functions_of t)) goal
  reaches_path goal a (by_call _ g call further) = joined (calls_in (functions_of t)) a g goal (call_path a g call) (reaches_path goal g further)

  reaches : (goal a : List ℕ) → Decided (ReachesByCalls t goal a)
  reaches goal a = elim (path (calls_in (functions_of t)) a goal) [
    | inl p ↦ inl (path_reaches (calls_in (functions_of t)) a goal (λ c h. h) p)
    | inr none ↦ inr (λ r. none (reaches_path goal a r))
  ]

  -- the first recursive call of a list
  abbrev First : List Call → Type 0
  First cs = (before after : List Call) × (c : Call) × (cs ≡ before ++ c ∷ after) × IsRecursive t c × AllByRecursion (λ d. IsRecursive t d → ⊥) before

  first_of : (cs : List Call) → First cs ⊎ AllByRecursion (λ d. IsRecursive t d → ⊥) cs
  first_of [] = inr tt
  first_of (c ∷ cs) = elim (reaches c.0 c.1.word) [
    | inl is ↦ inl ([], cs, c, refl, is, tt)
    | inr isnt ↦ elim (first_of cs) [
      | inr none ↦ inr (isnt, none)
      | inl (before, after, d, parts, is, none) ↦ inl (c ∷ before, after, d, ap (λ (z : List Call). c ∷ z) parts, is, (isnt, none))
    ]
  ]

  -- each source has a first recursive call, or none
  pub each_recursion : ((at : Place) × IsFirstRecursive t at) ⊎ NotRecursive t
  each_recursion = elim (first_of (calls_in (functions_of t))) [
    | inl (before, after, c, parts, is, none) ↦ inl (c.1.place, (before, after, c, parts, refl, is, none))
    | inr none ↦ inr (λ at r. all_at (λ d. IsRecursive t d → ⊥) r.0 r.2 r.1 (subst (AllByRecursion (λ d. IsRecursive t d → ⊥)) r.3 none) r.5)
  ]
