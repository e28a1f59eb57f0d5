-- Functions by their names and their places; calls by those of their callers.
use Rattle.std.proofs.Common.{◌≡◌, ◌<◌, ℕ, suc, Bool, true, false, cond, if◌then◌else◌, List, [], ◌∷◌, ◌++◌, length, map, Option, Some, None, slice_get, inl, inr, ◌⊎◌, refl, sym, ap, ◌∙◌, subst}
use Rattle.std.proofs.lemmas.Option.{none-some, same_Some, slice_get_within}
use Rattle.std.proofs.{Common.arith, lemmas.Bool.both_ways, lemmas.Bool.eqb-true, lemmas.Bool.eq-eqb, lemmas.Slice.Eq.bytes_eq-Decides}
use Rattle.std.specs.{List.Contains, Prelude.option_map, Prelude.option_to_list, Prelude.nat_eq}
use Rattle.lra_recursion.specs.Crates.lra_syntax.Functions.{is_named, function_named}
use Rattle.lra_recursion.specs.Crates.{lra_resolution_spec.Resolve.function_place, lra_syntax.Trees.FunctionTree, lra_syntax.declared.trees.Identifier.Identifier}
use Rattle.lra_recursion.specs.{Calls.call_of, Calls.calls_among, Calls.first_places, Calls.callees_of, declared.calls.Call.Call}
use Rattle.lra_recursion.proofs.Elements.{nothing_in, in_cons, in_further}

-- the first function of a name -----------------------------------------------------------------------------------------

-- the function at this place has the name
abbrev IsThere : List FunctionTree → List ℕ → ℕ → FunctionTree → Type 0
IsThere F name k f = (slice_get F k ≡ Some f) × (f.name.word ≡ name)

named_case : (b : Bool) (h f : FunctionTree) (found : Option FunctionTree) (F : List FunctionTree) (name : List ℕ) (k : ℕ) → (b ≡ true → h.name.word ≡ name)
    → (found ≡ Some f → IsThere F name k f) → cond b (Some h) found ≡ Some f → IsThere (h ∷ F) name (cond b 0 (suc k)) f
named_case true h f found F name k here later e = (e, ap (λ (x : FunctionTree). x.name.word) (sym (same_Some h f e)) ∙ here refl)
named_case false h f found F name k here later e = later e

named_place : (F : List FunctionTree) (name : List ℕ) (f : FunctionTree) → function_named F name ≡ Some f → IsThere F name (function_place F name) f
named_place [] name f e = absurd (none-some f e)
named_place (h ∷ F) name f e =
    named_case (is_named name h) h f (function_named F name) F name (function_place F name) (λ b. sym ((bytes_eq-Decides name h.name.word).0 b)) (named_place F name f) e

none_case : (b : Bool) (h : FunctionTree) (found : Option FunctionTree) → cond b (Some h) found ≡ None → (b ≡ false) × (found ≡ None)
none_case true h found e = absurd (none-some h (sym e))
none_case false h found e = (refl, e)

none_named : (F : List FunctionTree) (name : List ℕ) (f : FunctionTree) → function_named F name ≡ None → Contains F f → f.name.word ≡ name → ⊥
none_named [] name f none at is = nothing_in f at
none_named (h ∷ F) name f none at is = elim (in_cons h F f at) [
  | inl e ↦
      let same : name ≡ h.name.word = sym is ∙ ap (λ (x : FunctionTree). x.name.word) (sym e) in
      both_ways (is_named name h) (none_case (is_named name h) h (function_named F name) none).0 ((bytes_eq-Decides name h.name.word).1 same)
  | inr r ↦ none_named F name f (none_case (is_named name h) h (function_named F name) none).1 r is
]

-- some function has the name
abbrev pub IsKnown : List FunctionTree → List ℕ → Type 0
IsKnown F name = (f : FunctionTree) × (function_named F name ≡ Some f)

known_case : (F : List FunctionTree) (name : List ℕ) (f : FunctionTree) (found : Option FunctionTree) → function_named F name ≡ found → Contains F f → f.name.word ≡ name → IsKnown F name
known_case F name f None e at is = absurd (none_named F name f e at is)
known_case F name f (Some g) e at is = (g, e)

pub known : (F : List FunctionTree) (name : List ℕ) (f : FunctionTree) → Contains F f → f.name.word ≡ name → IsKnown F name
known F name f at is = known_case F name f (function_named F name) refl at is

-- known names with one place are one
pub one_name : (F : List FunctionTree) (a b : List ℕ) → IsKnown F a → IsKnown F b → function_place F a ≡ function_place F b → a ≡ b
one_name F a b (f, f_is) (g, g_is) e =
    let x = named_place F a f f_is in
    let y = named_place F b g g_is in
    let same : f ≡ g = same_Some f g (sym x.0 ∙ ap (slice_get F) e ∙ y.0) in
    sym x.1 ∙ ap (λ (h : FunctionTree). h.name.word) same ∙ y.1

pub known_within : (F : List FunctionTree) (name : List ℕ) → IsKnown F name → function_place F name < length F
known_within F name (f, is) = slice_get_within F (function_place F name) f (named_place F name f is).0

-- the places of functions that are there
pub known_places : (F fs : List FunctionTree) → ((f : FunctionTree) → Contains fs f → Contains F f) → first_places F fs ≡ map (λ (f : FunctionTree). function_place F f.name.word) fs
known_places F [] each = refl
known_places F (f ∷ fs) each =
    let (g, is) = known F f.name.word f (each f (0, omega arith, refl)) refl in
    ap (λ (o : Option FunctionTree). option_to_list (option_map (λ (h : FunctionTree). function_place F f.name.word) o) ++ first_places F fs) is
    ∙ ap (λ ks. function_place F f.name.word ∷ ks) (known_places F fs (λ h inside. each h (in_further f fs h inside)))

-- the call of a name ---------------------------------------------------------------------------------------------------

abbrev first_call : List FunctionTree → ℕ → Identifier → Call
first_call F k x = record { caller = k; callee = function_place F x.word; place = x.place }

-- what is said of it
pub record IsCallOf (F : List FunctionTree) (k : ℕ) (x : Identifier) (c : Call) : Type 0 where
  pub caller : c.caller ≡ k
  pub callee : c.callee ≡ function_place F x.word
  pub place : c.place ≡ x.place
  pub known : IsKnown F x.word

call_case : (F : List FunctionTree) (k : ℕ) (x : Identifier) (c : Call) (found : Option FunctionTree) → function_named F x.word ≡ found
    → option_map (λ (f : FunctionTree). first_call F k x) found ≡ Some c → IsCallOf F k x c
call_case F k x c None is e = absurd (none-some c e)
call_case F k x c (Some f) is e =
    let same : c ≡ first_call F k x = sym (same_Some (first_call F k x) c e) in
    record { caller = ap (λ (d : Call). d.caller) same; callee = ap (λ (d : Call). d.callee) same; place = ap (λ (d : Call). d.place) same; known = (f, is) }

pub call_is : (F : List FunctionTree) (k : ℕ) (x : Identifier) (c : Call) → call_of F k x ≡ Some c → IsCallOf F k x c
call_is F k x c e = call_case F k x c (function_named F x.word) refl e

pub unknown_name : (F : List FunctionTree) (k : ℕ) (x : Identifier) → call_of F k x ≡ None → IsKnown F x.word → ⊥
unknown_name F k x none (f, is) = none-some (first_call F k x) (sym none ∙ ap (option_map (λ (g : FunctionTree). first_call F k x)) is)

pub call_there : (F : List FunctionTree) (k : ℕ) (x : Identifier) → IsKnown F x.word → (c : Call) × (call_of F k x ≡ Some c) × IsCallOf F k x c
call_there F k x (f, is) =
    let e : call_of F k x ≡ Some (first_call F k x) = ap (option_map (λ (g : FunctionTree). first_call F k x)) is in
    (first_call F k x, e, call_is F k x (first_call F k x) e)

-- several calls --------------------------------------------------------------------------------------------------------

abbrev HeldCall : Type 0
HeldCall = List ℕ × Identifier

abbrev call_in : List FunctionTree → HeldCall → Option Call
call_in F d = call_of F (function_place F d.0) d.1

abbrev IsAmong : List FunctionTree → List HeldCall → Call → Type 0
IsAmong F ds c = (d : HeldCall) × Contains ds d × (call_in F d ≡ Some c)

among_case : (F : List FunctionTree) (d : HeldCall) (ds : List HeldCall) (c : Call) (o : Option Call) → call_in F d ≡ o → (Contains (calls_among F ds) c → IsAmong F ds c)
    → Contains (option_to_list o ++ calls_among F ds) c → IsAmong F (d ∷ ds) c
among_case F d ds c None is later h = let (e, inside, called) = later h in (e, in_further d ds e inside, called)
among_case F d ds c (Some b) is later h = elim (in_cons b (calls_among F ds) c h) [
  | inl same ↦ (d, (0, omega arith, refl), is ∙ ap Some same)
  | inr r ↦ let (e, inside, called) = later r in (e, in_further d ds e inside, called)
]

pub from_among : (F : List FunctionTree) (ds : List HeldCall) (c : Call) → Contains (calls_among F ds) c → IsAmong F ds c
from_among F [] c h = absurd (nothing_in c h)
from_among F (d ∷ ds) c h = among_case F d ds c (call_in F d) refl (from_among F ds c) h

behind_option : (o : Option Call) (cs : List Call) (c : Call) → Contains cs c → Contains (option_to_list o ++ cs) c
behind_option None cs c h = h
behind_option (Some b) cs c h = in_further b cs c h

pub in_among : (F : List FunctionTree) (ds : List HeldCall) (d : HeldCall) (c : Call) → Contains ds d → call_in F d ≡ Some c → Contains (calls_among F ds) c
in_among F [] d c h e = absurd (nothing_in d h)
in_among F (b ∷ ds) d c h e = elim (in_cons b ds d h) [
  | inl same ↦
      let is : call_in F b ≡ Some c = ap (call_in F) same ∙ e in
      subst (λ (o : Option Call). Contains (option_to_list o ++ calls_among F ds) c) (sym is) (0, omega arith, refl)
  | inr r ↦ behind_option (call_in F b) (calls_among F ds) c (in_among F ds d c r e)
]

-- the row of a place ---------------------------------------------------------------------------------------------------

abbrev IsInRow : ℕ → List Call → ℕ → Type 0
IsInRow j cs k = (c : Call) × Contains cs c × (c.caller ≡ j) × (c.callee ≡ k)

in_either : (b : Bool) (n k : ℕ) (xs : List ℕ) → Contains (if b then n ∷ xs else xs) k → ((b ≡ true) × (n ≡ k)) ⊎ Contains xs k
in_either true n k xs h = elim (in_cons n xs k h) [ inl e ↦ inl (refl, e) | inr r ↦ inr r ]
in_either false n k xs h = inr h

in_second : (b : Bool) (n k : ℕ) (xs : List ℕ) → Contains xs k → Contains (if b then n ∷ xs else xs) k
in_second true n k xs h = in_further n xs k h
in_second false n k xs h = h

in_first : (b : Bool) (n : ℕ) (xs : List ℕ) → b ≡ true → Contains (if b then n ∷ xs else xs) n
in_first true n xs e = (0, omega arith, refl)
in_first false n xs e = absurd cc

pub from_row : (j : ℕ) (cs : List Call) (k : ℕ) → Contains (callees_of j cs) k → IsInRow j cs k
from_row j [] k h = absurd (nothing_in k h)
from_row j (b ∷ cs) k h = elim (in_either (nat_eq b.caller j) b.callee k (callees_of j cs) h) [
  | inl e ↦ (b, (0, omega arith, refl), eqb-true b.caller j e.0, e.1)
  | inr r ↦ let (c, inside, caller, callee) = from_row j cs k r in (c, in_further b cs c inside, caller, callee)
]

pub in_row : (cs : List Call) (c : Call) → Contains cs c → Contains (callees_of c.caller cs) c.callee
in_row [] c h = absurd (nothing_in c h)
in_row (b ∷ cs) c h = elim (in_cons b cs c h) [
  | inl same ↦ subst (λ (d : Call). Contains (callees_of d.caller (b ∷ cs)) d.callee) same (in_first (nat_eq b.caller b.caller) b.callee (callees_of b.caller cs) (eq-eqb b.caller b.caller refl))
  | inr r ↦ in_second (nat_eq b.caller c.caller) b.callee c.callee (callees_of c.caller cs) (in_row cs c r)
]
