-- A name that isn't at fault means a variable that lives, and a call that isn't at fault a function that is there.
-- Arrays are no variables: a scope has as many of these as it is wide.
use Rattle.std.proofs.Common.{◌≡◌, ℕ, suc, ◌+◌, zero, ◌≤◌, ◌<◌, List, [], ◌∷◌, ◌++◌, length, take, Option, Some, None, Bool, true, false, not, ◌||◌, nat_eq, refl, ap, ◌∙◌, subst, arith}
use Rattle.std.proofs.lemmas.Bool.{not-false}
use Rattle.std.proofs.{lemmas.Bool.eqb-true, lemmas.Option.same_Some, lemmas.Option.none-some}
use Rattle.std.specs.{List.AllByRecursion, Prelude.is_none, Prelude.◌&&◌, Prelude.option_map, Prelude.slice_get}
use Rattle.lra_base.specs.{declared.refusals.Cause.Cause, declared.refusals.Cause.TheVariants.NotArray, declared.refusals.Place.Place}
use Rattle.lra_front_end.specs.Crates.lra_resolution_spec.NameFaults.{fault_if, scalar_faults, use_faults, called_faults}
use Rattle.lra_front_end.specs.Crates.lra_resolution_spec.Scope.{Binding, scalar, array, SymbolEntry, names_in, Scope, newest, width_of, width_of_all, Lookup, found_at, found_among, found_in}
use Rattle.lra_front_end.specs.Crates.lra_resolution_spec.Scope.{found_of, is_array, with_local, inner}
use Rattle.lra_front_end.specs.Crates.{lra_program.Program.Slot, lra_program.Program.global, lra_program.Program.local, lra_program.Program.Program, lra_program.WellFormed.IsLive}
use Rattle.lra_front_end.specs.Crates.{lra_resolution_spec.Resolve.variable_or, lra_resolution_spec.Resolve.variable, lra_syntax.Trees.FunctionTree, lra_syntax.declared.trees.Identifier.Identifier}
use Rattle.lra_front_end.proofs.Declared.{wider, wider_is}

-- lists without faults ---------------------------------------------------------------------------------------------

pub none_left : {A : Type 0} (xs ys : List A) → xs ++ ys ≡ [] → xs ≡ []
none_left [] ys e = refl
none_left (x ∷ xs) ys e = absurd cc

pub none_right : {A : Type 0} (xs ys : List A) → xs ++ ys ≡ [] → ys ≡ []
none_right [] ys e = e
none_right (x ∷ xs) ys e = absurd cc

pub none_both : {A : Type 0} (xs ys : List A) → xs ++ ys ≡ [] → (xs ≡ []) × (ys ≡ [])
none_both xs ys e = (none_left xs ys e, none_right xs ys e)

pub none_if : (b : Bool) (c : Cause) (at : Place) → fault_if b c at ≡ [] → b ≡ false
none_if true c at e = absurd cc
none_if false c at e = refl

pub at_place : {A : Type 0} (Q : A → Type 0) (xs : List A) (k : ℕ) (x : A) → AllByRecursion Q xs → slice_get xs k ≡ Some x → Q x
at_place Q [] k x h e = absurd (none-some x e)
at_place Q (y ∷ xs) zero x h e = subst Q (same_Some y x e) h.0
at_place Q (y ∷ xs) (suc k) x h e = at_place Q xs k x h.1 e

-- variables --------------------------------------------------------------------------------------------------------

pub width-append : (es fs : List SymbolEntry) → width_of_all (es ++ fs) ≡ width_of_all es + width_of_all fs
width-append [] fs = omega arith
width-append (e ∷ es) fs = let h = width-append es fs in omega arith

-- the program has the scope's global variables, and so many local ones live
pub record Sees (P : Program) (live : ℕ) (s : Scope) : Type 0 where
  pub globals : width_of_all s.globals ≤ length P.globals
  pub locals : width_of_all s.locals ≡ live

pub sees_local : (P : Program) (live : ℕ) (s : Scope) (x : SymbolEntry) → Sees P live s → Sees P (wider x.binding live) (with_local s x)
sees_local P live s x h =
    let n = width-append s.locals (x ∷ []) in
    let w = wider_is x.binding live in record { globals = h.globals; locals = omega (arith, h.locals) }

pub sees_inner : (P : Program) (live : ℕ) (s : Scope) → Sees P live s → Sees P live (inner s)
sees_inner P live s h = record { globals = h.globals; locals = h.locals }

scalar_width : (x e : SymbolEntry) → x ≡ e → is_array e.binding ≡ false → width_of x.binding ≡ 1
scalar_width x e same h = scalar_is_one x.binding (ap (λ (y : SymbolEntry). is_array y.binding) same ∙ h)
  where
    scalar_is_one : (m : Binding) → is_array m ≡ false → width_of m ≡ 1
    scalar_is_one (scalar t) e = refl
    scalar_is_one (array a) e = absurd cc

-- before a variable stand fewer than there are
fewer_before : (es : List SymbolEntry) (k : ℕ) (e : SymbolEntry) → slice_get es k ≡ Some e → is_array e.binding ≡ false →
    width_of_all (take k es) < width_of_all es
fewer_before [] k e at h = absurd (none-some e at)
fewer_before (x ∷ es) zero e at h = let one = scalar_width x e (same_Some x e at) h in omega arith
fewer_before (x ∷ es) (suc k) e at h = let later = fewer_before es k e at h in omega arith

-- what holds of each entry holds of what is found
module _ (Q : Lookup → Type 0) where
  abbrev pub Each : Option Lookup → Type 0
  Each o = (f : Lookup) → o ≡ Some f → Q f

  module _ (slot : ℕ → Slot) (es : List SymbolEntry) where
    abbrev found : ℕ → SymbolEntry → Lookup
    found k e = record { slot = slot (width_of_all (take k es)); binding = e.binding }

    abbrev pub EachEntry : Type 0
    EachEntry = (k : ℕ) (e : SymbolEntry) → slice_get es k ≡ Some e → Q (found k e)

    each_entry : (k : ℕ) (o : Option SymbolEntry) → ((e : SymbolEntry) → o ≡ Some e → Q (found k e)) → Each (option_map (found k) o)
    each_entry k None each f e = absurd (none-some f e)
    each_entry k (Some x) each f e = subst Q (same_Some (found k x) f e) (each x refl)

    each_place : EachEntry → (o : Option ℕ) → Each (found_at slot es o)
    each_place each None f e = absurd (none-some f e)
    each_place each (Some k) f e = each_entry k (slice_get es k) (each k) f e

  each_newest : (l g : Option Lookup) → Each l → Each g → Each (found_in l g)
  each_newest (Some f) g one other = one
  each_newest None g one other = other

  pub each_found : (s : Scope) (name : List ℕ) → EachEntry local s.locals → EachEntry global s.globals → Each (found_of s name)
  each_found s name locals globals =
      each_newest (found_among local s.locals name) (found_among global s.globals name) (each_place local s.locals locals (newest name (names_in s.locals)))
      (each_place global s.globals globals (newest name (names_in s.globals)))

module _ (P : Program) (live : ℕ) where
  abbrev Lives : Lookup → Type 0
  Lives f = is_array f.binding ≡ false → IsLive P live f.slot

  scalar_lives : (o : Option Lookup) (at : Place) → Each Lives o → scalar_faults o at ≡ [] → IsLive P live (variable_or o).slot
  scalar_lives None at lives e = absurd cc
  scalar_lives (Some f) at lives e = lives f refl (none_if (is_array f.binding) NotArray at e)

  pub variable_lives : (s : Scope) (x : Identifier) → Sees P live s → use_faults s x ≡ [] → IsLive P live (variable s x).slot
  variable_lives s x h e =
      scalar_lives (found_of s x.word) x.place
      (each_found Lives s x.word (λ k y at is_scalar. let low = fewer_before s.locals k y at is_scalar in omega (arith, low, h.locals))
      (λ k y at is_scalar. let low = fewer_before s.globals k y at is_scalar in omega (arith, low, h.globals))) e

-- calls ------------------------------------------------------------------------------------------------------------

same_count : (n count : ℕ) (b : Bool) → (not (nat_eq n count) || b) ≡ false → n ≡ count
same_count n count b e = eqb-true n count (not-false (nat_eq n count) (first_false (not (nat_eq n count)) b e))
  where
    first_false : (a b : Bool) → (a || b) ≡ false → a ≡ false
    first_false true b e = e
    first_false false b e = refl

-- the function that is called is there, and has so many parameters
pub called_is : (o : Option FunctionTree) (name : Identifier) (count : ℕ) (used : Bool) → called_faults o name count used ≡ [] → (f : FunctionTree) × (o ≡ Some f) × (length f.parameters ≡ count)
called_is None name count used e = absurd cc
called_is (Some f) name count used e = (
  f,
  refl,
  same_count (length f.parameters) count (used && is_none f.result_type)
      (none_if (not (nat_eq (length f.parameters) count) || (used && is_none f.result_type)) _ _ e),
)
