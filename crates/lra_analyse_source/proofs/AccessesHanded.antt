-- Which accesses are inside, handed to whoever lists it: at each point at which the tree accesses arrays something is
-- reported about each access, at the place where its array is named.
use Rattle.std.proofs.Common.{◌≡◌, ◌∙◌, ◌<◌, ◌++◌, ℕ, zero, suc, List, [], ◌∷◌, length, map, Option, Some, None, Bool, true, false, cond, refl, sym, ap, ap₂, subst, arith, eq-eqb}
use Rattle.std.proofs.{lemmas.Bool.eqb-true, lemmas.List.append-nil, lemmas.List.map-append, lemmas.Option.none-some, lemmas.Option.same_Some}
use Rattle.std.specs.{List.Contains, List.flat_map, Prelude.IsTrue, Prelude.nat_eq, Prelude.nat_lt, Prelude.slice_get}
use Rattle.lra_analyse_source.proofs.Crates.{lra_linear_spec.ListPlaces.contains_at, lra_linear_spec.ListPlaces.there_within, lra_linear_spec.Membership.contains_tail}
use Rattle.lra_analyse_source.specs.Crates.lra_analysis_spec.Accesses.{EachJudged, CondInside, OpInside, InsideAtPoint, JudgesAccesses}
use Rattle.lra_analyse_source.specs.Crates.lra_operations.CheckedOperations.{OpAtPoint, accessing_ops, AreOncePerPoint}
use Rattle.lra_analyse_source.specs.Crates.lra_program.Accesses.{expr_accesses, cond_accesses, arguments_accesses, aim_accesses, op_accesses, op_accesses_any}
use Rattle.lra_analyse_source.specs.Crates.lra_program.Program.{Element, Cond, compare, nonzero, opposite, both_of, either_of}
use Rattle.lra_analyse_source.specs.Crates.lra_program.Step.{Op, append, fill, store_value, store_element, havoc, push, push_for, truncate_to, test}
use Rattle.lra_analyse_source.specs.Crates.{lra_analysis_spec.Operations.Operations, lra_base.declared.refusals.Place.Place, lra_domain.Abstraction.Abstraction}
use Rattle.lra_analyse_source.specs.Crates.{lra_domain.declared.Exactness.Exactness, lra_operations.Tree.Node, lra_program.Sites.Site, lra_report.Listing.accesses_at}
use Rattle.lra_fixpoint.specs.Numbers.{AreBelow}
use Rattle.lra_report_build.specs.AnalysisResults.{AreAccessVerdicts, IsAccessing}
use Rattle.lra_analyse_source.proofs.{Found.place_of, Found.found_of, Found.asked_one, Found.found_on}

-- places -----------------------------------------------------------------------------------------------------------------

abbrev place_told : Place × Bool → Place
place_told j = j.0

abbrev named_at : Element → Place
named_at x = x.place

-- what is reported about these accesses is reported at their places
abbrev ArePlaced : List Element → List (Place × Bool) → Type 0
ArePlaced xs js = map place_told js ≡ map named_at xs

both_placed : (xs ys : List Element) (us ws js : List (Place × Bool)) → js ≡ us ++ ws → ArePlaced xs us → ArePlaced ys ws → ArePlaced (xs ++ ys) js
both_placed xs ys us ws js is one two =
    ap (map place_told) is ∙ map-append place_told us ws ∙ ap₂ (λ (k l : List Place). k ++ l) one two ∙ sym (map-append named_at xs ys)

module _ {V H : Type 0} (m : Abstraction V H) (ops : Operations V H) where
  each_placed : (v : V) (base : ℕ) (xs : List Element) (js : List (Place × Bool)) (e : Exactness) → EachJudged m ops v base xs js e → ArePlaced xs js
  each_placed v base [] js e (none, exact) = ap (map place_told) none
  each_placed v base (x ∷ xs) js e (b, later, c, d, first, rest, is, flags) =
      ap (map place_told) is ∙ ap (λ (l : List Place). x.place ∷ l) (each_placed v base xs later d rest)

  cond_placed : (base : ℕ) (c : Cond) (v : V) (js : List (Place × Bool)) (e : Exactness) → CondInside m ops base c v js e → ArePlaced (cond_accesses c) js
  cond_placed base (compare op a b) v js e told = each_placed v base (expr_accesses a ++ expr_accesses b) js e told
  cond_placed base (nonzero a) v js e told = each_placed v base (expr_accesses a) js e told
  cond_placed base (opposite c) v js e told = cond_placed base c v js e told
  cond_placed base (both_of c d) v js e (us, ws, w, f, g, h, one, leaves, two, is, flags) =
      both_placed (cond_accesses c) (cond_accesses d) us ws js is (cond_placed base c v us f one) (cond_placed base d w ws h two)
  cond_placed base (either_of c d) v js e (us, ws, w, f, g, h, one, leaves, two, is, flags) =
      both_placed (cond_accesses c) (cond_accesses d) us ws js is (cond_placed base c v us f one) (cond_placed base d w ws h two)

  op_placed : (op : Op) (v : V) (js : List (Place × Bool)) (e : Exactness) → OpInside m ops op v js e → ArePlaced (op_accesses op) js
  op_placed (append t) v js e told = each_placed v 0 [] js e told
  op_placed (fill a) v js e told = each_placed v 0 [] js e told
  op_placed (store_value base x a) v js e told = each_placed v base (expr_accesses a) js e told
  op_placed (store_element base x a) v js e told = each_placed v base (aim_accesses x ++ expr_accesses a) js e told
  op_placed (havoc x) v js e told = each_placed v 0 [] js e told
  op_placed (push base given) v js e told = each_placed v base (arguments_accesses given) js e told
  op_placed (push_for base x given) v js e told = each_placed v base (aim_accesses x ++ arguments_accesses given) js e told
  op_placed (truncate_to n) v js e told = each_placed v 0 [] js e told
  op_placed (test base c wanted) v js e told = cond_placed base c v js e told

  asked_placed : (values : List V) (a : OpAtPoint) (js : List (Place × Bool)) (e : Exactness) → InsideAtPoint m ops values a js e →
      ArePlaced (op_accesses a.op) js
  asked_placed values a js e (v, w, c, d, there, behind, told, flags) = op_placed a.op w js d told

-- the accesses at a point ------------------------------------------------------------------------------------------------

abbrev picked_at : ℕ → OpAtPoint → List Element
picked_at q a = cond (nat_eq a.point q) (op_accesses a.op) []

-- of these no two belong to one point
abbrev Once : List OpAtPoint → Type 0
Once xs = (i j : ℕ) (a b : OpAtPoint) → slice_get xs i ≡ Some a → slice_get xs j ≡ Some b → a.point ≡ b.point → i ≡ j

once_behind : (x : OpAtPoint) (xs : List OpAtPoint) → Once (x ∷ xs) → Once xs
once_behind x xs once i j a b one two same = let equal : suc i ≡ suc j = once (suc i) (suc j) a b one two same in omega (arith, equal)

none_there : (q : ℕ) (xs : List OpAtPoint) → ((j : ℕ) (a : OpAtPoint) → slice_get xs j ≡ Some a → a.point ≡ q → ⊥) → flat_map (picked_at q) xs ≡ []
none_there q [] none = refl
none_there q (x ∷ xs) none = by (nat_eq x.point q) refl (none_there q xs (λ j a there. none (suc j) a there))
  where
    by : (b : Bool) → nat_eq x.point q ≡ b → flat_map (picked_at q) xs ≡ [] → cond b (op_accesses x.op) [] ++ flat_map (picked_at q) xs ≡ []
    by true e rest = absurd (none 0 x refl (eqb-true _ _ e))
    by false e rest = rest

first_there : (q : ℕ) (x : OpAtPoint) (xs : List OpAtPoint) → Once (x ∷ xs) → x.point ≡ q → flat_map (picked_at q) (x ∷ xs) ≡ op_accesses x.op
first_there q x xs once at =
    ap₂ (λ (us ws : List Element). us ++ ws) (ap (λ (b : Bool). cond b (op_accesses x.op) []) (eq-eqb _ _ at))
    (none_there q xs (λ j a there same. first_alone j a there (at ∙ sym same)))
    ∙ append-nil (op_accesses x.op)
  where
    first_alone : (j : ℕ) (a : OpAtPoint) → slice_get xs j ≡ Some a → x.point ≡ a.point → ⊥
    first_alone j a there same = let equal : 0 ≡ suc j = once 0 (suc j) x a refl there same in omega (arith, equal)

one_there : (xs : List OpAtPoint) → Once xs → (k : ℕ) (a : OpAtPoint) → slice_get xs k ≡ Some a → flat_map (picked_at a.point) xs ≡ op_accesses a.op
one_there [] once k a there = absurd (none-some a there)
one_there (x ∷ xs) once zero a there =
    let same = same_Some x a there in
    first_there a.point x xs once (ap (λ (y : OpAtPoint). y.point) same) ∙ ap (λ (y : OpAtPoint). op_accesses y.op) same
one_there (x ∷ xs) once (suc k) a there = by (nat_eq x.point a.point) refl (one_there xs (once_behind x xs once) k a there)
  where
    by : (b : Bool) → nat_eq x.point a.point ≡ b → flat_map (picked_at a.point) xs ≡ op_accesses a.op
        → cond b (op_accesses x.op) [] ++ flat_map (picked_at a.point) xs ≡ op_accesses a.op
    by true e rest = let equal : 0 ≡ suc k = once 0 (suc k) x a refl there (eqb-true _ _ e) in absurd (omega (arith, equal))
    by false e rest = rest

-- if something is picked there is an operation
some_there : (q : ℕ) (xs : List OpAtPoint) → IsTrue (nat_lt 0 (length (flat_map (picked_at q) xs))) → (a : OpAtPoint) × Contains xs a × (a.point ≡ q)
some_there q [] some = absurd (let no : false ≡ true = some in cc)
some_there q (x ∷ xs) some = by (nat_eq x.point q) refl some (λ later. some_there q xs later)
  where
    by : (b : Bool) → nat_eq x.point q ≡ b → IsTrue (nat_lt 0 (length (cond b (op_accesses x.op) [] ++ flat_map (picked_at q) xs)))
        → (IsTrue (nat_lt 0 (length (flat_map (picked_at q) xs))) → (a : OpAtPoint) × Contains xs a × (a.point ≡ q))
        → (a : OpAtPoint) × Contains (x ∷ xs) a × (a.point ≡ q)
    by true e some rest = (x, contains_at (x ∷ xs) 0 x refl, eqb-true _ _ e)
    by false e some rest = let (a, among, at) = rest some in (a, contains_tail x a xs among, at)

-- what the listing asks --------------------------------------------------------------------------------------------------

module _ {V H : Type 0} (m : Abstraction V H) (ops : Operations V H) (g : Node) (values : List V) (flagged : Option ℕ)
    (inside : List (ℕ × List (Place × Bool))) (behind : Option ℕ) (once : AreOncePerPoint op_accesses_any g) where
  accessed_there : (a : OpAtPoint) → Contains (accessing_ops None g) a → accesses_at g a.point ≡ op_accesses a.op
  accessed_there a among = let (k, there) = place_of (accessing_ops None g) a among in one_there (accessing_ops None g) once k a there

  pub inside_on : (sites : List Site) → length values ≡ length sites → AreBelow (length sites) g → JudgesAccesses m ops g values flagged inside behind
      → AreAccessVerdicts g sites inside
  inside_on sites many below j = record {
    verdicts = found_on ops (OpInside m ops) (accessing_ops None g) values flagged inside behind j (IsAccessing g sites)
        (λ a among low. accessing a among (subst (λ (n : ℕ). a.point < n) many low)) (λ q (s, site, so). some_there q (accessing_ops None g) so);
    places = λ q js told.
        let (k, among, at, same) = found_of j.found q js (subst (λ (l : List (ℕ × List (Place × Bool))). Contains l (q, js)) j.told told) in
        let (a, one, there, judged) = j.is_asked k among in
        ap (map place_told) (sym same) ∙ asked_placed m ops values a k.answer k.exactness judged
        ∙ ap (map named_at) (sym (accessed_there a one) ∙ ap (accesses_at g) (there ∙ at));
  }
    where
      accessing : (a : OpAtPoint) → Contains (accessing_ops None g) a → a.point < length sites → IsAccessing g sites a.point
      accessing a among low =
          let (s, site) = there_within sites a.point low in
          let some = (asked_one op_accesses_any (length sites) g None below a among).1 in
          (s, site, subst (λ (xs : List Element). IsTrue (nat_lt 0 (length xs))) (sym (accessed_there a among)) some)
