-- What is found of those operations of a tree of which something is asked, whatever it is: it stands at the points of these,
-- in order, and so do its flags.
use Rattle.std.proofs.Common.{◌≡◌, ◌∙◌, ◌<◌, ◌++◌, ℕ, List, [], ◌∷◌, length, map, Option, Some, None, Bool, true, false, refl, sym, ap, subst, arith, inl, inr}
use Rattle.std.proofs.{lemmas.List.Elements.Contains-append_cases, lemmas.Option.slice_get_within, lemmas.Option.slice_get_read, lemmas.Option.same_Some}
use Rattle.std.specs.{List.Contains, Prelude.IsTrue, Prelude.slice_get, Prelude.if◌then◌else◌}
use Rattle.lra_analyse_source.proofs.Crates.lra_linear_spec.Membership.{contains_cases, contains_none, contains_head, contains_tail, map_from, map_has}
use Rattle.lra_analyse_source.proofs.Crates.lra_pass_results.Again.{none_noted}
use Rattle.lra_analyse_source.specs.Crates.lra_analysis_spec.Judging.{Finding, answer_of, first_flagged, Finds}
use Rattle.lra_analyse_source.specs.Crates.lra_operations.CheckedOperations.{OpAtPoint, AgreesOnOps, op_where, ops_where, ops_where_in_arms, fresh_after}
use Rattle.lra_analyse_source.specs.Crates.lra_operations.Tree.{Node, empty, probe, point, act, check, seq, choose, iterate, catch, leave, select, Arms, no_arms, entry, arm}
use Rattle.lra_analyse_source.specs.Crates.{lra_analysis_spec.Operations.Operations, lra_analysis_spec.Pass.noted, lra_base.declared.number_types.NumberType.NumberType}
use Rattle.lra_analyse_source.specs.Crates.{lra_domain.declared.Exactness.Exactness, lra_domain.declared.Exactness.TheVariants.Exact, lra_domain.declared.Exactness.TheVariants.Flagged}
use Rattle.lra_analyse_source.specs.Crates.{lra_program.Program.Program, lra_program.Receivers.nobody, lra_program.Step.State, lra_program.Step.Op, lra_program.Step.store_value, lra_program.Step.test}
use Rattle.lra_fixpoint.specs.Numbers.{ArmsAreBelow, AreBelow}
use Rattle.lra_report_build.specs.AnalysisResults.{AreVerdictsOn}
use Rattle.lra_analyse_source.proofs.Handing.{image_of}

-- members --------------------------------------------------------------------------------------------------------------

-- at which place a member stands
pub place_of : {A : Type 0} (xs : List A) (x : A) → Contains xs x → (i : ℕ) × (slice_get xs i ≡ Some x)
place_of xs x h = (h.0, slice_get_read xs (length xs) h.0 x refl h.1 (sym h.2))

-- what is reported is one of what was found
pub found_of : {A : Type 0} (found : List (Finding A)) (q : ℕ) (x : A) → Contains (map answer_of found) (q, x)
    → (j : Finding A) × Contains found j × (j.point ≡ q) × (j.answer ≡ x)
found_of {A} found q x h =
    let (j, among, is) = map_from answer_of found (q, x) h in
    (j, among, ap (λ (p : ℕ × A). p.0) is, ap (λ (p : ℕ × A). p.1) is)

-- operations that are asked --------------------------------------------------------------------------------------------

module _ (asks : Op → Bool) where
  -- a tree asks of one operation at a point
  pub one_asked_there : (Q : Op → State → Type 0) (P : Program) (g : Node) → AgreesOnOps asks Q P g → (a b : OpAtPoint)
      → Contains (ops_where asks None g) a → Contains (ops_where asks None g) b → a.point ≡ b.point → a ≡ b
  one_asked_there Q P g well a b x y same =
      let (i, at) = place_of (ops_where asks None g) a x in
      let (j, there) = place_of (ops_where asks None g) b y in
      let e : i ≡ j = well.once i j a b at there same in
      same_Some a b (sym at ∙ ap (λ (n : ℕ). slice_get (ops_where asks None g) n) e ∙ there)

  module _ (n : ℕ) where
    -- it belongs to one of so many points, and it is asked
    abbrev pub IsOneOf : OpAtPoint → Type 0
    IsOneOf a = (a.point < n) × IsTrue (asks a.op)

    one_of : (q : ℕ) (fresh : Option NumberType) (op : Op) → q < n → (a : OpAtPoint) → Contains (op_where asks q fresh op) a → IsOneOf a
    one_of q fresh op low a h = by (asks op) refl h
      where
        by : (b : Bool) → asks op ≡ b → Contains (if b then record { point = q; fresh = fresh; op = op } ∷ [] else []) a → IsOneOf a
        by true is there = elim (contains_cases (record { point = q; fresh = fresh; op = op }) a [] there)
            [ inl same ↦ subst IsOneOf same (low, is) | inr none ↦ absurd (contains_none a none) ]
        by false is there = absurd (contains_none a there)

    mutual
      pub asked_one : (g : Node) (fresh : Option NumberType) → AreBelow n g → (a : OpAtPoint) → Contains (ops_where asks fresh g) a → IsOneOf a
      asked_one empty fresh low a h = absurd (contains_none a h)
      asked_one (probe here what) fresh low a h = absurd (contains_none a h)
      asked_one (point q) fresh low a h = absurd (contains_none a h)
      asked_one (act q op) fresh low a h = one_of q fresh op low a h
      asked_one (check q base c) fresh low a h = one_of q None (test base c true) low a h
      asked_one (seq x y) fresh low a h = elim (Contains-append_cases (ops_where asks fresh x) (ops_where asks (fresh_after fresh x) y) a h) [
        | inl one ↦ asked_one x fresh low.0 a one
        | inr two ↦ asked_one y (fresh_after fresh x) low.1 a two
      ]
      asked_one (choose q base c x y) fresh low a h =
          elim (Contains-append_cases (op_where asks q None (test base c true) ++ ops_where asks None x) (ops_where asks None y) a h) [
            | inl two ↦ elim (Contains-append_cases (op_where asks q None (test base c true)) (ops_where asks None x) a two)
                [ inl one ↦ one_of q None (test base c true) low.0 a one | inr on ↦ asked_one x None low.1 a on ]
            | inr off ↦ asked_one y None low.2 a off
          ]
      asked_one (iterate q base c x) fresh low a h =
          elim (Contains-append_cases (op_where asks q None (test base c true)) (ops_where asks None x) a h)
          [ inl one ↦ one_of q None (test base c true) low.0 a one | inr on ↦ asked_one x None low.1 a on ]
      asked_one (catch q k x) fresh low a h = asked_one x None low.1 a h
      asked_one (leave k j) fresh low a h = absurd (contains_none a h)
      asked_one (select q base e arms) fresh low a h =
          elim (Contains-append_cases (op_where asks q None (store_value base nobody e)) (ops_where_in_arms asks None arms) a h)
          [ inl one ↦ one_of q None (store_value base nobody e) low.0 a one | inr on ↦ arms_one arms None low.1 a on ]

      arms_one : (arms : Arms) (fresh : Option NumberType) → ArmsAreBelow n arms → (a : OpAtPoint) → Contains (ops_where_in_arms asks fresh arms) a → IsOneOf a
      arms_one no_arms fresh low a h = absurd (contains_none a h)
      arms_one (entry l arms) fresh low a h = arms_one arms fresh low a h
      arms_one (arm x arms) fresh low a h =
          elim (Contains-append_cases (ops_where asks fresh x) (ops_where_in_arms asks (fresh_after fresh x) arms) a h)
          [ inl one ↦ asked_one x fresh low.0 a one | inr two ↦ arms_one arms (fresh_after fresh x) low.1 a two ]

-- what is found --------------------------------------------------------------------------------------------------------

-- if nothing is flagged after, nothing is before
first_none : {A : Type 0} (f : Option ℕ) (js : List (Finding A)) → first_flagged f js ≡ None → f ≡ None
first_none f [] e = e
first_none f (j ∷ js) e = none_noted j.point j.exactness f (first_none (noted j.point j.exactness f) js e)

module _ {V H A : Type 0} (ops : Operations V H) (Told : Op → V → A → Exactness → Type 0) (asked : List OpAtPoint) (values : List V) (flagged : Option ℕ)
    (answers : List (ℕ × A)) (behind : Option ℕ) (j : Finds ops Told asked values flagged answers behind) where
  pub none_before : behind ≡ None → flagged ≡ None
  none_before none = first_none flagged j.found (sym j.flags ∙ none)

  pub point_below : (k : Finding A) → Contains j.found k → k.point < length values
  point_below k among =
      let (a, one, there, told) = j.is_asked k among in
      let inside = slice_get_within values a.point told.0 told.4 in
      omega (arith, inside, there)

  -- one for each point at which it is asked, in order
  pub found_on : (is_so : ℕ → Type 0) → ((a : OpAtPoint) → Contains asked a → a.point < length values → is_so a.point)
      → ((q : ℕ) → is_so q → (a : OpAtPoint) × Contains asked a × (a.point ≡ q)) → AreVerdictsOn is_so answers
  found_on is_so so asks = record {
    of_these = λ q x h.
        let (k, among, at, same) = found_of j.found q x (subst (λ (l : List (ℕ × A)). Contains l (q, x)) j.told h) in
        let (a, one, there, told) = j.is_asked k among in
        let low = point_below k among in
        subst is_so (there ∙ at) (so a one (omega (arith, low, there)));
    of_all = λ q is.
        let (a, among, at) = asks q is in
        let (k, one, there) = j.has_asked a among in (
          k.answer,
          subst (λ (l : List (ℕ × A)). Contains l (q, k.answer)) (sym j.told)
              (subst (λ (n : ℕ). Contains (map answer_of j.found) (n, k.answer)) (there ∙ at) (map_has answer_of j.found k one)),
        );
    in_order = λ i k a b less x y.
        let (u, one, is) = image_of answer_of j.found i a (ap (λ (l : List (ℕ × A)). slice_get l i) (sym j.told) ∙ x) in
        let (w, two, same) = image_of answer_of j.found k b (ap (λ (l : List (ℕ × A)). slice_get l k) (sym j.told) ∙ y) in
        let order = j.in_order i k u w less one two in
        let left : u.point ≡ a.0 = ap (λ (p : ℕ × A). p.0) is in
        let right : w.point ≡ b.0 = ap (λ (p : ℕ × A). p.0) same in
        omega (arith, order, left, right);
  }

  -- a first flag after stands at a point, or is an earlier one
  pub flagged_below : (n : ℕ) → length values ≡ n → ((q : ℕ) → flagged ≡ Some q → q < n) → (q : ℕ) → behind ≡ Some q → q < n
  flagged_below n many low q is =
      go j.found flagged low (λ k among. subst (λ (i : ℕ). k.point < i) many (point_below k among)) q (sym j.flags ∙ is)
    where
      step : (k : Finding A) (e : Exactness) (f : Option ℕ) → ((q : ℕ) → f ≡ Some q → q < n) → k.point < n → (q : ℕ) → noted k.point e f ≡ Some q → q < n
      step k e (Some p) low inside q is = low q is
      step k Exact None low inside q is = low q is
      step k Flagged None low inside q is = subst (λ (x : ℕ). x < n) (same_Some k.point q is) inside

      go : (js : List (Finding A)) (f : Option ℕ) → ((q : ℕ) → f ≡ Some q → q < n) → ((k : Finding A) → Contains js k → k.point < n)
          → (q : ℕ) → first_flagged f js ≡ Some q → q < n
      go [] f low inside q is = low q is
      go (k ∷ js) f low inside q is = go js (noted k.point k.exactness f) (step k k.exactness f low (inside k (contains_head k js)))
          (λ x among. inside x (contains_tail k x js among)) q is
