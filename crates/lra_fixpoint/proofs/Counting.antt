-- A pass finds as many entries for a number as its tree has: so an iteration over a program's tree finds one value for each point and one for
-- each assertion.
use Rattle.std.proofs.Common.{◌≡◌, ◌≢◌, ℕ, zero, suc, ◌+◌, ◌-◌, ◌++◌, ◌≤◌, List, [], ◌∷◌, Option, Some, None, Bool, true, false, cond, inl, inr, refl, sym, ap, ◌∙◌, subst, arith}
use Rattle.std.proofs.{lemmas.Bool.cases_eq, lemmas.Bool.Decides.nat_tests}
use Rattle.std.specs.{List.Contains, Prelude.slice_get}
use Rattle.lra_fixpoint.proofs.Crates.lra_analysis_spec.Sound.{behind_entries}
use Rattle.lra_fixpoint.proofs.Crates.lra_linear_spec.Membership.{contains_none, contains_head, contains_tail, contains_cases}
use Rattle.lra_fixpoint.specs.Crates.lra_analysis_spec.Pass.{PassEntry, value, failing, recorded, PassResult, noted, jumps, Transformer, LoopRoundFrom, AscendingIteration, DescendingIteration}
use Rattle.lra_fixpoint.specs.Crates.lra_analysis_spec.Pass.{Absorption, nothing_absorbed, PassUnder, ArmsPassUnder}
use Rattle.lra_fixpoint.specs.Crates.{lra_analysis_spec.Analysis.Iteration, lra_analysis_spec.Operations.Operations, lra_analysis_spec.Plan.Plan, lra_analysis_spec.Plan.Widening}
use Rattle.lra_fixpoint.specs.Crates.{lra_program.Program.Expr, lra_program.Program.Cond, lra_program.Program.Program, lra_program.Sites.Site, lra_program.Sites.sites_of}
use Rattle.lra_operations.specs.Tree.{Exit, broken, continued, returned, Node, empty, probe, point, act, check, seq, choose, iterate, catch, leave, select, Arms, no_arms, entry, arm}
use Rattle.lra_operations.specs.declared.probes.Probe.TheVariants.{InterferencePoint, RecordWrite}
use Rattle.lra_fixpoint.specs.Counts.{values_at, failing_at, AreCounted}
use Rattle.lra_fixpoint.specs.Numbers.{one_if, values_in, values_in_arms, checks_in, checks_in_arms, asserts_of, IsNumbered}

pub one_same : (q : ℕ) → one_if q q ≡ 1
unfolding one_if
one_same q = grind (arith, nat_tests)

pub one_other : (q k : ℕ) → q ≢ k → one_if q k ≡ 0
unfolding one_if
one_other q k n = grind (arith, nat_tests)

pub values_append : {V : Type 0} (k : ℕ) (xs ys : List (PassEntry V)) → values_at k (xs ++ ys) ≡ values_at k xs + values_at k ys
values_append k [] ys = omega arith
values_append k (value q v ∷ xs) ys = let i = values_append k xs ys in omega (arith, i)
values_append k (failing q v ∷ xs) ys = values_append k xs ys
values_append k (recorded q place v ∷ xs) ys = values_append k xs ys

pub failing_append : {V : Type 0} (k : ℕ) (xs ys : List (PassEntry V)) → failing_at k (xs ++ ys) ≡ failing_at k xs + failing_at k ys
failing_append k [] ys = omega arith
failing_append k (value q v ∷ xs) ys = failing_append k xs ys
failing_append k (failing q v ∷ xs) ys = let i = failing_append k xs ys in omega (arith, i)
failing_append k (recorded q place v ∷ xs) ys = failing_append k xs ys

-- so many values and so many values where an assertion is false
pub record Found {V : Type 0} (k : ℕ) (xs : List (PassEntry V)) (c d : ℕ) : Type 0 where
  pub values : values_at k xs ≡ c
  pub checks : failing_at k xs ≡ d

both_found : {V : Type 0} (k : ℕ) (xs ys : List (PassEntry V)) (c d c' d' : ℕ) → Found k xs c d → Found k ys c' d' → Found k (xs ++ ys) (c + c') (d + d')
both_found k xs ys c d c' d' p q = record {
  values = values_append k xs ys ∙ (let f = p.values in let g = q.values in omega (arith, f, g));
  checks = failing_append k xs ys ∙ (let f = p.checks in let g = q.checks in omega (arith, f, g));
}

jump_entries : {V : Type 0} (j : Exit) (v nothing : V) (f : Option ℕ) → (jumps j v nothing f).entries ≡ []
jump_entries broken v nothing f = refl
jump_entries continued v nothing f = refl
jump_entries returned v nothing f = refl

module _ (V H : Type 0) (ops : Operations V H) (admission : Absorption V) (k : ℕ) where
  module _ (q base : ℕ) (c : Cond) (body : Transformer V) (n d : ℕ) (inside : (f : Option ℕ) (v : V) (r : PassResult V) → body f v r → Found k r.entries n d)
    where
      round_found : (f : Option ℕ) (v : V) (r : PassResult V) → LoopRoundFrom V H ops q base c body f v r → Found k r.entries (one_if q k + n) d
      round_found f v r (w, e, s, on, turn, is) =
          let i = inside (noted q e f) w s turn in
          subst (λ (y : PassResult V). Found k y.entries (one_if q k + n) d) (sym is)
          (record { values = ap (λ (m : ℕ). one_if q k + m) i.values; checks = i.checks })

      grows_found : (widening : Widening) (left : ℕ) (f : Option ℕ) (h : H) (later : List H) (v : V) (r : PassResult V) → AscendingIteration V H ops q base c body widening left f h later v r →
          Found k r.entries (one_if q k + n) d
      grows_found widening left f h [] v r ((e, valued, turn), stays) = round_found (noted q e f) v r turn
      grows_found widening left f h (next ∷ later) v r (u, s, e, turn, grown, rest) = grows_found widening (left - 1) (noted q e s.flag) next later v r rest

      narrows_found : (more : ℕ) (first u : V) (s : PassResult V) (v : V) (r : PassResult V) → DescendingIteration V H ops q base c body more first u s v r → Found k s.entries (one_if q k + n) d →
          Found k r.entries (one_if q k + n) d
      narrows_found zero first u s v r (same, is) found = subst (λ (y : PassResult V). Found k y.entries (one_if q k + n) d) (sym is) found
      narrows_found (suc more) first u s v r (next, t, e, joined, turn, rest) found = narrows_found more first next t v r rest (round_found (noted q e s.flag) next t turn)

  mutual
    pub pass_found : (set : Plan) (g : Node) (f : Option ℕ) (v : V) (r : PassResult V) → PassUnder V H ops admission set g f v r
        → Found k r.entries (values_in g k) (checks_in g k)
    pass_found set empty f v r is = subst (λ (y : PassResult V). Found k y.entries 0 0) (sym is) (record { values = refl; checks = refl })
    pass_found set (probe here InterferencePoint) f v r (w, e, admits, is) = subst (λ (y : PassResult V). Found k y.entries 0 0) (sym is)
        (record { values = refl; checks = refl })
    pass_found set (probe here (RecordWrite place)) f v r is = subst (λ (y : PassResult V). Found k y.entries 0 0) (sym is)
        (record { values = refl; checks = refl })
    pass_found set (point q) f v r is = subst (λ (y : PassResult V). Found k y.entries (one_if q k) 0) (sym is) (record { values = omega arith; checks = refl })
    pass_found set (act q op) f v r (w, e, done, is) = subst (λ (y : PassResult V). Found k y.entries 0 0) (sym is) (record { values = refl; checks = refl })
    pass_found set (check q base c) f v r (u, w, d, e, off, on, is) = subst (λ (y : PassResult V). Found k y.entries 0 (one_if q k)) (sym is)
        (record { values = refl; checks = omega arith })
    pass_found set (seq a b) f v r (x, y, one, two, is) =
        subst (λ (z : PassResult V). Found k z.entries (values_in a k + values_in b k) (checks_in a k + checks_in b k)) (sym is)
        (both_found k x.entries y.entries (values_in a k) (checks_in a k) (values_in b k) (checks_in b k) (pass_found set a f v x one)
        (pass_found set b x.flag x.normal y two))
    pass_found set (choose q base c a b) f v r (on, off, w, d, e, i, x, y, is_on, one, is_off, two, joined, is) =
        subst (λ (z : PassResult V). Found k z.entries (values_in a k + values_in b k) (checks_in a k + checks_in b k)) (sym is)
        (both_found k x.entries y.entries (values_in a k) (checks_in a k) (values_in b k) (checks_in b k) (pass_found set a (noted q d f) on x one)
        (pass_found set b (noted q e x.flag) off y two))
    pass_found set (iterate q base c a) f v r (h, later, u, top, out, x, y, e, started, grown, narrowed, off, is) =
        let g = grows_found q base c (PassUnder V H ops admission set a) (values_in a k)
        (checks_in a k) (pass_found set a) set.widening set.delay f h later u x grown in
        let n = narrows_found q base c (PassUnder V H ops admission set a) (values_in a k)
        (checks_in a k) (pass_found set a) set.narrow v u x top y narrowed g in
        subst (λ (z : PassResult V). Found k z.entries (one_if q k + values_in a k) (checks_in a k)) (sym is) (record { values = n.values; checks = n.checks })
    pass_found set (catch q j a) f v r (w, e, x, one, joined, is) =
        subst (λ (z : PassResult V). Found k z.entries (values_in a k) (checks_in a k)) (sym is)
        (subst (λ (zs : List (PassEntry V)). Found k zs (values_in a k) (checks_in a k)) (sym (behind_entries j x w (noted q e x.flag)))
        (pass_found set a f v x one))
    pass_found set (leave n j) f v r (w, nothing, is) =
        subst (λ (z : PassResult V). Found k z.entries 0 0) (sym is)
        (subst (λ (zs : List (PassEntry V)). Found k zs 0 0) (sym (jump_entries j v w f)) (record { values = refl; checks = refl }))
    pass_found set (select q base e arms) f v r (other, x, none, pass) = arms_found set q base e _ v other arms (noted q x f) None r pass

    arms_found : (set : Plan) (q base : ℕ) (e : Expr) (d : Bool) (v other : V) (arms : Arms) (f : Option ℕ) (running : Option V) (r : PassResult V)
        → ArmsPassUnder V H ops admission set q base e d v other arms f running r → Found k r.entries (values_in_arms arms k) (checks_in_arms arms k)
    arms_found set q base e d v other no_arms f running r (w, x, out, is) = subst (λ (y : PassResult V). Found k y.entries 0 0) (sym is)
        (record { values = refl; checks = refl })
    arms_found set q base e d v other (entry l arms) f running r (u, w, x, y, enters, joins, rest) =
        arms_found set q base e d v other arms (noted q y (noted q x f)) (Some w) r rest
    arms_found set q base e d v other (arm a arms) f running r (w, x, y, from, one, rest, is) =
        subst (λ (z : PassResult V). Found k z.entries (values_in a k + values_in_arms arms k) (checks_in a k + checks_in_arms arms k)) (sym is)
        (both_found k x.entries y.entries (values_in a k) (checks_in a k) (values_in_arms arms k) (checks_in_arms arms k) (pass_found set a f w x one)
        (arms_found set q base e d v other arms x.flag (Some x.normal) y rest))

pub iteration_found : (V H : Type 0) (ops : Operations V H) (k : ℕ) (set : Plan) (P : Program) (g : Node) (r : PassResult V)
    → Iteration ops set P g r → Found k r.entries (values_in g k) (checks_in g k)
iteration_found V H ops k set P g r (none, first, e, universal, values, pass) =
    pass_found V H ops nothing_absorbed k set g (noted 0 e None) first r pass

-- entries ------------------------------------------------------------------------------------------------------------

module _ (V : Type 0) where
  same_failing : (q : ℕ) (u v : V) → (let a : PassEntry V = failing q u in a) ≡ failing q v → u ≡ v
  same_failing q u v e = cc

  same_value : (q : ℕ) (u v : V) → (let a : PassEntry V = value q u in a) ≡ value q v → u ≡ v
  same_value q u v e = cc

  pub failing_counted : (q : ℕ) (u : V) (xs : List (PassEntry V)) → Contains xs (failing q u) → 1 ≤ failing_at q xs
  failing_counted q u [] h = absurd (contains_none (failing q u) h)
  failing_counted q u (x ∷ xs) h = elim (contains_cases x (failing q u) xs h) [ inl e ↦ first x e | inr i ↦ later x (failing_counted q u xs i) ]
    where
      first : (y : PassEntry V) → y ≡ failing q u → 1 ≤ failing_at q (y ∷ xs)
      first y e = subst (λ (z : PassEntry V). 1 ≤ failing_at q (z ∷ xs)) (sym e) (let o = one_same q in omega (arith, o))

      later : (y : PassEntry V) → 1 ≤ failing_at q xs → 1 ≤ failing_at q (y ∷ xs)
      later (value p v) i = i
      later (failing p v) i = omega (arith, i)
      later (recorded p place v) i = i

  pub value_counted : (q : ℕ) (u : V) (xs : List (PassEntry V)) → Contains xs (value q u) → 1 ≤ values_at q xs
  value_counted q u [] h = absurd (contains_none (value q u) h)
  value_counted q u (x ∷ xs) h = elim (contains_cases x (value q u) xs h) [ inl e ↦ first x e | inr i ↦ later x (value_counted q u xs i) ]
    where
      first : (y : PassEntry V) → y ≡ value q u → 1 ≤ values_at q (y ∷ xs)
      first y e = subst (λ (z : PassEntry V). 1 ≤ values_at q (z ∷ xs)) (sym e) (let o = one_same q in omega (arith, o))

      later : (y : PassEntry V) → 1 ≤ values_at q xs → 1 ≤ values_at q (y ∷ xs)
      later (value p v) i = omega (arith, i)
      later (failing p v) i = i
      later (recorded p place v) i = i

  -- a number that is counted has an entry
  pub counted_value : (q : ℕ) (xs : List (PassEntry V)) → 1 ≤ values_at q xs → (v : V) × Contains xs (value q v)
  counted_value q [] h = absurd (omega (arith, h))
  counted_value q (value p v ∷ xs) h = elim (cases_eq p q) [
    | inl e ↦ (v, subst (λ (n : ℕ). Contains (value p v ∷ xs) (value n v)) e (contains_head (value p v) xs))
    | inr ne ↦ (let o = one_other p q ne in let i = counted_value q xs (omega (arith, h, o)) in (i.0, contains_tail (value p v) (value q i.0) xs i.1))
  ]
  counted_value q (failing p u ∷ xs) h = let i = counted_value q xs h in (i.0, contains_tail (failing p u) (value q i.0) xs i.1)
  counted_value q (recorded p place u ∷ xs) h =
      let i = counted_value q xs h in (i.0, contains_tail (recorded p place u) (value q i.0) xs i.1)

  pub counted_failing : (q : ℕ) (xs : List (PassEntry V)) → 1 ≤ failing_at q xs → (u : V) × Contains xs (failing q u)
  counted_failing q [] h = absurd (omega (arith, h))
  counted_failing q (failing p u ∷ xs) h = elim (cases_eq p q) [
    | inl e ↦ (u, subst (λ (n : ℕ). Contains (failing p u ∷ xs) (failing n u)) e (contains_head (failing p u) xs))
    | inr ne ↦ (let o = one_other p q ne in let i = counted_failing q xs (omega (arith, h, o)) in (i.0, contains_tail (failing p u) (failing q i.0) xs i.1))
  ]
  counted_failing q (value p v ∷ xs) h = let i = counted_failing q xs h in (i.0, contains_tail (value p v) (failing q i.0) xs i.1)
  counted_failing q (recorded p place v ∷ xs) h =
      let i = counted_failing q xs h in (i.0, contains_tail (recorded p place v) (failing q i.0) xs i.1)

  -- a number that has one entry has no other one
  pub one_failing : (q : ℕ) (u v : V) (xs : List (PassEntry V)) → failing_at q xs ≤ 1 → Contains xs (failing q u) → Contains xs (failing q v) → u ≡ v
  one_failing q u v [] few h i = absurd (contains_none (failing q u) h)
  one_failing q u v (x ∷ xs) few h i = elim (contains_cases x (failing q u) xs h) [
    | inl e ↦ elim (contains_cases x (failing q v) xs i) [
      | inl d ↦ same_failing q u v (sym e ∙ d)
      | inr j ↦ absurd (not_more x u e (failing_counted q v xs j) few)
    ]
    | inr j ↦ elim (contains_cases x (failing q v) xs i) [
      | inl d ↦ absurd (not_more x v d (failing_counted q u xs j) few)
      | inr l ↦ one_failing q u v xs (fewer x few) j l
    ]
  ]
    where
      not_more : (y : PassEntry V) (w : V) → y ≡ failing q w → 1 ≤ failing_at q xs → failing_at q (y ∷ xs) ≤ 1 → ⊥
      not_more y w e more few = let o = one_same q in let all : one_if q q + failing_at q xs ≤ 1 = subst (λ (z : PassEntry V). failing_at q (z ∷ xs) ≤ 1) e few in omega (arith, o, all, more)

      fewer : (y : PassEntry V) → failing_at q (y ∷ xs) ≤ 1 → failing_at q xs ≤ 1
      fewer (value p w) few = few
      fewer (failing p w) few = omega (arith, few)
      fewer (recorded p place w) few = few

  pub one_value : (q : ℕ) (u v : V) (xs : List (PassEntry V)) → values_at q xs ≤ 1 → Contains xs (value q u) → Contains xs (value q v) → u ≡ v
  one_value q u v [] few h i = absurd (contains_none (value q u) h)
  one_value q u v (x ∷ xs) few h i = elim (contains_cases x (value q u) xs h) [
    | inl e ↦ elim (contains_cases x (value q v) xs i) [
      | inl d ↦ same_value q u v (sym e ∙ d)
      | inr j ↦ absurd (not_more x u e (value_counted q v xs j) few)
    ]
    | inr j ↦ elim (contains_cases x (value q v) xs i) [
      | inl d ↦ absurd (not_more x v d (value_counted q u xs j) few)
      | inr l ↦ one_value q u v xs (fewer x few) j l
    ]
  ]
    where
      not_more : (y : PassEntry V) (w : V) → y ≡ value q w → 1 ≤ values_at q xs → values_at q (y ∷ xs) ≤ 1 → ⊥
      not_more y w e more few = let o = one_same q in let all : one_if q q + values_at q xs ≤ 1 = subst (λ (z : PassEntry V). values_at q (z ∷ xs) ≤ 1) e few in omega (arith, o, all, more)

      fewer : (y : PassEntry V) → values_at q (y ∷ xs) ≤ 1 → values_at q xs ≤ 1
      fewer (value p w) few = omega (arith, few)
      fewer (failing p w) few = few
      fewer (recorded p place w) few = few

pub asserts_few : (o : Option Site) → asserts_of o ≤ 1
asserts_few None = omega arith
asserts_few (Some s) = chosen s.asserts
  where
    chosen : (b : Bool) → cond b 1 0 ≤ 1
    chosen true = omega arith
    chosen false = omega arith

-- so an iteration over a program's tree has one value for each assertion
pub iteration_fails_once : {V H : Type 0} (ops : Operations V H) (set : Plan) (P : Program) (g : Node) (r : PassResult V) → IsNumbered (sites_of P) g → Iteration ops set P g r
    → (q : ℕ) (u v : V) → Contains r.entries (failing q u) → Contains r.entries (failing q v) → u ≡ v
iteration_fails_once {V} {H} ops set P g r numbered iteration q u v =
    let found = iteration_found V H ops q set P g r iteration in
    one_failing V q u v r.entries (let c = found.checks in let n = numbered.checks q in let few = asserts_few (slice_get (sites_of P) q) in omega (arith, c, n, few))

-- and a pass over a numbered tree has one value for each point, one for each assertion, and no other
pub pass_counted : {V H : Type 0} (ops : Operations V H) (admission : Absorption V) (T : List Site) (set : Plan) (g : Node) (f : Option ℕ) (v : V)
    (r : PassResult V)
    → IsNumbered T g → PassUnder V H ops admission set g f v r → AreCounted T r.entries
pass_counted {V} {H} ops admission T set g f v r numbered pass = record {
  values = λ q s there. (pass_found V H ops admission q set g f v r pass).values ∙ numbered.values q s there;
  no_values = λ q there. (pass_found V H ops admission q set g f v r pass).values ∙ numbered.no_values q there;
  checks = λ q. (pass_found V H ops admission q set g f v r pass).checks ∙ numbered.checks q;
}
