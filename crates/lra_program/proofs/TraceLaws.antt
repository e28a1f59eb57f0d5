-- A walk where nothing changes the state is a run; what a walk met before it stays after it; from a point it goes on.
use Rattle.std.proofs.Common.{◌≡◌, ℕ, zero, suc, ℤ, List, [], ◌∷◌, ◌++◌, Option, Some, None, ◌⊎◌, inl, inr, refl, sym, ap, ◌∙◌, subst, IsTrue, append_assoc}
use Rattle.std.specs.List.{AllByRecursion}
use Rattle.lra_program.specs.Run.{Steps, start, label_on, Point, IsOn, Reaches, At, IsFailing, Fails}
use Rattle.lra_program.specs.Traces.{TraceEvent, visit, Trace, NoChange, with_visit, Becomes, TracedSteps, Arrives, ViolatesAssertion, RunSegment}
use Rattle.lra_program.specs.{Program.Program, Step.State, Step.Config, Step.next_at, Value.is_word}

pub becomes_same : (o : Option ℕ) (s t : State) → Becomes NoChange o s t → t ≡ s
becomes_same None s t e = e
becomes_same (Some label) s t e = e

stays : (o : Option ℕ) (s : State) → Becomes NoChange o s s
stays None s = refl
stays (Some label) s = refl

-- forgetting the list, and making it -------------------------------------------------------------------------------

pub steps_of : (P : Program) (n : ℕ) (c d : Config) (xs ys : List (TraceEvent Point)) → TracedSteps NoChange P n c xs d ys → Steps P n c d
steps_of P zero c d xs ys (e, f) = e
steps_of P (suc n) c d xs ys (s, e, b, x, w) =
    (e, subst (λ t. next_at P c.items c.here t ≡ Some e) (becomes_same (label_on c.items) c.state s b) x, steps_of P n e d _ ys w)

pub walk_of : (P : Program) (n : ℕ) (c d : Config) (xs : List (TraceEvent Point)) → Steps P n c d →
    (ys : List (TraceEvent Point)) × TracedSteps NoChange P n c xs d ys
walk_of P zero c d xs e = (xs, (e, refl))
walk_of P (suc n) c d xs (e, x, r) =
    let w = walk_of P n e d (with_visit (label_on c.items) c.here.path c.state xs) r in
    (w.0, (c.state, e, stays (label_on c.items) c.state, x, w.1))

pub at_of : (P : Program) (draws : List ℤ) (p : Point) (a : Trace Point) → AllByRecursion (λ z. IsTrue (is_word z)) draws → Arrives NoChange P draws p a → At P p a.state.store
at_of P draws p a words (n, c, w, on, same) =
    (c, record { draws = draws; words = words; length = n; steps = steps_of P n (start P draws) c [] a.events w }, on, ap (λ (s : State). s.store) same)

pub fails_of : (P : Program) (draws : List ℤ) (p : Point) (a : Trace Point) → AllByRecursion (λ z. IsTrue (is_word z)) draws → ViolatesAssertion NoChange P draws p a → Fails P p
fails_of P draws p a words (n, c, xs, w, on, may, false_there, same) =
    (c, record { draws = draws; words = words; length = n; steps = steps_of P n (start P draws) c [] xs w }, on, subst (λ s. IsFailing c.items c.here s) may false_there)

pub arrives_of : (P : Program) (c : Config) (p : Point) (r : Reaches P c) → IsOn c p → (xs : List (TraceEvent Point)) × Arrives NoChange P r.draws p (record { state = c.state; events = xs })
arrives_of P c p r on = let w = walk_of P r.length (start P r.draws) c [] r.steps in (w.0, (r.length, c, w.1, on, refl))

pub denies_of : (P : Program) (c : Config) (p : Point) (r : Reaches P c) → IsOn c p → IsFailing c.items c.here c.state → (a : Trace Point) × ViolatesAssertion NoChange P r.draws p a
denies_of P c p r on false_there =
    let w = walk_of P r.length (start P r.draws) c [] r.steps in
    (record { state = c.state; events = visit p c.state ∷ w.0 }, (r.length, c, w.0, w.1, on, refl, false_there, refl))

-- walks in parts -------------------------------------------------------------------------------------------------------

module _ (may : State → State → Type 0) (P : Program) where
  -- one after the other
  pub walk_on : (m n : ℕ) (c d e : Config) (xs ys zs : List (TraceEvent Point)) → TracedSteps may P m c xs d ys → TracedSteps may P n d ys e zs →
      (k : ℕ) × TracedSteps may P k c xs e zs
  walk_on zero n c d e xs ys zs (i, j) w = (n, rw (i, j) w)
  walk_on (suc m) n c d e xs ys zs (s, c', b, x, v) w = let r = walk_on m n c' d e _ ys zs v w in (suc r.0, (s, c', b, x, r.1))

  met_behind : (o : Option ℕ) (path : List ℕ) (s : State) →
      (new : List (TraceEvent Point)) × ((zs : List (TraceEvent Point)) → with_visit o path s zs ≡ new ++ zs)
  met_behind None path s = ([], λ zs. refl)
  met_behind (Some label) path s = (visit (record { path = path; label = label }) s ∷ [], λ zs. refl)

  -- what is met doesn't depend on what was met before
  pub walk_behind : (n : ℕ) (c d : Config) (xs ys : List (TraceEvent Point)) → TracedSteps may P n c xs d ys
      → (new : List (TraceEvent Point)) × (ys ≡ new ++ xs) × ((zs : List (TraceEvent Point)) → TracedSteps may P n c zs d (new ++ zs))
  walk_behind zero c d xs ys (e, f) = ([], sym f, λ zs. (e, refl))
  walk_behind (suc n) c d xs ys (s, e, b, x, w) =
      let one = met_behind (label_on c.items) c.here.path c.state in
      let rest = walk_behind n e d _ ys w in
      let joined : (zs : List (TraceEvent Point)) → rest.0 ++ with_visit (label_on c.items) c.here.path c.state zs ≡ (rest.0 ++ one.0) ++ zs =
      λ zs. ap (λ v. rest.0 ++ v) (one.1 zs) ∙ sym (append_assoc rest.0 one.0 zs) in (
        rest.0 ++ one.0,
        rest.1 ∙ joined xs,
        λ zs. (s, e, b, x, subst (λ v. TracedSteps may P n e (with_visit (label_on c.items) c.here.path c.state zs) d v) (joined zs) (rest.2 (with_visit (label_on c.items) c.here.path c.state zs))),
      )

  -- the last point that was met: the run stood there, and from there it goes on in one piece
  pub record LastMet (c d : Config) (xs zs : List (TraceEvent Point)) : Type 0 where
    pub point : Point
    pub there : Config
    pub before : List (TraceEvent Point)
    pub steps : ℕ
    pub met : zs ≡ visit point there.state ∷ before
    pub walk : TracedSteps may P steps c xs there before
    pub piece : RunSegment may P point there d

  -- nothing is met
  abbrev pub Quiet : ℕ → Config → Config → List (TraceEvent Point) → List (TraceEvent Point) → Type 0
  Quiet n c d xs zs = (zs ≡ xs) × ((vs : List (TraceEvent Point)) → TracedSteps may P n c vs d vs)

  on_top : (c d : Config) (n : ℕ) (o : Option ℕ) (xs zs : List (TraceEvent Point)) → label_on c.items ≡ o → zs ≡ with_visit o c.here.path c.state xs
      → ((vs : List (TraceEvent Point)) → TracedSteps may P n c vs d (with_visit o c.here.path c.state vs)) → Quiet n c d xs zs ⊎ LastMet c d xs zs
  on_top c d n None xs zs e i w = inl (i, w)
  on_top c d n (Some label) xs zs e i w = inr (record {
    point = record { path = c.here.path; label = label };
    there = c;
    before = xs;
    steps = 0;
    met = i;
    walk = (refl, refl);
    piece = (record { label = e; path = refl }, n, w);
  })

  pub last_met : (n : ℕ) (c d : Config) (xs zs : List (TraceEvent Point)) → TracedSteps may P n c xs d zs → Quiet n c d xs zs ⊎ LastMet c d xs zs
  last_met zero c d xs zs (e, f) = inl (sym f, λ vs. (e, refl))
  last_met (suc n) c d xs zs (s, e, b, x, w) = by (last_met n e d _ zs w)
    where
      by : Quiet n e d (with_visit (label_on c.items) c.here.path c.state xs) zs ⊎ LastMet e d (with_visit (label_on c.items) c.here.path c.state xs) zs → Quiet (suc n) c d xs zs ⊎ LastMet c d xs zs
      by (inl (i, quiet)) =
          on_top c d (suc n) (label_on c.items) xs zs refl i (λ vs. (s, e, b, x, quiet (with_visit (label_on c.items) c.here.path c.state vs)))
      by (inr r) = inr (record { point = r.point; there = r.there; before = r.before; steps = suc r.steps; met = r.met; walk = (s, e, b, x, r.walk); piece = r.piece })
