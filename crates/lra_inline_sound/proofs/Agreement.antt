-- A run reaches a point on a trace, and fails there, exactly if the tree does; so without traces too.
use Rattle.std.proofs.Common.{◌≡◌, ℕ, ℤ, List, [], ◌∷◌, length, Some, slice_get, ◌⊎◌, inl, inr, refl, sym, ap, ◌∙◌, subst}
use Rattle.std.proofs.lemmas.Option.{same_Some}
use Rattle.lra_inline_sound.specs.Crates.lra_program.Run.{begun, Point, start, label_on, IsOn, At, Fails}
use Rattle.lra_inline_sound.specs.Crates.lra_program.Traces.{TraceEvent, visit, Trace, NoChange, TracedSteps, Arrives, ViolatesAssertion}
use Rattle.lra_inline_sound.specs.Crates.{lra_program.Program.Program, lra_program.Sites.Site, lra_program.Sites.sites_of, lra_program.Step.State, lra_program.Step.Config}
use Rattle.lra_inline_sound.proofs.Crates.lra_program.TraceLaws as walks
use Rattle.lra_inline_sound.proofs.Crates.lra_program.TraceLaws.{Quiet, LastMet, last_met}
use Rattle.lra_operations.specs.TracesAgree.{KeepsWidth, point_at, point_or_none, TreeRunsUpTo, TracesAgree, TreesHaveTraces}
use Rattle.lra_operations.specs.{Agree.IsInlinedTree, Agree.Reached, Agree.Failed, Agree.point_of, Agree.AreDistinct, Agree.TreesAgree, Traces.to_point, Traces.to_failure, Tree.Node}
use Rattle.lra_operations.proofs.TraceLaws as trees
use Rattle.lra_inline_sound.proofs.{NextOperations.overflows, Performed.performed, Performed.failed, Reached.reached, Split.trail}

met_rest : {x y : TraceEvent Point} {xs ys : List (TraceEvent Point)} → x ∷ xs ≡ y ∷ ys → xs ≡ ys
met_rest e = cc

met_point : {p q : Point} {s t : State} {xs ys : List (TraceEvent Point)} → visit p s ∷ xs ≡ visit q t ∷ ys → p ≡ q
met_point e = cc

met_state : {p q : Point} {s t : State} {xs ys : List (TraceEvent Point)} → visit p s ∷ xs ≡ visit q t ∷ ys → s ≡ t
met_state e = cc

not_empty : {x : TraceEvent Point} {xs : List (TraceEvent Point)} → x ∷ xs ≡ [] → ⊥
not_empty e = cc

module _ (may : State → State → Type 0) (keeps : KeepsWidth may) (P : Program) (g : Node) (distinct : AreDistinct (sites_of P)) (is : IsInlinedTree P g) where
  to_tree : (number : ℕ) (s : Site) (draws : List ℤ) (a : Trace Point) → slice_get (sites_of P) number ≡ Some s → Arrives may P draws (point_of s) a → TreeRunsUpTo may P g draws (to_point number) a
  to_tree number s draws a at (n, c, w, on, same) =
      let hit = reached may keeps overflows P g is c a.events (point_of s) draws n w on in
      let here = distinct hit.number number _ s hit.site at on.path refl in
      subst (λ t. TreeRunsUpTo may P g draws (to_point number) (trail t a.events)) same
      (subst (λ q. TreeRunsUpTo may P g draws (to_point q) (trail c.state a.events)) here
      (hit.leads (to_point hit.number) (trail c.state a.events) (refl, refl)))

  to_false : (number : ℕ) (s : Site) (draws : List ℤ) (a : Trace Point) → slice_get (sites_of P) number ≡ Some s → ViolatesAssertion may P draws (point_of s) a →
      TreeRunsUpTo may P g draws (to_failure number) a
  to_false number s draws a at (n, c, xs, w, on, becomes, fails, met) =
      let hit = reached may keeps overflows P g is c xs (point_of s) draws n w on in
      let here = distinct hit.number number _ s hit.site at on.path refl in
      let same = ap (λ (x : List ℕ). let p : Point = record { path = x; label = s.label } in visit p c.state ∷ xs) (sym on.path) in
      subst (λ q. TreeRunsUpTo may P g draws (to_failure q) a) here (hit.leads (to_failure hit.number) a (refl, becomes, fails, met ∙ same))

  -- a run that stands at the site stands at its point
  on_site : (number : ℕ) (s : Site) (c : Config) (label : ℕ) (r : Site) → slice_get (sites_of P) number ≡ Some s → slice_get (sites_of P) number ≡ Some r → c.here.path ≡ r.path → label ≡ r.label
      → label_on c.items ≡ Some label → IsOn c (point_of s)
  on_site number s c label r at there path lab on =
      let h = same_Some _ _ (sym there ∙ at) in
      record { label = on ∙ ap Some lab ∙ ap (λ (z : Site). Some z.label) h; path = path ∙ ap (λ (z : Site). z.path) h }

  to_run : (number : ℕ) (s : Site) (draws : List ℤ) (a : Trace Point) → slice_get (sites_of P) number ≡ Some s → TreeRunsUpTo may P g draws (to_point number) a → Arrives may P draws (point_of s) a
  to_run number s draws a at x =
      let y = performed may keeps P g is draws number a x in
      (y.runs.0, y.there, y.runs.1, on_site number s y.there y.label _ at y.site refl refl y.on, y.state)

  to_denied : (number : ℕ) (s : Site) (draws : List ℤ) (a : Trace Point) → slice_get (sites_of P) number ≡ Some s → TreeRunsUpTo may P g draws (to_failure number) a →
      ViolatesAssertion may P draws (point_of s) a
  to_denied number s draws a at x =
      let y = failed may keeps P g is draws number a x in
      let h = same_Some _ _ (sym y.site ∙ at) in (
        y.runs.0,
        y.there,
        y.before,
        y.runs.1,
        on_site number s y.there y.label _ at y.site refl refl y.on,
        y.becomes,
        y.fails,
        y.met ∙ ap (λ (z : Site). visit (point_of z) y.there.state ∷ y.before) h,
      )

  wide : (number : ℕ) (s : Site) (draws : List ℤ) (a : Trace Point) → slice_get (sites_of P) number ≡ Some s → TreeRunsUpTo may P g draws (to_point number) a → length a.state.store ≡ s.live
  wide number s draws a at x =
      let y = performed may keeps P g is draws number a x in
      ap (λ (t : State). length t.store) (sym y.state) ∙ ap (λ (z : Site). z.live) (same_Some _ _ (sym y.site ∙ at))

  nowhere_else : (p : Point) (draws : List ℤ) (a : Trace Point) → Arrives may P draws p a → (number : ℕ) × (s : Site) × (slice_get (sites_of P) number ≡ Some s) × (p ≡ point_of s)
  nowhere_else p draws a (n, c, w, on, same) =
      let hit = reached may keeps overflows P g is c a.events p draws n w on in
      (hit.number, _, hit.site, ap (λ (x : List ℕ). let q : Point = record { path = x; label = p.label } in q) (sym on.path))

  -- what is met was a point of the tree, on what was met before it
  came_before : (number : ℕ) (draws : List ℤ) (a : Trace Point) (p : Point) (t : State) (xs : List (TraceEvent Point)) → TreeRunsUpTo may P g draws (to_point number) a → a.events ≡ visit p t ∷ xs
      → (earlier : ℕ) × (s : Site) × (slice_get (sites_of P) earlier ≡ Some s) × (p ≡ point_of s) × TreeRunsUpTo may P g draws (to_point earlier) (trail t xs)
  came_before number draws a p t xs x met =
      let y = performed may keeps P g is draws number a x in
      by y.runs.0 y.there (last_met may P y.runs.0 (start P draws) y.there [] a.events y.runs.1)
    where
      led : Arrives may P draws p (trail t xs) → (earlier : ℕ) × (s : Site) × (slice_get (sites_of P) earlier ≡ Some s) × (p ≡ point_of s) × TreeRunsUpTo may P g draws (to_point earlier) (trail t xs)
      led v =
          let (earlier, s, at, same) = nowhere_else p draws (trail t xs) v in
          (earlier, s, at, same, to_tree earlier s draws (trail t xs) at (subst (λ q. Arrives may P draws q (trail t xs)) same v))

      by : (n : ℕ) (d : Config) → Quiet may P n (start P draws) d [] a.events ⊎ LastMet may P (start P draws) d [] a.events →
          (earlier : ℕ) × (s : Site) × (slice_get (sites_of P) earlier ≡ Some s) × (p ≡ point_of s)
          × TreeRunsUpTo may P g draws (to_point earlier) (trail t xs)
      by n d (inl (i, quiet)) = absurd (not_empty (sym met ∙ i))
      by n d (inr r) =
          let same = sym met ∙ r.met in
          led (
            r.steps,
            r.there,
            subst (λ ys. TracedSteps may P r.steps (start P draws) [] r.there ys) (sym (met_rest same)) r.walk,
            subst (λ q. IsOn r.there q) (sym (met_point same)) r.piece.0,
            sym
                (met_state same),
          )

  denied_at : (number : ℕ) (draws : List ℤ) (a : Trace Point) → TreeRunsUpTo may P g draws (to_failure number) a →
      (b : Trace Point) × TreeRunsUpTo may P g draws (to_point number) b × may b.state a.state
      × (a.events ≡ visit (point_at (sites_of P) number) b.state ∷ b.events)
  denied_at number draws a x =
      let y = failed may keeps P g is draws number a x in
      let b = trail y.there.state y.before in (
        b,
        to_tree number _ draws b y.site (y.runs.0, y.there, y.runs.1, record { label = y.on; path = refl }, refl),
        y.becomes,
        y.met ∙ ap (λ o. visit (point_or_none o) y.there.state ∷ y.before) (sym y.site),
      )

  pub traces_agree : TracesAgree may P g
  traces_agree = record {
    comes = λ number s draws a at. (to_tree number s draws a at, to_run number s draws a at);
    fails = λ number s draws a at. (to_false number s draws a at, to_denied number s draws a at);
    width = wide;
    others = nowhere_else;
    before = came_before;
    denied = denied_at;
  }

pub trees_have_traces : TreesHaveTraces
trees_have_traces P g distinct is = traces_agree NoChange (λ s t e. ap (λ (x : State). length x.store) e) P g distinct is

-- forgetting what is met ---------------------------------------------------------------------------------------------------

module _ (P : Program) (g : Node) (trails : TracesAgree NoChange P g) where
  abbrev name : ℕ → Point
  name = point_at (sites_of P)

  abbrev from : List ℤ → Trace Point
  from draws = trail (begun P draws) []

  reached_where_at : (number : ℕ) (s : Site) (store : List ℤ) → slice_get (sites_of P) number ≡ Some s → At P (point_of s) store → Reached P g number store
  reached_where_at number s store at (c, r, on, same) =
      let a = walks.arrives_of P c (point_of s) r on in
      (r.draws, r.words, c.state, trees.comes_of name g number (from r.draws) (trail c.state a.0) ((trails.comes number s r.draws (trail c.state a.0) at).0 a.1), same)

  at_where_reached : (number : ℕ) (s : Site) (store : List ℤ) → slice_get (sites_of P) number ≡ Some s → Reached P g number store → At P (point_of s) store
  at_where_reached number s store at (draws, words, t, x, same) =
      let b = trees.comes_on name g number (from draws) t x in
      subst (λ z. At P (point_of s) z) same (walks.at_of P draws (point_of s) (trail t b.0) words ((trails.comes number s draws (trail t b.0) at).1 b.1))

  failed_where_fails : (number : ℕ) (s : Site) → slice_get (sites_of P) number ≡ Some s → Fails P (point_of s) → Failed P g number
  failed_where_fails number s at (c, r, on, false_there) =
      let a = walks.denies_of P c (point_of s) r on false_there in
      (r.draws, r.words, trees.fails_of name g number (from r.draws) a.0 ((trails.fails number s r.draws a.0 at).0 a.1))

  fails_where_failed : (number : ℕ) (s : Site) → slice_get (sites_of P) number ≡ Some s → Failed P g number → Fails P (point_of s)
  fails_where_failed number s at (draws, words, x) =
      let b = trees.fails_on name g number (from draws) x in
      walks.fails_of P draws (point_of s) b.0 words ((trails.fails number s draws b.0 at).1 b.1)

  wide_where_reached : (number : ℕ) (s : Site) (store : List ℤ) → slice_get (sites_of P) number ≡ Some s → Reached P g number store → length store ≡ s.live
  wide_where_reached number s store at (draws, words, t, x, same) =
      let b = trees.comes_on name g number (from draws) t x in
      ap length (sym same) ∙ trails.width number s draws (trail t b.0) at b.1

  no_other : (p : Point) (store : List ℤ) → At P p store → (number : ℕ) × (s : Site) × (slice_get (sites_of P) number ≡ Some s) × (p ≡ point_of s)
  no_other p store (c, r, on, same) = let a = walks.arrives_of P c p r on in trails.others p r.draws (trail c.state a.0) a.1

pub trees_agree : TreesAgree
trees_agree P g distinct is = let trails = trees_have_traces P g distinct is in record {
  comes = λ number s store at. (reached_where_at P g trails number s store at, at_where_reached P g trails number s store at);
  fails = λ number s at. (failed_where_fails P g trails number s at, fails_where_failed P g trails number s at);
  width = wide_where_reached P g trails;
  others = no_other P g trails;
}
