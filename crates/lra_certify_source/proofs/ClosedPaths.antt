-- The rows of an iteration that isn't narrowed are inductive along paths: what leads to a point at the same divisor
-- leads there among rational points.
use Rattle.std.proofs.Common.{◌≡◌, ◌≢◌, ◌∙◌, ◌+◌, ◌-◌, ℕ, zero, suc, ℤ, ◌*ℤ◌, Bool, List, [], ◌∷◌, ◌++◌, length, take, refl, ap, sym, subst, arith}
use Rattle.std.proofs.lemmas.List.{length-set, length-append, length-take-le}
use Rattle.std.proofs.{Math.Seq.take-append_seam, lemmas.Option.none-some, lemmas.Option.same_Some, lemmas.Option.slice_get-map}
use Rattle.std.specs.{List.AllByRecursion, Prelude.Option, Prelude.None, Prelude.Some, Prelude.map, Prelude.option_map, Prelude.slice_get, Prelude.slice_set, Prelude.Contains}
use Rattle.lra_certify_source.specs.Crates.lra_domain.Actions.{Action, dims_after, assign, forget, test, embed, remove_last}
use Rattle.lra_certify_source.specs.Crates.lra_path_segments.Segments.{Goal, comes_to, violates}
use Rattle.lra_certify_source.specs.Crates.lra_paths.Paths.{live_of, actions_between}
use Rattle.lra_certify_source.specs.Crates.{lra_certificate_spec.Certificates.state_to, lra_certificate_spec.Certificates.state_or_empty, lra_certificate_spec.Judged.RowsAtPoint}
use Rattle.lra_certify_source.specs.Crates.{lra_linear_forms.Form.form_row, lra_linear_spec.Descriptions.LinearRow, lra_linear_spec.Descriptions.Con, lra_linear_spec.Points.IsPoint}
use Rattle.lra_certify_source.specs.Crates.{lra_linear_spec.Points.SamePoint, lra_linear_spec.Polyhedra.Polyhedron, lra_linear_spec.Polyhedra.IsPolyhedron, lra_linear_spec.SetOperations.assigned}
use Rattle.lra_certify_source.specs.Crates.{lra_linear_spec.SetOperations.SameBut, lra_linear_spec.Vectors.entry, lra_linear_spec.Vectors.product, lra_operations.Tree.Node}
use Rattle.lra_certify_source.specs.Crates.{lra_poly_domain.Abstraction.polyhedron_abstraction, lra_program.Program.Program, lra_program.Sites.Site, lra_program.Sites.sites_of}
use Rattle.lra_certify_source.proofs.Crates.{lra_linear_spec.ListPlaces.there_within, lra_linear_spec.Products.entry_set_other}
use Rattle.lra_inductive_sound.specs.RationalPoints.{MovesPoint, LeadsPoint, IsPointOf, dimension, rational_points}
use Rattle.lra_inductive_sound.specs.{Inductive.IsAtGoal, Inductive.AreInductive, Inductive.AreWide, Points.LeadsBy}
use Rattle.lra_certify.specs.{InductiveRows.IsIn, InductiveRows.IsInductiveFrom, InductiveRows.MustBeShown, InductiveRows.AreInductiveRows, PointMoves.PointLeads, PointMoves.PointLeadsAll}
use Rattle.lra_certify_source.specs.Extraction.{state_by, proved_in}
use Rattle.lra_certify_source.proofs.{Listing.proved_there, TakenSteps.in_state, TakenSteps.state_rows}

-- ---- points
-- rows that are the same are the same point
same_row : (x y : List ℤ) → y ≡ x → SamePoint y x
same_row x y e = subst (λ (z : List ℤ). SamePoint z x) (sym e) (λ j. refl)

-- a divisor with numbers after it
point_by : (n : ℕ) (d : ℤ) (xs ys : List ℤ) → IsPoint n (d ∷ xs) → (m : ℕ) → length ys ≡ m → IsPoint m (d ∷ ys)
point_by n d xs ys p m wide = record { width = ap suc wide; divisor = p.divisor }

same_but : (k : ℕ) (d z : ℤ) (xs : List ℤ) (j : ℕ) → j ≢ suc k → entry (d ∷ slice_set xs k z) j *ℤ d ≡ entry (d ∷ xs) j *ℤ d
same_but k d z xs zero other = refl
same_but k d z xs (suc j) other = ap (λ (a : ℤ). a *ℤ d) (entry_set_other xs k j z (λ e. other (ap suc e)))

one_less : (xs : List ℤ) → suc (length xs) - 1 ≡ length xs
one_less xs = omega arith

leads_by : (step : Action) (d : ℤ) (xs y : List ℤ) → IsPoint (dims_after step (length xs)) y → MovesPoint step (d ∷ xs) y → LeadsPoint step (d ∷ xs) y
leads_by step d xs y point moves = (subst (λ (n : ℕ). IsPoint (dims_after step n) y) (sym (one_less xs)) point, moves)

cut_point : (k : ℕ) (d : ℤ) (xs : List ℤ) → take (suc (suc (length xs) - suc k)) (d ∷ xs) ≡ d ∷ take (length xs - k) xs
cut_point k d xs = let same : suc (length xs) - suc k ≡ length xs - k = omega arith in ap (λ (n : ℕ). d ∷ take n xs) same

cut_moves : (k : ℕ) (d : ℤ) (xs y : List ℤ) → y ≡ d ∷ take (length xs - k) xs → MovesPoint (remove_last k) (d ∷ xs) y
cut_moves k d xs y e =
    subst (λ (n : ℕ). SamePoint y (take (suc (n - k)) (d ∷ xs))) (sym (one_less xs)) (same_row (d ∷ take (length xs - k) xs) y e)

leads_point : (step : Action) (d : ℤ) (xs y : List ℤ) → IsPoint (length xs) (d ∷ xs) → PointLeads step (d ∷ xs) y → LeadsPoint step (d ∷ xs) y
leads_point (assign k e) d xs y p led =
    leads_by (assign k e) d xs y
    (subst (λ (z : List ℤ). IsPoint (length xs) z) (sym led)
    (point_by (length xs) d xs (slice_set xs k (product (form_row e) (d ∷ xs))) p (length xs) (length-set xs k _)))
    (same_row (assigned (suc k) (form_row e) (d ∷ xs)) y led)
leads_point (forget k) d xs y p (z, led) =
    leads_by (forget k) d xs y
    (subst (λ (w : List ℤ). IsPoint (length xs) w) (sym led) (point_by (length xs) d xs (slice_set xs k z) p (length xs) (length-set xs k z)))
    (subst (λ (w : List ℤ). SameBut (suc k) w (d ∷ xs)) (sym led) (same_but k d z xs))
leads_point (test kind e) d xs y p led =
    leads_by (test kind e) d xs y (subst (λ (z : List ℤ). IsPoint (length xs) z) (sym led.1) p) (led.1, led.0)
leads_point (embed k) d xs y p (added, wide, led) =
    leads_by (embed k) d xs y
    (subst (λ (z : List ℤ). IsPoint (length xs + k) z) (sym led)
    (point_by (length xs) d xs (xs ++ added) p (length xs + k) (length-append xs added ∙ ap (λ (m : ℕ). length xs + m) wide)))
    (ap (take (suc (length xs))) led ∙ take-append_seam (d ∷ xs) added)
leads_point (remove_last k) d xs y p led =
    let is : y ≡ d ∷ take (length xs - k) xs = led ∙ cut_point k d xs in
    leads_by (remove_last k) d xs y
    (subst (λ (z : List ℤ). IsPoint (length xs - k) z) (sym is)
    (point_by (length xs) d xs (take (length xs - k) xs) p (length xs - k) (length-take-le (length xs - k) xs (omega arith))))
    (cut_moves k d xs y is)

leads_all : (steps : List Action) (x y : List ℤ) (n : ℕ) → IsPoint n x → PointLeadsAll steps x y → LeadsBy rational_points steps x y
leads_all [] x y n p led = led
leads_all (step ∷ steps) [] y n p led = absurd (let w = p.width in omega (arith, w))
leads_all (step ∷ steps) (d ∷ xs) y n p (z, one, rest) =
    let wide : n ≡ length xs = (let w = p.width in omega (arith, w)) in
    let to = leads_point step d xs z (subst (λ (m : ℕ). IsPoint m (d ∷ xs)) wide p) one in
    (z, to, leads_all steps z y (dims_after step (dimension (d ∷ xs))) to.0 rest)

-- ---- values

in_all : (values : List Polyhedron) (q : ℕ) (p : Polyhedron) → AllByRecursion IsPolyhedron values → slice_get values q ≡ Some p → IsPolyhedron p
in_all [] q p all e = absurd (none-some p e)
in_all (v ∷ vs) zero p all e = subst IsPolyhedron (same_Some v p e) all.0
in_all (v ∷ vs) (suc q) p all e = in_all vs q p all.1 e

module _ (P : Program) (g : Node) (values : List Polyhedron) (verdicts : List (ℕ × Bool)) (closed : AreInductive rational_points P g values verdicts)
    (wide : AreWide polyhedron_abstraction P values) (many : length values ≡ length (sites_of P)) (canonical : AllByRecursion IsPolyhedron values) where
  abbrev states : List RowsAtPoint
  states = map state_by values

  state_at : (q : ℕ) (v : Polyhedron) → slice_get values q ≡ Some v → state_or_empty (slice_get states q) ≡ state_by v
  state_at q v there = ap state_or_empty (slice_get-map state_by values q ∙ ap (λ (o : Option Polyhedron). option_map state_by o) there)

  -- what is at a goal that is asked for is in what is said of it
  arrives : (goal : Goal) (y : List ℤ) → MustBeShown (length (sites_of P)) (proved_in verdicts) goal → IsAtGoal rational_points values verdicts goal y
      → IsIn (state_to states goal) y
  arrives (comes_to q) y asked (w, there, on) =
      subst (λ (s : RowsAtPoint). IsIn s y) (sym (state_at q w there)) (in_state w y (in_all values q w canonical there) on.0 on.1)
  arrives (violates q) y asked never = absurd (never (proved_there verdicts q asked))

  from_point : (p : ℕ) (s : Site) (v : Polyhedron) (goal : Goal) (actions : List Action) → slice_get (sites_of P) p ≡ Some s → slice_get values p ≡ Some v
      → MustBeShown (length (sites_of P)) (proved_in verdicts) goal → Contains (actions_between P g (suc p) goal) actions
      → IsInductiveFrom s.live actions (state_by v) (state_to states goal)
  from_point p s v goal actions site value asked among = by (state_by v) refl
    where
      dims : v.dims ≡ s.live
      dims = wide p v value s site

      by : (state : RowsAtPoint) → state_by v ≡ state → IsInductiveFrom s.live actions state (state_to states goal)
      by None e = tt
      by (Some rows) e = λ x y point inside led.
          let on : IsPointOf v x = (
            subst (λ (n : ℕ). IsPoint n x) (sym dims) point,
            subst (λ (given : List LinearRow). Con given x) (state_rows v rows e) inside,
          ) in
          arrives goal y asked (closed.next p s v goal actions site value among x y on (leads_all actions x y s.live point led))

  pub paths_stay : AreInductiveRows P g states (proved_in verdicts)
  paths_stay zero goal actions within asked among = λ x y point inside led.
      arrives goal y asked (closed.first goal actions among x y point (leads_all actions x y 0 point led))
  paths_stay (suc p) goal actions within asked among =
      let (s, site) = there_within (sites_of P) p (omega (arith, within)) in
      let (v, value) = there_within values p (omega (arith, within, many)) in
      subst (λ (state : RowsAtPoint). IsInductiveFrom (live_of (slice_get (sites_of P) p)) actions state (state_to states goal)) (sym (state_at p v value))
      (subst (λ (o : Option Site). IsInductiveFrom (live_of o) actions (state_by v) (state_to states goal)) (sym site)
      (from_point p s v goal actions site value asked among))
