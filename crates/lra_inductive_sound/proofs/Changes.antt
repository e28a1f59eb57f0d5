-- What moves make of a value keeps the points to which one of their sides leads.
use Rattle.std.proofs.Common.{◌≡◌, ℕ, List, [], ◌∷◌, ◌++◌, false, inl, inr, refl, sym, ap, ◌∙◌, subst}
use Rattle.std.proofs.lemmas.List.Elements.{Contains-append_cases}
use Rattle.std.specs.List.{Contains}
use Rattle.lra_inductive_sound.specs.Crates.{lra_analysis_spec.Linearization.linearized, lra_analysis_spec.Moves.AreMade, lra_analysis_spec.MovesOf.value_moves, lra_analysis_spec.MovesOf.number_moves}
use Rattle.lra_inductive_sound.specs.Crates.{lra_analysis_spec.Operations.lossy_operations, lra_analysis_spec.Pass.MatchesNone, lra_base.declared.case_labels.CaseLabel.CaseLabel}
use Rattle.lra_inductive_sound.specs.Crates.{lra_base.declared.case_labels.CaseLabel.TheVariants.Case, lra_base.declared.case_labels.CaseLabel.TheVariants.Default, lra_domain.Abstraction.Abstraction}
use Rattle.lra_inductive_sound.specs.Crates.{lra_domain.Actions.Action, lra_domain.Moves.Moves, lra_domain.Moves.stay, lra_domain.Moves.make, lra_domain.Moves.first_then, lra_domain.Moves.join_of}
use Rattle.lra_inductive_sound.specs.Crates.{lra_domain.declared.Exactness.Exactness, lra_path_disjuncts.Disjuncts.disjuncts, lra_path_disjuncts.StepMoves.unmatched_moves, lra_program.Program.Expr}
use Rattle.lra_inductive_sound.proofs.Crates.lra_transfer.OperationWidths.{value_dims}
use Rattle.lra_inductive_sound.specs.Points.{PointsOf, LeadsBy, KeepPoints}
use Rattle.lra_inductive_sound.proofs.Members.{one_from, pairs_from}

module _ (V H X : Type 0) (o : PointsOf V H X) where
  -- the actions lead to a point, from which the others lead on
  pub split_leads : (one two : List Action) (x y : X) → LeadsBy o (one ++ two) x y → (z : X) × LeadsBy o one x z × LeadsBy o two z y
  split_leads [] two x y led = (x, refl, led)
  split_leads (step ∷ steps) two x y (u, first, rest) = let (z, a, b) = split_leads steps two u y rest in (z, (u, first, a), b)

  -- the second value has all points to which a side leads from those of the first
  abbrev pub SidesKeep : V → Moves → V → Type 0
  SidesKeep v p w = (actions : List Action) (x y : X) → Contains (disjuncts p) actions → o.on v x → LeadsBy o actions x y → o.on w y

  pub stays_keep : (v w : V) → w ≡ v → SidesKeep v stay w
  stays_keep v w same actions x y there h led =
      let still : y ≡ x = subst (λ (l : List Action). LeadsBy o l x y) (sym (one_from [] actions there)) led in
      subst (λ (u : V). o.on u y) (sym same) (subst (λ (z : X). o.on v z) (sym still) h)

  pub sides_then : (p q : Moves) (v u w : V) → SidesKeep v p u → SidesKeep u q w → SidesKeep v (first_then p q) w
  sides_then p q v u w one two actions x y there h led =
      let (i, j, a, b, same) = pairs_from (λ (k l : List Action). l ++ k) (disjuncts p) (disjuncts q) actions there in
      let (z, first, last) = split_leads i j x y (subst (λ (l : List Action). LeadsBy o l x y) (sym same) led) in
      two j z y b (one i x z a h first) last

  module _ (m : Abstraction V H) (keep : KeepPoints m o) where
    pub made_keep : (p : Moves) (v : V) (e : Exactness) (w : V) → AreMade (lossy_operations m) p v e w → SidesKeep v p w
    made_keep stay v e w (same, exact) actions x y there h led = stays_keep v w same actions x y there h led
    made_keep (make step) v e w made actions x y there h led =
        let (z, one, still) = subst (λ (l : List Action). LeadsBy o l x y) (sym (one_from (step ∷ []) actions there)) led in
        subst (λ (u : X). o.on w u) (sym still) (keep.changed step v w made.0.formed made.0.keeps x z h one)
    made_keep (first_then p q) v e w (u, c, d, one, two, worst) actions x y there h led =
        sides_then p q v u w (made_keep p v c u one) (made_keep q u d w two) actions x y there h led
    made_keep (join_of p q) v e w (u, t, c, d, i, one, two, joined, worst) actions x y there h led =
        elim (Contains-append_cases (disjuncts p) (disjuncts q) actions there) [
          | inl a ↦ keep.covered u w joined.0.formed joined.0.left y (made_keep p v c u one actions x y a h led)
          | inr b ↦ keep.covered t w joined.0.formed joined.0.right y (made_keep q v d t two actions x y b h led)
        ]

    -- what is left of a value if an expression has none of the labels' values
    pub none_keep : (base : ℕ) (e : Expr) (labels : List CaseLabel) (v : V) (x : Exactness) (w : V) → MatchesNone (lossy_operations m) base e labels v x w
        → (live : ℕ) → m.dims v ≡ live → SidesKeep v (unmatched_moves live (linearized live base e) labels) w
    none_keep base e [] v x w (same, exact) live wide = stays_keep v w same
    none_keep base e (Case z ∷ labels) v x w (u, c, d, one, rest, worst) live wide =
        let first : SidesKeep v (number_moves live false (linearized live base e) z) u =
        subst (λ (n : ℕ). SidesKeep v (value_moves n base false e z) u) wide (made_keep (value_moves (m.dims v) base false e z) v c u one) in
        let last = none_keep base e labels u d w rest live (value_dims V H m base e z false v c u one ∙ wide) in
        sides_then (number_moves live false (linearized live base e) z) (unmatched_moves live (linearized live base e) labels) v u w first last
    none_keep base e (Default ∷ labels) v x w rest live wide = none_keep base e labels v x w rest live wide

    pub none_dims : (base : ℕ) (e : Expr) (labels : List CaseLabel) (v : V) (x : Exactness) (w : V) → MatchesNone (lossy_operations m) base e labels v x w
        → m.dims w ≡ m.dims v
    none_dims base e [] v x w (same, exact) = ap (λ (u : V). m.dims u) same
    none_dims base e (Case z ∷ labels) v x w (u, c, d, one, rest, worst) =
        none_dims base e labels u d w rest ∙ value_dims V H m base e z false v c u one
    none_dims base e (Default ∷ labels) v x w rest = none_dims base e labels v x w rest
