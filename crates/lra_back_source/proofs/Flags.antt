-- What going back does to the first flagged point: a fact of flags that each noted one keeps, at points of the program, is so at the end
-- if it was so before.
use Rattle.std.proofs.Common.{◌≡◌, ◌∙◌, ◌≤◌, ◌<◌, ◌+◌, ℕ, zero, suc, Bool, true, List, [], ◌∷◌, length, refl, sym, subst, arith, inl, inr}
use Rattle.std.proofs.lemmas.Option.{none-some, slice_get_within}
use Rattle.std.specs.Prelude.{Option, None, Some}
use Rattle.lra_back_source.specs.Crates.lra_back.Rounds.{AreBackwardValues, Round, Rounds, Task, Widens}
use Rattle.lra_back_source.specs.Crates.lra_domain.declared.Exactness.TheVariants.{Exact, Flagged}
use Rattle.lra_back_source.specs.Crates.lra_domain.declared.Mode.TheVariants.{Join, Widen}
use Rattle.lra_back_source.specs.Crates.{lra_analysis_spec.Pass.noted, lra_back.BackwardAnalysis.BackwardAnalysis, lra_back.Operations.BackwardOperations, lra_domain.declared.Exactness.Exactness}
use Rattle.lra_back_source.specs.Crates.{lra_domain.declared.Mode.Mode, lra_operations.Tree.Node, lra_program.Sites.Site, lra_program.declared.program.GlobalVariable.GlobalVariable}
use Rattle.lra_analyse_source.proofs.Flags.{IsBelow}

-- noted at a point below n it stays so
abbrev Keeps : ℕ → (Option ℕ → Type 0) → Type 0
Keeps n So = (q : ℕ) (e : Exactness) (f : Option ℕ) → q < n → So f → So (noted q e f)

module _ {V H : Type 0} (ops : BackwardOperations V H) (n : ℕ) (So : Option ℕ → Type 0) (keeps : Keeps n So) where
  module _ (task : Task V) (mode : Mode) where
    round_keeps : (m : ℕ) (f g : Option ℕ) (heads last : List H) (stable : Bool) → m ≤ n → Round ops task mode m f heads g stable last → So f → So g
    round_keeps zero f g heads last stable few round so = subst So (sym round.1) so
    round_keeps (suc p) f g heads last stable few (k, i, own, others, turned, round, is) so =
        let low : p < n = omega (arith, few) in
        let at : So i = subst So (sym turned.9) (keeps p turned.4 (noted p turned.3 f) low (keeps p turned.3 f low so)) in
        let less : p ≤ n = omega (arith, few) in
        round_keeps p i g _ last others less round at

  module _ (task : Task V) where
    widens_keep : (m more : ℕ) (f g : Option ℕ) (heads last : List H) → m ≤ n → Widens ops task m more f heads g last → So f → So g
    widens_keep m zero f g heads last few w so = round_keeps task Widen m f g heads last true few w so
    widens_keep m (suc more) f g heads last few (i, between, round, w) so =
        widens_keep m more i g between last few w (round_keeps task Widen m f i heads between _ few round so)

    rounds_keep : (m : ℕ) (f g : Option ℕ) (heads last : List H) → m ≤ n → Rounds ops task m f heads g last → So f → So g
    rounds_keep m f g heads last few (inl round) so = round_keeps task Join m f g heads last true few round so
    rounds_keep m f g heads last few (inr (i, between, more, round, w)) so =
        widens_keep m more i g between last few w (round_keeps task Join m f i heads between _ few round so)

  met_keep : (q : ℕ) (f g : Option ℕ) (heads : List H) (forward values : List V) → q + length forward ≤ n → AreBackwardValues ops q f heads forward g values
      → So f → So g
  met_keep q f g [] [] values few met so = subst So (sym met.0) so
  met_keep q f g [] (x ∷ forward) values few met so = absurd met
  met_keep q f g (h ∷ heads) [] values few met so = absurd met
  met_keep q f g (h ∷ heads) (x ∷ forward) values few (v, w, c, d, more, valued, met, rest, is) so =
      let low : q < n = omega (arith, few) in
      let behind : suc q + length forward ≤ n = omega (arith, few) in
      met_keep (suc q) _ g heads forward more behind rest (keeps q _ f low so)

  pub backs_keep : (globals : List GlobalVariable) (sites : List Site) (g : Node) (forward : List V) (f : Option ℕ) (p : ℕ) (values : List V)
      (flag : Option ℕ) → length forward ≡ n → BackwardAnalysis ops globals sites g forward f p values flag → So f → So flag
  backs_keep globals sites g forward f p values flag many b so =
      let low = slice_get_within forward p b.at_assertion b.is_there in
      let at : p < n = omega (arith, low, many) in
      let few : length forward ≤ n = omega (arith, many) in
      let all : 0 + length forward ≤ n = omega (arith, many) in
      met_keep 0 b.rounds_flag flag b.last forward values all b.met
      (rounds_keep _ (length forward) (noted p b.exactness f) b.rounds_flag b.first b.last few b.rounds (keeps p b.exactness f at so))

-- ---- a flag is that of a point
below : (n : ℕ) → Keeps n (IsBelow n)
below n q e (Some p) low so = so
below n q Exact None low so = tt
below n q Flagged None low so = low

pub flag_below : {V H : Type 0} (ops : BackwardOperations V H) (globals : List GlobalVariable) (sites : List Site) (g : Node) (forward : List V)
    (f : Option ℕ) (p : ℕ) (values : List V) (flag : Option ℕ) (n : ℕ) → length forward ≡ n → BackwardAnalysis ops globals sites g forward f p values flag
    → ((q : ℕ) → f ≡ Some q → q < n) → (q : ℕ) → flag ≡ Some q → q < n
flag_below ops globals sites g forward f p values flag n many b low q is =
    subst (IsBelow n) is (backs_keep ops n (IsBelow n) (below n) globals sites g forward f p values flag many b (begun f low))
  where
    begun : (o : Option ℕ) → ((q : ℕ) → o ≡ Some q → q < n) → IsBelow n o
    begun None l = tt
    begun (Some q) l = l q refl

-- ---- and a flag stays
stays : (n q : ℕ) → Keeps n (λ (o : Option ℕ). o ≡ Some q)
stays n q k e (Some p) low so = so
stays n q k e None low so = absurd (none-some q so)

pub first_stays : {V H : Type 0} (ops : BackwardOperations V H) (globals : List GlobalVariable) (sites : List Site) (g : Node) (forward : List V)
    (f : Option ℕ) (p : ℕ) (values : List V) (flag : Option ℕ) → BackwardAnalysis ops globals sites g forward f p values flag → (q : ℕ) → f ≡ Some q →
    flag ≡ Some q
first_stays ops globals sites g forward f p values flag b q is =
    backs_keep ops (length forward) (λ (o : Option ℕ). o ≡ Some q) (stays (length forward) q) globals sites g forward f p values flag refl b is

pub none_first : {V H : Type 0} (ops : BackwardOperations V H) (globals : List GlobalVariable) (sites : List Site) (g : Node) (forward : List V)
    (f : Option ℕ) (p : ℕ) (values : List V) (flag : Option ℕ) → BackwardAnalysis ops globals sites g forward f p values flag → flag ≡ None → f ≡ None
none_first ops globals sites g forward f p values flag b none = go f refl
  where
    go : (o : Option ℕ) → f ≡ o → f ≡ None
    go None is = is
    go (Some q) is = absurd (none-some q (sym none ∙ first_stays ops globals sites g forward f p values flag b q is))
