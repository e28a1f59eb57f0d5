-- What jumps, joined values and the labels of a `select` keep in a pass with drops, where each least change keeps its stores.
use Rattle.std.proofs.Common.{◌≡◌, ◌≢◌, inl, inr, ℕ, ◌++◌, ℤ, List, [], ◌∷◌, Option, None, Some, Bool, true, false, refl, subst, sym, ◌∙◌, arith}
use Rattle.std.proofs.lemmas.Bool.{or_parts, or_from}
use Rattle.std.proofs.{lemmas.Bool.Decides.Decides-int_eq, lemmas.Int.ints, lemmas.List.Elements.Contains-append_left, lemmas.List.Elements.Contains-append_right}
use Rattle.std.specs.{List.Contains, List.list_any, Ordering.int_eq, Prelude.◌||◌, Prelude.if◌then◌else◌}
use Rattle.lra_analysis_spec.proofs.Crates.lra_linear_spec.Membership.{contains_cases, contains_head}
use Rattle.lra_domain.specs.{Abstraction.Abstraction, Laws.Laws, declared.Exactness.Exactness}
use Rattle.lra_analysis_spec.specs.Crates.lra_base.declared.case_labels.CaseLabel.TheVariants.{Case, Default}
use Rattle.lra_analysis_spec.specs.Crates.lra_program.Step.{State, environment_at}
use Rattle.lra_analysis_spec.specs.Crates.{lra_base.CaseLabels.is_same_case, lra_base.CaseLabels.goal_of, lra_base.Operators.equal, lra_base.declared.case_labels.CaseLabel.CaseLabel}
use Rattle.lra_analysis_spec.specs.Crates.{lra_program.Program.Expr, lra_program.Value.value_of, lra_program.Value.compares}
use Rattle.lra_operations.specs.Tree.{Exit, broken, continued, returned}
use Rattle.lra_analysis_spec.specs.Pass.{PassEntry, PassResult, jumps_of, first_of_call, values_behind, in_turn, jumps_caught, jumps, AreJoined}
use Rattle.lra_analysis_spec.specs.Pass.{MatchesNone, Enters, JoinsRunning, ComesOut}
use Rattle.lra_analysis_spec.specs.{Operations.lossy_operations}
use Rattle.lra_analysis_spec.proofs.{Covers.Has, Covers.covered_has, Keeps.values_keep}

pub left_jump : {V : Type 0} (k : Exit) (r s : PassResult V) (v : V) (f : Option ℕ) (u : V) → Contains (jumps_of k r) u →
    Contains (jumps_of k (in_turn r s v f)) u
left_jump broken r s v f u h = Contains-append_left r.breaks s.breaks u h
left_jump continued r s v f u h = Contains-append_left r.continues s.continues u h
left_jump returned r s v f u h = Contains-append_left r.returns s.returns u h

pub right_jump : {V : Type 0} (k : Exit) (r s : PassResult V) (v : V) (f : Option ℕ) (u : V) → Contains (jumps_of k s) u →
    Contains (jumps_of k (in_turn r s v f)) u
right_jump broken r s v f u h = Contains-append_right r.breaks s.breaks u h
right_jump continued r s v f u h = Contains-append_right r.continues s.continues u h
right_jump returned r s v f u h = Contains-append_right r.returns s.returns u h

pub jumps_same : {V : Type 0} (k : Exit) (z : PassResult V) (x : PassEntry V) (out : V) (f : Option ℕ) (u : V) → Contains (jumps_of k z) u
    → Contains (jumps_of k (record z { entries = x ∷ z.entries; normal = out; flag = f })) u
jumps_same broken z x out f u h = h
jumps_same continued z x out f u h = h
jumps_same returned z x out f u h = h

pub jump_there : {V : Type 0} (k : Exit) (v nothing : V) (f : Option ℕ) → Contains (jumps_of k (jumps k v nothing f)) v
jump_there broken v nothing f = contains_head v []
jump_there continued v nothing f = contains_head v []
jump_there returned v nothing f = contains_head v []

pub behind_normal : {V : Type 0} (k : Exit) (r : PassResult V) (v : V) (f : Option ℕ) → (jumps_caught k r v f).normal ≡ v
behind_normal broken r v f = refl
behind_normal continued r v f = refl
behind_normal returned r v f = refl

pub behind_entries : {V : Type 0} (k : Exit) (r : PassResult V) (v : V) (f : Option ℕ) → (jumps_caught k r v f).entries ≡ r.entries
behind_entries broken r v f = refl
behind_entries continued r v f = refl
behind_entries returned r v f = refl

-- the other jumps go on
pub behind_jump : {V : Type 0} (k other : Exit) (r : PassResult V) (v : V) (f : Option ℕ) → other ≢ k → (u : V) → Contains (jumps_of other r) u → Contains (jumps_of other (jumps_caught k r v f)) u
behind_jump broken broken r v f n u h = absurd (n refl)
behind_jump broken continued r v f n u h = h
behind_jump broken returned r v f n u h = h
behind_jump continued broken r v f n u h = h
behind_jump continued continued r v f n u h = absurd (n refl)
behind_jump continued returned r v f n u h = h
behind_jump returned broken r v f n u h = h
behind_jump returned continued r v f n u h = h
behind_jump returned returned r v f n u h = absurd (n refl)

module _ (V H : Type 0) (m : Abstraction V H) (laws : Laws m) where
  -- joins
  joined_all : (v : V) (us : List V) (e : Exactness) (w : V) → AreJoined (lossy_operations m) v us e w
      → ((st : List ℤ) → Has m v st → Has m w st) × ((u : V) → Contains us u → (st : List ℤ) → Has m u st → Has m w st)
  joined_all v [] e w h = (λ st k. subst (λ (x : V). Has m x st) (sym h.0) k, λ u k. absurd (omega (arith, k.1)))
  joined_all v (u ∷ us) e w (x, c, d, one, rest, is) =
      let r = joined_all x us d w rest in (
        λ st k. r.0 st (covered_has m laws v x one.0.formed one.0.left st k),
        λ y there st k. elim (contains_cases u y us there) [
          | inl same ↦ r.0 st (covered_has m laws u x one.0.formed one.0.right st (subst (λ (z : V). Has m z st) (sym same) k))
          | inr later ↦ r.1 y later st k
        ],
      )

  joined_call : (vs : List V) (n : V) (e : Exactness) (w : V) → AreJoined (lossy_operations m) (first_of_call vs n).0 (first_of_call vs n).1 e w
      → ((st : List ℤ) → Has m n st → Has m w st) × ((u : V) → Contains vs u → (st : List ℤ) → Has m u st → Has m w st)
  joined_call [] n e w h = joined_all n [] e w h
  joined_call (v ∷ vs) n e w h =
      let r = joined_all v (vs ++ n ∷ []) e w h in (
        λ st k. r.1 n (Contains-append_right vs (n ∷ []) n (contains_head n [])) st k,
        λ u there st k. elim (contains_cases v u vs there) [ inl same ↦ r.0 st (subst (λ (z : V). Has m z st) (sym same) k) | inr later ↦ r.1 u (Contains-append_left vs (n ∷ []) u later) st k ],
      )

  pub joined_caught : (k : Exit) (r : PassResult V) (e : Exactness) (w : V) → AreJoined (lossy_operations m) (values_behind k r).0 (values_behind k r).1 e w
      → ((st : List ℤ) → Has m r.normal st → Has m w st) × ((u : V) → Contains (jumps_of k r) u → (st : List ℤ) → Has m u st → Has m w st)
  joined_caught broken r e w h = joined_all r.normal r.breaks e w h
  joined_caught continued r e w h = joined_all r.normal r.continues e w h
  joined_caught returned r e w h = joined_call r.returns r.normal e w h

-- which labels a value is
equals : (z y : ℤ) → int_eq z y ≡ true → compares equal z y ≡ true
equals z y e = let same : z ≡ y = (Decides-int_eq z y).0 e in grind (arith, ints, same)

pub unequal : (z y : ℤ) → int_eq z y ≡ false → compares equal z y ≡ false
unequal z y e = by (compares equal z y) refl
  where
    by : (b : Bool) → compares equal z y ≡ b → b ≡ false
    by false i = refl
    by true i = absurd (let same : z ≡ y = grind (arith, ints, i) in let no : true ≡ false = sym ((Decides-int_eq z y).1 same) ∙ e in cc)

module _ (V H : Type 0) (m : Abstraction V H) (laws : Laws m) where
  -- what comes in at a label that is the value's, and what has no match
  module _ (base : ℕ) (e : Expr) (s : State) (z : ℤ) (left : List ℤ) (got : value_of e (environment_at base s) s.draws ≡ Some (z, left)) where
    no_match : (labels : List CaseLabel) (v : V) (x : Exactness) (w : V) → MatchesNone (lossy_operations m) base e labels v x w
        → list_any (is_same_case (Case z)) labels ≡ false → Has m v s.store → Has m w s.store
    no_match [] v x w (same, exact) none h = subst (λ (y : V). Has m y s.store) (sym same) h
    no_match (Case y ∷ labels) v x w (u, c, d, one, rest, worst) none h =
        let (here, later) = or_parts (int_eq z y) (list_any (is_same_case (Case z)) labels) none in
        no_match labels u d w rest later (values_keep V H m laws base e y false v c u one s z left h got (unequal z y here))
    no_match (Default ∷ labels) v x w rest none h = no_match labels v x w rest none h

    pub enters_has : (labels : List CaseLabel) (k : CaseLabel) (v other : V) (c x : Exactness) (u : V) →
        MatchesNone (lossy_operations m) base e labels v c other
        → Has m v s.store
        → Enters (lossy_operations m) base e k v other x u → is_same_case (goal_of z labels) k ≡ true → Has m u s.store
    enters_has labels k v other c x u none h enters alike = by (list_any (is_same_case (Case z)) labels) k refl enters alike
      where
        by : (b : Bool) (k : CaseLabel) → list_any (is_same_case (Case z)) labels ≡ b → Enters (lossy_operations m) base e k v other x u
            → is_same_case (if b then Case z else Default) k ≡ true → Has m u s.store
        by true (Case y) i made a = values_keep V H m laws base e y true v x u made s z left h got (equals z y a)
        by true Default i made a = absurd (let no : false ≡ true = a in cc)
        by false (Case y) i made a = absurd (let no : false ≡ true = a in cc)
        by false Default i (same, exact) a = subst (λ (y : V). Has m y s.store) (sym same) (no_match labels v c other none i h)

    -- if the label isn't met at the end, no label is `default`, and there is no match
    pub out_has : (labels : List CaseLabel) (v other : V) (c : Exactness) → MatchesNone (lossy_operations m) base e labels v c other → Has m v s.store
        → list_any (is_same_case (goal_of z labels)) labels ≡ false
        → (list_any (is_same_case Default) labels ≡ false) × Has m other s.store
    out_has labels v other c none h never = by (list_any (is_same_case (Case z)) labels) refl never
      where
        by : (b : Bool) → list_any (is_same_case (Case z)) labels ≡ b → list_any (is_same_case (if b then Case z else Default)) labels ≡ false
            → (list_any (is_same_case Default) labels ≡ false) × Has m other s.store
        by true i a = absurd (let no : true ≡ false = sym i ∙ a in cc)
        by false i a = (a, no_match labels v c other none i h)

  -- joins of what runs with what comes in, by what each of them has
  joins_left : (running u : V) (y : Exactness) (w : V) → JoinsRunning (lossy_operations m) (Some running) u y w → (st : List ℤ) → Has m running st → Has m w st
  joins_left running u y w joined st h = covered_has m laws running w joined.0.formed joined.0.left st h

  joins_right : (o : Option V) (u : V) (y : Exactness) (w : V) → JoinsRunning (lossy_operations m) o u y w → (st : List ℤ) → Has m u st → Has m w st
  joins_right None u y w (same, exact) st h = subst (λ (x : V). Has m x st) (sym same) h
  joins_right (Some running) u y w joined st h = covered_has m laws u w joined.0.formed joined.0.right st h

  pub comes_running : (d : Bool) (running other : V) (x : Exactness) (w : V) → ComesOut (lossy_operations m) d (Some running) other x w → (st : List ℤ) → Has m running st
      → Has m w st
  comes_running true running other x w (same, exact) st h = subst (λ (y : V). Has m y st) (sym same) h
  comes_running false running other x w joined st h = covered_has m laws running w joined.0.formed joined.0.left st h

  pub comes_other : (o : Option V) (other : V) (x : Exactness) (w : V) → ComesOut (lossy_operations m) false o other x w → (st : List ℤ) → Has m other st →
      Has m w st
  comes_other None other x w (same, exact) st h = subst (λ (y : V). Has m y st) (sym same) h
  comes_other (Some running) other x w joined st h = covered_has m laws other w joined.0.formed joined.0.right st h

  -- what runs before some arms has the state, if the label was met
  abbrev pub Runs : Bool → Option V → List ℤ → Type 0
  Runs true None st = ⊥
  Runs true (Some u) st = Has m u st
  Runs false o st = Unit {0}

  -- before it is met: what comes in at it has the state, and so has what comes out if it isn't met
  abbrev pub Waits : ℕ → Expr → Bool → V → V → CaseLabel → Bool → List CaseLabel → List ℤ → Type 0
  Waits base e d v other l true labels st = Unit {0}
  Waits base e d v other l false labels st =
      ((k : CaseLabel) (x : Exactness) (u : V) → Enters (lossy_operations m) base e k v other x u → is_same_case l k ≡ true → Has m u st) ×
      (list_any (is_same_case l) labels ≡ false → (d ≡ false) × Has m other st)

  pub enters_running : (base : ℕ) (e : Expr) (d : Bool) (v other : V) (l k : CaseLabel) (labels : List CaseLabel) (st : List ℤ) (met alike : Bool)
      (o : Option V)
      (x y : Exactness) (u w : V) → is_same_case l k ≡ alike
      → Enters (lossy_operations m) base e k v other x u → JoinsRunning (lossy_operations m) o u y w → Runs met o st →
      Waits base e d v other l met (k ∷ labels) st
      → Runs (met || alike) (Some w) st
  enters_running base e d v other l k labels st true alike None x y u w i enters joins runs waits = absurd runs
  enters_running base e d v other l k labels st true alike (Some running) x y u w i enters joins runs waits = joins_left running u y w joins st runs
  enters_running base e d v other l k labels st false true o x y u w i enters joins runs waits = joins_right o u y w joins st (waits.0 k x u enters i)
  enters_running base e d v other l k labels st false false o x y u w i enters joins runs waits = tt

  pub waits_on : (base : ℕ) (e : Expr) (d : Bool) (v other : V) (l k : CaseLabel) (labels : List CaseLabel) (st : List ℤ) (met alike : Bool) → is_same_case l k ≡ alike
      → Waits base e d v other l met (k ∷ labels) st → Waits base e d v other l (met || alike) labels st
  waits_on base e d v other l k labels st true alike i waits = tt
  waits_on base e d v other l k labels st false true i waits = tt
  waits_on base e d v other l k labels st false false i waits = (waits.0, λ none. waits.1 (or_from (is_same_case l k) (list_any (is_same_case l) labels) i none))
