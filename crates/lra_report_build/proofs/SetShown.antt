-- A set of parts is shown by the states of its parts, one after another, if each part is shown by its own.
use Rattle.std.proofs.Common.{◌≡◌, ◌∙◌, ◌⊎◌, ℕ, ◌+◌, ℤ, List, [], ◌∷◌, ◌++◌, length, inl, inr, refl, sym, ap, ap₂, subst, Vec, Global}
use Rattle.std.proofs.lemmas.List.{length-append}
use Rattle.std.specs.{List.AllByRecursion, Prelude.flat_map, Prelude.Result, Prelude.Ok, Prelude.Err, Prelude.IfOk}
use Rattle.lra_report_build.proofs.Crates.lra_linear_spec.Membership.{contains_head, contains_tail}
use Rattle.lra_report_build.specs.Crates.{lra_domain.Abstraction.Abstraction, lra_options.declared.options.Domain.Domain}
use Rattle.lra_powerset.specs.{Abstraction.set_abstraction, Content.SetContent, Content.PartFits, Lists.EachPart, Lists.SomePart}
use Rattle.lra_report.specs.{Listing.HasWidth, Parts.ShowsPart, Report.Invariant, Report.InvariantHolds}
use Rattle.lra_report.proofs.Every.{every_append}
use Rattle.lra_row_text.specs.Part.{Part}
use Rattle.lra_report_build.specs.{Canonical.AreCanonicallyShown, Canonical.IsCanonicalFor, Canonical.IsCanonicalState, Sets.shown_set, Shown.IsShown, Shown.AreShown}

-- states one after another -----------------------------------------------------------------------------------------

holds_first : (a b : Invariant) (s : List ℤ) → InvariantHolds a s → InvariantHolds (a ++ b) s
holds_first [] b s h = absurd h
holds_first (p ∷ a) b s (inl h) = inl h
holds_first (p ∷ a) b s (inr h) = inr (holds_first a b s h)

holds_second : (a b : Invariant) (s : List ℤ) → InvariantHolds b s → InvariantHolds (a ++ b) s
holds_second [] b s h = h
holds_second (p ∷ a) b s h = inr (holds_second a b s h)

holds_either : (a b : Invariant) (s : List ℤ) → InvariantHolds (a ++ b) s → InvariantHolds a s ⊎ InvariantHolds b s
holds_either [] b s h = inr h
holds_either (p ∷ a) b s (inl h) = inl (inl h)
holds_either (p ∷ a) b s (inr h) = elim (holds_either a b s h) [ inl i ↦ inl (inr i) | inr i ↦ inr i ]

-- parts ------------------------------------------------------------------------------------------------------------

module _ {V H : Type 0} (m : Abstraction V H) (domain : Domain) (shown : V → Invariant) where
  rest_shown : (p : V) (ps : List V) → AreShown m domain shown (p ∷ ps) → AreShown m domain shown ps
  rest_shown p ps are v k = are v (contains_tail p v ps k)

  first_shown : (p : V) (ps : List V) → AreShown m domain shown (p ∷ ps) → IsShown m domain p (shown p)
  first_shown p ps are = are p (contains_head p ps)

  as_many : (ps : List V) → AreShown m domain shown ps → length (flat_map shown ps) ≡ length (flat_map m.parts ps)
  as_many [] are = refl
  as_many (p ∷ ps) are =
      length-append (shown p) (flat_map shown ps)
      ∙ ap₂ (λ (a b : ℕ). a + b) (first_shown p ps are).as_many (as_many ps (rest_shown p ps are))
      ∙ sym (length-append (m.parts p) (flat_map m.parts ps))

  -- what is so of n dimensions and of each part of each state
  each_part : (P : ℕ → Part → Type 0) (n : ℕ) (ps : List V) → EachPart (PartFits m n) ps → AreShown m domain shown ps
      → ((p : V) → IsShown m domain p (shown p) → AllByRecursion (P (m.dims p)) (shown p)) → AllByRecursion (P n) (flat_map shown ps)
  each_part P n [] fit are so = tt
  each_part P n (p ∷ ps) fit are so =
      every_append (P n) (shown p) (flat_map shown ps)
      (subst (λ (k : ℕ). AllByRecursion (P k) (shown p)) fit.0.dims (so p (first_shown p ps are)))
      (each_part P n ps fit.1 (rest_shown p ps are) so)

  holds : (ps : List V) (s : List ℤ) → AreShown m domain shown ps → SomePart (λ p. m.gamma p s) ps → InvariantHolds (flat_map shown ps) s
  holds [] s are h = absurd h
  holds (p ∷ ps) s are (inl h) = holds_first (shown p) (flat_map shown ps) s ((first_shown p ps are).holds s h)
  holds (p ∷ ps) s are (inr h) = holds_second (shown p) (flat_map shown ps) s (holds ps s (rest_shown p ps are) h)

  only : (n : ℕ) (ps : List V) (s : List ℤ) → EachPart (PartFits m n) ps → AreShown m domain shown ps → length s ≡ n → InvariantHolds (flat_map shown ps) s
      → SomePart (λ p. m.gamma p s) ps
  only n [] s fit are long h = absurd h
  only n (p ∷ ps) s fit are long h = elim (holds_either (shown p) (flat_map shown ps) s h) [
    | inl own ↦ inl ((first_shown p ps are).only s (long ∙ sym fit.0.dims) own)
    | inr other ↦ inr (only n ps s fit.1 (rest_shown p ps are) long other)
  ]

  -- the set ----------------------------------------------------------------------------------------------------------

  pub set_shown : (v : SetContent V) → EachPart (PartFits m v.dims) v.parts → AreShown m domain shown v.parts →
      IsShown (set_abstraction m) domain v (shown_set shown v)
  set_shown v fit are = record {
    as_many = as_many v.parts are;
    wide = each_part HasWidth v.dims v.parts fit are (λ p is. is.wide);
    tell = each_part (ShowsPart domain) v.dims v.parts fit are (λ p is. is.tell);
    holds = λ s h. holds v.parts s are h.1;
    only = λ s long h. (long, only v.dims v.parts s fit are long h);
  }

  -- and so with a state that is made of a list that has the set's parts
  pub state_told : {E : Type 0} (v : SetContent V) (ps : List V) → ps ≡ v.parts → EachPart (PartFits m v.dims) v.parts → (x : Result (Vec Part Global) E)
      → IfOk x (λ s. s.items ≡ flat_map shown ps) → IfOk x (λ _. AreShown m domain shown ps) → IfOk x (λ s. IsShown (set_abstraction m) domain v s.items)
  state_told v ps same fit (Ok s) is are =
      subst (λ (state : Invariant). IsShown (set_abstraction m) domain v state) (sym (is ∙ ap (flat_map shown) same))
      (set_shown v fit (subst (AreShown m domain shown) same are))
  state_told v ps same fit (Err e) is are = tt

  -- canonical states of the parts make one of the set
  each_canonical : (n : ℕ) (ps : List V) → EachPart (PartFits m n) ps → AreCanonicallyShown domain m.dims shown ps → IsCanonicalState domain n
      (flat_map shown ps)
  each_canonical n [] fit are = tt
  each_canonical n (p ∷ ps) fit are =
      every_append (IsCanonicalFor domain n) (shown p) (flat_map shown ps)
      (subst (λ (k : ℕ). IsCanonicalState domain k (shown p)) fit.0.dims are.0)
      (each_canonical n ps fit.1 are.1)

  pub state_canonical : {E : Type 0} (v : SetContent V) (ps : List V) → ps ≡ v.parts → EachPart (PartFits m v.dims) v.parts → (x : Result (Vec Part Global) E)
      → IfOk x (λ s. s.items ≡ flat_map shown ps) → IfOk x (λ _. AreCanonicallyShown domain m.dims shown ps) → IfOk x
      (λ s. IsCanonicalState domain v.dims s.items)
  state_canonical v ps same fit (Ok s) is are =
      subst (λ (state : Invariant). IsCanonicalState domain v.dims state) (sym (is ∙ ap (flat_map shown) same))
      (each_canonical v.dims v.parts fit (subst (AreCanonicallyShown domain m.dims shown) same are))
  state_canonical v ps same fit (Err e) is are = tt
