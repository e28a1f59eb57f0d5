-- Moves lead where one of their cases leads.
use Rattle.std.proofs.Common.{ℤ, List, [], ◌∷◌, ◌++◌, map, inl, inr, refl, sym, subst}
use Rattle.std.specs.{List.flat_map, Prelude.◌↔◌, Prelude.◌⊎◌}
use Rattle.lra_domain.specs.{Actions.Action, Moves.Moves, Moves.stay, Moves.make, Moves.first_then, Moves.join_of, Moves.MayLead, Moves.cases, Moves.LeadsAll, Moves.SomeLeads}

leads_both : (one two : List Action) (s u t : List ℤ) → LeadsAll one s u → LeadsAll two u t → LeadsAll (one ++ two) s t
leads_both [] two s u t same led = subst (λ (x : List ℤ). LeadsAll two x t) same led
leads_both (step ∷ steps) two s u t (x, one, rest) led = (x, one, leads_both steps two x u t rest led)

leads_apart : (one two : List Action) (s t : List ℤ) → LeadsAll (one ++ two) s t → (u : List ℤ) × LeadsAll one s u × LeadsAll two u t
leads_apart [] two s t led = (s, refl, led)
leads_apart (step ∷ steps) two s t (x, one, rest) = let (u, a, b) = leads_apart steps two x t rest in (u, (x, one, a), b)

module _ (s t : List ℤ) where
  some_left : (ways more : List (List Action)) → SomeLeads ways s t → SomeLeads (ways ++ more) s t
  some_left [] more led = absurd led
  some_left (way ∷ ways) more led = elim led [ inl one ↦ inl one | inr later ↦ inr (some_left ways more later) ]

  some_right : (ways more : List (List Action)) → SomeLeads more s t → SomeLeads (ways ++ more) s t
  some_right [] more led = led
  some_right (way ∷ ways) more led = inr (some_right ways more led)

  some_apart : (ways more : List (List Action)) → SomeLeads (ways ++ more) s t → SomeLeads ways s t ⊎ SomeLeads more s t
  some_apart [] more led = inr led
  some_apart (way ∷ ways) more led = elim led [
    | inl one ↦ inl (inl one)
    | inr later ↦ elim (some_apart ways more later) [ inl a ↦ inl (inr a) | inr b ↦ inr b ]
  ]

  -- one list before each of the others
  before_each : (way : List Action) (ways : List (List Action)) (u : List ℤ) → LeadsAll way s u → SomeLeads ways u t → SomeLeads (map (λ behind. way ++ behind) ways) s t
  before_each way [] u first led = absurd led
  before_each way (next ∷ ways) u first led = elim led [ inl one ↦ inl (leads_both way next s u t first one) | inr later ↦ inr (before_each way ways u first later) ]

  each_behind : (way : List Action) (ways : List (List Action)) → SomeLeads (map (λ behind. way ++ behind) ways) s t → (u : List ℤ) × LeadsAll way s u × SomeLeads ways u t
  each_behind way [] led = absurd led
  each_behind way (next ∷ ways) led = elim led [
    | inl one ↦ let (u, a, b) = leads_apart way next s t one in (u, a, inl b)
    | inr later ↦ let (u, a, b) = each_behind way ways later in (u, a, inr b)
  ]

  abbrev Each : List (List Action) → List (List Action) → List (List Action)
  Each firsts ways = flat_map (λ before. map (λ behind. before ++ behind) ways) firsts

  each_before_each : (firsts ways : List (List Action)) (u : List ℤ) → SomeLeads firsts s u → SomeLeads ways u t → SomeLeads (Each firsts ways) s t
  each_before_each [] ways u first led = absurd first
  each_before_each (way ∷ firsts) ways u first led = elim first [
    | inl one ↦ some_left (map (λ behind. way ++ behind) ways) (Each firsts ways) (before_each way ways u one led)
    | inr later ↦ some_right (map (λ behind. way ++ behind) ways) (Each firsts ways) (each_before_each firsts ways u later led)
  ]

  each_apart : (firsts ways : List (List Action)) → SomeLeads (Each firsts ways) s t → (u : List ℤ) × SomeLeads firsts s u × SomeLeads ways u t
  each_apart [] ways led = absurd led
  each_apart (way ∷ firsts) ways led = elim (some_apart (map (λ behind. way ++ behind) ways) (Each firsts ways) led) [
    | inl one ↦ let (u, a, b) = each_behind way ways one in (u, inl a, b)
    | inr later ↦ let (u, a, b) = each_apart firsts ways later in (u, inr a, b)
  ]

pub cases_lead : (p : Moves) (s t : List ℤ) → MayLead p s t ↔ SomeLeads (cases p) s t
cases_lead stay s t = (λ led. inl led, λ led. elim led [ inl one ↦ one | inr none ↦ absurd none ])
cases_lead (make step) s t = (
  λ led. inl (t, led, refl),
  λ led. elim led [ inl one ↦ subst (λ (u : List ℤ). MayLead (make step) s u) (sym one.2) one.1 | inr none ↦ absurd none ],
)
cases_lead (first_then a b) s t = (
  λ led. each_before_each s t (cases a) (cases b) led.0 ((cases_lead a s led.0).0 led.1) ((cases_lead b led.0 t).0 led.2),
  λ led. let (u, one, two) = each_apart s t (cases a) (cases b) led in (u, (cases_lead a s u).1 one, (cases_lead b u t).1 two),
)
cases_lead (join_of a b) s t = (
  λ led. elim led [ inl one ↦ some_left s t (cases a) (cases b) ((cases_lead a s t).0 one) | inr two ↦ some_right s t (cases a) (cases b) ((cases_lead b s t).0 two) ],
  λ led. elim (some_apart s t (cases a) (cases b) led) [ inl one ↦ inl ((cases_lead a s t).1 one) | inr two ↦ inr ((cases_lead b s t).1 two) ],
)
