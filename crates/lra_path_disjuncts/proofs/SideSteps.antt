-- Disjuncts are what an iteration over lists of paths makes, and the cases of moves; moves lead where one of their
-- disjuncts leads.
use Rattle.std.proofs.Common.{◌≡◌, ℤ, List, [], ◌∷◌, ◌++◌, map, inl, inr, refl, sym, ap, ◌∙◌, subst, append-nil, append_assoc}
use Rattle.std.proofs.lemmas.List.Sorted.{IsPermutation-refl, IsPermutation-append, IsPermutation-append_left, IsPermutation-append_right, IsPermutation-append_comm, IsPermutation-cons}
use Rattle.std.proofs.lemmas.List.Sorted.{IsPermutation-trans, IsPermutation-map}
use Rattle.std.specs.{List.flat_map, List.Sorted.IsPermutation, Prelude.◌↔◌, Prelude.◌⊎◌}
use Rattle.lra_path_disjuncts.specs.Crates.lra_domain.Moves.{Moves, stay, make, first_then, join_of, MayLead, LeadsAll, SomeLeads, cases}
use Rattle.lra_path_disjuncts.specs.Crates.lra_domain.declared.Exactness.{Exactness}
use Rattle.lra_path_disjuncts.specs.Crates.{lra_analysis_spec.Moves.AreMade, lra_domain.Abstraction.worse, lra_domain.Actions.Action, lra_domain.declared.Exactness.TheVariants.Exact}
use Rattle.lra_path_segments.specs.Segments.{each_then}
use Rattle.lra_path_disjuncts.specs.Disjuncts.{disjuncts, on_paths, DisjunctsAreMade}
use Rattle.lra_path_segments.proofs.{FlatSteps.flat_none, Lists.each_then_nil, Lists.each_then_append, Lists.each_then_assoc}

-- an iteration over lists of paths makes the disjuncts ----------------------------------------------------------------

module _ (p : Moves) (paths : List (List Action)) where
  abbrev Behind : Exactness → List (List Action) → Type 0
  Behind e more = (more ≡ each_then paths (disjuncts p)) × (e ≡ Exact)

both_exact : (e c d : Exactness) → e ≡ worse c d → c ≡ Exact → d ≡ Exact → e ≡ Exact
both_exact e c d worst one two = worst ∙ ap (λ x. worse x d) one ∙ two

pub made_behind : (p : Moves) (paths : List (List Action)) (e : Exactness) (more : List (List Action)) → AreMade on_paths p paths e more → Behind p paths e more
made_behind stay paths e more (same, exact) = (same ∙ sym (each_then_nil paths), exact)
made_behind (make step) paths e more (exact, is) = (is ∙ sym (append-nil (map (λ path. path ++ step ∷ []) paths)), exact)
made_behind (first_then a b) paths e more (x, c, d, one, two, worst) =
    let (first, left) = made_behind a paths c x one in
    let (last, right) = made_behind b x d more two in
    (last ∙ ap (λ w. each_then w (disjuncts b)) first ∙ sym (each_then_assoc paths (disjuncts a) (disjuncts b)), both_exact e c d worst left right)
made_behind (join_of a b) paths e more (x, y, c, d, i, one, two, (exact, both), worst) =
    let (first, left) = made_behind a paths c x one in
    let (last, right) = made_behind b paths d y two in (
      both ∙ ap (λ w. w ++ y) first ∙ ap (λ w. each_then paths (disjuncts a) ++ w) last ∙ sym (each_then_append paths (disjuncts a) (disjuncts b)),
      both_exact e (worse c d) i worst (both_exact (worse c d) c d refl left right) exact,
    )

pub behind_made : (p : Moves) (paths : List (List Action)) → AreMade on_paths p paths Exact (each_then paths (disjuncts p))
behind_made stay paths = (each_then_nil paths, refl)
behind_made (make step) paths = (refl, append-nil (map (λ path. path ++ step ∷ []) paths))
behind_made (first_then a b) paths =
    let last = subst (λ w. AreMade on_paths b (each_then paths (disjuncts a)) Exact w) (sym (each_then_assoc paths (disjuncts a) (disjuncts b)))
    (behind_made b (each_then paths (disjuncts a))) in
    (each_then paths (disjuncts a), Exact, Exact, behind_made a paths, last, refl)
behind_made (join_of a b) paths = (
  each_then paths (disjuncts a),
  each_then paths (disjuncts b),
  Exact,
  Exact,
  Exact,
  behind_made a paths,
  behind_made b paths,
  (refl, each_then_append paths (disjuncts a) (disjuncts b)),
  refl,
)

pub sides_made : DisjunctsAreMade
sides_made p paths e more = (
  made_behind p paths e more,
  λ is. subst (λ w. AreMade on_paths p paths e w) (sym is.0) (subst (λ x. AreMade on_paths p paths x (each_then paths (disjuncts p))) (sym is.1)
      (behind_made p paths)),
)

-- the disjuncts are the cases in another order ------------------------------------------------------------------------

module _ {A B : Type 0} where
  flat_permuted : (f g : A → List B) → ((x : A) → IsPermutation (f x) (g x)) → (xs : List A) → IsPermutation (flat_map f xs) (flat_map g xs)
  flat_permuted f g h [] = IsPermutation-refl []
  flat_permuted f g h (x ∷ xs) = IsPermutation-append (f x) (g x) (flat_map f xs) (flat_map g xs) (h x) (flat_permuted f g h xs)

  -- one of each before all
  one_before : (f : A → B) (g : A → List B) (xs : List A) → IsPermutation (map f xs ++ flat_map g xs) (flat_map (λ x. f x ∷ g x) xs)
  one_before f g [] = IsPermutation-refl []
  one_before f g (x ∷ xs) =
      let swapped = subst2 (append_assoc (map f xs) (g x) (flat_map g xs)) (append_assoc (g x) (map f xs) (flat_map g xs))
      (IsPermutation-append_left (flat_map g xs) (map f xs ++ g x) (g x ++ map f xs) (IsPermutation-append_comm (map f xs) (g x))) in
      let rest = IsPermutation-append_right (g x) (map f xs ++ flat_map g xs) (flat_map (λ y. f y ∷ g y) xs) (one_before f g xs) in
      IsPermutation-cons (f x) (map f xs ++ (g x ++ flat_map g xs)) (g x ++ flat_map (λ y. f y ∷ g y) xs)
      (IsPermutation-trans (map f xs ++ (g x ++ flat_map g xs)) (g x ++ (map f xs ++ flat_map g xs)) (g x ++ flat_map (λ y. f y ∷ g y) xs) swapped rest)
    where
      subst2 : {us vs ws zs : List B} → us ≡ vs → ws ≡ zs → IsPermutation us ws → IsPermutation vs zs
      subst2 {us} {vs} {ws} {zs} e d h = subst (λ l. IsPermutation vs l) d (subst (λ l. IsPermutation l ws) e h)

-- pairs, whichever of the two is the outer one
module _ {A B C : Type 0} (f : A → B → C) where
  none_paired : (ys : List B) → flat_map (λ y. map (λ x. f x y) []) ys ≡ []
  none_paired ys = flat_none (λ y. map (λ x. f x y) []) (λ y. refl) ys

  pairs_turned : (xs : List A) (ys : List B) → IsPermutation (flat_map (λ x. map (f x) ys) xs) (flat_map (λ y. map (λ x. f x y) xs) ys)
  pairs_turned [] ys = subst (λ l. IsPermutation [] l) (sym (none_paired ys)) (IsPermutation-refl [])
  pairs_turned (x ∷ xs) ys = IsPermutation-trans (map (f x) ys ++ flat_map (λ z. map (f z) ys) xs) (map (f x) ys ++ flat_map (λ y. map (λ z. f z y) xs) ys)
      (flat_map (λ y. f x y ∷ map (λ z. f z y) xs) ys)
      (IsPermutation-append_right (map (f x) ys) (flat_map (λ z. map (f z) ys) xs) (flat_map (λ y. map (λ z. f z y) xs) ys) (pairs_turned xs ys))
      (one_before (f x) (λ y. map (λ z. f z y) xs) ys)

pub disjuncts_are_cases : (p : Moves) → IsPermutation (cases p) (disjuncts p)
disjuncts_are_cases stay = IsPermutation-refl ([] ∷ [])
disjuncts_are_cases (make step) = IsPermutation-refl ((step ∷ []) ∷ [])
disjuncts_are_cases (first_then a b) =
    let later = flat_permuted (λ (x : List Action). map (λ y. x ++ y) (cases b)) (λ x. map (λ y. x ++ y) (disjuncts b))
    (λ x. IsPermutation-map (λ y. x ++ y) (cases b) (disjuncts b) (disjuncts_are_cases b)) (cases a) in
    let turned = pairs_turned (λ (x : List Action) (y : List Action). x ++ y) (cases a) (disjuncts b) in
    let sooner = flat_permuted (λ (y : List Action). map (λ x. x ++ y) (cases a)) (λ y. map (λ x. x ++ y) (disjuncts a))
    (λ y. IsPermutation-map (λ x. x ++ y) (cases a) (disjuncts a) (disjuncts_are_cases a)) (disjuncts b) in
    IsPermutation-trans (cases (first_then a b)) (each_then (cases a) (disjuncts b)) (each_then (disjuncts a) (disjuncts b))
    (IsPermutation-trans (cases (first_then a b)) (flat_map (λ x. map (λ y. x ++ y) (disjuncts b)) (cases a)) (each_then (cases a) (disjuncts b)) later turned)
    sooner
disjuncts_are_cases (join_of a b) = IsPermutation-append (cases a) (disjuncts a) (cases b) (disjuncts b) (disjuncts_are_cases a) (disjuncts_are_cases b)

-- moves lead where one of their disjuncts leads -----------------------------------------------------------------------

-- one list and then the other lead through a store between them
leads_through : (one two : List Action) (s t : List ℤ) → LeadsAll (one ++ two) s t ↔ ((u : List ℤ) × LeadsAll one s u × LeadsAll two u t)
leads_through [] two s t = (λ led. (s, refl, led), λ led. subst (λ (x : List ℤ). LeadsAll two x t) led.1 led.2)
leads_through (step ∷ steps) two s t = (
  λ led. let (u, a, b) = (leads_through steps two led.0 t).0 led.2 in (u, (led.0, led.1, a), b),
  λ led. let (x, one, rest) = led.1 in (x, one, (leads_through steps two x t).1 (led.0, rest, led.2)),
)

module _ (s t : List ℤ) where
  pub some_left : (ways more : List (List Action)) → SomeLeads ways s t → SomeLeads (ways ++ more) s t
  some_left [] more led = absurd led
  some_left (way ∷ ways) more led = elim led [ inl one ↦ inl one | inr later ↦ inr (some_left ways more later) ]

  pub some_right : (ways more : List (List Action)) → SomeLeads more s t → SomeLeads (ways ++ more) s t
  some_right [] more led = led
  some_right (way ∷ ways) more led = inr (some_right ways more led)

  some_apart : (ways more : List (List Action)) → SomeLeads (ways ++ more) s t → SomeLeads ways s t ⊎ SomeLeads more s t
  some_apart [] more led = inr led
  some_apart (way ∷ ways) more led = elim led [
    | inl one ↦ inl (inl one)
    | inr later ↦ elim (some_apart ways more later) [ inl a ↦ inl (inr a) | inr b ↦ inr b ]
  ]

  -- one list after each of the others
  behind_each : (ways : List (List Action)) (way : List Action) (u : List ℤ) → SomeLeads ways s u → LeadsAll way u t → SomeLeads (map (λ x. x ++ way) ways) s t
  behind_each [] way u first led = absurd first
  behind_each (next ∷ ways) way u first led = elim first [
    | inl one ↦ inl ((leads_through next way s t).1 (u, one, led))
    | inr later ↦ inr
        (behind_each ways way u later led)
  ]

  each_before : (ways : List (List Action)) (way : List Action) → SomeLeads (map (λ x. x ++ way) ways) s t → (u : List ℤ) × SomeLeads ways s u × LeadsAll way u
      t
  each_before [] way led = absurd led
  each_before (next ∷ ways) way led = elim led [
    | inl one ↦ let (u, a, b) = (leads_through next way s t).0 one in (u, inl a, b)
    | inr later ↦ let (u, a, b) = each_before ways way later in (u, inr a, b)
  ]

  -- one of the ones leads, and then one of the others
  pub then_leads : (firsts ways : List (List Action)) (u : List ℤ) → SomeLeads firsts s u → SomeLeads ways u t → SomeLeads (each_then firsts ways) s t
  then_leads firsts [] u first led = absurd led
  then_leads firsts (way ∷ ways) u first led = elim led [
    | inl one ↦ some_left (map (λ x. x ++ way) firsts) (each_then firsts ways) (behind_each firsts way u first one)
    | inr later ↦ some_right (map (λ x. x ++ way) firsts) (each_then firsts ways) (then_leads firsts ways u first later)
  ]

  pub leads_then : (firsts ways : List (List Action)) → SomeLeads (each_then firsts ways) s t → (u : List ℤ) × SomeLeads firsts s u × SomeLeads ways u t
  leads_then firsts [] led = absurd led
  leads_then firsts (way ∷ ways) led = elim (some_apart (map (λ x. x ++ way) firsts) (each_then firsts ways) led) [
    | inl one ↦ let (u, a, b) = each_before firsts way one in (u, a, inl b)
    | inr later ↦ let (u, a, b) = leads_then firsts ways later in (u, a, inr b)
  ]

pub disjuncts_lead : (p : Moves) (s t : List ℤ) → MayLead p s t ↔ SomeLeads (disjuncts p) s t
disjuncts_lead stay s t = (λ led. inl led, λ led. elim led [ inl one ↦ one | inr none ↦ absurd none ])
disjuncts_lead (make step) s t = (
  λ led. inl (t, led, refl),
  λ led. elim led [ inl one ↦ subst (λ (u : List ℤ). MayLead (make step) s u) (sym one.2) one.1 | inr none ↦ absurd none ],
)
disjuncts_lead (first_then a b) s t = (
  λ led. then_leads s t (disjuncts a) (disjuncts b) led.0 ((disjuncts_lead a s led.0).0 led.1) ((disjuncts_lead b led.0 t).0 led.2),
  λ led. let (u, one, two) = leads_then s t (disjuncts a) (disjuncts b) led in (u, (disjuncts_lead a s u).1 one, (disjuncts_lead b u t).1 two),
)
disjuncts_lead (join_of a b) s t = (
  λ led. elim led [
    | inl one ↦ some_left s t (disjuncts a) (disjuncts b) ((disjuncts_lead a s t).0 one)
    | inr two ↦ some_right s t (disjuncts a) (disjuncts b)
        ((disjuncts_lead b s t).0 two)
  ],
  λ led. elim (some_apart s t (disjuncts a) (disjuncts b) led) [ inl one ↦ inl ((disjuncts_lead a s t).1 one) | inr two ↦ inr ((disjuncts_lead b s t).1 two) ],
)
