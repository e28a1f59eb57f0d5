-- How many steps are left falls with each round of a loop.
use Rattle.std.proofs.Common.{◌≡◌, ◌≢◌, ℕ, suc, ◌+◌, ◌-◌, ◌*◌, ◌<◌, ◌≤◌, ◌^◌, List, [], ◌∷◌, ◌++◌, Option, Some, Box, Global, arith, ap, subst, sym, ◌∙◌}
use Rattle.std.proofs.{Math.Nat.suc-mul, lemmas.List.Sums.sum_by-append, lemmas.List.Sums.sum_by-cons, lemmas.Nat.mul-le, lemmas.Nat.mul-add-lt, lemmas.Result.IfOk-weaker}
use Rattle.std.specs.{List.sum_by, Prelude.IfOk, Prelude.option_to_list}
use Rattle.std.specs.Prelude as outcome_or
use Rattle.lra_fixpoint.specs.Crates.lra_analysis_spec.Plan.{Plan, Widening, mode_at}
use Rattle.lra_fixpoint.specs.Crates.{lra_domain.Abstraction.Abstraction, lra_domain.Rank.RankFits, lra_domain.Rank.RankBelow, lra_domain.declared.Mode.TheVariants.Join, lra_domain.declared.Rank.Rank}
use Rattle.lra_pass_results.specs.{declared.outcome.PassOutcome.PassOutcome, declared.tree_forms.Loop.Loop}
use Rattle.lra_pass_stack.specs.StepsLeft.{all_left, most_rounds, next_left, place_left, rounds_left, tree_steps, turns_left}
use Rattle.lra_pass_stack.specs.{declared.stack.Entering.Entering, declared.stack.Next.TheVariants.Passed, declared.stack.Next.TheVariants.Opens, declared.stack.Next.TheVariants.Again}
use Rattle.lra_pass_stack.specs.declared.stack.Next as next
use Rattle.lra_pass_stack.specs.declared.stack.PassFrame as place
use Rattle.lra_fixpoint.proofs.PassLoops.{grow_falls}

same : (n : ℕ) → n ≤ n
same n = omega arith

-- more rounds
rounds_more : (j k b : ℕ) → j ≤ k → 1 + j * suc b ≤ 1 + k * suc b
rounds_more j k b few = let more : j * suc b ≤ k * suc b = mul-le j (suc b) k (suc b) few (same (suc b)) in omega (arith, more)

-- four digits of a base
four_fit : (b one two three four : ℕ) → one < b → two < b → three < b → four < b →
    ((one * b + two) * b + three) * b + four < b * (b * (b * b))
four_fit b one two three four f1 f2 f3 f4 =
    mul-add-lt _ b _ _ (mul-add-lt _ b _ _ (mul-add-lt _ b _ _ f1 f2) f3) f4

below_base : (n : ℕ) → n < 2 ^ 62 → n < 2 ^ 64
below_base n h = omega arith

-- a head from whatever value it starts
rounds_fit : (delay d w : ℕ) → d < w → delay * w + d < suc delay * w
rounds_fit delay d w below = omega (arith, suc-mul delay w, below)

head_fits : (delay : ℕ) (r : Rank) → RankFits r → rounds_left (2 ^ 64) delay r
    < suc delay * (2 ^ 64 * (2 ^ 64 * (2 ^ 64 * 2 ^ 64)))
head_fits delay r fits = rounds_fit delay _ _ (four_fit (2 ^ 64) r.first r.second r.third r.fourth
    (below_base _ fits.fits_first) (below_base _ fits.fits_second) (below_base _ fits.fits_third)
    (below_base _ fits.fits_fourth))

module _ {V H E : Type 0} (m : Abstraction V H) (set : Plan) (R : outcome_or.Result (next.Next V H) E) where
  -- what comes next has fewer steps left
  abbrev pub TakesLess : ℕ → ℕ → Type 0
  TakesLess b n = IfOk R (λ n'. next_left m b set n' < n)

  takes_less : (R' : outcome_or.Result (next.Next V H) E) (b k n : ℕ) → k ≤ n →
      IfOk R' (λ n'. next_left m b set n' < k) → IfOk R' (λ n'. next_left m b set n' < n)
  takes_less (outcome_or.Ok x) b k n few h = omega (arith, few, h)
  takes_less (outcome_or.Err e) b k n few h = tt

  -- none is left
  pub ends_less : (b n : ℕ) → 0 < n → IfOk R (λ n'. next_left m b set n' ≡ 0) → TakesLess b n
  ends_less b n some h = IfOk-weaker R (λ n'. next_left m b set n' ≡ 0) (λ n'. next_left m b set n' < n)
      (λ n' none. omega (arith, none, some)) h

  -- a choice
  pub choice_less : (b one two n : ℕ) → n ≡ 3 + (one + two) → IfOk R (λ n'. next_left m b set n' ≡ 2 + (two + one)) →
      TakesLess b n
  choice_less b one two n is h = IfOk-weaker R (λ n'. next_left m b set n' ≡ 2 + (two + one))
      (λ n'. next_left m b set n' < n) (λ n' same. omega (arith, is, same)) h

  turns_less : (l : Loop) (b j k : ℕ) → j ≤ k → TakesLess b (turns_left m b set l j) → TakesLess b (turns_left m b set l k)
  turns_less l b j k few = takes_less R b (turns_left m b set l j) (turns_left m b set l k)
      (rounds_more j k (tree_steps m b set l.body.now) few)

  -- a loop from its beginning on
  pub begun_less : (l : Loop) (left : ℕ) (r : Rank) → left ≡ set.delay → RankFits r →
      TakesLess (2 ^ 64) (turns_left m (2 ^ 64) set l (suc (set.narrow + rounds_left (2 ^ 64) left r))) →
      TakesLess (2 ^ 64) (2 + most_rounds (2 ^ 64) set * suc (tree_steps m (2 ^ 64) set l.body.now))
  begun_less l left r begun fits h =
      let b = tree_steps m (2 ^ 64) set l.body.now in
      let fit : rounds_left (2 ^ 64) left r < suc set.delay * (2 ^ 64 * (2 ^ 64 * (2 ^ 64 * 2 ^ 64))) =
      subst (λ k. rounds_left (2 ^ 64) left r < suc k * (2 ^ 64 * (2 ^ 64 * (2 ^ 64 * 2 ^ 64)))) begun (head_fits left r fits) in
      let few : suc (set.narrow + rounds_left (2 ^ 64) left r) ≤ most_rounds (2 ^ 64) set = omega (arith, fit) in
      let more = rounds_more (suc (set.narrow + rounds_left (2 ^ 64) left r)) (most_rounds (2 ^ 64) set) b few in
      takes_less R (2 ^ 64) (turns_left m (2 ^ 64) set l (suc (set.narrow + rounds_left (2 ^ 64) left r)))
      (2 + most_rounds (2 ^ 64) set * suc b) (omega (arith, more)) h

  -- one that is stable
  pub stable_less : (l : Loop) (narrow left : ℕ) (r : Rank) → narrow ≡ set.narrow →
      TakesLess (2 ^ 64) (turns_left m (2 ^ 64) set l narrow) →
      TakesLess (2 ^ 64) (turns_left m (2 ^ 64) set l (set.narrow + rounds_left (2 ^ 64) left r))
  stable_less l narrow left r is = turns_less l (2 ^ 64) narrow (set.narrow + rounds_left (2 ^ 64) left r) (omega (arith, is))

  -- one that grew
  pub grown_less : (l : Loop) (widening : Widening) (left left' : ℕ) (r r' : Rank) → RankFits r' → left' ≡ left - 1 →
      (mode_at widening left ≢ Join → RankBelow r' r) →
      TakesLess (2 ^ 64) (turns_left m (2 ^ 64) set l (suc (set.narrow + rounds_left (2 ^ 64) left' r'))) →
      TakesLess (2 ^ 64) (turns_left m (2 ^ 64) set l (set.narrow + rounds_left (2 ^ 64) left r))
  grown_less l widening left left' r r' fits is lower =
      let falls : rounds_left (2 ^ 64) left' r' < rounds_left (2 ^ 64) left r = grow_falls widening left left' r r' fits is lower in
      turns_less l (2 ^ 64) (suc (set.narrow + rounds_left (2 ^ 64) left' r')) (set.narrow + rounds_left (2 ^ 64) left r)
      (omega (arith, falls))

  -- one that is narrowed
  pub narrowed_less : (l : Loop) (b left k : ℕ) → left ≡ suc k → TakesLess b (turns_left m b set l (suc k)) →
      TakesLess b (turns_left m b set l left)
  narrowed_less l b left k is = turns_less l b (suc k) left (omega (arith, is))

-- the whole list falls with what is left at its innermost place
module _ {V H : Type 0} (m : Abstraction V H) (b : ℕ) (set : Plan) (ps : List (place.PassFrame V H))
    (p : place.PassFrame V H) (n n' : next.Next V H) where
  one_more : sum_by (place_left m b set) (ps ++ p ∷ []) ≡ sum_by (place_left m b set) ps + place_left m b set p
  one_more =
      let last : sum_by (place_left m b set) (p ∷ []) ≡ place_left m b set p + 0 =
      sum_by-cons (place_left m b set) p [] in
      let both = sum_by-append (place_left m b set) ps (p ∷ []) in
      omega (arith, last, both)

  pub popped_less : (all : List (place.PassFrame V H)) (o : Option (place.PassFrame V H)) (r : PassOutcome V) → n ≡ Passed r →
      all ≡ ps ++ option_to_list o → o ≡ Some p → next_left m b set n' < place_left m b set p →
      all_left m b set ps n' < all_left m b set all n
  popped_less all o r is left some less =
      let none : next_left m b set n ≡ 0 = ap (next_left m b set) is in
      let same : sum_by (place_left m b set) all ≡ sum_by (place_left m b set) ps + place_left m b set p =
      ap (sum_by (place_left m b set)) left ∙ ap (λ (x : Option (place.PassFrame V H)).
      sum_by (place_left m b set) (ps ++ option_to_list x)) some ∙ one_more in
      omega (arith, none, same, less)

  pub again_less : (c : Box (place.PassFrame V H) Global) (r : PassOutcome V) → n ≡ Again c r → p ≡ c.value →
      next_left m b set n' < place_left m b set p → all_left m b set ps n' < all_left m b set ps n
  again_less c r is inside less =
      let same : next_left m b set n ≡ place_left m b set p =
      ap (next_left m b set) is ∙ ap (place_left m b set) (sym inside) in
      omega (arith, same, less)

  pub pushed_less : (all : List (place.PassFrame V H)) (tree : Entering V) → n ≡ Opens p tree → all ≡ ps ++ p ∷ [] →
      next_left m b set n' < tree_steps m b set tree.node.now → all_left m b set all n' < all_left m b set ps n
  pushed_less all tree is more less =
      let here : next_left m b set n ≡ place_left m b set p + tree_steps m b set tree.node.now =
      ap (next_left m b set) is in
      let same : sum_by (place_left m b set) all ≡ sum_by (place_left m b set) ps + place_left m b set p =
      ap (sum_by (place_left m b set)) more ∙ one_more in
      omega (arith, here, same, less)
