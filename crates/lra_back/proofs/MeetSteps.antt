-- The last heads' values, met with the forward values; and lists that grow by one at their ends.
use Rattle.std.proofs.Common.{◌≡◌, ◌≤◌, ◌+◌, ℕ, zero, suc, List, [], ◌∷◌, ◌++◌, length, drop, Option, Some, refl, sym, ap, subst, ◌∙◌, arith, append_assoc, slice_get, length-append}
use Rattle.std.proofs.{lemmas.List.append-nil, lemmas.List.drop_all, lemmas.Option.none-some}
use Rattle.lra_domain.specs.{Abstraction.worse, declared.Exactness.Exactness}
use Rattle.lra_back.specs.Crates.lra_analysis_spec.Pass.{noted}
use Rattle.lra_back.specs.{Operations.BackwardOperations, Rounds.AreBackwardValues}
use Rattle.lra_back.proofs.PathSteps.{drop_at}

-- what stands in a list with one more at its end is that one, or stood there
pub append_cases : {A : Type 0} (P : ℕ → A → Type 0) (xs : List A) (x : A) → P (length xs) x
    → ((q : ℕ) (y : A) → slice_get xs q ≡ Some y → P q y) → (q : ℕ) (y : A) → slice_get (xs ++ x ∷ []) q ≡ Some y → P q y
append_cases P [] x here all zero y at =
    let same : x ≡ y = cc in subst (λ a. P 0 a) same here
append_cases P [] x here all (suc q) y at = absurd (none-some y at)
append_cases P (z ∷ xs) x here all zero y at = all 0 y at
append_cases P (z ∷ xs) x here all (suc q) y at =
    append_cases (λ r a. P (suc r) a) xs x here (λ r a there. all (suc r) a there) q y at

pub one_more : {A : Type 0} (xs : List A) (x : A) (n : ℕ) → length xs ≡ n → length (xs ++ x ∷ []) ≡ n + 1
one_more xs x n count = length-append xs (x ∷ []) ∙ ap (λ k. k + 1) count

module _ {V H : Type 0} (ops : BackwardOperations V H) (heads : List H) (forward : List V) (first : Option ℕ) where
  -- whatever is met from this number on, is met in all
  abbrev pub StillMeets : ℕ → Option ℕ → List V → Type 0
  StillMeets i flag values = (g : Option ℕ) (more : List V) → AreBackwardValues ops i flag (drop i heads) (drop i forward) g more
      → AreBackwardValues ops 0 first heads forward g (values ++ more)

  pub next_meets : (i j : ℕ) (flag : Option ℕ) (values : List V) (h : H) (x v w : V) (c d e : Exactness) (g : Option ℕ) → j ≡ suc i → slice_get heads i ≡ Some h
      → slice_get forward i ≡ Some x → StillMeets i flag values → ops.forward.valued h c v → ops.meet v x d w → e ≡ worse c d → g ≡ noted i e flag
      → StillMeets j g (values ++ w ∷ [])
  next_meets i j flag values h x v w c d e g next there at still valued met is flags =
      subst (λ k. StillMeets k g (values ++ w ∷ [])) (sym next) (λ last more rest.
      let same : g ≡ noted i (worse c d) flag = flags ∙ ap (λ (z : Exactness). noted i z flag) is in
      let all : AreBackwardValues ops i flag (h ∷ drop (suc i) heads) (x ∷ drop (suc i) forward) last (w ∷ more) = (
        v,
        w,
        c,
        d,
        more,
        valued,
        met,
        subst (λ (z : Option ℕ). AreBackwardValues ops (suc i) z (drop (suc i) heads) (drop (suc i) forward) last more) same rest,
        refl,
      ) in
      let both : AreBackwardValues ops i flag (drop i heads) (drop i forward) last (w ∷ more) =
      subst (λ (xs : List V). AreBackwardValues ops i flag (drop i heads) xs last (w ∷ more)) (sym (drop_at forward i x at))
      (subst (λ (hs : List H). AreBackwardValues ops i flag hs (x ∷ drop (suc i) forward) last (w ∷ more)) (sym (drop_at heads i h there)) all) in
      subst (λ (xs : List V). AreBackwardValues ops 0 first heads forward last xs) (sym (append_assoc values (w ∷ []) more)) (still last (w ∷ more) both))

  pub last_meets : (i : ℕ) (flag : Option ℕ) (values : List V) → length forward ≤ i → length heads ≡ length forward → StillMeets i flag values
      → AreBackwardValues ops 0 first heads forward flag values
  last_meets i flag values end count still =
      let no_values : drop i forward ≡ [] = drop_all i forward end in
      let no_heads : drop i heads ≡ [] = drop_all i heads (omega arith) in
      let met : AreBackwardValues ops i flag (drop i heads) (drop i forward) flag [] =
      subst (λ (xs : List V). AreBackwardValues ops i flag (drop i heads) xs flag []) (sym no_values)
      (subst (λ (hs : List H). AreBackwardValues ops i flag hs [] flag []) (sym no_heads) (refl, refl)) in
      subst (λ (xs : List V). AreBackwardValues ops 0 first heads forward flag xs) (append-nil values) (still flag [] met)
