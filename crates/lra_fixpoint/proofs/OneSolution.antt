-- The written iteration has one solution: one value at each point, one verdict on each assertion.
use Rattle.std.proofs.Common.{◌≡◌, ◌↔◌, ℕ, suc, List, [], ◌∷◌, Option, Some, Bool, true, false, refl, sym, subst}
use Rattle.std.proofs.lemmas.Option.{same_Some, none-some}
use Rattle.std.specs.{List.Contains, Prelude.slice_get, Prelude.IsTrue}
use Rattle.lra_fixpoint.specs.Crates.lra_analysis_spec.Analysis.{IsUnreachable, IsSolution, ExactIteration}
use Rattle.lra_fixpoint.specs.Crates.{lra_analysis_spec.Operations.exact_operations, lra_analysis_spec.Pass.PassResult, lra_analysis_spec.Pass.failing, lra_analysis_spec.Plan.Plan}
use Rattle.lra_fixpoint.specs.Crates.{lra_domain.Abstraction.Abstraction, lra_domain.Laws.SingleLaws, lra_program.Program.Program, lra_program.Sites.sites_of}
use Rattle.lra_operations.specs.Tree.{Node}
use Rattle.lra_fixpoint.proofs.Crates.lra_analysis_spec.OneIteration.{one_written}
use Rattle.lra_fixpoint.specs.Numbers.{IsNumbered}
use Rattle.lra_fixpoint.proofs.Counting.{iteration_fails_once}

-- two lists with the same members in the same places
same_list : {A : Type 0} (xs ys : List A) → ((i : ℕ) (x : A) → (slice_get xs i ≡ Some x) ↔ (slice_get ys i ≡ Some x)) → xs ≡ ys
same_list [] [] h = refl
same_list [] (y ∷ ys) h = absurd (none-some _ ((h 0 y).1 refl))
same_list (x ∷ xs) [] h = absurd (none-some _ ((h 0 x).0 refl))
same_list (x ∷ xs) (y ∷ ys) h =
    let head : x ≡ y = sym (same_Some _ _ ((h 0 x).0 refl)) in
    let tail : xs ≡ ys = same_list xs ys (λ i z. h (suc i) z) in
    rw (head, tail) refl

same_bool : (a b : Bool) → (IsTrue a → IsTrue b) → (IsTrue b → IsTrue a) → a ≡ b
same_bool true true f g = refl
same_bool false false f g = refl
same_bool true false f g = sym (f refl)
same_bool false true f g = g refl

module _ {V H : Type 0} (m : Abstraction V H) (r : PassResult V) where
  pub one_values : (xs ys : List V) (vs ws : List (ℕ × Bool)) (f g : Option ℕ) → IsSolution m r xs vs f → IsSolution m r ys ws g → xs ≡ ys
  one_values xs ys vs ws f g a b = same_list xs ys (λ i x. (λ h. (b.is_value i x).1 ((a.is_value i x).0 h), λ h. (a.is_value i x).1 ((b.is_value i x).0 h)))

  -- if no assertion has two values at which it is false
  pub one_verdict : (xs ys : List V) (vs ws : List (ℕ × Bool)) (f g : Option ℕ) → ((q : ℕ) (u v : V) → Contains r.entries (failing q u) → Contains r.entries (failing q v) → u ≡ v)
      → IsSolution m r xs vs f → IsSolution m r ys ws g → (q : ℕ) (a b : Bool) → Contains vs (q, a) → Contains ws (q, b) → a ≡ b
  one_verdict xs ys vs ws f g once x y q a b i j =
      let (u, at, tells) = x.is_verdict q a i in
      let (v, there, says) = y.is_verdict q b j in
      let same : u ≡ v = once q u v at there in
      same_bool a b (λ h. says.1 (subst (IsUnreachable m) same (tells.0 h))) (λ h. tells.1 (subst (IsUnreachable m) (sym same) (says.0 h)))

pub one_solution : {V H : Type 0} (m : Abstraction V H) → SingleLaws m → (set : Plan) (P : Program) (g : Node) (r s : PassResult V) (xs ys : List V) (vs ws : List (ℕ × Bool)) (e f : Option ℕ)
    → IsNumbered (sites_of P) g → ExactIteration m set P g r → ExactIteration m set P g s → IsSolution m r xs vs e → IsSolution m s ys ws f
    → (xs ≡ ys) × ((q : ℕ) (a b : Bool) → Contains vs (q, a) → Contains ws (q, b) → a ≡ b)
one_solution {V} {H} m laws set P g r s xs ys vs ws e f numbered a b x y =
    let same : s ≡ r = one_written m laws set P g s r b a in
    let z : IsSolution m r ys ws f = subst (λ (t : PassResult V). IsSolution m t ys ws f) same y in (
      one_values m r xs ys vs ws e f x z,
      one_verdict m r xs ys vs ws e f (iteration_fails_once (exact_operations m) set P g r numbered a) x z,
    )
