-- If an access is reported to be inside its array, the tree doesn't ask there of one that is outside.
use Rattle.std.proofs.Common.{◌≡◌, ◌∙◌, ℕ, List, length, Option, Some, None, Bool, true, refl, sym, ap, subst}
use Rattle.std.proofs.lemmas.Option.{same_Some, slice_get_read}
use Rattle.std.specs.{List.Contains, Prelude.slice_get}
use Rattle.lra_threads_analysis.proofs.Crates.{lra_analysis_spec.AccessesSound.inside_never_stray, lra_analysis_spec.Covers.Has, lra_linear_spec.Membership.map_from}
use Rattle.lra_threads_analysis.specs.Crates.lra_operations.CheckedOperations.{OpAtPoint, accessing_ops, HoldsAtPoint, AreOncePerPoint}
use Rattle.lra_threads_analysis.specs.Crates.{lra_analysis_spec.Accesses.InsideAtPoint, lra_analysis_spec.Accesses.JudgesAccesses, lra_analysis_spec.Judging.answer_of}
use Rattle.lra_threads_analysis.specs.Crates.{lra_analysis_spec.Operations.lossy_operations, lra_base.declared.refusals.Place.Place, lra_domain.Abstraction.Abstraction, lra_domain.Laws.Laws}
use Rattle.lra_threads_analysis.specs.Crates.{lra_operations.Tree.Node, lra_program.Accesses.op_accesses_any, lra_program.Accesses.OpOutOfBounds, lra_program.Step.State}

-- what is reported about accesses
abbrev Told : Type 0
Told = List (Place × Bool)

module _ (g : Node) (once : AreOncePerPoint op_accesses_any g) where
  -- a tree asks of one operation's accesses at a point
  one_accessed : (a b : OpAtPoint) → Contains (accessing_ops None g) a → Contains (accessing_ops None g) b → a.point ≡ b.point → a ≡ b
  one_accessed a b x y same =
      let all = accessing_ops None g in
      let at = slice_get_read all (length all) x.0 a refl x.1 (sym x.2) in
      let there = slice_get_read all (length all) y.0 b refl y.1 (sym y.2) in
      same_Some a b (sym at ∙ ap (λ (n : ℕ). slice_get all n) (once x.0 y.0 a b at there same) ∙ there)

  pub inside_holds : {V H : Type 0} (m : Abstraction V H) → Laws m → (values : List V) (before : Option ℕ) (told : List (ℕ × Told)) (flagged : Option ℕ)
      → JudgesAccesses m (lossy_operations m) g values before told flagged → (q : ℕ) (js : Told) (n : ℕ) (place : Place)
      → Contains told (q, js) → slice_get js n ≡ Some (place, true)
      → (b : OpAtPoint) (v : V) (s : State) → Contains (accessing_ops None g) b → b.point ≡ q → slice_get values q ≡ Some v → Has m v s.store
      → HoldsAtPoint (λ op t. OpOutOfBounds op t n) b s → ⊥
  inside_holds m laws values before told flagged judges q js n place listed inner b v s among there found held outside =
      let (j, one, is) = map_from answer_of judges.found (q, js) (subst (λ (l : List (ℕ × Told)). Contains l (q, js)) judges.told listed) in
      let (a, own, point, judged) = judges.is_asked j one in
      let same : a ≡ b = one_accessed a b own among (point ∙ ap (λ (p : ℕ × Told). p.0) is ∙ sym there) in
      let here : slice_get values b.point ≡ Some v = ap (λ (k : ℕ). slice_get values k) there ∙ found in
      let so : InsideAtPoint m (lossy_operations m) values b js j.exactness =
      subst (λ (x : OpAtPoint). InsideAtPoint m (lossy_operations m) values x js j.exactness) same
      (subst (λ (ks : Told). InsideAtPoint m (lossy_operations m) values a ks j.exactness) (ap (λ (p : ℕ × Told). p.1) is) judged) in
      inside_never_stray m laws values b js j.exactness v s n place here held.0 held.1 so inner outside
