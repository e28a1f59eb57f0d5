-- Going back over a path keeps each store from which the path may lead into the value after it.
use Rattle.std.proofs.Common.{◌≡◌, ℕ, ◌+◌, ◌-◌, ◌≤◌, ℤ, List, [], ◌∷◌, ◌++◌, length, take, drop, set, get_or, sym, ap, ◌∙◌, subst, arith}
use Rattle.std.proofs.Math.Seq.{take-append_seam}
use Rattle.std.proofs.lemmas.List.{length-append, length-set, set-get_or, set-set, take-append-drop, length-take-le}
use Rattle.lra_back_sound.specs.Crates.lra_domain.Abstraction.{Abstraction, TransfersTo}
use Rattle.lra_back_sound.specs.Crates.lra_domain.Actions.{Action, assign, forget, test, embed, remove_last, dims_after, Leads}
use Rattle.lra_back_sound.specs.Crates.{lra_domain.Backward.BackwardAbstraction, lra_domain.Changes.AllCanBeMade, lra_domain.Changes.CanBeMade, lra_domain.Gammas.InGamma, lra_domain.Laws.Laws}
use Rattle.lra_back_sound.specs.Crates.{lra_domain.Moves.LeadsAll, lra_domain.declared.Exactness.Exactness, lra_linear_forms.Form.form_value}
use Rattle.lra_back.specs.{Operations.PreOfAction, Operations.lossy_back_operations, Preconditions.PreAlong}

-- what leads the other way --------------------------------------------------------------------------------------------

set_back : (s : List ℤ) (x : ℕ) (k : ℤ) → set (set s x k) x (get_or s x k) ≡ s
set_back s x k = set-set s x k (get_or s x k) ∙ set-get_or s x k

forgotten_back : (x : ℕ) (s t : List ℤ) → Leads (forget x) s t → Leads (forget x) t s
forgotten_back x s t (k, e) = (get_or s x k, sym (set_back s x k) ∙ ap (λ u. set u x (get_or s x k)) (sym e))

embedded_back : (k : ℕ) (s t : List ℤ) → Leads (embed k) s t → Leads (remove_last k) t s
embedded_back k s t (added, few, e) =
    let long : length t ≡ length s + k = ap length e ∙ length-append s added ∙ ap (λ n. length s + n) few in
    let same : length s ≡ length t - k = omega (arith, long) in
    sym (take-append_seam s added) ∙ ap (λ u. take (length s) u) (sym e) ∙ ap (λ n. take n t) same

removed_back : (k : ℕ) (s t : List ℤ) → k ≤ length s → Leads (remove_last k) s t → Leads (embed k) t s
removed_back k s t few e =
    let kept : length (take (length s - k) s) ≡ length s - k = length-take-le (length s - k) s (omega arith) in
    let parts : s ≡ take (length s - k) s ++ drop (length s - k) s = sym (take-append-drop (length s - k) s) in
    let long : length s ≡ length (take (length s - k) s) + length (drop (length s - k) s) =
    ap length parts ∙ length-append (take (length s - k) s) (drop (length s - k) s) in
    (drop (length s - k) s, omega (arith, kept, long, few), parts ∙ ap (λ u. u ++ drop (length s - k) s) (sym e))

-- how many numbers a store has after a change
length_behind : (step : Action) (s t : List ℤ) → CanBeMade step (length s) → Leads step s t → length t ≡ dims_after step (length s)
length_behind (assign x f) s t fits e = ap length e ∙ length-set s x (form_value f s)
length_behind (forget x) s t fits (k, e) = ap length e ∙ length-set s x k
length_behind (test kind f) s t fits (holds, e) = ap length e
length_behind (embed k) s t fits (added, few, e) = ap length e ∙ length-append s added ∙ ap (λ n. length s + n) few
length_behind (remove_last k) s t fits e = ap length e ∙ length-take-le (length s - k) s (omega arith)

module _ {V H : Type 0} (m : Abstraction V H) (b : BackwardAbstraction V) (laws : Laws m) where
  -- one change ----------------------------------------------------------------------------------------------------------

  changed_back : (step : Action) (v : V) (e : Exactness) (w : V) → TransfersTo m step v e w → (s t : List ℤ) → InGamma m v t → Leads step t s → InGamma m w s
  changed_back step v e w meets s t own led = (meets.formed, laws.kept_stores step v w own.0 meets.formed meets.keeps t s own.1 led)

  undone_has : (step : Action) (v : V) (e : Exactness) (w : V) → PreOfAction (lossy_back_operations m b) step v e w → (s t : List ℤ) → CanBeMade step (length s)
      → Leads step s t
      → InGamma m v t → InGamma m w s
  undone_has (assign x f) v e w undone s t fits led own = (undone.0.formed, undone.0.stores s t own.1 led)
  undone_has (forget x) v e w undone s t fits led own = changed_back (forget x) v e w undone.0 s t own (forgotten_back x s t led)
  undone_has (test kind f) v e w undone s t fits led own = (undone.0.formed, undone.0.stores s t own.1 led)
  undone_has (embed k) v e w undone s t fits led own = changed_back (remove_last k) v e w undone.0 s t own (embedded_back k s t led)
  undone_has (remove_last k) v e w undone s t fits led own = changed_back (embed k) v e w undone.0 s t own (removed_back k s t fits led)

  -- a path ---------------------------------------------------------------------------------------------------------------

  pub gone_over : (path : List Action) (v : V) (e : Exactness) (w : V) → PreAlong (lossy_back_operations m b) path v e w → (s t : List ℤ) →
      AllCanBeMade path (length s)
      → LeadsAll path s t → InGamma m v t → InGamma m w s
  gone_over [] v e w (same, exact) s t fits led own = subst (λ x. InGamma m x s) (sym same) (subst (λ u. InGamma m v u) led own)
  gone_over (step ∷ path) v e w (u, c, d, over, undone, worst) s t (fits, later) (between, led, on) own =
      undone_has step u d w undone s between fits led
      (gone_over path v c u over between t (subst (λ n. AllCanBeMade path n) (sym (length_behind step s between fits led)) later) on own)
