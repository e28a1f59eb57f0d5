-- Steps of the proofs on comparisons.
use Rattle.std.proofs.Common.{◌≡◌, ◌∙◌, ℕ, ℤ, Bool, refl, ap, sym}
use Rattle.std.specs.Prelude.{IfOk}
use Rattle.std.specs.Prelude as handed
use Rattle.lra_transfer.specs.Crates.lra_analysis_spec.MovesOf.{comparison_as, split_moves, comparison_moves, number_moves}
use Rattle.lra_transfer.specs.Crates.lra_analysis_spec.declared.linearization.Linearized.TheVariants.{Linear, Divided, Unseen}
use Rattle.lra_transfer.specs.Crates.{lra_analysis_spec.Linear.constant_form, lra_analysis_spec.Linearization.subtracted, lra_analysis_spec.Moves.Takes, lra_analysis_spec.Operations.lossy_operations}
use Rattle.lra_transfer.specs.Crates.{lra_analysis_spec.declared.linearization.Linearized.Linearized, lra_base.Operators.Comparison, lra_base.Operators.equal, lra_domain.Abstraction.Abstraction}
use Rattle.lra_transfer.specs.Crates.{lra_domain.Moves.Moves, lra_domain.declared.Exactness.Exactness, lra_domain.declared.Exactness.TheVariants.Exact}
use Rattle.lra_transfer.proofs.Crates.lra_analysis_spec.Takes.{takes_made}
use Rattle.lra_transfer.specs.Changes.{Does}
use Rattle.lra_transfer.proofs.SideSteps.{leaves_as}

-- a comparison of which something is seen is split
pub split_as : (live : ℕ) (op : Comparison) (s : Linearized) → (s ≡ Unseen → ⊥) → comparison_moves live op s ≡ split_moves live op s
split_as live op (Linear d) other = refl
split_as live op (Divided c d) other = refl
split_as live op Unseen other = absurd (other refl)

-- after nothing that is flagged
from_exact : {V H E : Type 0} (m : Abstraction V H) (R : handed.Result Exactness E) (v w : V) (p : Moves) →
    IfOk R (λ e. Takes (lossy_operations m) p v Exact w e)
    → IfOk R (λ e. Does m p v e w)
from_exact m (handed.Ok e) v w p took = takes_made (lossy_operations m) p v w e took
from_exact m (handed.Err e) v w p took = tt

-- the comparison with a number, by what is seen of the difference
pub number_left : {V H E : Type 0} (m : Abstraction V H) (R : handed.Result Exactness E) (v w : V) (live : ℕ) (wanted : Bool) (s d : Linearized) (z : ℤ)
    (op : Comparison)
    → live ≡ m.dims v → op ≡ comparison_as wanted equal → d ≡ subtracted s (Linear (constant_form live z))
    → IfOk R (λ e. Takes (lossy_operations m) (comparison_moves (m.dims v) op d) v Exact w e) → IfOk R (λ e. Does m (number_moves (m.dims v) wanted s z) v e w)
number_left m R v w live wanted s d z op same as_wanted is left =
    let n = m.dims v in
    let difference = λ (k : ℕ). subtracted s (Linear (constant_form k z)) in
    let moves : number_moves n wanted s z ≡ comparison_moves n op d =
    ap (λ (o : Comparison). comparison_moves n o (difference n)) (sym as_wanted) ∙ ap (comparison_moves n op) (ap difference (sym same) ∙ sym is) in
    from_exact m R v w (number_moves n wanted s z) (leaves_as m R v Exact w (comparison_moves n op d) (number_moves n wanted s z) moves left)
