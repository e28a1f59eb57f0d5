-- Steps of the proofs on the globals' first values.
use Rattle.std.proofs.Common.{◌≡◌, ℕ, suc, ◌+◌, ℤ, List, ◌∷◌, length, refl, ap, ◌∙◌, subst, arith}
use Rattle.std.proofs.lemmas.List.{length-replicate}
use Rattle.std.specs.Prelude.{pos}
use Rattle.lra_transfer.specs.Crates.lra_analysis_spec.MovesOf.{within_type, append_set, first_values}
use Rattle.lra_transfer.specs.Crates.lra_domain.Abstraction.{Abstraction, TransfersTo, worse}
use Rattle.lra_transfer.specs.Crates.{lra_analysis_spec.Linear.constant_form, lra_analysis_spec.declared.linearization.Linearized.TheVariants.Linear, lra_domain.Actions.assign}
use Rattle.lra_transfer.specs.Crates.{lra_domain.Actions.embed, lra_domain.Parts.CapsWithin, lra_domain.declared.Exactness.Exactness, lra_linear_forms.Form.Form}
use Rattle.lra_program.specs.declared.program.GlobalVariable.{GlobalVariable}
use Rattle.lra_transfer.specs.Changes.{Does}
use Rattle.lra_transfer.proofs.ChangeSteps.{done_one}

-- a constant form has a coefficient for each variable
pub constant_wide : (f : Form) (n : ℕ) (z : ℤ) → f ≡ constant_form n z → length f.coefficients ≡ n
constant_wide f n z is = ap (λ (g : Form). length g.coefficients) is ∙ length-replicate n (pos 0)

-- a new variable and its constant
pub appended : {V H : Type 0} (m : Abstraction V H) (z : ℤ) (f : Form) (v x w : V) (c d : Exactness) → TransfersTo m (embed 1) v c x → m.dims x ≡ m.dims v + 1
    → CapsWithin (m.capped v) (m.capped x) → f ≡ constant_form (m.dims v + 1) z
    → TransfersTo m (assign (m.dims v) f) x d w → m.dims w ≡ m.dims x → CapsWithin (m.capped x) (m.capped w)
    → Does m (append_set (m.dims v) (Linear (constant_form (suc (m.dims v)) z))) v (worse c d) w
appended {V} {H} m z f v x w c d first dims caps is second same more =
    let one : m.dims v + 1 ≡ suc (m.dims v) = omega arith in
    let form : f ≡ constant_form (suc (m.dims v)) z = is ∙ ap (λ (n : ℕ). constant_form n z) one in (
      x,
      c,
      d,
      (first, dims, caps),
      done_one m (assign (m.dims v) (constant_form (suc (m.dims v)) z)) x d w (subst (λ (g : Form). TransfersTo m (assign (m.dims v) g) x d w) form second) same
          more,
      refl,
    )

-- the first global, and the others
pub appended_all : {V H : Type 0} (m : Abstraction V H) (z : GlobalVariable) (zs : List GlobalVariable) (v x w : V) (c d : Exactness)
    → Does m (within_type z.number_type (suc (m.dims v)) (m.dims v) (append_set (m.dims v) (Linear (constant_form (suc (m.dims v)) z.value)))) v c x →
    m.dims x ≡ suc (m.dims v)
    → Does m (first_values (m.dims x) zs) x d w → Does m (first_values (m.dims v) (z ∷ zs)) v (worse c d) w
appended_all m z zs v x w c d one live others = (x, c, d, one, subst (λ (n : ℕ). Does m (first_values n zs) x d w) live others, refl)
