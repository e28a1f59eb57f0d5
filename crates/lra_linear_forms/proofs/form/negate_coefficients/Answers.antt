-- Goals of `negate_coefficients`: the numbers times -1, or `None` if one of these passes i64.
use Rattle.std.proofs.{Common.rules, Common.map, Common.◌≡◌, Common.[], Common.◌∷◌, Common.◌∙◌, Common.append_assoc, lemmas.Int.to_z-of_z}
use Rattle.std.specs.{Int.w64, Prelude.neg_ℤ}
use Rattle.lra_linear_forms.proofs.FormLemmas.{fits_later}
use Rattle.lra_linear_forms.proofs.form.negate_coefficients.Goals as goal

pub loop-coefficient-preserved : goal.loop-coefficient-preserved
loop-coefficient-preserved c =
    let left : c.loop-coefficient.left.now ≡ c.in-Some.coefficient.now ∷ c.in-Some.later.now = search rules in
    let items = rw left at c.loop-coefficient.invariant.items in
    let fits = rw left at c.loop-coefficient.invariant.fit in
    let is = rw (to_z-of_z w64 c.in-Some.coefficient.now (search rules)) at c.in-Some-checked_neg.ensures in
    let later = fits_later (neg_ℤ c.in-Some.coefficient.now) (map neg_ℤ c.in-Some.later.now) is.0 in
    let p = rw (is.1, to_z-of_z w64 (neg_ℤ c.in-Some.coefficient.now) is.0) at c.in_ok-push.ensures.items in
    record {
      items = rw p (append_assoc c.loop-coefficient.all.items (neg_ℤ c.in-Some.coefficient.now ∷ []) (map neg_ℤ c.in-Some.later.now) ∙ items);
      fit = (λ h. fits.0 (later.0 h), λ h. later.1 (fits.1 h));
    }
