-- Goals of `BoxesDomain::included`.
use Rattle.std.proofs.Common.{◌≡◌, ap, sym, ◌∙◌}
use Rattle.lra_box.specs.{Content.BoxContent, Laws.box_wider}
use Rattle.lra_box.proofs.boxes.BoxesDomain.included.Goals as goal

pub returns-then-is_within-clause-stores : goal.returns-then-is_within-clause-stores
returns-then-is_within-clause-stores c = λ e s.
    let same : c.self.inside.dims ≡ c.other.inside.dims = ap (λ (b : BoxContent). b.dims) c.self.view_is ∙ c.requires ∙ sym (ap (λ (b : BoxContent). b.dims) c.other.view_is) in
    rw (← c.self.view_is, ← c.other.view_is) (box_wider _ _ (same, c.is_within.ensures.0 c.if-is_within.true) s)

pub returns-then-is_within-clause-yes : goal.returns-then-is_within-clause-yes
returns-then-is_within-clause-yes c = λ e.
    let same : c.self.inside.dims ≡ c.other.inside.dims = ap (λ (b : BoxContent). b.dims) c.self.view_is ∙ c.requires ∙ sym (ap (λ (b : BoxContent). b.dims) c.other.view_is) in
    rw (← c.self.view_is, ← c.other.view_is) (same, c.is_within.ensures.0 c.if-is_within.true)
