-- Goals of `OctagonDomain::included`: entry by entry; of a tight octagon, No only if a store lies beyond the
-- other.
use Rattle.std.proofs.{Common.◌≡◌, Common.ap, Common.sym, Common.◌∙◌, lemmas.Bool.false≢true}
use Rattle.lra_octagon.specs.{Content.OctagonContent, Content.CellsFit, Content.matrix_view, Laws.octagon_wider}
use Rattle.lra_octagon.proofs.LeastLemmas.{not_within}
use Rattle.lra_octagon.proofs.octagon.OctagonDomain.included.Goals as goal

pub returns-then-is_within-clause-stores : goal.returns-then-is_within-clause-stores
returns-then-is_within-clause-stores c = λ e s.
    let same : c.self.inside.dims ≡ c.other.inside.dims =
    ap (λ (b : OctagonContent). b.dims) c.self.view_is ∙ c.requires ∙ sym (ap (λ (b : OctagonContent). b.dims) c.other.view_is) in
    rw (← c.self.view_is, ← c.other.view_is) (octagon_wider _ _ (same, c.is_within.ensures.0 c.if-is_within.true) s)

pub returns-else-is_within-clause-tight : goal.returns-else-is_within-clause-tight
returns-else-is_within-clause-tight c = λ e.
    let same : c.other.inside.dims ≡ c.self.inside.dims =
    ap (λ (b : OctagonContent). b.dims) c.other.view_is ∙ sym c.requires ∙ sym (ap (λ (b : OctagonContent). b.dims) c.self.view_is) in
    let fit : CellsFit c.self.inside.dims (matrix_view c.other.inside.matrix) = rw (← same) c.other.invariant.2 in
    rw (← c.self.view_is, ← c.other.view_is, same)
    (not_within c.self.inside.dims (matrix_view c.self.inside.matrix) (matrix_view c.other.inside.matrix) c.self.invariant.2 fit
    (λ w. absurd (false≢true (rw c.if-is_within.false at (c.is_within.ensures.1 w)))))
