-- Goals of `OctagonDomain::join`: of tight octagons, the least with the stores of both.
use Rattle.std.proofs.Common.{◌≡◌, ap, sym, ◌∙◌, false, true, IsTrue}
use Rattle.lra_octagon.specs.{Content.OctagonContent, Content.CellsFit, Content.matrix_view, Least.IsTightOrNone}
use Rattle.lra_octagon.proofs.octagon.OctagonDomain.join.Goals.{then-self, else-self}
use Rattle.lra_octagon.proofs.{LeastLemmas.least_octagon, TightLemmas.joined_tight, TransferLemmas.joined_fit, TransferLemmas.joins}
use Rattle.lra_octagon.proofs.octagon.OctagonDomain.join.Goals as goal

pub invariant_of-self : goal.invariant_of-self
invariant_of-self c =
    let same : c.other.inside.dims ≡ c.self.inside.dims =
    ap (λ (b : OctagonContent). b.dims) c.other.view_is ∙ sym c.requires ∙ sym (ap (λ (b : OctagonContent). b.dims) c.self.view_is) in
    let fit : CellsFit c.self.inside.dims (matrix_view c.other.inside.matrix) = rw (← same) c.other.invariant.2 in (
      c.self.invariant.0,
      c.in_ok-joined.ensures.dims,
      rw c.in_ok-joined.ensures.joined
          (joined_fit c.self.inside.dims (matrix_view c.self.inside.matrix) (matrix_view c.other.inside.matrix) c.self.invariant.2 fit),
      λ marked.
          let both : IsTrue c.self.inside.is_tight × IsTrue c.other.inside.is_tight = elim c.if-self.branch [
            | then-self w ↦ (w.if-self.true, rw w.self-is at marked)
            | else-self w ↦ absurd (let no : false ≡ true = rw (w.self-is, w.if-self.false) at marked in cc)
          ] in
          let theirs : IsTightOrNone c.self.inside.dims (matrix_view c.other.inside.matrix) = rw (← same) (c.other.invariant.3 both.1) in
          rw c.in_ok-joined.ensures.joined
          (joined_tight c.self.inside.dims (matrix_view c.self.inside.matrix) (matrix_view c.other.inside.matrix) c.self.invariant.2 fit
          (c.self.invariant.3 both.0) theirs),
    )

pub returns-clause-joins : goal.returns-clause-joins
returns-clause-joins c =
    let same : c.other.inside.dims ≡ c.self.inside.dims =
    ap (λ (b : OctagonContent). b.dims) c.other.view_is ∙ sym c.requires ∙ sym (ap (λ (b : OctagonContent). b.dims) c.self.view_is) in
    let fit : CellsFit c.self.inside.dims (matrix_view c.other.inside.matrix) = rw (← same) c.other.invariant.2 in
    rw (c.in_ok-joined.ensures.joined, ← c.self.view_is, ← c.other.view_is, same)
    (joins c.self.inside.dims (matrix_view c.self.inside.matrix) (matrix_view c.other.inside.matrix) c.self.invariant.2 fit)

pub returns-clause-least : goal.returns-clause-least
returns-clause-least c =
    let same : c.other.inside.dims ≡ c.self.inside.dims =
    ap (λ (b : OctagonContent). b.dims) c.other.view_is ∙ sym c.requires ∙ sym (ap (λ (b : OctagonContent). b.dims) c.self.view_is) in
    let fit : CellsFit c.self.inside.dims (matrix_view c.other.inside.matrix) = rw (← same) c.other.invariant.2 in
    rw (c.in_ok-joined.ensures.joined, ← c.self.view_is, ← c.other.view_is, same)
    (least_octagon c.self.inside.dims (matrix_view c.self.inside.matrix) (matrix_view c.other.inside.matrix) c.self.invariant.2 fit)
