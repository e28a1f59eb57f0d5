-- Goals of `OctagonDomain::grow`.
use Rattle.std.proofs.{Common.◌≡◌, Common.ap, Common.sym, Common.◌∙◌, Common.false, Common.true, lemmas.Bool.false≢true}
use Rattle.lra_octagon.specs.Content.{OctagonContent, CellsFit, matrix_view}
use Rattle.lra_octagon.proofs.TransferLemmas.{rank_fits, grown_fit, grows, grows_lower}
use Rattle.lra_octagon.proofs.octagon.OctagonDomain.grow.Goals as goal

pub returns-then-is_within-clause-fits : goal.returns-then-is_within-clause-fits
returns-then-is_within-clause-fits c =
    rw (← c.head.view_is) (rank_fits c.head.inside.dims (matrix_view c.head.inside.matrix) c.head.invariant.0 c.head.invariant.2)

pub invariant_of-head : goal.invariant_of-head
invariant_of-head c =
    let same : c.next.inside.dims ≡ c.head.inside.dims =
    ap (λ (b : OctagonContent). b.dims) c.next.view_is ∙ sym c.requires ∙ sym (ap (λ (b : OctagonContent). b.dims) c.head.view_is) in
    let fit : CellsFit c.head.inside.dims (matrix_view c.next.inside.matrix) = rw (← same) c.next.invariant.2 in (
      c.head.invariant.0,
      c.in_ok-grown.ensures.dims,
      rw c.in_ok-grown.ensures.grown
          (grown_fit c.args.mode c.head.inside.dims (matrix_view c.head.inside.matrix) (matrix_view c.next.inside.matrix) c.head.invariant.2 fit),
      λ marked. absurd (let no : false ≡ true = marked in cc),
    )

pub returns-clause-grew : goal.returns-clause-grew
returns-clause-grew c = λ a e.
    let same : c.next.inside.dims ≡ c.head.inside.dims =
    ap (λ (b : OctagonContent). b.dims) c.next.view_is ∙ sym c.requires ∙ sym (ap (λ (b : OctagonContent). b.dims) c.head.view_is) in
    let fit : CellsFit c.head.inside.dims (matrix_view c.next.inside.matrix) = rw (← same) c.next.invariant.2 in
    rw (c.in_ok-grown.ensures.grown, ← c.head.view_is, ← c.next.view_is, same)
    (grows c.args.mode c.head.inside.dims (matrix_view c.head.inside.matrix) (matrix_view c.next.inside.matrix) a (λ f. absurd (cc)) c.head.invariant.2 fit
    (λ w. absurd (false≢true (rw c.if-is_within.false at (c.is_within.ensures.1 w)))))

pub returns-clause-lower : goal.returns-clause-lower
returns-clause-lower c = λ a e m.
    let same : c.next.inside.dims ≡ c.head.inside.dims =
    ap (λ (b : OctagonContent). b.dims) c.next.view_is ∙ sym c.requires ∙ sym (ap (λ (b : OctagonContent). b.dims) c.head.view_is) in
    let fit : CellsFit c.head.inside.dims (matrix_view c.next.inside.matrix) = rw (← same) c.next.invariant.2 in
    rw (c.in_ok-grown.ensures.grown, ← c.head.view_is)
    (grows_lower c.args.mode c.head.inside.dims (matrix_view c.head.inside.matrix) (matrix_view c.next.inside.matrix) m c.head.invariant.2 fit
    (λ w. absurd (false≢true (rw c.if-is_within.false at (c.is_within.ensures.1 w)))))

pub returns-clause-fits : goal.returns-clause-fits
returns-clause-fits c =
    let same : c.next.inside.dims ≡ c.head.inside.dims =
    ap (λ (b : OctagonContent). b.dims) c.next.view_is ∙ sym c.requires ∙ sym (ap (λ (b : OctagonContent). b.dims) c.head.view_is) in
    let fit : CellsFit c.head.inside.dims (matrix_view c.next.inside.matrix) = rw (← same) c.next.invariant.2 in
    rw c.in_ok-grown.ensures.grown
    (rank_fits c.head.inside.dims _ c.head.invariant.0
    (grown_fit c.args.mode c.head.inside.dims (matrix_view c.head.inside.matrix) (matrix_view c.next.inside.matrix) c.head.invariant.2 fit))
