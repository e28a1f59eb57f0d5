-- Goals of `OctagonDomain::embed`.
use Rattle.lra_octagon.specs.Content.{matrix_view}
use Rattle.lra_octagon.proofs.{TightLemmas.embedded_tight, TransferLemmas.meets_embed}
use Rattle.lra_octagon.proofs.octagon.OctagonDomain.embed.Goals as goal

pub returns-clause-meets : goal.returns-clause-meets
returns-clause-meets c =
    rw (← c.self.view_is) (meets_embed c.self.inside.dims c.args.k (matrix_view c.self.inside.matrix) (matrix_view c.embed_in.new.bounds) c.in_ok-embed_in.ensures.fit c.in_ok-embed_in.ensures.becomes)

pub invariant_of-self-2 : goal.invariant_of-self-2
invariant_of-self-2 c = (
  rw (← c.self.view_is) at c.requires,
  c.in_ok-embed_in.ensures.dims,
  c.in_ok-embed_in.ensures.fit,
  λ is. embedded_tight c.self.inside.dims c.args.k (matrix_view c.self.inside.matrix) (matrix_view c.embed_in.new.bounds) c.self.invariant.2
      c.in_ok-embed_in.ensures.becomes (c.self.invariant.3 is),
)
