-- Goals of `from`: what is said of a source.
use Rattle.std.proofs.Common.{◌^◌, arith}
use Rattle.std.specs.Prelude.{slice_get}
use Rattle.lra_paths.specs.Paths.{live_of}
use Rattle.lra_verify.specs.EdgeViews.{sites_in}
use Rattle.lra_verify.proofs.PointSteps.{live_small, dims_small}
use Rattle.lra_verify.proofs.annotated.AnnotatedProgram.from.Goals as goal

pub returns-in-Some-clause-live : goal.returns-in-Some-clause-live
returns-in-Some-clause-live c =
    let w = c.args.self.now in
    let q = c.in-Some.point in
    dims_small c.state.result (live_of (slice_get (sites_in w) q)) (2 ^ 31) (live_small (2 ^ 31) w.sites.now (omega arith) c.requires.ways.live q)
    c.state.ensures.dims
