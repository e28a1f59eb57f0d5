-- Goals of `forget`: lets the coordinate x be anything.
use Rattle.std.proofs.Common.{suc}
use Rattle.lra_poly_images.specs.Crates.{lra_linear_spec.Descriptions.Con, lra_linear_spec.OperationStrain.ForgetStrains, lra_linear_spec.SetOperations.Forget}
use Rattle.lra_poly.proofs.PolyLemmas.{exactly}
use Rattle.lra_poly_images.proofs.images.forget.Goals as goal

pub returns-in-Some-clause-becomes : goal.returns-in-Some-clause-becomes
returns-in-Some-clause-becomes c =
    let p = c.args.p.now in
    let k = suc c.args.x in
    let made = rw c.in-Some.is at c.in_ok-made.ensures in
    exactly p.dims (Forget p.dims k (Con p.rows)) (ForgetStrains k p) c.in-Some.made made
