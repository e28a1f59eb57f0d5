-- Goals of `time_elapse`: lets time elapse.
use Rattle.std.proofs.Common.{inl, refl}
use Rattle.lra_poly_images.specs.Crates.{lra_linear_spec.Descriptions.Con, lra_linear_spec.OperationStrain.TimeElapseStrains, lra_linear_spec.SetOperations.TimeElapse}
use Rattle.lra_poly.proofs.PolyLemmas.{exactly}
use Rattle.lra_poly_images.proofs.ElapsedSets.{elapse_copied, elapse_nothing}
use Rattle.lra_poly_images.proofs.maps.time_elapse.Goals as goal

pub returns-then-is_empty-clause-becomes : goal.returns-then-is_empty-clause-becomes
returns-then-is_empty-clause-becomes c =
    let p = c.args.p.now in
    let q = c.args.other.now in
    let nothing = c.if-is_empty.ensures.0 refl in
    exactly p.dims (TimeElapse p.dims (Con p.rows) (Con q.rows)) (TimeElapseStrains p q) p
    (elapse_nothing p.dims p q p (inl nothing) c.rows-canonical.ensures.canonical refl nothing)

pub returns-then-is_empty-2-clause-becomes : goal.returns-then-is_empty-2-clause-becomes
returns-then-is_empty-2-clause-becomes c =
    let p = c.args.p.now in
    let q = c.args.other.now in
    exactly p.dims (TimeElapse p.dims (Con p.rows) (Con q.rows)) (TimeElapseStrains p q) c.in_ok-p.field-0
    (elapse_copied p q c.in_ok-p.field-0 c.in_ok-p.ensures c.requires
    c.rows-other_canonical.ensures.canonical (c.if-is_empty-2.ensures.0 refl))
