-- Goals of `of_generators`: the polyhedron of the generators that were added to the cone, some of them points, of
-- which this is the own list.
use Rattle.std.proofs.Common.{◌∙◌, ap, length, refl, sym}
use Rattle.lra_description_pair.specs.Crates.lra_bits.Matrix.{Matrix}
use Rattle.lra_description_pair.specs.OwnLists.{columns_of}
use Rattle.lra_description_pair.proofs.KnownPairs.{enough_rows, generators_known, own_generators_seen, own_known}
use Rattle.lra_description_pair.proofs.PairLists.{own_lines_width, own_rays_width, generators_made}
use Rattle.lra_description_pair.proofs.pair.of_generators.Goals as goal

pub known_generators-requires-clause-lines : goal.known_generators-requires-clause-lines
known_generators-requires-clause-lines c = own_lines_width c.args.cone.now c.args.n c.args.own.lines.items c.args.own.rays.items c.deref.result.now
    c.requires.own c.requires.dims
    c.deref.ensures.value

pub known_generators-requires-clause-rays : goal.known_generators-requires-clause-rays
known_generators-requires-clause-rays c = own_rays_width c.args.cone.now c.args.n c.args.own.lines.items c.args.own.rays.items c.deref-2.result.now
    c.requires.own c.requires.dims
    c.deref-2.ensures.value

pub known_generators-requires-clause-rows : goal.known_generators-requires-clause-rows
known_generators-requires-clause-rows c =
    enough_rows (columns_of c.args.cone.now) c.args.own.rays.items c.deref-2.result.now c.args.own.saturation c.requires.matrix c.deref-2.ensures.value

pub show_constraints-requires-clause-width : goal.show_constraints-requires-clause-width
show_constraints-requires-clause-width c =
    let listed = c.in_ok-listed.listed in
    ap (λ (m : Matrix). m.width) (own_known c.args.cone.now c.args.own.lines.items c.args.own.rays.items c.deref.result.now c.deref-2.result.now
    c.args.own.saturation
    listed.list.rows listed.matrix c.lines-lines.ensures.cone c.requires.own c.deref.ensures.value c.deref-2.ensures.value c.requires.matrix
    c.in_ok-listed.ensures.matrix)

pub invariant_of-result : goal.invariant_of-result
invariant_of-result c =
    let s = c.args.cone.now in
    let lines = c.args.own.lines.items in
    let rays = c.args.own.rays.items in
    let listed = c.in_ok-listed.listed in
    let shown = c.in_ok-shown.shown in
    let k = c.lines-lines.ensures.cone in
    let u = generators_made s c.args.n s.lines s.rays c.deref.result.now c.deref-2.result.now lines rays shown.list listed.list k c.requires.dims
    c.requires.columns c.requires.some
    c.requires.own refl refl c.in_ok-shown.ensures.shown c.deref.ensures.value c.deref-2.ensures.value c.in_ok-listed.ensures.shown c.in_ok-shown.ensures.dims
    c.in_ok-listed.ensures.dims c.requires.few in
    let of_own = own_known s lines rays c.deref.result.now c.deref-2.result.now c.args.own.saturation
    listed.list.rows listed.matrix k c.requires.own c.deref.ensures.value c.deref-2.ensures.value c.requires.matrix c.in_ok-listed.ensures.matrix in
    let own_shown = own_generators_seen lines rays c.deref.result.now c.deref-2.result.now listed.list c.deref.ensures.value c.deref-2.ensures.value
    c.in_ok-listed.ensures.shown in (
      u.0.canonical,
      u.1,
      u.2,
      u.3,
      generators_known s lines rays shown.list listed.list listed.matrix shown.matrix k c.requires.own own_shown of_own c.in_ok-shown.ensures.matrix
          (ap length (sym c.kinds-kinds.ensures.kinds) ∙ c.kinds-kinds.ensures.len)
          (ap length (sym c.kinds-column_kinds.ensures.kinds) ∙ c.kinds-column_kinds.ensures.len),
    )

pub returns : goal.returns
returns c =
    let s = c.args.cone.now in
    let listed = c.in_ok-listed.listed in
    let shown = c.in_ok-shown.shown in
    (generators_made s c.args.n s.lines s.rays c.deref.result.now c.deref-2.result.now c.args.own.lines.items c.args.own.rays.items shown.list listed.list
    c.lines-lines.ensures.cone c.requires.dims c.requires.columns c.requires.some c.requires.own refl refl c.in_ok-shown.ensures.shown c.deref.ensures.value
    c.deref-2.ensures.value
    c.in_ok-listed.ensures.shown c.in_ok-shown.ensures.dims c.in_ok-listed.ensures.dims c.requires.few).0
