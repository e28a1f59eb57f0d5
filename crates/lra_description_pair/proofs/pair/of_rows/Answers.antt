-- Goals of `of_rows`: the polyhedron of the rows that were added to the cone, of which this is the own list.
use Rattle.std.proofs.Common.{rules, ◌≡◌, ◌≢◌, ◌∙◌, ap, length, refl, sym, []}
use Rattle.lra_description_pair.specs.Crates.lra_bits.Matrix.{Matrix}
use Rattle.lra_description_pair.specs.OwnLists.{columns_of}
use Rattle.lra_description_pair.proofs.PairLists.{own_lines_width, own_rays_width, rows_made, none_made}
use Rattle.lra_description_pair.proofs.{KnownPairs.enough_rows, KnownPairs.own_known, KnownPairs.own_list_seen, KnownPairs.rows_known, OwnRows.no_rows}
use Rattle.lra_description_pair.proofs.pair.of_rows.Goals as goal

pub known_constraints-requires-clause-lines : goal.known_constraints-requires-clause-lines
known_constraints-requires-clause-lines c = own_lines_width c.args.cone.now c.args.n c.args.own.lines.items c.args.own.rays.items c.deref.result.now
    c.requires.own c.requires.dims
    c.deref.ensures.value

pub known_constraints-requires-clause-rays : goal.known_constraints-requires-clause-rays
known_constraints-requires-clause-rays c = own_rays_width c.args.cone.now c.args.n c.args.own.lines.items c.args.own.rays.items c.deref-2.result.now
    c.requires.own c.requires.dims
    c.deref-2.ensures.value

pub known_constraints-requires-clause-rows : goal.known_constraints-requires-clause-rows
known_constraints-requires-clause-rows c =
    enough_rows (columns_of c.args.cone.now) c.args.own.rays.items c.deref-2.result.now c.args.own.saturation c.requires.matrix c.deref-2.ensures.value

pub show_generators-requires-clause-width : goal.show_generators-requires-clause-width
show_generators-requires-clause-width c =
    let listed = c.in_ok-listed.listed in
    ap (λ (m : Matrix). m.width) (own_known c.args.cone.now c.args.own.lines.items c.args.own.rays.items c.deref.result.now c.deref-2.result.now
    c.args.own.saturation
    listed.list.rows listed.matrix c.lines-lines.ensures.cone c.requires.own c.deref.ensures.value c.deref-2.ensures.value c.requires.matrix
    c.in_ok-listed.ensures.matrix)

pub returns-then-is_empty : goal.returns-then-is_empty
returns-then-is_empty c =
    let list = c.in_ok-shown.shown.list in
    let none : list.rows ≡ [] = no_rows c.rows.result.now list.rows c.is_empty.result c.is_empty.ensures c.if-is_empty.true c.rows.ensures.rows in
    none_made c.args.cone.now c.args.n c.args.cone.now.lines c.args.cone.now.rays list c.in_ok-pair.pair c.lines-lines.ensures.cone c.requires.dims
    c.requires.positive
    refl refl c.in_ok-shown.ensures.shown none c.in_ok-pair.ensures.dims c.in_ok-pair.ensures.rows c.in_ok-pair.ensures.generators

pub invariant_of-result : goal.invariant_of-result
invariant_of-result c =
    let s = c.args.cone.now in
    let lines = c.args.own.lines.items in
    let rays = c.args.own.rays.items in
    let listed = c.in_ok-listed.listed in
    let shown = c.in_ok-shown.shown in
    let k = c.lines-lines.ensures.cone in
    let some : shown.list.rows ≢ [] = search rules in
    let u = rows_made s c.args.n s.lines s.rays c.deref.result.now c.deref-2.result.now lines rays
    listed.list shown.list k c.requires.dims c.requires.positive c.requires.own refl refl
    c.in_ok-shown.ensures.shown c.deref.ensures.value c.deref-2.ensures.value c.in_ok-listed.ensures.shown some c.in_ok-listed.ensures.dims
    c.in_ok-shown.ensures.dims c.requires.few in
    let of_own = own_known s lines rays c.deref.result.now c.deref-2.result.now c.args.own.saturation
    listed.list.rows listed.matrix k c.requires.own c.deref.ensures.value c.deref-2.ensures.value c.requires.matrix c.in_ok-listed.ensures.matrix in
    let own_shown = own_list_seen c.args.n lines rays c.deref.result.now c.deref-2.result.now listed.list c.deref.ensures.value c.deref-2.ensures.value
    c.in_ok-listed.ensures.shown in (
      u.0.canonical,
      u.1,
      u.2,
      u.3,
      rows_known s c.args.n lines rays listed.list shown.list listed.matrix shown.matrix c.in_ok-turned.turned k c.requires.own own_shown of_own
          c.in_ok-shown.ensures.matrix
          c.in_ok-turned.ensures c.width-width.ensures.equal (ap length (sym c.kinds-kinds.ensures.kinds) ∙ c.kinds-kinds.ensures.len)
          (ap length (sym c.kinds-column_kinds.ensures.kinds) ∙ c.kinds-column_kinds.ensures.len),
    )

pub returns : goal.returns
returns c =
    let s = c.args.cone.now in
    let listed = c.in_ok-listed.listed in
    let shown = c.in_ok-shown.shown in
    let some : shown.list.rows ≢ [] = search rules in
    (rows_made s c.args.n s.lines s.rays c.deref.result.now c.deref-2.result.now c.args.own.lines.items c.args.own.rays.items
    listed.list shown.list c.lines-lines.ensures.cone c.requires.dims c.requires.positive c.requires.own refl refl
    c.in_ok-shown.ensures.shown c.deref.ensures.value c.deref-2.ensures.value c.in_ok-listed.ensures.shown some c.in_ok-listed.ensures.dims
    c.in_ok-shown.ensures.dims c.requires.few).0
