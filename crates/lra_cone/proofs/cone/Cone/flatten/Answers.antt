-- Goals of `Cone::flatten`: takes a row in if its product with the line at the place, and with none after it,
-- isn't 0.
use Rattle.std.proofs.Common.{arith, sym, ◌∙◌, ap, length, subst, ◌<◌, ◌≤◌, ◌≡◌, ◌++◌, ◌∷◌, List, ℤ, [], map, suc}
use Rattle.std.proofs.{lemmas.Grind.common_steps, lemmas.List.length-map, lemmas.Result.err_from_is_err_and}
use Rattle.lra_cone.specs.Crates.lra_linear_spec.Kinds.{is_equality}
use Rattle.lra_cone.specs.Crates.{lra_linear_spec.ConeStrain.row_limit, lra_linear_spec.Descriptions.LinearRow, lra_linear_spec.Vectors.product, lra_linear_spec.declared.ConKind.ConKind}
use Rattle.lra_systems.specs.LinearSystems.{constraints, rows_by_kind}
use Rattle.lra_cone.specs.{Cones.ConeContent, Cones.IsCone, Cones.IsTakenIn, Cones.cone_saturation, Flat.AreFlat}
use Rattle.lra_cone.proofs.{FlatCones.flat_error, Stepped.flatten_case, Stepped.too_many_rays, Stepped.cone_again, Stepped.cone_of, Stepped.line_met, Stepped.line_canonical, Stepped.line_matrix}
use Rattle.lra_systems.proofs.LinearRows.{constraints_push}
use Rattle.lra_cone.proofs.cone.Cone.flatten.Goals as goal

pub find_flat-requires-clause-inside : goal.find_flat-requires-clause-inside
find_flat-requires-clause-inside c =
    omega (arith, c.requires.last.0, ap length c.requires.of_lines, length-map c.args.self.now.lines (product c.args.row.now))

pub find_flat-requires-clause-each_line : goal.find_flat-requires-clause-each_line
find_flat-requires-clause-each_line c = ap length c.requires.of_lines ∙ length-map c.args.self.now.lines (product c.args.row.now)

pub find_flat-requires-clause-each_ray : goal.find_flat-requires-clause-each_ray
find_flat-requires-clause-each_ray c = ap length c.requires.of_rays ∙ length-map c.args.self.now.rays (product c.args.row.now)

pub returns-then-count-gt-RAY_LIMIT-clause-strained : goal.returns-then-count-gt-RAY_LIMIT-clause-strained
returns-then-count-gt-RAY_LIMIT-clause-strained c =
    let s = c.args.self.now in
    let row = c.args.row.now in
    let g : LinearRow = record { row = row; equal = is_equality c.args.kind } in
    let lines = c.in_ok-flat.flat.lines.items in
    let rays = c.in_ok-flat.flat.rays.items in
    let f = c.in_ok-flat.ensures.flat in
    let k = c.find_flat.ensures.cone in
    let x = flatten_case s g c.args.place f.line c.args.of_lines.now c.args.of_rays.now lines rays k c.requires.of_lines c.requires.of_rays c.requires.last f.turned f.are_lines f.are_rays in
    let many : c.len-count.result ≡ length rays = grind (arith, common_steps) in
    let long : row_limit < c.len-count.result = omega (arith, c.if-count-gt-RAY_LIMIT.true) in
    too_many_rays s g lines rays c.len-count.result k c.requires.width x many long

pub invariant_of-self-2 : goal.invariant_of-self-2
invariant_of-self-2 c =
    let i = c.self.inside in
    let s : ConeContent = record { dims = i.taken.dims; taken = constraints i.taken; lines = i.lines.items; rays = i.rays.items } in
    let k : IsCone s = c.self.invariant.0 in
    let row = c.args.row.now in
    let g : LinearRow = record { row = row; equal = is_equality c.args.kind } in
    let lines = c.in_ok-flat.flat.lines.items in
    let rays = c.in_ok-flat.flat.rays.items in
    let f = subst (λ (z : ConeContent). AreFlat g.equal z c.args.place c.args.of_lines.now c.args.of_rays.now lines rays c.in_ok-flat.flat.saturation) (sym c.self.view_is) c.in_ok-flat.ensures.flat in
    let el = c.requires.of_lines ∙ ap (λ (x : ConeContent). map (product row) x.lines) (sym c.self.view_is) in
    let er = c.requires.of_rays ∙ ap (λ (x : ConeContent). map (product row) x.rays) (sym c.self.view_is) in
    let x = flatten_case s g c.args.place f.line c.args.of_lines.now c.args.of_rays.now lines rays k el er c.requires.last f.turned f.are_lines f.are_rays in
    let w : length row ≡ suc s.dims = c.requires.width ∙ ap (λ (x : ConeContent). suc x.dims) (sym c.self.view_is) in
    let many : c.len-count.result ≡ length rays = grind (arith, common_steps) in
    let few : length rays ≤ row_limit = omega (arith, c.if-count-gt-RAY_LIMIT.false, many) in
    let kinds = c.in_ok-push_copy.ensures.kinds in
    let rows = c.in_ok-push_copy.ensures.rows in
    let taken = ap (λ (y : List (List ℤ)). rows_by_kind is_equality y c.push_copy.new.self.kinds) rows ∙ ap (λ (y : List ConKind). rows_by_kind is_equality (i.taken.rows ++ row ∷ []) y) kinds ∙
    constraints_push is_equality i.taken.rows i.taken.kinds row c.args.kind c.self.invariant.2 in (
      cone_again s g lines rays c.push_copy.new.self.dims (constraints c.push_copy.new.self) c.in_ok-push_copy.ensures.dims taken
          (cone_of s g lines rays k (line_met s g lines rays k w x) (line_canonical s g lines rays k x) few),
      f.is_matrix ∙ line_matrix s g lines rays k x ∙ ap (λ (y : List LinearRow). cone_saturation y rays) (sym taken),
      grind (arith, common_steps, ap length rows, ap length kinds, c.self.invariant.2),
    )

pub returns-clause-ok : goal.returns-clause-ok
returns-clause-ok c =
    let i = c.self.inside in
    let s : ConeContent = record { dims = i.taken.dims; taken = constraints i.taken; lines = i.lines.items; rays = i.rays.items } in
    let k : IsCone s = c.self.invariant.0 in
    let row = c.args.row.now in
    let g : LinearRow = record { row = row; equal = is_equality c.args.kind } in
    let lines = c.in_ok-flat.flat.lines.items in
    let rays = c.in_ok-flat.flat.rays.items in
    let f = subst (λ (z : ConeContent). AreFlat g.equal z c.args.place c.args.of_lines.now c.args.of_rays.now lines rays c.in_ok-flat.flat.saturation) (sym c.self.view_is) c.in_ok-flat.ensures.flat in
    let el = c.requires.of_lines ∙ ap (λ (x : ConeContent). map (product row) x.lines) (sym c.self.view_is) in
    let er = c.requires.of_rays ∙ ap (λ (x : ConeContent). map (product row) x.rays) (sym c.self.view_is) in
    let x = flatten_case s g c.args.place f.line c.args.of_lines.now c.args.of_rays.now lines rays k el er c.requires.last f.turned f.are_lines f.are_rays in
    let w : length row ≡ suc s.dims = c.requires.width ∙ ap (λ (x : ConeContent). suc x.dims) (sym c.self.view_is) in
    let kinds = c.in_ok-push_copy.ensures.kinds in
    let rows = c.in_ok-push_copy.ensures.rows in
    let taken = ap (λ (y : List (List ℤ)). rows_by_kind is_equality y c.push_copy.new.self.kinds) rows ∙ ap (λ (y : List ConKind). rows_by_kind is_equality (i.taken.rows ++ row ∷ []) y) kinds ∙
    constraints_push is_equality i.taken.rows i.taken.kinds row c.args.kind c.self.invariant.2 in
    subst (λ (z : ConeContent). IsTakenIn z g (record { dims = c.push_copy.new.self.dims; taken = constraints c.push_copy.new.self; lines = lines; rays = rays })) c.self.view_is
    (record { dims = c.in_ok-push_copy.ensures.dims; taken = taken; met = line_met s g lines rays k w x })

pub returns-in_err-flat-clause-strained : goal.returns-in_err-flat-clause-strained
returns-in_err-flat-clause-strained c =
    let s = c.args.self.now in
    let row = c.args.row.now in
    let inside : c.args.place < length s.lines = omega (arith, c.requires.last.0, ap length c.requires.of_lines, length-map s.lines (product row)) in
    let e = c.in_err-flat.field-0.0 in
    let r = err_from_is_err_and c.from_residual.result c.from_residual.ensures.1 in
    rw (r.1, r.2) (flat_error s c.find_flat.ensures.cone (is_equality c.args.kind) row c.args.place c.args.of_lines.now c.args.of_rays.now e c.requires.of_lines c.requires.of_rays inside
    c.in_err-flat.ensures.strained)
