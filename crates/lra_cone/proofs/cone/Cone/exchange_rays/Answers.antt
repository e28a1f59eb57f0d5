-- Goals of `Cone::exchange_rays`: takes a row in by what it makes of the rays.
use Rattle.std.proofs.Common.{arith, refl, sym, ◌∙◌, ap, length, subst, ◌≡◌, ◌++◌, ◌∷◌, List, ℤ, [], pos, map, suc, Bool, cond}
use Rattle.std.proofs.{lemmas.Grind.common_steps, lemmas.List.length-map, lemmas.List.Elements.All-contains}
use Rattle.std.specs.{List.All, List.Contains, Prelude.IsOk}
use Rattle.lra_cone.specs.Crates.{lra_bits.Matrix.Matrix, lra_bits.Matrix.unmarked, lra_linear_spec.ConeStrain.IsIntersection, lra_linear_spec.Cones.all_rows, lra_linear_spec.Descriptions.LinearRow}
use Rattle.lra_cone.specs.Crates.{lra_linear_spec.Kinds.is_equality, lra_linear_spec.Vectors.product, lra_linear_spec.declared.ConKind.ConKind}
use Rattle.lra_systems.specs.LinearSystems.{constraints, rows_by_kind}
use Rattle.lra_cone.specs.Cones.{ConeContent, IsCone, IsTakenIn, cone_saturation}
use Rattle.lra_double_description.specs.Pairs.{IsCut}
use Rattle.lra_double_description.proofs.Cuts.{exchanged_matrix, marks_many, tight_many}
use Rattle.lra_cone.proofs.Stepped.{cut_marks, cut_few, cut_taken, cut_matrix, ray_met, ray_canonical, cone_again, cone_of}
use Rattle.lra_cone.proofs.{TakenBack.kept_again, TakenBack.taken_again, TightRows.rows_length}
use Rattle.lra_systems.proofs.LinearRows.{constraints_push}
use Rattle.lra_cone.proofs.cone.Cone.exchange_rays.Goals as goal

pub exchange-requires-clause-width : goal.exchange-requires-clause-width
exchange-requires-clause-width c =
    let i = c.self.inside in
    let s : ConeContent = record { dims = i.taken.dims; taken = constraints i.taken; lines = i.lines.items; rays = i.rays.items } in
    let row = c.args.row.now in
    let g : LinearRow = record { row = row; equal = is_equality c.args.kind } in
    let products = map (product row) s.rays in
    let cut = c.args.made in
    let x : IsCut g.equal products s.rays i.saturation cut = subst (λ (m : Matrix). IsCut g.equal products s.rays m cut) (sym c.self.invariant.1)
    (subst (λ (z : ConeContent). IsCut g.equal (map (product row) z.rays) z.rays (cone_saturation z.taken z.rays) cut) (sym c.self.view_is) c.requires.cut) in
    ap (λ (m : Matrix). m.width) x.more

pub exchange-requires-clause-each : goal.exchange-requires-clause-each
exchange-requires-clause-each c =
    let i = c.self.inside in
    let s : ConeContent = record { dims = i.taken.dims; taken = constraints i.taken; lines = i.lines.items; rays = i.rays.items } in
    let row = c.args.row.now in
    let g : LinearRow = record { row = row; equal = is_equality c.args.kind } in
    let products = map (product row) s.rays in
    let cut = c.args.made in
    let x : IsCut g.equal products s.rays i.saturation cut = subst (λ (m : Matrix). IsCut g.equal products s.rays m cut) (sym c.self.invariant.1)
    (subst (λ (z : ConeContent). IsCut g.equal (map (product row) z.rays) z.rays (cone_saturation z.taken z.rays) cut) (sym c.self.view_is) c.requires.cut) in
    let each : length products ≡ length i.saturation.rows = length-map s.rays (product row) ∙ sym (rows_length s.taken s.rays) ∙ sym
    (ap (λ (m : Matrix). length m.rows) c.self.invariant.1) in
    tight_many i.saturation cut.more products x.pairs cut.tight each x.tight x.more

pub exchange-requires-clause-marks : goal.exchange-requires-clause-marks
exchange-requires-clause-marks c =
    let i = c.self.inside in
    let s : ConeContent = record { dims = i.taken.dims; taken = constraints i.taken; lines = i.lines.items; rays = i.rays.items } in
    let row = c.args.row.now in
    let g : LinearRow = record { row = row; equal = is_equality c.args.kind } in
    let products = map (product row) s.rays in
    let cut = c.args.made in
    let x : IsCut g.equal products s.rays i.saturation cut = subst (λ (m : Matrix). IsCut g.equal products s.rays m cut) (sym c.self.invariant.1)
    (subst (λ (z : ConeContent). IsCut g.equal (map (product row) z.rays) z.rays (cone_saturation z.taken z.rays) cut) (sym c.self.view_is) c.requires.cut) in
    let each : length products ≡ length i.saturation.rows = length-map s.rays (product row) ∙ sym (rows_length s.taken s.rays) ∙ sym
    (ap (λ (m : Matrix). length m.rows) c.self.invariant.1) in
    marks_many g.equal i.saturation cut.more products x.pairs cut.gone each x.marks x.more

pub remove_marked-requires : goal.remove_marked-requires
remove_marked-requires c =
    let i = c.self.inside in
    let s : ConeContent = record { dims = i.taken.dims; taken = constraints i.taken; lines = i.lines.items; rays = i.rays.items } in
    let k : IsCone s = c.self.invariant.0 in
    let row = c.args.row.now in
    let g : LinearRow = record { row = row; equal = is_equality c.args.kind } in
    let products = map (product row) s.rays in
    let er : products ≡ map (product row) s.rays = refl in
    let cut = c.args.made in
    let x : IsCut g.equal products s.rays i.saturation cut = subst (λ (m : Matrix). IsCut g.equal products s.rays m cut) (sym c.self.invariant.1)
    (subst (λ (z : ConeContent). IsCut g.equal (map (product row) z.rays) z.rays (cone_saturation z.taken z.rays) cut) (sym c.self.view_is) c.requires.cut) in
    let okay : IsOk c.append.result = c.append.ensures.succeeds (omega (arith, c.in_ok-reserve.ensures.ok, c.len.ensures)) in
    let added : c.append.new.self.items ≡ s.rays ++ cut.rays.items = c.append.ensures.items ∙ ap
    (λ (b : Bool). cond b (c.reserve.new.self.items ++ cut.rays.items) c.reserve.new.self.items) okay ∙
    ap (λ (y : List (List ℤ)). y ++ cut.rays.items) c.in_ok-reserve.ensures.items in
    cut_marks (is_equality c.args.kind) products s.rays i.saturation cut c.append.new.self.items (ap length er ∙ length-map s.rays (product row)) x added

pub invariant_of-self-in-Ok : goal.invariant_of-self-in-Ok
invariant_of-self-in-Ok c =
    let i = c.self.inside in
    let s : ConeContent = record { dims = i.taken.dims; taken = constraints i.taken; lines = i.lines.items; rays = i.rays.items } in
    let k : IsCone s = c.self.invariant.0 in
    let row = c.args.row.now in
    let g : LinearRow = record { row = row; equal = is_equality c.args.kind } in
    let products = map (product row) s.rays in
    let er : products ≡ map (product row) s.rays = refl in
    let cut = c.args.made in
    let x : IsCut g.equal products s.rays i.saturation cut = subst (λ (m : Matrix). IsCut g.equal products s.rays m cut) (sym c.self.invariant.1)
    (subst (λ (z : ConeContent). IsCut g.equal (map (product row) z.rays) z.rays (cone_saturation z.taken z.rays) cut) (sym c.self.view_is) c.requires.cut) in
    let okay : IsOk c.append.result = c.append.ensures.succeeds (omega (arith, c.in_ok-reserve.ensures.ok, c.len.ensures)) in
    let added : c.append.new.self.items ≡ s.rays ++ cut.rays.items = c.append.ensures.items ∙ ap
    (λ (b : Bool). cond b (c.reserve.new.self.items ++ cut.rays.items) c.reserve.new.self.items) okay ∙
    ap (λ (y : List (List ℤ)). y ++ cut.rays.items) c.in_ok-reserve.ensures.items in
    let w : length row ≡ suc s.dims = c.requires.width ∙ ap (λ (z : ConeContent). suc z.dims) (sym c.self.view_is) in
    let flat : (l : List ℤ) → Contains s.lines l → product row l ≡ pos 0 = λ l m. All-contains (λ y. product row y ≡ pos 0) s.lines l
    (subst (λ (z : ConeContent). All (λ y. product row y ≡ pos 0) z.lines) (sym c.self.view_is) c.requires.flat) m in
    let fresh = unmarked cut.gone (s.rays ++ cut.rays.items) in
    let new : c.remove_marked.new.rows.items ≡ fresh = c.remove_marked.ensures ∙ ap (unmarked cut.gone) added in
    let case = cut_taken s g products i.saturation cut k er c.self.invariant.1 x in
    let met = ray_met s g fresh k w flat case in
    let kinds = c.in_ok-push_copy.ensures.kinds in
    let rows = c.in_ok-push_copy.ensures.rows in
    let taken = ap (λ (y : List (List ℤ)). rows_by_kind is_equality y c.push_copy.new.self.kinds) rows ∙ ap
    (λ (y : List ConKind). rows_by_kind is_equality (i.taken.rows ++ row ∷ []) y) kinds ∙
    constraints_push is_equality i.taken.rows i.taken.kinds row c.args.kind c.self.invariant.2 in
    let each : length products ≡ length i.saturation.rows = ap length er ∙ length-map s.rays (product row) ∙ sym (rows_length s.taken s.rays) ∙
    sym (ap (λ (m : Matrix). length m.rows) c.self.invariant.1) in
    let exchanged = exchanged_matrix i.saturation cut.more c.exchange.new.self products x.pairs cut.gone cut.tight each x.tight x.more
    c.in-Ok.ensures.exchanged in
    let cone = cone_again s g s.lines fresh c.push_copy.new.self.dims (constraints c.push_copy.new.self) c.in_ok-push_copy.ensures.dims taken
    (cone_of s g s.lines fresh k met (ray_canonical s g fresh k flat case) (cut_few s g products i.saturation cut er x)) in (
      subst (λ (y : List (List ℤ)). IsCone (record { dims = c.push_copy.new.self.dims; taken = constraints c.push_copy.new.self; lines = s.lines; rays = y }))
          (sym new) cone,
      cut_matrix s g products i.saturation cut c.exchange.new.self k er c.self.invariant.1 x exchanged ∙ ap (λ (y : List LinearRow). cone_saturation y fresh)
          (sym taken) ∙ ap (cone_saturation (constraints c.push_copy.new.self)) (sym new),
      grind (arith, common_steps, ap length rows, ap length kinds, c.self.invariant.2),
    )

pub returns-in-Ok-clause-ok : goal.returns-in-Ok-clause-ok
returns-in-Ok-clause-ok c =
    let i = c.self.inside in
    let s : ConeContent = record { dims = i.taken.dims; taken = constraints i.taken; lines = i.lines.items; rays = i.rays.items } in
    let k : IsCone s = c.self.invariant.0 in
    let row = c.args.row.now in
    let g : LinearRow = record { row = row; equal = is_equality c.args.kind } in
    let products = map (product row) s.rays in
    let er : products ≡ map (product row) s.rays = refl in
    let cut = c.args.made in
    let x : IsCut g.equal products s.rays i.saturation cut = subst (λ (m : Matrix). IsCut g.equal products s.rays m cut) (sym c.self.invariant.1)
    (subst (λ (z : ConeContent). IsCut g.equal (map (product row) z.rays) z.rays (cone_saturation z.taken z.rays) cut) (sym c.self.view_is) c.requires.cut) in
    let okay : IsOk c.append.result = c.append.ensures.succeeds (omega (arith, c.in_ok-reserve.ensures.ok, c.len.ensures)) in
    let added : c.append.new.self.items ≡ s.rays ++ cut.rays.items = c.append.ensures.items ∙ ap
    (λ (b : Bool). cond b (c.reserve.new.self.items ++ cut.rays.items) c.reserve.new.self.items) okay ∙
    ap (λ (y : List (List ℤ)). y ++ cut.rays.items) c.in_ok-reserve.ensures.items in
    let w : length row ≡ suc s.dims = c.requires.width ∙ ap (λ (z : ConeContent). suc z.dims) (sym c.self.view_is) in
    let flat : (l : List ℤ) → Contains s.lines l → product row l ≡ pos 0 = λ l m. All-contains (λ y. product row y ≡ pos 0) s.lines l
    (subst (λ (z : ConeContent). All (λ y. product row y ≡ pos 0) z.lines) (sym c.self.view_is) c.requires.flat) m in
    let fresh = unmarked cut.gone (s.rays ++ cut.rays.items) in
    let new : c.remove_marked.new.rows.items ≡ fresh = c.remove_marked.ensures ∙ ap (unmarked cut.gone) added in
    let case = cut_taken s g products i.saturation cut k er c.self.invariant.1 x in
    let met = ray_met s g fresh k w flat case in
    let kinds = c.in_ok-push_copy.ensures.kinds in
    let rows = c.in_ok-push_copy.ensures.rows in
    let taken = ap (λ (y : List (List ℤ)). rows_by_kind is_equality y c.push_copy.new.self.kinds) rows ∙ ap
    (λ (y : List ConKind). rows_by_kind is_equality (i.taken.rows ++ row ∷ []) y) kinds ∙
    constraints_push is_equality i.taken.rows i.taken.kinds row c.args.kind c.self.invariant.2 in
    subst (λ (z : ConeContent). IsTakenIn z g (record {
      dims = c.push_copy.new.self.dims;
      taken = constraints c.push_copy.new.self;
      lines = s.lines;
      rays =
          c.remove_marked.new.rows.items;
    })) c.self.view_is
    (record {
      dims = c.in_ok-push_copy.ensures.dims;
      taken = taken;
      met = subst
          (λ (y : List (List ℤ)). IsIntersection (suc s.dims) g.equal row (all_rows s.lines s.rays) (all_rows s.lines y)) (sym new) met;
    })

-- the row is removed again
pub invariant_of-self-in-Err : goal.invariant_of-self-in-Err
invariant_of-self-in-Err c =
    let i = c.self.inside in
    let same = taken_again i.taken c.push_copy.new.self c.pop.new.self c.args.row.now c.args.kind c.in_ok-push_copy.ensures.dims c.in_ok-push_copy.ensures.rows
    c.in_ok-push_copy.ensures.kinds
    c.pop.ensures.dims c.pop.ensures.rows c.pop.ensures.kinds in
    let matrix = c.in-Err.ensures.unchanged in
    kept_again i.taken c.pop.new.self i.lines.items i.rays.items c.reserve.new.self.items i.saturation c.exchange.new.self same c.in_ok-reserve.ensures.items
    matrix c.self.invariant
