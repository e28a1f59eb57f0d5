-- Goals of `Cone::cut`: takes a row in if its product with each line is 0.
use Rattle.std.proofs.Common.{sym, ◌∙◌, ap, length, subst, ◌≡◌, List, ℤ, pos, map, suc}
use Rattle.std.proofs.{lemmas.List.length-map, lemmas.List.Elements.All-contains, lemmas.Result.err_from_is_err_and}
use Rattle.std.specs.List.{All, Contains}
use Rattle.lra_cone.specs.Crates.{lra_bits.Matrix.Matrix, lra_linear_spec.Descriptions.LinearRow, lra_linear_spec.Kinds.is_equality, lra_linear_spec.Vectors.product}
use Rattle.lra_systems.specs.LinearSystems.{constraints}
use Rattle.lra_cone.specs.{Cones.ConeContent, Cones.IsCone, Cones.cone_saturation, Cones.saturation_rows, Strains.IsConeError}
use Rattle.lra_double_description.specs.{Pairs.IsCut, Strains.IsCutError, Thirds.FewHaveThird}
use Rattle.lra_cone.proofs.{Stepped.rays_have_one_width, Stepped.saturation_equal, StrainLemmas.cut_cone_error, TightRows.rows_length}
use Rattle.lra_cone.proofs.cone.Cone.cut.Goals as goal

pub cut_rays-requires-clause-matrix : goal.cut_rays-requires-clause-matrix
cut_rays-requires-clause-matrix c =
    let i = c.self.inside in
    let s : ConeContent = record { dims = i.taken.dims; taken = constraints i.taken; lines = i.lines.items; rays = i.rays.items } in
    let k : IsCone s = c.self.invariant.0 in
    let row = c.args.row.now in
    let g : LinearRow = record { row = row; equal = is_equality c.args.kind } in
    let products = c.args.products.now in
    let er : products ≡ map (product row) s.rays = c.requires.of_rays ∙ ap (λ (x : ConeContent). map (product row) x.rays) (sym c.self.view_is) in
    ap length er ∙ length-map s.rays (product row) ∙ sym (rows_length s.taken s.rays) ∙ sym (ap (λ (m : Matrix). length m.rows) c.self.invariant.1)

pub cut_rays-requires-clause-equal : goal.cut_rays-requires-clause-equal
cut_rays-requires-clause-equal c = let i = c.self.inside in saturation_equal (constraints i.taken) i.rays.items i.saturation c.self.invariant.1

pub cut_rays-requires-clause-widths : goal.cut_rays-requires-clause-widths
cut_rays-requires-clause-widths c =
    let i = c.self.inside in
    let s : ConeContent = record { dims = i.taken.dims; taken = constraints i.taken; lines = i.lines.items; rays = i.rays.items } in
    let k : IsCone s = c.self.invariant.0 in
    let row = c.args.row.now in
    let g : LinearRow = record { row = row; equal = is_equality c.args.kind } in
    let products = c.args.products.now in
    let er : products ≡ map (product row) s.rays = c.requires.of_rays ∙ ap (λ (x : ConeContent). map (product row) x.rays) (sym c.self.view_is) in
    rays_have_one_width s c.deref.result.now k c.deref.ensures.value

pub cut_rays-requires-clause-thirds : goal.cut_rays-requires-clause-thirds
cut_rays-requires-clause-thirds c =
    let least = c.least_shared-least.result in
    subst (λ (m : Matrix). FewHaveThird m.rows least) (sym c.self.invariant.1)
    (subst (λ (z : ConeContent). FewHaveThird (saturation_rows z.taken z.rays) least) (sym c.self.view_is) c.least_shared-least.ensures)

pub exchange_rays-requires-clause-cut : goal.exchange_rays-requires-clause-cut
exchange_rays-requires-clause-cut c =
    let i = c.self.inside in
    let s : ConeContent = record { dims = i.taken.dims; taken = constraints i.taken; lines = i.lines.items; rays = i.rays.items } in
    let row = c.args.row.now in
    let equal = is_equality c.args.kind in
    let products = c.args.products.now in
    let cut = c.in_ok-made.made in
    let er : products ≡ map (product row) s.rays = c.requires.of_rays ∙ ap (λ (x : ConeContent). map (product row) x.rays) (sym c.self.view_is) in
    let x = subst (λ (y : List (List ℤ)). IsCut equal products y i.saturation cut) c.deref.ensures.value c.in_ok-made.ensures.ok in
    subst (λ (z : ConeContent). IsCut equal (map (product row) z.rays) z.rays (cone_saturation z.taken z.rays) cut) c.self.view_is
    (subst (λ (y : List ℤ). IsCut equal y s.rays (cone_saturation s.taken s.rays) cut) er (subst (λ (m : Matrix). IsCut equal products s.rays m cut) c.self.invariant.1 x))

pub returns-in_err-made-clause-strained : goal.returns-in_err-made-clause-strained
returns-in_err-made-clause-strained c =
    let i = c.self.inside in
    let s : ConeContent = record { dims = i.taken.dims; taken = constraints i.taken; lines = i.lines.items; rays = i.rays.items } in
    let k : IsCone s = c.self.invariant.0 in
    let row = c.args.row.now in
    let g : LinearRow = record { row = row; equal = is_equality c.args.kind } in
    let products = c.args.products.now in
    let er : products ≡ map (product row) s.rays = c.requires.of_rays ∙ ap (λ (x : ConeContent). map (product row) x.rays) (sym c.self.view_is) in
    let w : length row ≡ suc s.dims = c.requires.width ∙ ap (λ (z : ConeContent). suc z.dims) (sym c.self.view_is) in
    let flat : (l : List ℤ) → Contains s.lines l → product row l ≡ pos 0 = λ l m. All-contains (λ y. product row y ≡ pos 0) s.lines l
    (subst (λ (z : ConeContent). All (λ y. product row y ≡ pos 0) z.lines) (sym c.self.view_is) c.requires.flat) m in
    let e = c.in_err-made.field-0.0 in
    let r = err_from_is_err_and c.from_residual.result c.from_residual.ensures.1 in
    let told = cut_cone_error s g products i.saturation e k w flat er c.self.invariant.1
    (subst (λ (y : List (List ℤ)). IsCutError (is_equality c.args.kind) products y i.saturation e) c.deref.ensures.value c.in_err-made.ensures.strained) in
    rw (r.1, r.2) (subst (λ (z : ConeContent). IsConeError z (is_equality c.args.kind) row e) c.self.view_is told)
