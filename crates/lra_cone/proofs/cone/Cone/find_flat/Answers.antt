-- Goals of `Cone::find_flat`: what comes of its lists with the line at the place across.
use Rattle.std.proofs.Common.{sym, ◌∙◌, ap, length, subst, get_or, ◌<◌, List, ℤ, [], pos, rules, FitsSigned}
use Rattle.std.proofs.{lemmas.Int.to_z-of_z, lemmas.List.Elements.Contains-get_or, lemmas.Result.err_from_is_err_and}
use Rattle.std.specs.Int.{w128}
use Rattle.lra_systems.specs.LinearSystems.{constraints}
use Rattle.lra_cone.specs.Crates.lra_linear_spec.Kinds.{is_equality}
use Rattle.lra_cone.specs.{Cones.ConeContent, Flat.AreFlat, Flat.IsFlatError}
use Rattle.lra_double_description.specs.Steps.{IsTurned, AreFlatLines, AreFlatRays, flat_matrix}
use Rattle.lra_cone.proofs.FlatCones.{flat_lines_told, flat_rays_told}
use Rattle.lra_cone.proofs.Stepped.{turned_down, turned_up_width, turned_down_width, line_width, all_lines_width, all_rays_width}
use Rattle.lra_cone.proofs.cone.Cone.find_flat.Goals as goal

pub flat_lines-requires-clause-turned : goal.flat_lines-requires-clause-turned
flat_lines-requires-clause-turned c = turned_down _ _ _ c.in_ok-line.line c.in_ok-line.ensures

pub flat_rays-requires-clause-turned : goal.flat_rays-requires-clause-turned
flat_rays-requires-clause-turned c = turned_down _ _ _ c.in_ok-line.line c.in_ok-line.ensures

pub flat_lines-requires-clause-up_widths : goal.flat_lines-requires-clause-up_widths
flat_lines-requires-clause-up_widths c =
    let i = c.self.inside in
    let s : ConeContent = record { dims = i.taken.dims; taken = constraints i.taken; lines = i.lines.items; rays = i.rays.items } in
    let inside : c.args.place < length s.lines = subst (λ (z : ConeContent). c.args.place < length z.lines) (sym c.self.view_is) c.requires.inside in
    let w = turned_up_width _ _ _ c.in_ok-line.line c.in_ok-line.ensures ∙ ap (λ (x : List (List ℤ)). length (get_or x c.args.place [])) c.deref.ensures.value ∙
    line_width s c.self.invariant.0 (get_or s.lines c.args.place []) (Contains-get_or s.lines c.args.place [] inside) in
    all_lines_width s (length c.in_ok-line.line.up) c.deref-2.result.now c.self.invariant.0 w c.deref-2.ensures.value

pub flat_lines-requires-clause-down_widths : goal.flat_lines-requires-clause-down_widths
flat_lines-requires-clause-down_widths c =
    let i = c.self.inside in
    let s : ConeContent = record { dims = i.taken.dims; taken = constraints i.taken; lines = i.lines.items; rays = i.rays.items } in
    let inside : c.args.place < length s.lines = subst (λ (z : ConeContent). c.args.place < length z.lines) (sym c.self.view_is) c.requires.inside in
    let w = turned_down_width _ _ _ c.in_ok-line.line c.in_ok-line.ensures ∙ ap (λ (x : List (List ℤ)). length (get_or x c.args.place [])) c.deref.ensures.value ∙
    line_width s c.self.invariant.0 (get_or s.lines c.args.place []) (Contains-get_or s.lines c.args.place [] inside) in
    all_lines_width s (length c.in_ok-line.line.down) c.deref-2.result.now c.self.invariant.0 w c.deref-2.ensures.value

pub flat_rays-requires-clause-up_widths : goal.flat_rays-requires-clause-up_widths
flat_rays-requires-clause-up_widths c =
    let i = c.self.inside in
    let s : ConeContent = record { dims = i.taken.dims; taken = constraints i.taken; lines = i.lines.items; rays = i.rays.items } in
    let inside : c.args.place < length s.lines = subst (λ (z : ConeContent). c.args.place < length z.lines) (sym c.self.view_is) c.requires.inside in
    let w = turned_up_width _ _ _ c.in_ok-line.line c.in_ok-line.ensures ∙ ap (λ (x : List (List ℤ)). length (get_or x c.args.place [])) c.deref.ensures.value ∙
    line_width s c.self.invariant.0 (get_or s.lines c.args.place []) (Contains-get_or s.lines c.args.place [] inside) in
    all_rays_width s (length c.in_ok-line.line.up) c.deref-3.result.now c.self.invariant.0 w c.deref-3.ensures.value

pub flat_rays-requires-clause-down_widths : goal.flat_rays-requires-clause-down_widths
flat_rays-requires-clause-down_widths c =
    let i = c.self.inside in
    let s : ConeContent = record { dims = i.taken.dims; taken = constraints i.taken; lines = i.lines.items; rays = i.rays.items } in
    let inside : c.args.place < length s.lines = subst (λ (z : ConeContent). c.args.place < length z.lines) (sym c.self.view_is) c.requires.inside in
    let w = turned_down_width _ _ _ c.in_ok-line.line c.in_ok-line.ensures ∙ ap (λ (x : List (List ℤ)). length (get_or x c.args.place [])) c.deref.ensures.value ∙
    line_width s c.self.invariant.0 (get_or s.lines c.args.place []) (Contains-get_or s.lines c.args.place [] inside) in
    all_rays_width s (length c.in_ok-line.line.down) c.deref-3.result.now c.self.invariant.0 w c.deref-3.ensures.value

pub returns-clause-flat : goal.returns-clause-flat
returns-clause-flat c =
    let i = c.self.inside in
    let s : ConeContent = record { dims = i.taken.dims; taken = constraints i.taken; lines = i.lines.items; rays = i.rays.items } in
    let fits : FitsSigned w128 (get_or c.args.of_lines.now c.args.place (pos 0)) = search rules in
    let t = subst (λ (x : List (List ℤ)). IsTurned (get_or x c.args.place []) c.args.place (get_or c.args.of_lines.now c.args.place (pos 0)) c.in_ok-line.line) c.deref.ensures.value
    (simp to_z-of_z at c.in_ok-line.ensures) in
    let equal = is_equality c.args.kind in
    let lines = c.in_ok-lines.lines.items in
    let rays = c.in_ok-rays.rays.items in
    let flat : AreFlat equal s c.args.place c.args.of_lines.now c.args.of_rays.now lines rays c.in_ok-saturation.saturation = record {
      line = c.in_ok-line.line;
      turned = t;
      are_lines = subst (λ (x : List (List ℤ)). AreFlatLines c.in_ok-line.line c.args.of_lines.now x lines) c.deref-2.ensures.value c.in_ok-lines.ensures.ok;
      are_rays = subst (λ (x : List (List ℤ)). AreFlatRays equal c.in_ok-line.line c.args.of_rays.now x rays) c.deref-3.ensures.value c.in_ok-rays.ensures.ok;
      is_matrix = c.in_ok-saturation.ensures ∙ ap (flat_matrix equal) c.self.invariant.1;
    } in
    subst (λ (z : ConeContent). AreFlat equal z c.args.place c.args.of_lines.now c.args.of_rays.now lines rays c.in_ok-saturation.saturation) c.self.view_is
    flat

pub returns-in_err-lines-clause-strained : goal.returns-in_err-lines-clause-strained
returns-in_err-lines-clause-strained c =
    let i = c.self.inside in
    let s : ConeContent = record { dims = i.taken.dims; taken = constraints i.taken; lines = i.lines.items; rays = i.rays.items } in
    let fits : FitsSigned w128 (get_or c.args.of_lines.now c.args.place (pos 0)) = search rules in
    let t = subst (λ (x : List (List ℤ)). IsTurned (get_or x c.args.place []) c.args.place (get_or c.args.of_lines.now c.args.place (pos 0)) c.in_ok-line.line) c.deref.ensures.value
    (simp to_z-of_z at c.in_ok-line.ensures) in
    let e = c.in_err-lines.field-0.0 in
    let r = err_from_is_err_and c.from_residual-in_err-lines.result c.from_residual-in_err-lines.ensures.1 in
    let told = flat_lines_told s c.args.place c.args.of_lines.now c.args.of_rays.now c.in_ok-line.line e t (rw c.deref-2.ensures.value at c.in_err-lines.ensures.strained) in
    rw (r.1, r.2) (subst (λ (z : ConeContent). IsFlatError z c.args.place c.args.of_lines.now c.args.of_rays.now e) c.self.view_is told)

pub returns-in_err-rays-clause-strained : goal.returns-in_err-rays-clause-strained
returns-in_err-rays-clause-strained c =
    let i = c.self.inside in
    let s : ConeContent = record { dims = i.taken.dims; taken = constraints i.taken; lines = i.lines.items; rays = i.rays.items } in
    let fits : FitsSigned w128 (get_or c.args.of_lines.now c.args.place (pos 0)) = search rules in
    let t = subst (λ (x : List (List ℤ)). IsTurned (get_or x c.args.place []) c.args.place (get_or c.args.of_lines.now c.args.place (pos 0)) c.in_ok-line.line) c.deref.ensures.value
    (simp to_z-of_z at c.in_ok-line.ensures) in
    let e = c.in_err-rays.field-0.0 in
    let r = err_from_is_err_and c.from_residual-in_err-rays.result c.from_residual-in_err-rays.ensures.1 in
    let told = flat_rays_told s c.args.place c.args.of_lines.now c.args.of_rays.now c.in_ok-line.line e t (rw c.deref-3.ensures.value at c.in_err-rays.ensures.strained) in
    rw (r.1, r.2) (subst (λ (z : ConeContent). IsFlatError z c.args.place c.args.of_lines.now c.args.of_rays.now e) c.self.view_is told)
