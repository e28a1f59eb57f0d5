-- Goals of `Cone::add_row`: takes a row in.
use Rattle.std.proofs.Common.{sym, ◌∙◌, ap, subst, map, length, suc, ◌≡◌, List, ℤ, Some}
use Rattle.lra_cone.specs.Crates.{lra_linear_spec.Kinds.is_equality, lra_linear_spec.Vectors.product}
use Rattle.lra_double_description.specs.Steps.{IsLastAcross}
use Rattle.lra_systems.specs.LinearSystems.{constraints}
use Rattle.lra_cone.specs.Cones.{ConeContent}
use Rattle.lra_cone.proofs.{Stepped.lines_have_width, Stepped.rays_have_width, Stepped.none_across, TakenIn.dims_then, TakenIn.taken_then, TakenIn.met_then}
use Rattle.lra_cone.proofs.cone.Cone.add_row.Goals as goal

pub multiply_all-requires : goal.multiply_all-requires
multiply_all-requires c =
    let i = c.self.inside in
    let s : ConeContent = record { dims = i.taken.dims; taken = constraints i.taken; lines = i.lines.items; rays = i.rays.items } in
    record { widths = lines_have_width s (length c.args.row.now) c.deref.result.now c.self.invariant.0 (c.requires ∙ ap (λ (x : ConeContent). suc x.dims) (sym c.self.view_is)) c.deref.ensures.value }

pub multiply_all-requires-2 : goal.multiply_all-requires-2
multiply_all-requires-2 c =
    let i = c.self.inside in
    let s : ConeContent = record { dims = i.taken.dims; taken = constraints i.taken; lines = i.lines.items; rays = i.rays.items } in
    record {
      widths = rays_have_width s (length c.args.row.now) c.deref-2.result.now c.self.invariant.0 (c.requires ∙ ap (λ (x : ConeContent). suc x.dims) (sym c.self.view_is))
          c.deref-2.ensures.value;
    }

pub cut-requires-clause-flat : goal.cut-requires-clause-flat
cut-requires-clause-flat c =
    let row = c.args.row.now in
    let lines = c.args.self.now.lines in
    let e : c.deref-3.result.now ≡ map (product row) lines = c.deref-3.ensures.value ∙ c.in_ok-of_lines.ensures.ok ∙ ap (map (product row)) c.deref.ensures.value ∙
    ap (λ (x : ConeContent). map (product row) x.lines) c.self.view_is in
    none_across row lines c.deref-3.result.now e c.in-None.ensures

pub cut-requires-clause-of_rays : goal.cut-requires-clause-of_rays
cut-requires-clause-of_rays c =
    let row = c.args.row.now in
    c.deref-in-None.ensures.value ∙ c.in_ok-of_rays.ensures.ok ∙ ap (map (product row)) c.deref-2.ensures.value ∙ ap (λ (x : ConeContent). map (product row) x.rays) c.self.view_is

pub flatten-requires-clause-of_lines : goal.flatten-requires-clause-of_lines
flatten-requires-clause-of_lines c =
    let row = c.args.row.now in
    c.deref-in-Some.ensures.value ∙ c.in_ok-of_lines.ensures.ok ∙ ap (map (product row)) c.deref.ensures.value ∙ ap (λ (x : ConeContent). map (product row) x.lines) c.self.view_is

pub flatten-requires-clause-of_rays : goal.flatten-requires-clause-of_rays
flatten-requires-clause-of_rays c =
    let row = c.args.row.now in
    c.deref-in-Some-2.ensures.value ∙ c.in_ok-of_rays.ensures.ok ∙ ap (map (product row)) c.deref-2.ensures.value ∙ ap (λ (x : ConeContent). map (product row) x.rays) c.self.view_is

pub flatten-requires-clause-last : goal.flatten-requires-clause-last
flatten-requires-clause-last c =
    subst (λ (l : List ℤ). IsLastAcross l (length l) (Some c.in-Some.place)) (c.deref-3.ensures.value ∙ sym c.deref-in-Some.ensures.value)
    (subst (IsLastAcross c.deref-3.result.now (length c.deref-3.result.now)) c.in-Some.is c.last_across.ensures)

pub returns-in-Some-clause-dims : goal.returns-in-Some-clause-dims
returns-in-Some-clause-dims c =
    dims_then c.args.self.now (record { row = c.args.row.now; equal = is_equality c.args.kind }) c.flatten.new.self c.flatten.result c.flatten.ensures.ok c.flatten.ensures.unchanged

pub returns-in-Some-clause-taken : goal.returns-in-Some-clause-taken
returns-in-Some-clause-taken c =
    taken_then c.args.self.now (record { row = c.args.row.now; equal = is_equality c.args.kind }) c.flatten.new.self c.flatten.result c.flatten.ensures.ok

pub returns-in-Some-clause-met : goal.returns-in-Some-clause-met
returns-in-Some-clause-met c =
    met_then c.args.self.now (record { row = c.args.row.now; equal = is_equality c.args.kind }) c.flatten.new.self c.flatten.result c.flatten.ensures.ok

pub returns-clause-dims : goal.returns-clause-dims
returns-clause-dims c =
    dims_then c.args.self.now (record { row = c.args.row.now; equal = is_equality c.args.kind }) c.cut.new.self c.cut.result c.cut.ensures.ok c.cut.ensures.unchanged

pub returns-clause-taken : goal.returns-clause-taken
returns-clause-taken c =
    taken_then c.args.self.now (record { row = c.args.row.now; equal = is_equality c.args.kind }) c.cut.new.self c.cut.result c.cut.ensures.ok

pub returns-clause-met : goal.returns-clause-met
returns-clause-met c =
    met_then c.args.self.now (record { row = c.args.row.now; equal = is_equality c.args.kind }) c.cut.new.self c.cut.result c.cut.ensures.ok
