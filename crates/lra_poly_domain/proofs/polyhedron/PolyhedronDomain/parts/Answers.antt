-- Goals of `PolyhedronDomain::parts`.
use Rattle.std.proofs.Common.{◌≡◌, ◌∙◌, ◌∷◌, ◌++◌, [], List, ℤ, length, ap, subst, sym}
use Rattle.lra_domain.specs.Parts.{SomePartHolds}
use Rattle.lra_linear_spec.specs.declared.ConKind.{ConKind}
use Rattle.lra_poly_domain.specs.Content.{PolyhedronGamma, polyhedron_parts}
use Rattle.lra_poly_domain.specs.Crates.lra_systems.LinearSystems.{LinearSystem}
use Rattle.lra_poly_domain.proofs.PartLemmas.{no_parts, parts_hold, some_parts}
use Rattle.lra_poly_domain.proofs.polyhedron.PolyhedronDomain.parts.Goals as goal

pub returns-then-is_empty-clause-parts : goal.returns-then-is_empty-clause-parts
returns-then-is_empty-clause-parts c =
    rw (← c.self.view_is) (c.new-parts.ensures.items ∙ no_parts c.self.inside.poly c.is_empty.result c.rows-rows.ensures.canonical c.is_empty.ensures c.if-is_empty.true)

pub returns-then-is_empty-clause-hold : goal.returns-then-is_empty-clause-hold
returns-then-is_empty-clause-hold c =
    let is : c.new-parts.result.items ≡ polyhedron_parts c.self.inside.poly =
    c.new-parts.ensures.items ∙ no_parts c.self.inside.poly c.is_empty.result c.rows-rows.ensures.canonical c.is_empty.ensures c.if-is_empty.true in
    rw (← c.self.view_is, is) (parts_hold c.self.inside.poly)

pub returns-clause-parts : goal.returns-clause-parts
returns-clause-parts c =
    let list = c.rows-rows.result.now in
    let lengths : length list.kinds ≡ length list.rows = ap length (sym c.kinds-kinds.ensures.kinds) ∙ c.kinds-kinds.ensures.len in
    rw (c.in_ok-push.ensures.items, c.new-parts.ensures.items, c.in_ok-copy.ensures, ← c.self.view_is)
    (some_parts c.self.inside.poly c.is_empty.result c.rows-rows.result.now c.is_empty.ensures c.if-is_empty.false c.rows-rows.ensures.dims c.rows-rows.ensures.rows lengths)

pub returns-clause-hold : goal.returns-clause-hold
returns-clause-hold c =
    let p = c.self.inside.poly in
    let list = c.rows-rows.result.now in
    let lengths : length list.kinds ≡ length list.rows = ap length (sym c.kinds-kinds.ensures.kinds) ∙ c.kinds-kinds.ensures.len in
    let is = some_parts p c.is_empty.result list c.is_empty.ensures c.if-is_empty.false c.rows-rows.ensures.dims c.rows-rows.ensures.rows lengths in
    let told : c.push.new.self.items ≡ polyhedron_parts p = c.in_ok-push.ensures.items ∙ ap (λ (l : List (LinearSystem ConKind)). l ++ c.in_ok-copy.field-0 ∷ []) c.new-parts.ensures.items ∙
    ap (λ (x : LinearSystem ConKind). x ∷ []) c.in_ok-copy.ensures ∙ is in
    rw (← c.self.view_is) (subst (λ (l : List (LinearSystem ConKind)). (s : List ℤ) → PolyhedronGamma p s → SomePartHolds l s) (sym told) (parts_hold p))
