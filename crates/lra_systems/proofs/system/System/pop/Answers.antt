-- Goals of `System::pop`: takes the last row out, if there is one.
use Rattle.std.proofs.{Common.◌≡◌, Common.List, Common.arith, Common.length, Common.suc, Common.ℤ, lemmas.Grind.common_steps, lemmas.List.Elements.All-pop}
use Rattle.std.specs.{List.All, Vec.vec_len}
use Rattle.lra_linear_spec.specs.Range.{InRange}
use Rattle.lra_systems.proofs.Popped.{as_many_left, popped}
use Rattle.lra_systems.proofs.system.System.pop.Goals as goal

pub invariant_of-self : goal.invariant_of-self
invariant_of-self g c =
    let i = c.self.inside in
    let rows = popped i.rows.items c.pop-row.new.self.items c.pop-row.result c.pop-row.ensures.items
    (λ h. c.pop-row.ensures.variant.1 (let n : vec_len i.rows ≡ length i.rows.items = grind (arith, common_steps) in omega (arith, h, n))) in
    let kinds = popped i.kinds.items c.pop-kind.new.self.items c.pop-kind.result c.pop-kind.ensures.items
    (λ h. c.pop-kind.ensures.variant.1 (let n : vec_len i.kinds ≡ length i.kinds.items = grind (arith, common_steps) in omega (arith, h, n))) in
    let fewer = as_many_left i.rows.items i.kinds.items c.pop-row.new.self.items c.pop-kind.new.self.items rows kinds c.self.invariant.0 in (
      fewer,
      (All-pop (λ (r : List ℤ). length r ≡ suc i.dims) i.rows.items c.pop-row.new.self.items c.pop-row.result c.pop-row.ensures.items c.self.invariant.1).0,
      (All-pop (All InRange) i.rows.items c.pop-row.new.self.items c.pop-row.result c.pop-row.ensures.items c.self.invariant.2).0,
    )

pub returns-clause-rows : goal.returns-clause-rows
returns-clause-rows g c =
    let i = c.self.inside in
    rw (← c.self.view_is) (popped i.rows.items c.pop-row.new.self.items c.pop-row.result c.pop-row.ensures.items
    (λ h. c.pop-row.ensures.variant.1 (let n : vec_len i.rows ≡ length i.rows.items = grind (arith, common_steps) in omega (arith, h, n))))

pub returns-clause-kinds : goal.returns-clause-kinds
returns-clause-kinds g c =
    let i = c.self.inside in
    rw (← c.self.view_is) (popped i.kinds.items c.pop-kind.new.self.items c.pop-kind.result c.pop-kind.ensures.items
    (λ h. c.pop-kind.ensures.variant.1 (let n : vec_len i.kinds ≡ length i.kinds.items = grind (arith, common_steps) in omega (arith, h, n))))
