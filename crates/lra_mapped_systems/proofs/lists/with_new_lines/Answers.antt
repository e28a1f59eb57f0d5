-- Goals of `with_new_lines`: the generators, then a line along each of the dimensions after the first n.
use Rattle.std.proofs.Common.{◌∙◌, ◌+◌, ap, arith, length, refl, suc, sym, ℤ, List}
use Rattle.lra_mapped_systems.specs.Crates.{lra_linear_spec.Vectors.entry, lra_linear_spec.declared.GenKind.TheVariants.Line}
use Rattle.lra_mapped_systems.proofs.Crates.lra_linear_spec.UnitRows.{unit_length, unit_other}
use Rattle.lra_systems.specs.LinearSystems.{generators}
use Rattle.lra_mapped_systems.proofs.PushedLists.{all_lines, fit_more, line_pushed, many_more}
use Rattle.lra_mapped_systems.proofs.lists.with_new_lines.Goals as goal

pub push-requires : goal.push-requires
push-requires c = ap length c.in_ok-unit.ensures ∙ unit_length (c.args.n + c.args.k) (c.args.n + 1 + c.loop-i.i) ∙
    ap suc (sym c.loop-i.invariant.dims)

pub loop-i-preserved : goal.loop-i-preserved
loop-i-preserved c =
    let all = c.loop-i.all in
    let more = c.push.new.self in
    let row = c.in_ok-unit.field-0 in
    record {
      dims = c.in_ok-push.ensures.dims ∙ c.loop-i.invariant.dims;
      given = line_pushed (generators c.args.list) all more c.args.n c.args.k c.loop-i.i (c.args.n + c.args.k)
          (c.args.n + 1 + c.loop-i.i) row c.loop-i.invariant.given c.loop-i.invariant.many
          c.in_ok-push.ensures.rows c.in_ok-push.ensures.kinds c.in_ok-unit.ensures refl
          (omega arith) c.loop-i-test.true;
      many = many_more all.rows more.rows all.kinds more.kinds row Line c.loop-i.invariant.many
          c.in_ok-push.ensures.rows c.in_ok-push.ensures.kinds;
      fit = fit_more all.rows more.rows all.kinds more.kinds row Line c.loop-i.invariant.many c.loop-i.invariant.fit
          (ap (λ (r : List ℤ). entry r 0) c.in_ok-unit.ensures ∙
          unit_other (c.args.n + c.args.k) (c.args.n + 1 + c.loop-i.i) 0 (λ e. omega (arith, e)))
          c.in_ok-push.ensures.rows
          c.in_ok-push.ensures.kinds;
    }

pub returns-clause-generators : goal.returns-clause-generators
returns-clause-generators c = all_lines (generators c.args.list) c.loop-i.all c.args.n c.args.k c.loop-i.i
    c.loop-i.invariant.given (omega arith)
