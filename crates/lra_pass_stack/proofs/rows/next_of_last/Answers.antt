-- Goals of `next_of_last`: the last of the trees is passed, or next.
use Rattle.std.proofs.Common.{[], refl, arith}
use Rattle.lra_pass_results.specs.Flat.{flat_view}
use Rattle.lra_pass_results.proofs.AnyInterference.{flat_among}
use Rattle.lra_pass_stack.proofs.{OpenFrames.last_leads, RowLeaves.last_followed}
use Rattle.lra_pass_stack.proofs.rows.next_of_last.Goals as goal

pub returns-in-Some-clause-leads : goal.returns-in-Some-clause-leads
returns-in-Some-clause-leads g c others set whole memory plan may loop =
    let o = g.F.Interfere.interference others in
    last_followed o g.D.Domain.abstraction set c.args.plan.now c.args.node.now (flat_view c.in-Some.flat) whole memory
    c.args.so_far c.pass_on.new.so_far plan c.in-Some.ensures.0
    (flat_among o g.D.Domain.abstraction c.args.plan.now c.in-Some.flat c.args.so_far c.pass_on.new.so_far
    c.in-Some.ensures.1 c.in_ok-pass_on.ensures) loop

pub returns : goal.returns
returns g c = record {
  leads = λ others set whole memory plan may loop. last_leads (g.F.Interfere.interference others) g.D.Domain.abstraction set []
      c.args.so_far.found c.args.node.now c.args.so_far.normal c.args.so_far.flag whole memory refl may loop;
  falls = λ b set. omega arith;
}
