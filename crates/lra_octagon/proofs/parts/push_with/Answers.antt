-- Goals of `push_with`: adds the rows that begin with `v_i`.
use Rattle.lra_octagon.proofs.PartLemmas.{pushed_three}
use Rattle.lra_octagon.proofs.parts.push_with.Goals as goal

pub returns : goal.returns
returns c = record {
  pushed = pushed_three c.args.kind _ _ _ c.args.system.now c.push_rising.new.system c.push_row.new.system c.push_falling.new.system
      c.in_ok-push_rising.ensures.pushed c.in_ok-push_row.ensures.pushed c.in_ok-push_falling.ensures.pushed;
}
