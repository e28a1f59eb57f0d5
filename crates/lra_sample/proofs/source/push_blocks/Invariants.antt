use Rattle.std.proofs.Common.{◌≡◌, ◌*◌, ◌++◌, string_bytes}
use Rattle.lra_sample.specs.{Draws.state_after, Sample.block_lines}
use Rattle.lra_sample.proofs.source.push_blocks.Given as goal

abbrev pub invariant-loop : goal.invariant-loop
invariant-loop l = record {
  state : l.generator.state ≡ state_after l.seed (4 * l.counter);
  lines : string_bytes l.text ≡ string_bytes l.initial.text ++ block_lines l.seed l.counter;
}
