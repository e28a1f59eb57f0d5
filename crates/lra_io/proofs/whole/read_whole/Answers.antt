-- Goals of `read_whole`: reads to the end of the input, or one byte past the limit.
use Rattle.std.proofs.{Common.◌≡◌, Common.◌∙◌, Common.◌+◌, Common.◌-◌, Common.◌≤◌, Common.length, Common.vec_len, Common.arith, lemmas.Grind.common_steps}
use Rattle.lra_io.specs.Calls.{one_more}
use Rattle.lra_io.proofs.Input.{piece_lost, piece_taken, piece_within}
use Rattle.lra_io.proofs.whole.read_whole.Goals as goal

pub returns-in_err-extend_from_slice-clause-whole :
    goal.returns-in_err-extend_from_slice-clause-whole
returns-in_err-extend_from_slice-clause-whole g c =
    let same : length c.pieces.bytes.items ≡ vec_len c.pieces.bytes = grind (arith, common_steps) in
    let before : length c.pieces.bytes.items ≤ c.args.limit = omega (arith, same, c.pieces-test.true, c.len.ensures) in
    let room : c.min-room.result ≤ c.args.limit + 1 - length c.pieces.bytes.items = omega (arith, same, c.min-room.ensures, c.len-in-pieces.ensures) in
    piece_lost _ _ _ _ _ _ _ c.from_residual.ensures.1 c.pieces.invariant.1 c.in-Ok.ensures.bytes.0
    (piece_within _ _ _ _ _ _ before c.in-Ok.ensures.bound.0 c.read.auto.into room)

pub pieces-preserved : goal.pieces-preserved
pieces-preserved g c = (
  grind (arith, common_steps),
  piece_taken _ _ _ _ _ _ c.pieces.invariant.1 c.in-Ok.ensures.bytes.0 (grind (arith, common_steps)),
  c.in-Ok.ensures.cause.same ∙
      c.pieces.invariant.2,
  one_more _ _ c.pieces.invariant.3 c.in-Ok.ensures.success,
)
