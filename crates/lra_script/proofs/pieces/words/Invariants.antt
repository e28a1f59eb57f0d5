use Rattle.std.proofs.Common.{◌≡◌, ◌++◌, drop, filter, not, nat_eq, length}
use Rattle.lra_script.specs.Views.{texts}
use Rattle.lra_script.proofs.pieces.words.Given as goal

abbrev pub invariant-loop-piece : goal.invariant-loop-piece
invariant-loop-piece l =
    texts l.words.items ++ filter (λ w. not (nat_eq (length w) 0)) (texts (drop l.piece-index l.piece-items)) ≡ filter (λ w. not (nat_eq (length w) 0)) (texts l.piece-items)
