use Rattle.std.proofs.Common.{ℕ, ◌+◌, ◌<◌}
use Rattle.lra_lex.specs.Prefixes.{IsCloseAt}
use Rattle.lra_lex.proofs.gaps.find_close.Given as goal

abbrev pub invariant-loop-i : goal.invariant-loop-i
invariant-loop-i l = (k : ℕ) → k + 1 < l.i → IsCloseAt l.text k → ⊥
