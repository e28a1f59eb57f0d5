use Rattle.std.proofs.Common.{ℕ, List, Bool, length, ◌<◌, ◌^◌}
use Rattle.std.specs.Prelude.{IsTrue}
use Rattle.lra_bits.specs.Transposed.{IsMarked, AreWider, is_in_word}
use Rattle.lra_bits.proofs.sat_matrix.set_word.Given as goal

abbrev pub invariant-loop-left : goal.invariant-loop-left
invariant-loop-left l = record {
  fits : l.left < 2 ^ 64;
  wide : AreWider l.k l.columns;
  inside : (c : ℕ) → IsTrue (is_in_word l.left l.at c) → c < length l.columns;
  goes_on : (final : List (List Bool)) → IsMarked l.columns final l.k (is_in_word l.left l.at) → IsMarked l.initial.columns final l.k (is_in_word l.initial.left l.at);
}

abbrev pub decreases-loop-left : goal.decreases-loop-left
decreases-loop-left l = l.left
