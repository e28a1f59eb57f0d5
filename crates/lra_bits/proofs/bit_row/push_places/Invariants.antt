use Rattle.std.proofs.Common.{◌≡◌, ℕ, ◌<◌, ◌+◌, ◌*◌, ◌^◌, Bool, List}
use Rattle.std.specs.{Int.bit_at, Prelude.◌==◌, Prelude.min}
use Rattle.lra_bits.specs.TruthValues.{value_at, ArePlaces}
use Rattle.lra_bits.proofs.Places.{ArePlacesBut}
use Rattle.lra_bits.proofs.bit_row.push_places.Given as goal

abbrev pub invariant-loop-left : goal.invariant-loop-left
invariant-loop-left l = record {
  fits : l.left < 2 ^ 64;
  within : (j : ℕ) → j < 64 → bit_at l.left j ≡ 1 → bit_at l.word j ≡ 1;
  pushed : (values : List Bool) → ((j : ℕ) → j < 64 → value_at values (l.at * 64 + j) ≡ (bit_at l.word j == 1)) → ArePlaces values (min l.count (l.at * 64)) l.initial.places.items →
      ArePlacesBut values (min l.count (l.at * 64 + 64)) l.at l.left l.places.items;
}

abbrev pub decreases-loop-left : goal.decreases-loop-left
decreases-loop-left l = l.left
