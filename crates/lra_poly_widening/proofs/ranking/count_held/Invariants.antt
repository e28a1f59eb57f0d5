use Rattle.std.proofs.Common.{◌≡◌, ◌≤◌, length}
use Rattle.std.specs.List.{filter}
use Rattle.lra_poly_widening.specs.Crates.lra_linear_spec.Kinds.{is_equality}
use Rattle.lra_systems.proofs.FirstMembers.{front}
use Rattle.lra_poly_widening.specs.Rank.{holds_in_range}
use Rattle.lra_poly_widening.proofs.ranking.count_held.Given as goal

abbrev pub invariant-loop-place : goal.invariant-loop-place
invariant-loop-place l = record {
  few : l.count ≤ l.place;
  counted : l.count ≡ length (filter (holds_in_range l.p) (front is_equality l.rows l.kinds l.place));
}
