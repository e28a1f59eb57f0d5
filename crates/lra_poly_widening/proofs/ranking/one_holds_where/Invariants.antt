use Rattle.std.proofs.Common.{◌≡◌, false}
use Rattle.std.specs.{List.list_any, Prelude.◌&&◌}
use Rattle.lra_poly_widening.specs.Crates.{lra_duality.Saturations.saturated, lra_linear_spec.Kinds.is_equality}
use Rattle.lra_systems.proofs.FirstMembers.{front}
use Rattle.lra_poly_widening.specs.{Rank.holds_in_range, Saturated.same_values}
use Rattle.lra_poly_widening.proofs.ranking.one_holds_where.Given as goal

abbrev pub invariant-loop-place : goal.invariant-loop-place
invariant-loop-place l =
    list_any (λ g. holds_in_range l.p g && same_values l.bits (saturated l.p.generators g.row)) (front is_equality l.rows l.kinds l.place) ≡ false
