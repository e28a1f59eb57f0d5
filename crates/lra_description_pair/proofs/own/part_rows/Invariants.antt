use Rattle.std.proofs.Common.{◌≡◌, length, take}
use Rattle.lra_description_pair.specs.Crates.lra_linear_spec.Descriptions.{rows_of}
use Rattle.lra_description_pair.specs.OwnLists.{AreParts}
use Rattle.lra_description_pair.proofs.own.part_rows.Given as goal

abbrev pub invariant-loop-place : goal.invariant-loop-place
invariant-loop-place l = record {
  width : l.parts.saturation.width ≡ l.width;
  parts : AreParts l.cone.rays (length l.cone.lines) (take l.place (rows_of l.cone.taken)) l.parts.tight.items l.parts.loose.items l.parts.saturation.rows;
}
