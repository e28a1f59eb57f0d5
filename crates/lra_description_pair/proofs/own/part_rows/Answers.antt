-- Goals of `part_rows`: the parts of the rows added.
use Rattle.std.proofs.Common.{◌≡◌, ◌<◌, ◌∙◌, arith, ap, sym, length, take}
use Rattle.lra_description_pair.specs.Crates.{lra_linear_spec.Descriptions.rows_of, lra_linear_spec.Kinds.is_equality}
use Rattle.lra_description_pair.proofs.OwnRows.{rows_listed, parts_next, parts_all}
use Rattle.lra_description_pair.proofs.own.part_rows.Goals as goal

pub read_row-requires-clause-inside : goal.read_row-requires-clause-inside
read_row-requires-clause-inside c =
    let s = c.args.cone.now in
    let many = ap length (sym c.kinds-kinds.ensures.kinds) ∙ c.kinds-kinds.ensures.len in
    let are : c.rows-rows.result.now ≡ rows_of s.taken = rows_listed is_equality s.taken c.rows-rows.result.now c.taken-taken.result.now.rows c.taken-taken.result.now.kinds c.taken-taken.ensures.taken
    c.rows-rows.ensures.rows many in
    omega (arith, c.loop-place-test.true, ap length are)

pub loop-place-preserved : goal.loop-place-preserved
loop-place-preserved c =
    let s = c.args.cone.now in
    let many = ap length (sym c.kinds-kinds.ensures.kinds) ∙ c.kinds-kinds.ensures.len in
    let are : c.rows-rows.result.now ≡ rows_of s.taken = rows_listed is_equality s.taken c.rows-rows.result.now c.taken-taken.result.now.rows c.taken-taken.result.now.kinds c.taken-taken.ensures.taken
    c.rows-rows.ensures.rows many in
    let inside : c.loop-place.place < length (rows_of s.taken) = omega (arith, c.loop-place-test.true, ap length are) in
    let told = c.in_ok-row.ensures in
    record {
      width = c.in_ok-push.ensures.width ∙ c.loop-place.invariant.width;
      parts = parts_next s.rays (length s.lines) (rows_of s.taken) c.loop-place.place c.in_ok-row.row c.push.new.self.tight.items c.push.new.self.loose.items
          c.push.new.self.saturation.rows inside told.row (c.in_ok-push.ensures.parts s.rays (length s.lines) (take c.loop-place.place (rows_of s.taken)) told.tight c.loop-place.invariant.parts);
    }

pub returns-clause-parts : goal.returns-clause-parts
returns-clause-parts c =
    let s = c.args.cone.now in
    let many = ap length (sym c.kinds-kinds.ensures.kinds) ∙ c.kinds-kinds.ensures.len in
    let are : c.rows-rows.result.now ≡ rows_of s.taken = rows_listed is_equality s.taken c.rows-rows.result.now c.taken-taken.result.now.rows c.taken-taken.result.now.kinds c.taken-taken.ensures.taken
    c.rows-rows.ensures.rows many in
    parts_all s.rays (length s.lines) (rows_of s.taken) c.loop-place.place c.loop-place.parts.tight.items c.loop-place.parts.loose.items c.loop-place.parts.saturation.rows
    (omega (arith, c.loop-place-test.false, ap length are)) c.loop-place.invariant.parts
