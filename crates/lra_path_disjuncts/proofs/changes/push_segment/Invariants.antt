use Rattle.std.proofs.Common.{◌≡◌, map, take}
use Rattle.lra_path_segments.specs.TreeSegmentViews.{move_view}
use Rattle.lra_path_disjuncts.specs.{SegmentMoves.live_after_steps, SegmentMoves.segment_moves, Tables.Grows, Tables.Has, Tables.IsTable}
use Rattle.lra_path_disjuncts.proofs.changes.push_segment.Given as goal

-- what is done so far stands at the place
abbrev pub invariant-moves : goal.invariant-moves
invariant-moves l = record {
  table : IsTable l.entries.items;
  grows : Grows l.fn.entries.items l.entries.items;
  alive : l.alive ≡ live_after_steps l.live (map move_view (take l.step-index l.moves));
  has : Has l.entries.items l.place (segment_moves l.live (map move_view (take l.step-index l.moves)));
}
