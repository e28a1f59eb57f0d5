use Rattle.std.proofs.Common.{drop, map, string_bytes}
use Rattle.lra_certify.specs.Crates.{lra_path_disjuncts.TableDisjuncts.lists_done, lra_path_segments.Segments.comes_to, lra_paths.Paths.path_by}
use Rattle.lra_certify.specs.WrittenPaths.{PathsLeft, edge_lines}
use Rattle.lra_certify.proofs.edges.push_edge_paths.Given as goal

abbrev pub invariant-loop-path : goal.invariant-loop-path
invariant-loop-path l = PathsLeft l.ways edge_lines (map (path_by l.source (comes_to l.point)) (lists_done (drop l.path-index l.paths)))
    (map (path_by l.source (comes_to l.point)) (lists_done l.paths)) (string_bytes l.text) (string_bytes l.initial.text)
