use Rattle.std.proofs.Common.{◌-◌, length, string_bytes}
use Rattle.std.specs.List.{flat_map, range_with_len}
use Rattle.lra_certify.specs.Crates.lra_path_segments.Segments.{comes_to}
use Rattle.lra_certify.specs.WrittenPaths.{PathsLeft, edge_lines, paths_to, paths_from}
use Rattle.lra_certify.proofs.edges.push_source.Given as goal

abbrev pub invariant-loop-point : goal.invariant-loop-point
invariant-loop-point l = PathsLeft l.ways edge_lines
    (flat_map (λ q. paths_to l.ways l.source (comes_to q)) (range_with_len l.point (length l.ways.sites.now - l.point)))
    (paths_from l.ways l.source) (string_bytes l.text) (string_bytes l.initial.text)
