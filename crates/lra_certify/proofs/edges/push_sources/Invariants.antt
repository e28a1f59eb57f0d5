use Rattle.std.proofs.Common.{◌-◌, length, string_bytes}
use Rattle.std.specs.List.{flat_map, range_with_len}
use Rattle.lra_certify.specs.WrittenPaths.{PathsLeft, edge_lines, paths_from, all_paths}
use Rattle.lra_certify.proofs.edges.push_sources.Given as goal

abbrev pub invariant-loop-source : goal.invariant-loop-source
invariant-loop-source l = PathsLeft l.ways edge_lines
    (flat_map (paths_from l.ways) (range_with_len l.source (length l.ways.sources.now - l.source)))
    (all_paths l.ways) (string_bytes l.text) (string_bytes l.initial.text)
