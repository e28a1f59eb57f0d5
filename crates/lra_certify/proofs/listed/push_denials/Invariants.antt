use Rattle.std.proofs.Common.{◌-◌, length, string_bytes}
use Rattle.std.specs.List.{flat_map, range_with_len}
use Rattle.lra_certify.specs.Crates.lra_path_segments.Segments.{violates}
use Rattle.lra_certify.specs.WrittenPaths.{PathsLeft, violation_lines, paths_to, violating_paths}
use Rattle.lra_certify.proofs.listed.push_denials.Given as goal

abbrev pub invariant-loop-source : goal.invariant-loop-source
invariant-loop-source l = PathsLeft l.ways violation_lines
    (flat_map (λ p. paths_to l.ways p (violates l.point)) (range_with_len l.source (length l.ways.sources.now - l.source)))
    (violating_paths l.ways l.point) (string_bytes l.text) (string_bytes l.initial.text)
