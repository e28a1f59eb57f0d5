-- Goals of `program`: the sample source of a seed, with as many blocks as `size` says; up to 400 of them keep
-- within 65,536 bytes.
use Rattle.std.proofs.Common.{ℕ, Vec, Global, ap, ◌∙◌}
use Rattle.lra_sample.proofs.Lengths.{short_source}
use Rattle.lra_sample.proofs.source.program.Goals as goal

pub returns-clause-short : goal.returns-clause-short
returns-clause-short c =
    short_source c.args.seed c.args.size c.into_bytes.result.items (ap (λ (v : Vec ℕ Global). v.items) c.into_bytes.ensures.value ∙ c.in_ok-text.ensures)
