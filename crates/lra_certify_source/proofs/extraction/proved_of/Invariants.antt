-- So far the proved ones among the first verdicts are there.
use Rattle.std.proofs.Common.{◌≡◌, take}
use Rattle.lra_certify_source.specs.Extraction.{proved_in}
use Rattle.lra_certify_source.proofs.extraction.proved_of.Given as goal

abbrev pub invariant-verdicts : goal.invariant-verdicts
invariant-verdicts l = record { proved : l.proved.items ≡ proved_in (take l.verdict-index l.verdicts) }
