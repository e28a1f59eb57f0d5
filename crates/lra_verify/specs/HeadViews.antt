-- The head of an input as the code reads it.
use Rattle.lra_verify.specs.declared.head.Head.{Head}
use Rattle.lra_verify.specs.Crates.lra_certificate_spec.Judged as judged

abbrev pub head_view : Head → judged.Head
head_view h = record { source = h.source.now; rest = h.rest.now }
