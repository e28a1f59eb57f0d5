-- So far the first names are there.
use Rattle.std.proofs.Common.{◌≡◌, ◌++◌, take}
use Rattle.lra_report_build.proofs.listing.push_words.Given as goal

abbrev pub invariant-words : goal.invariant-words
invariant-words l = l.names ≡ l.fn.names ++ take l.word-index l.words
