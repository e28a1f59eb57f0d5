-- Goals of `tree_of`: the tree of a source.
use Rattle.std.proofs.Common.{sym, subst}
use Rattle.lra_tests_operations.specs.Crates.{lra_parser_spec.Files.EndsOnce, lra_syntax.Views.tree_view}
use Rattle.lra_tests_operations.proofs.Crates.lra_parser_spec.Ended.{lexed_end}
use Rattle.lra_tests_operations.proofs.Reading.{read_small}
use Rattle.lra_tests_operations.proofs.sources.tree_of.Goals as goal

pub parse-requires : goal.parse-requires
parse-requires c = record {
  ends =
      subst EndsOnce (sym c.deref.ensures.value) (lexed_end c.as_bytes-bytes.result.now c.in_ok-tokens.tokens.items c.in_ok-tokens.ensures.found);
}

pub returns : goal.returns
returns c =
    read_small c.as_bytes-bytes.result.now c.in_ok-tokens.tokens.items c.deref.result.now (tree_view c.in_ok-tree.tree) c.in_ok-tokens.ensures.found c.deref.ensures.value
    c.in_ok-tree.ensures.found
