-- Goals of `read_text`: the tree of a source and its constants, or its refusal.
use Rattle.std.proofs.Common.{List, arith, refl, sym, subst}
use Rattle.lra_front_end.specs.Crates.{lra_parser_spec.Files.EndsOnce, lra_resolution_spec.Refuse.NotParsed, lra_syntax.Faults.IsTree, lra_syntax.Grammar.Spells, lra_syntax.Views.tree_view}
use Rattle.lra_front_end.specs.Crates.{lra_syntax.declared.tokens.Token.Token}
use Rattle.lra_base.specs.{declared.refusals.Cause.TheVariants.TooLong, declared.refusals.Place.Place}
use Rattle.lra_base.proofs.Limit.{taken}
use Rattle.lra_front_end.proofs.Crates.lra_parser_spec.Ended.{lexed_end}
use Rattle.lra_front_end.proofs.ReadSteps.{long_unread, exit_lexed, exit_parsed, has_constants, has_tree}
use Rattle.lra_front_end.proofs.reading.read_text.Goals as goal

pub slice_bounds-place_after-end : goal.slice_bounds-place_after-end
slice_bounds-place_after-end c = taken 65536 c.args.bytes.now c.if-bytes-gt-GREATEST_LENGTH.true

pub place_after-place-requires : goal.place_after-place-requires
place_after-place-requires c = let e = taken 65536 c.args.bytes.now c.if-bytes-gt-GREATEST_LENGTH.true in omega arith

pub returns-then-bytes-gt-GREATEST_LENGTH-clause-refused : goal.returns-then-bytes-gt-GREATEST_LENGTH-clause-refused
returns-then-bytes-gt-GREATEST_LENGTH-clause-refused c =
    subst (λ (p : Place). NotParsed Spells c.args.bytes.now TooLong p) (sym c.place_after-place.ensures)
    (long_unread c.args.bytes.now 65536 refl c.if-bytes-gt-GREATEST_LENGTH.true)

pub parse-requires : goal.parse-requires
parse-requires c = record {
  ends =
      subst EndsOnce (sym c.deref.ensures.value) (lexed_end c.args.bytes.now c.in_ok-tokens.tokens.items c.in_ok-tokens.ensures.found);
}

pub returns-in_err-tokens-clause-refused : goal.returns-in_err-tokens-clause-refused
returns-in_err-tokens-clause-refused c =
    exit_lexed c.args.bytes.now c.from_residual.result _ c.if-bytes-gt-GREATEST_LENGTH.false c.from_residual.ensures.1 c.in_err-tokens.ensures.refused

pub returns-in_err-tree-clause-refused : goal.returns-in_err-tree-clause-refused
returns-in_err-tree-clause-refused c =
    exit_parsed c.args.bytes.now c.in_ok-tokens.tokens.items c.deref.result.now c.from_residual-in_err-tree.result _ c.if-bytes-gt-GREATEST_LENGTH.false c.in_ok-tokens.ensures.found
    c.deref.ensures.value c.from_residual-in_err-tree.ensures.1 c.in_err-tree.ensures.refused

pub returns-clause-found : goal.returns-clause-found
returns-clause-found c =
    has_tree c.args.bytes.now c.in_ok-tokens.tokens.items (tree_view c.in_ok-tree.tree) c.if-bytes-gt-GREATEST_LENGTH.false c.in_ok-tokens.ensures.found
    (subst (λ (T : List Token). IsTree Spells T (tree_view c.in_ok-tree.tree)) c.deref.ensures.value c.in_ok-tree.ensures.found)

pub returns-clause-constants : goal.returns-clause-constants
returns-clause-constants c =
    has_constants c.args.bytes.now c.in_ok-tokens.tokens.items c.deref-2.result.now c.in_ok-constants.constants.items c.in_ok-tokens.ensures.found
    c.deref-2.ensures.value c.in_ok-constants.ensures
