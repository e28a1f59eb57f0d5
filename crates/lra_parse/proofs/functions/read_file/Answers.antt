-- Goals of `read_file`: parts, and the end.
use Rattle.std.proofs.{Common.List, Common.refl, Common.ap, Common.map, lemmas.Result.err_from_is_err_and}
use Rattle.lra_syntax.specs.{Trees.ExternalTree, Views.external_view}
use Rattle.lra_parser_spec.specs.Files.{begins_part, part_at, parts_at}
use Rattle.lra_parse.proofs.Crates.lra_parse_expressions.Turning.{list_grown, list_start, list_turn}
use Rattle.lra_parse.proofs.Headed.{file_exit, end_exit, file_gives}
use Rattle.lra_parse.proofs.functions.read_file.Goals as goal

pub parts-init : goal.parts-init
parts-init c = record {
  read = list_start begins_part refl (part_at 63) (map external_view c.new-items.result.items) c.args.rest.now
      (ap (map external_view) c.new-items.ensures.items);
}

pub parts-preserved : goal.parts-preserved
parts-preserved c = record {
  read =
      list_turn begins_part refl (part_at 63) (map external_view c.parts.items.items) (map external_view c.push.new.self.items)
      (external_view c.in_ok-item.item)
      c.parts.left.now c.in_ok-item.after.now (parts_at 63 c.args.rest.now)
      (list_grown (λ (l : List ExternalTree). l) external_view c.parts.items.items c.push.new.self.items c.in_ok-item.item c.in_ok-push.ensures.items)
      c.parts.invariant.read c.parts-test.ensures c.in_ok-item.ensures.gives c.in_ok-item.ensures.shorter;
}

pub returns-in_err-item : goal.returns-in_err-item
returns-in_err-item c =
    let p = err_from_is_err_and c.from_residual.result c.from_residual.ensures.1 in
    rw (p.1, p.2) (file_exit 63 (map external_view c.parts.items.items) c.args.rest.now c.parts.left.now c.in_err-item.field-0.0 c.parts.invariant.read c.parts-test.ensures
    c.in_err-item.ensures.gives)

pub returns-in_err-end : goal.returns-in_err-end
returns-in_err-end c =
    let p = err_from_is_err_and c.from_residual-in_err-end.result c.from_residual-in_err-end.ensures.1 in
    rw (p.1, p.2) (end_exit 63 (map external_view c.parts.items.items) c.args.rest.now c.parts.left.now c.in_err-end.field-0.0 c.parts.invariant.read c.parts-test.ensures c.in_err-end.ensures)

pub returns : goal.returns
returns c = file_gives 63 (map external_view c.parts.items.items) c.args.rest.now c.parts.left.now c.in_ok-end.behind.now c.in_ok-end.end c.parts.invariant.read c.parts-test.ensures
    c.in_ok-end.ensures
