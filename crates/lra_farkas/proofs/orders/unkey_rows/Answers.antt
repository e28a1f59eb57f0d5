-- Goals of `unkey_rows`: the rows, without what decided their places.
use Rattle.std.proofs.{Common.◌≡◌, Common.ℤ, Common.List, Common.suc, Common.map, Common.length, Common.ap, Common.sym, Common.◌∙◌, Common.subst, Common.arith, lemmas.List.take_all}
use Rattle.lra_farkas.specs.Crates.lra_linear_spec.declared.ConKind.{ConKind}
use Rattle.lra_multipliers.proofs.ListedKinds.{kinds_pushed}
use Rattle.lra_farkas.specs.{KeyedRows.row_of_keyed, declared.orders.Keyed.Keyed}
use Rattle.lra_farkas.proofs.{KeyedRows.unkeyed_more, ListedRows.none_listed}
use Rattle.lra_farkas.proofs.orders.unkey_rows.Goals as goal

pub loop-item-init : goal.loop-item-init
loop-item-init c = record {
  so_far = none_listed c.new-rows.result c.new-rows.ensures.rows;
  dims = c.new-rows.ensures.dims;
  kinds = ap (λ (x : List ConKind). length x) c.new-rows.ensures.kinds ∙ sym (ap (λ (x : List (List ℤ)). length x) c.new-rows.ensures.rows);
}

pub push_copy-requires : goal.push_copy-requires
push_copy-requires c =
    subst (λ (k : Keyed). length k.row ≡ suc c.args.dims) (sym c.item-item.is)
    (c.requires.widths c.loop-item.item-index c.item-item.result c.loop-item-test.true) ∙ ap suc (sym c.loop-item.invariant.dims)

pub loop-item-preserved : goal.loop-item-preserved
loop-item-preserved c = record {
  so_far = unkeyed_more c.loop-item.rows c.push_copy.new.self c.args.keyed.now c.loop-item.item-index c.item-item.result c.loop-item-test.true c.item-item.is
      c.loop-item.invariant.kinds c.in_ok-push_copy.ensures.rows c.in_ok-push_copy.ensures.kinds c.loop-item.invariant.so_far;
  dims = c.push_copy.ensures.dims ∙ c.loop-item.invariant.dims;
  kinds = kinds_pushed c.loop-item.rows c.push_copy.new.self c.item-item.result.row c.item-item.result.kind c.loop-item.invariant.kinds
      c.in_ok-push_copy.ensures.rows c.in_ok-push_copy.ensures.kinds;
}

pub returns-clause-dims : goal.returns-clause-dims
returns-clause-dims c = c.loop-item.invariant.dims

pub returns-clause-rows : goal.returns-clause-rows
returns-clause-rows c =
    c.loop-item.invariant.so_far ∙ ap (map row_of_keyed) (take_all c.loop-item.item-index c.args.keyed.now (omega (arith, c.loop-item-test.false)))
