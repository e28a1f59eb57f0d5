-- Goals of `push_column`: the entries of the rows in a column come last.
use Rattle.std.proofs.Common.{rules, ◌≡◌, ◌<◌, ◌++◌, ◌∷◌, [], List, ℤ, map, length, FitsSigned, ap, sym, ◌∙◌, subst, arith}
use Rattle.std.proofs.{lemmas.Int.to_z-of_z, lemmas.List.take_all, lemmas.List.Elements.All-push}
use Rattle.std.specs.{Int.w128, List.All}
use Rattle.lra_farkas.specs.Crates.{lra_linear_spec.Range.InRange, lra_linear_spec.Vectors.entry}
use Rattle.lra_farkas.proofs.ListedRows.{column_more}
use Rattle.lra_farkas.proofs.rows.push_column.Goals as goal

pub get-requires : goal.get-requires
get-requires c =
    subst (λ (r : List ℤ). c.args.column < length r) (sym c.row-item.is) (c.requires.widths c.loop-row.row-index c.row-item.result c.loop-row-test.true)

pub loop-row-preserved : goal.loop-row-preserved
loop-row-preserved c =
    let items = c.loop-row.numbers.items in
    let number = c.get.result in
    let fits : FitsSigned w128 number = search rules in
    let e : c.push.new.self.items ≡ items ++ number ∷ [] = simp to_z-of_z at c.in_ok-push.ensures.items in
    record {
      numbers = column_more c.args.numbers.now.items items c.push.new.self.items c.args.rows.now c.args.column c.loop-row.row-index c.row-item.result number
          c.loop-row-test.true c.row-item.is c.get.ensures.entry c.loop-row.invariant.numbers e;
      in_range = subst (All InRange) (sym e) (All-push InRange items number c.loop-row.invariant.in_range c.get.ensures.in_range);
    }

pub returns-clause-numbers : goal.returns-clause-numbers
returns-clause-numbers c =
    c.loop-row.invariant.numbers ∙
    ap (λ (rs : List (List ℤ)). c.args.numbers.now.items ++ map (λ r. entry r c.args.column) rs)
    (take_all c.loop-row.row-index c.args.rows.now (omega (arith, c.loop-row-test.false)))
