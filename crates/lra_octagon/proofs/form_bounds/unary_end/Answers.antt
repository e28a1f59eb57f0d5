-- Goals of `unary_end`: the least or the greatest value of the form over the unary bounds.
use Rattle.std.proofs.Common.{rules, arith, ◌≡◌, [], ◌∷◌, None, Some, FitsSigned, to_z, of_z}
use Rattle.std.proofs.{lemmas.Int.to_z-of_z, lemmas.List.nil_from_length}
use Rattle.std.specs.Int.{w64, w128}
use Rattle.lra_dbm.specs.Cells.{entries}
use Rattle.lra_octagon.proofs.FormBoundLemmas.{column_more, no_column_left, no_end_here}
use Rattle.lra_octagon.proofs.form_bounds.unary_end.Goals as goal

pub loop-coefficient-preserved : goal.loop-coefficient-preserved
loop-coefficient-preserved c =
    let left : c.loop-coefficient.left.now ≡ c.in-Some.coefficient.now ∷ c.in-Some.later.now = search rules in
    let wide : to_z w128 (of_z w128 (to_z w64 (of_z w64 c.in-Some.coefficient.now))) ≡ c.in-Some.coefficient.now = search rules in
    let fit : FitsSigned w128 c.in-Some-plus_end.more = search rules in
    let more = rw (wide, c.interval_of.ensures.interval) at c.in-Some-plus_end.ensures in
    let places = rw left at c.loop-coefficient.invariant.places in
    let rest = rw left at c.loop-coefficient.invariant.rest in
    rw (to_z-of_z w128 c.in-Some-plus_end.more fit) (record {
      places = omega arith;
      rest = λ o told. rest o (column_more c.args.side _ _ c.in-Some.coefficient.now (entries c.args.n c.args.matrix.now.cells)
          c.loop-coefficient.k c.in-Some.later.now o more told);
    })

pub returns-in-None : goal.returns-in-None
returns-in-None c =
    let left : c.loop-coefficient.left.now ≡ c.in-Some.coefficient.now ∷ c.in-Some.later.now = search rules in
    let wide : to_z w128 (of_z w128 (to_z w64 (of_z w64 c.in-Some.coefficient.now))) ≡ c.in-Some.coefficient.now = search rules in
    let none = rw (wide, c.interval_of.ensures.interval) at c.in-None.ensures in
    let rest = rw left at c.loop-coefficient.invariant.rest in
    rest None (no_end_here c.args.side _ c.in-Some.coefficient.now (entries c.args.n c.args.matrix.now.cells) c.loop-coefficient.k
    c.in-Some.later.now none)

pub returns : goal.returns
returns c =
    let nil : c.loop-coefficient.left.now ≡ [] = nil_from_length _ c.in_default.ensures.cases in
    let rest = rw nil at c.loop-coefficient.invariant.rest in
    rest (Some _) (no_column_left c.args.side _ (entries c.args.n c.args.matrix.now.cells) c.loop-coefficient.k)
