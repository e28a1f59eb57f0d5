-- Goals of `known_constraints`: the constraints, with the rows of the matrix in the same order.
use Rattle.std.proofs.Common.{◌≡◌, ◌∙◌, ◌++◌, ap, length, replicate, subst, suc, sym, List, ℕ, ℤ}
use Rattle.std.specs.List.{All}
use Rattle.lra_descriptions.specs.Crates.{lra_bits.Matrix.Matrix, lra_linear_spec.declared.ConKind.TheVariants.Ge}
use Rattle.lra_canonical.specs.{MarkedRows.bits_in, MarkedRows.rows_in, declared.order.Marked.Marked}
use Rattle.lra_canonical.proofs.MarkedOrder.{rows_length, rows_shuffled}
use Rattle.lra_descriptions.specs.ShownLists.{without}
use Rattle.lra_descriptions.proofs.{KnownLists.constraints_go, KnownLists.constraints_matrix, KnownLists.sorted_bits, KnownLists.sorted_rows, Parted.all_without, Parted.put_constraints}
use Rattle.lra_descriptions.proofs.known.known_constraints.Goals as goal

pub append_constraints-requires-clause-rows : goal.append_constraints-requires-clause-rows
append_constraints-requires-clause-rows c =
    let sorted = c.order_marked.new.marked.items in
    let all = sorted_rows (suc c.args.n) (without c.args.left_out.now c.args.rays.now) c.in_ok-inequalities.inequalities.items sorted
    (all_without (suc c.args.n) c.args.left_out.now c.args.rays.now c.requires.rays)
    (c.in_ok-inequalities.ensures.rows ∙ ap (without c.args.left_out.now) c.in_ok-marked.ensures.rows) c.in_ok-order_marked.ensures.same in
    subst (λ (n : ℕ). All (λ (m : Marked). length m.row ≡ suc n) sorted) (sym (c.in_ok-push_constraints.ensures.dims ∙ c.new-list.ensures.dims)) all

pub append_constraints-requires-clause-bits : goal.append_constraints-requires-clause-bits
append_constraints-requires-clause-bits c =
    let width : c.push_true_rows.new.matrix.width ≡ c.args.matrix.width =
    c.in_ok-push_true_rows.ensures.width ∙ ap (λ (m : Matrix). m.width) c.new-made.ensures ∙ c.width.ensures.width in
    sorted_bits c.push_true_rows.new.matrix.width c.args.matrix.width c.in_ok-inequalities.inequalities.items c.order_marked.new.marked.items (sym width)
    (c.in_ok-inequalities.ensures.widths c.args.matrix.width c.in_ok-marked.ensures.widths) c.in_ok-order_marked.ensures.same

pub returns-clause-shown : goal.returns-clause-shown
returns-clause-shown c =
    let found = c.in_ok-inequalities.inequalities.items in
    let sorted = c.order_marked.new.marked.items in
    put_constraints c.args.n c.args.lines.now c.args.rays.now (rows_in found) (rows_in sorted) c.args.left_out.now c.new-list.result c.push_constraints.new.list
    c.append_constraints.new.list c.requires.left_out (c.in_ok-inequalities.ensures.rows ∙ ap (without c.args.left_out.now) c.in_ok-marked.ensures.rows)
    (rows_shuffled found sorted c.in_ok-order_marked.ensures.same) c.in_ok-order_marked.ensures.sorted
    c.new-list.ensures.rows c.new-list.ensures.kinds c.in_ok-push_constraints.ensures.rows c.in_ok-push_constraints.ensures.kinds
    c.in_ok-append_constraints.ensures.rows
    (c.in_ok-append_constraints.ensures.kinds ∙ ap (λ (n : ℕ). c.push_constraints.new.list.kinds ++ replicate n Ge) (sym (rows_length sorted)))

pub returns-clause-matrix : goal.returns-clause-matrix
returns-clause-matrix c =
    let found = c.in_ok-inequalities.inequalities.items in
    let sorted = c.order_marked.new.marked.items in
    let lines = c.args.lines.now in
    let old = c.args.matrix in
    let rows : c.append_constraints.new.list.rows ≡ lines ++ rows_in sorted = c.in_ok-append_constraints.ensures.rows ∙
    ap (λ (l : List (List ℤ)). l ++ rows_in sorted) (c.in_ok-push_constraints.ensures.rows ∙ ap (λ (l : List (List ℤ)). l ++ lines) c.new-list.ensures.rows) in
    constraints_go lines c.args.rays.now old c.append_constraints.new.matrix found sorted c.append_constraints.new.list.rows c.in_ok-order_marked.ensures.same
    (λ told t. c.in_ok-inequalities.ensures.told told (c.in_ok-marked.ensures.told told t)) rows
    (constraints_matrix old c.new-made.result c.push_true_rows.new.matrix c.append_constraints.new.matrix c.width.result (length lines) (bits_in sorted)
    c.width.ensures.width c.new-made.ensures c.in_ok-push_true_rows.ensures.matrix c.in_ok-append_constraints.ensures.matrix)
