-- Goals of `SatMatrix::append`: puts the rows of another matrix after its own.
use Rattle.std.proofs.Common.{◌≡◌, ◌∙◌, ◌++◌, List, Bool, ap, arith, cond, length, subst, sym}
use Rattle.std.specs.{List.All, Prelude.IsOk}
use Rattle.lra_bits.specs.Matrix.{Matrix}
use Rattle.lra_bits.proofs.Lengthening.{append_widths}
use Rattle.lra_bits.proofs.sat_matrix.SatMatrix.append.Goals as goal

pub invariant_of-self-2 : goal.invariant_of-self-2
invariant_of-self-2 c =
    let i = c.self.inside in
    let rows = c.into_rows-rows.result.items in
    let okay : IsOk c.append.result = c.append.ensures.succeeds (omega (arith, c.in_ok-reserve.ensures.ok, c.len.ensures)) in
    let added : c.append.new.self.items ≡ i.rows.items ++ rows = c.append.ensures.items ∙ ap
    (λ (b : Bool). cond b (c.reserve.new.self.items ++ rows) c.reserve.new.self.items) okay ∙
    ap (λ (y : List (List Bool)). y ++ rows) c.in_ok-reserve.ensures.items in
    let same = subst (λ (m : Matrix). c.args.more.width ≡ m.width) (sym c.self.view_is) c.requires in
    subst (All (λ (r : List Bool). length r ≡ i.width)) (sym added) (append_widths i.width c.args.more.width i.rows.items rows same c.self.invariant
    c.into_rows-rows.ensures.width)

pub returns-clause-appended : goal.returns-clause-appended
returns-clause-appended c =
    let i = c.self.inside in
    let rows = c.into_rows-rows.result.items in
    let okay : IsOk c.append.result = c.append.ensures.succeeds (omega (arith, c.in_ok-reserve.ensures.ok, c.len.ensures)) in
    let added : c.append.new.self.items ≡ i.rows.items ++ rows = c.append.ensures.items ∙ ap
    (λ (b : Bool). cond b (c.reserve.new.self.items ++ rows) c.reserve.new.self.items) okay ∙
    ap (λ (y : List (List Bool)). y ++ rows) c.in_ok-reserve.ensures.items in
    subst (λ (m : Matrix). (let x : Matrix = record { width = i.width; rows = c.append.new.self.items } in x) ≡ record m { rows = m.rows ++ c.args.more.rows })
    c.self.view_is
    (ap (λ (l : List (List Bool)). (let x : Matrix = record { width = i.width; rows = l } in x))
    (added ∙ ap (λ (l : List (List Bool)). i.rows.items ++ l) c.into_rows-rows.ensures.rows))
