-- Goals of `SatMatrix::exchange`: further rows and a value after each, and those that are marked removed.
use Rattle.std.proofs.{Common.◌≡◌, Common.◌∙◌, Common.◌++◌, Common.ap, Common.arith, Common.length, Common.suc, Common.sym, Common.take, lemmas.Grind.common_steps}
use Rattle.std.specs.Vec.{vec_len}
use Rattle.lra_bits.specs.Matrix.{Matrix, lengthened_rows, unmarked}
use Rattle.lra_bits.proofs.Lengthening.{lengthened_length, taken_back}
use Rattle.lra_bits.proofs.sat_matrix.SatMatrix.exchange.Goals as goal

pub push_column-requires : goal.push_column-requires
push_column-requires c = c.requires.each ∙ ap (λ (m : Matrix). length m.rows) (sym c.in_ok-append.ensures.appended)

pub remove_rows-requires : goal.remove_rows-requires
remove_rows-requires c =
    let now = c.args.self.now in
    let more = c.args.more in
    let pushed = c.in-Ok.ensures.pushed in
    c.requires.marks ∙ sym (lengthened_length (now.rows ++ more.rows) c.args.last.now c.requires.each) ∙
    ap (λ (m : Matrix). length (lengthened_rows m.rows c.args.last.now)) (sym c.in_ok-append.ensures.appended) ∙ ap (λ (m : Matrix). length m.rows) (sym pushed)

pub returns-in-Ok-clause-exchanged : goal.returns-in-Ok-clause-exchanged
returns-in-Ok-clause-exchanged c =
    let pushed = c.in-Ok.ensures.pushed in
    c.remove_rows.ensures ∙ ap (λ (m : Matrix). record m { rows = unmarked c.args.gone.now m.rows })
    (pushed ∙ ap (λ (m : Matrix). (let x : Matrix = record { width = suc m.width; rows = lengthened_rows m.rows c.args.last.now } in x))
    c.in_ok-append.ensures.appended)

pub returns-in-Err-clause-unchanged : goal.returns-in-Err-clause-unchanged
returns-in-Err-clause-unchanged c =
    let i = c.self.inside in
    let long : vec_len i.rows ≡ length i.rows.items = grind (arith, common_steps) in
    let same = c.in-Err.ensures.unchanged in
    taken_back c.args.self.now c.append.new.self c.truncate.new.self c.args.more.rows c.len-height.result
    (c.len-height.ensures ∙ long ∙ ap (λ (m : Matrix). length m.rows) c.self.view_is) c.in_ok-append.ensures.appended
    (c.truncate.ensures ∙ ap (λ (m : Matrix). record m { rows = take c.len-height.result m.rows }) same)
