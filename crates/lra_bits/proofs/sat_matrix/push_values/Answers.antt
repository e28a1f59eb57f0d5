-- Goals of `push_values`: puts a value after each row, in words that are there.
use Rattle.std.proofs.Common.{◌<◌, ◌∙◌, ◌≡◌, ◌≢◌, ◌+◌, ◌%◌, ◌^◌, ◌++◌, ◌∷◌, [], Bool, List, ap, arith, get_or, length, refl, set, subst, sym}
use Rattle.std.proofs.lemmas.List.{get_or_default}
use Rattle.lra_bits.specs.TruthValues.{value_at}
use Rattle.lra_bits.proofs.Lengthening.{all_pushed, none_pushed, pushed_more}
use Rattle.lra_bits.proofs.sat_matrix.push_values.Goals as goal

pub loop-k-init : goal.loop-k-init
loop-k-init c = none_pushed c.args.rows.now c.args.last.now

pub push_within-requires-clause-room : goal.push_within-requires-clause-room
push_within-requires-clause-room c =
    let rows = c.loop-k.rows in
    let k = c.loop-k.k in
    let p = c.loop-k.invariant in
    let inside : k < length rows = omega (arith, c.loop-k-test.true, p.count) in
    let same = get_or_default rows k [] c.index-rows-k.result inside in
    subst (λ (row : List Bool). length row % 64 ≢ 0) (sym (p.behind k (omega arith)) ∙ same) (c.requires.room k [] (omega (arith, inside, p.count)))

pub push_within-requires-clause-few : goal.push_within-requires-clause-few
push_within-requires-clause-few c =
    let rows = c.loop-k.rows in
    let k = c.loop-k.k in
    let p = c.loop-k.invariant in
    let inside : k < length rows = omega (arith, c.loop-k-test.true, p.count) in
    let same = get_or_default rows k [] c.index-rows-k.result inside in
    subst (λ (row : List Bool). length row + 1 < 2 ^ 64) (sym (p.behind k (omega arith)) ∙ same) (c.requires.few k [] (omega (arith, inside, p.count)))

pub loop-k-preserved : goal.loop-k-preserved
loop-k-preserved c =
    let rows = c.loop-k.rows in
    let k = c.loop-k.k in
    let p = c.loop-k.invariant in
    let inside : k < length rows = omega (arith, c.loop-k-test.true, p.count) in
    let same = get_or_default rows k [] c.index-rows-k.result inside in
    let r : c.push_within.new.self ≡ get_or rows k [] ++ value_at c.args.last.now k ∷ [] =
    c.push_within.ensures ∙ ap (λ (row : List Bool). row ++ c.get.result ∷ []) (sym same) ∙ ap (λ (b : Bool). get_or rows k [] ++ b ∷ []) c.get.ensures in
    pushed_more c.args.rows.now c.args.last.now k rows (set rows k c.push_within.new.self) c.push_within.new.self (omega (arith, inside, p.count)) r refl p

pub returns : goal.returns
returns c = all_pushed c.args.rows.now c.args.last.now c.loop-k.k c.loop-k.rows c.requires.each (omega (arith, c.loop-k-test.false, c.loop-k.invariant.count))
    c.loop-k.invariant
