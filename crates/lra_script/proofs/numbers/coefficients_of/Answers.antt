-- Goals of `coefficients_of`: the numbers that the words write, if each writes one that has 64 bits.
use Rattle.std.proofs.{Common.rules, Common.◌≡◌, Common.ℕ, Common.Bor, Common.List, Common.[], Common.◌∷◌, Common.◌++◌, Common.get_or, Common.refl, Common.sym, Common.FitsSigned, lemmas.Int.to_z-of_z}
use Rattle.std.specs.Int.{w64}
use Rattle.lra_script.specs.LineForms.{coefficient_of}
use Rattle.lra_script.proofs.AllOf.{all_later}
use Rattle.lra_script.proofs.numbers.coefficients_of.Goals as goal

pub loop-word-preserved : goal.loop-word-preserved
loop-word-preserved c =
    let n = c.in-Some.number in
    let fits : FitsSigned w64 n = search rules in
    let ref : Bor (List ℕ) = record { ref_ptr = (0, 0); now = [] } in
    let pushed : c.push.new.self.items ≡ c.loop-word.numbers.items ++ n ∷ [] = simp to_z-of_z at c.in_ok-push.ensures.items in
    all_later (λ w. w.now) coefficient_of c.args.words.now c.loop-word.word-index ref (get_or c.args.words.now c.loop-word.word-index ref) n c.loop-word.numbers.items c.push.new.self.items _
    c.loop-word-test.true refl (sym c.in-Some.ensures) pushed c.loop-word.invariant
