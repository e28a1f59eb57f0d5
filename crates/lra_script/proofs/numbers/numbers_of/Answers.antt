-- Goals of `numbers_of`: the numbers that the words write, if each writes one.
use Rattle.std.proofs.Common.{rules, ◌≡◌, ℕ, Bor, List, [], ◌∷◌, ◌++◌, get_or, refl, sym, FitsSigned}
use Rattle.std.proofs.{lemmas.Int.to_z-of_z, lemmas.List.Elements.All-append, lemmas.List.Elements.All-cons, lemmas.List.Elements.All-nil}
use Rattle.std.specs.Int.{w128}
use Rattle.lra_script.specs.Crates.lra_linear_spec.Range.{InRange}
use Rattle.lra_script.specs.ScriptText.{number_of}
use Rattle.lra_script.proofs.AllOf.{all_later}
use Rattle.lra_script.proofs.numbers.numbers_of.Goals as goal

pub loop-word-preserved : goal.loop-word-preserved
loop-word-preserved c =
    let n = c.in-Some.number in
    let fits : FitsSigned w128 n = search rules in
    let ref : Bor (List ℕ) = record { ref_ptr = (0, 0); now = [] } in
    let pushed : c.push.new.self.items ≡ c.loop-word.numbers.items ++ n ∷ [] = simp to_z-of_z at c.in_ok-push.ensures.items in
    record {
      so_far = all_later (λ w. w.now) number_of c.args.words.now c.loop-word.word-index ref (get_or c.args.words.now c.loop-word.word-index ref) n c.loop-word.numbers.items c.push.new.self.items _
          c.loop-word-test.true refl (sym c.in-Some.ensures.number) pushed c.loop-word.invariant.so_far;
      in_range = rw pushed (All-append InRange c.loop-word.numbers.items (n ∷ []) c.loop-word.invariant.in_range (All-cons InRange n [] c.in-Some.ensures.in_range (All-nil InRange)));
    }
