-- Goals of `spaced_numbers`: the numbers of a text, each after one space, if they are so many.
use Rattle.std.proofs.Common.{rules, arith, ◌≡◌, ◌<◌, [], ◌∷◌, ◌++◌, length, FitsSigned, ap, length-append}
use Rattle.std.proofs.{lemmas.Grind.common_steps, lemmas.Int.to_z-of_z, lemmas.List.Elements.All-append, lemmas.List.Elements.All-cons, lemmas.List.Elements.All-nil}
use Rattle.std.specs.Int.{w128}
use Rattle.lra_certificate_lines.specs.Crates.lra_linear_spec.Range.{InRange}
use Rattle.lra_certificate_spec.specs.Judged.{spaced_numbers, words_of}
use Rattle.lra_certificate_spec.proofs.NumberSteps.{number_more, too_many}
use Rattle.lra_certificate_lines.proofs.numbers.spaced_numbers.Goals as goal

pub words-preserved : goal.words-preserved
words-preserved c =
    let n = c.in-Some-number_in.number in
    let xs = c.words.numbers.items in
    let fits : FitsSigned w128 n = search rules in
    let pushed : c.push.new.self.items ≡ xs ++ n ∷ [] = simp to_z-of_z at c.in_ok-push.ensures.items in
    let len : c.len.result ≡ length xs = grind (arith, common_steps) in
    let less = c.words-test.true in
    record {
      so_far = rw (pushed, c.split_at.ensures.back) (number_more c.args.count xs c.words.rest.now (spaced_numbers (words_of c.args.text.now))
          c.words.invariant.so_far
          c.in-Some.word.now n c.in-Some.ensures c.in-Some-number_in.ensures.number);
      few = omega (arith, ap length pushed, length-append xs (n ∷ []), less, len);
      in_range = rw pushed (All-append InRange xs (n ∷ []) c.words.invariant.in_range (All-cons InRange n [] c.in-Some-number_in.ensures.in_range (All-nil
          InRange)));
    }

pub returns-else-is_empty-clause-numbers : goal.returns-else-is_empty-clause-numbers
returns-else-is_empty-clause-numbers c =
    let xs = c.words.numbers.items in
    let len : c.len.result ≡ length xs = grind (arith, common_steps) in
    let most = c.words-test.false in
    let few = c.words.invariant.few in
    let same : length xs ≡ c.args.count = omega (arith, len, most, few) in
    let some : 0 < length c.words.rest.now = grind (arith, common_steps) in
    too_many c.args.count xs c.words.rest.now (spaced_numbers (words_of c.args.text.now)) c.words.invariant.so_far same some
