-- Goals of `pad`: the row, with zeros up to this width.
use Rattle.std.proofs.Common.{arith, ◌≡◌, ◌∷◌, ◌++◌, ◌-◌, [], ℤ, List, pos, length, ap, sym, ◌∙◌, length-append, subst}
use Rattle.std.proofs.{lemmas.Grind.common_steps, lemmas.List.Elements.All-append}
use Rattle.std.specs.List.{All}
use Rattle.lra_certificate_lines.specs.Crates.{lra_linear_spec.Range.InRange, lra_linear_spec.Vectors.zeros}
use Rattle.lra_certificate_lines.proofs.{TrackSteps.padded_more, WalkSteps.zeros_in}
use Rattle.lra_certificate_lines.proofs.path_checks.pad.Goals as goal

pub columns-preserved : goal.columns-preserved
columns-preserved c =
    let old = c.columns.numbers.items in
    let pushed : c.push.new.self.items ≡ old ++ pos 0 ∷ [] = c.in_ok-push.ensures.items in
    let l = ap (λ (x : List ℤ). length x) pushed ∙ length-append old (pos 0 ∷ []) in
    let from = c.columns.invariant.from in
    let less = c.columns-test.true in
    let len : c.len.result ≡ length old = grind (arith, common_steps) in
    record {
      so_far = padded_more c.args.row.now old c.push.new.self.items from c.columns.invariant.so_far pushed;
      from = omega (arith, l, from);
      within = omega (arith, l, less, len);
    }

pub from_slice-requires-2 : goal.from_slice-requires-2
from_slice-requires-2 c =
    let row = c.args.row.now in
    let in_range = subst (λ (xs : List ℤ). All InRange xs) c.entries.ensures.entries c.entries.ensures.in_range in
    subst (λ (xs : List ℤ). All InRange xs) (sym (c.as_slice.ensures.value ∙ c.columns.invariant.so_far))
    (All-append InRange row (zeros (length c.columns.numbers.items - length row)) in_range (zeros_in (length c.columns.numbers.items - length row)))
