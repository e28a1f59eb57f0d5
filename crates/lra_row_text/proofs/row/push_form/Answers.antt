-- Goals of `push_form`: appends the terms of the coefficients.
use Rattle.std.proofs.Common.{refl, ◌+◌, arith, string_bytes, ap, ◌∙◌, ◌++◌, ◌∷◌, []}
use Rattle.lra_row_text.specs.Crates.lra_linear_spec.Vectors.{entry}
use Rattle.lra_row_text.specs.{Shown.rest_text, Texts.negated_if}
use Rattle.lra_row_text.proofs.Terms.{term_step, terms_end}
use Rattle.lra_row_text.proofs.row.push_form.Goals as goal

pub loop-index-preserved : goal.loop-index-preserved
loop-index-preserved c =
    let coefficient = negated_if c.args.is_negated (entry c.args.row.now (c.loop-index.index + 1)) in
    term_step string_bytes _ _ _ c.loop-index.is_first _ c.args.row.now c.args.names.now c.args.is_negated c.loop-index.index coefficient c.index-names-index.result
    c.loop-index.invariant refl c.index-names-index.is (omega arith) (omega arith)
    (c.in_ok-is_first.ensures.written ∙ ap (λ n. string_bytes c.loop-index.text ++ rest_text c.loop-index.is_first (coefficient ∷ []) (n ∷ [])) c.deref.ensures) c.in_ok-is_first.ensures.next

pub returns : goal.returns
returns c = terms_end string_bytes _ _ c.loop-index.is_first c.args.row.now c.args.names.now c.args.is_negated c.loop-index.index c.loop-index.invariant (omega arith)
