-- Goals of `gap_length`: how many bytes a gap at the start has.
use Rattle.std.proofs.Common.{◌∙◌, ℕ, List, sym}
use Rattle.std.specs.Prelude.{IfSome, Option, Some, None, Bool}
use Rattle.lra_lex.specs.Prefixes.{BeginsGap}
use Rattle.lra_lex.proofs.gaps.gap_length.Goals.{else-fresh-via-then-fresh+else-is_include, else-fresh-via-else-fresh}
use Rattle.lra_lex.proofs.{GapLemmas.blank_gap, GapLemmas.skip_gap, GapLemmas.else_no_gap, RunLemmas.differ}
use Rattle.lra_lex.proofs.gaps.gap_length.Goals as goal

pub returns-then-is_blank-clause-found : goal.returns-then-is_blank-clause-found
returns-then-is_blank-clause-found c = blank_gap c.args.fresh c.args.rest.now c.requires (sym c.is_blank.ensures ∙ c.if-is_blank.true)

found_for : (fresh : Bool) (rest : List ℕ) (o : Option ℕ) → IfSome o (λ n. (f : Bool) → BeginsGap f rest n) → IfSome o (BeginsGap fresh rest)
found_for fresh rest None h = tt
found_for fresh rest (Some n) h = h fresh

pub returns-then-first-eq47-clause-found : goal.returns-then-first-eq47-clause-found
returns-then-first-eq47-clause-found c = found_for c.args.fresh c.args.rest.now c.comment_length.result c.comment_length.ensures.found

pub returns-then-is_include-clause-found : goal.returns-then-is_include-clause-found
returns-then-is_include-clause-found c = rw c.line_length.ensures (skip_gap c.args.fresh c.args.rest.now c.if-fresh.true (c.is_include.ensures.0 c.if-is_include.true))

pub returns-else-fresh-clause-none : goal.returns-else-fresh-clause-none
returns-else-fresh-clause-none c = else_no_gap c.args.fresh c.args.rest.now (sym c.is_blank.ensures ∙ c.if-is_blank.false) c.if-first-eq47.false
    (elim c.else-fresh.branch [
      | else-fresh-via-then-fresh+else-is_include w ↦ λ f i. differ (w.is_include.ensures.1 i) w.if-is_include.false
      | else-fresh-via-else-fresh w ↦ λ f i. differ f w.if-fresh.false
    ])
