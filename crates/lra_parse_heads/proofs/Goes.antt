-- Exits of what begins a statement.
use Rattle.std.proofs.{Common.◌≡◌, Common.ℕ, Common.◌<◌, Common.Result, Common.Ok, Common.refl, Common.Box, Common.Global, Common.arith, lemmas.Result.err_from_is_err_and}
use Rattle.std.specs.Result.{IsErrAnd}
use Rattle.lra_base.specs.declared.refusals.Place.{Place}
use Rattle.lra_syntax.specs.declared.tokens.Mark.TheVariants as mark
use Rattle.lra_syntax.specs.{Views.expr_view, declared.trees.Expr.Expr}
use Rattle.lra_parser_spec.specs.Reading.{Text, Read, expect_at, ParsesAsErr}
use Rattle.lra_parser_spec.specs.{Expressions.in_parens, Expressions.expr_at, Statements.read_switch, Statements.braces_at, declared.reading.Stopped.Stopped}
use Rattle.lra_parse_heads.specs.{Begun.GoesOn, Begun.branches_of, Begun.begun_rest, declared.heads.Head.Head, declared.heads.Switched.Switched}
use Rattle.lra_parse_heads.specs.declared.heads.Head.TheVariants as head
use Rattle.lra_parse_heads.specs.declared.heads.Begun.TheVariants as begun

-- an exit by `?`
pub exit_on : {X Y : Type 0} (rest : X → Read Y) (result : Result X Stopped) (e : Stopped) (read : Read Y) → IsErrAnd result (λ s. s ≡ e) → ParsesAsErr e read → GoesOn rest result read
exit_on rest result e read is g = let p = err_from_is_err_and result is in rw (p.1, p.2) g

-- a branch comes after each head
pub some_branch : (h : Head) → 0 < branches_of h
some_branch (head.If at c) = omega arith
some_branch (head.Else at c first) = omega arith
some_branch (head.While at c) = omega arith
some_branch (head.For at h) = omega arith

-- after the parentheses of a `switch`, where its braces come
pub switch_goes : (d : ℕ) (T U R : Text) (at : Place) (value : Expr) (h : Box Switched Global) → expect_at mark.Switch T ≡ Ok (at, U)
    → in_parens (expr_at d) U ≡ Ok (expr_view value, R)
    → h.value ≡ record { place = at; value = value } → read_switch d (braces_at d) T ≡ begun_rest d (begun.UpToBraces h) R
switch_goes d T U R at value h e f same = rw (e, f, same) refl
