-- Goals of `run_lines`: carries out all lines.
use Rattle.std.proofs.Common.{◌≡◌, ◌∙◌, ◌+◌, ◌<◌, ℕ, List, ◌∷◌, Bor, length, get_or, drop, map, ap, sym, subst}
use Rattle.std.proofs.{lemmas.List.drop_more, lemmas.Result.err_from_is_err_and}
use Rattle.std.specs.Prelude.{option_map}
use Rattle.lra_script.specs.{ScriptText.without_return, Views.texts}
use Rattle.lra_calc.specs.{Script.CarriesOut, Views.session_of}
use Rattle.lra_calc.proofs.SessionLemmas.{stop_ends}
use Rattle.lra_calc.proofs.calculator.run_lines.Goals as goal

-- the lines from this one on
from_here : (lines : List (Bor (List ℕ))) (i : ℕ) (d : Bor (List ℕ)) (line : List ℕ) → i < length lines → line ≡ without_return (get_or lines i d).now →
    map without_return (texts (drop i lines)) ≡ line ∷ map without_return (texts (drop (i + 1) lines))
from_here lines i d line h e =
    ap (λ (ls : List (Bor (List ℕ))). map without_return (texts ls)) (drop_more lines i d h) ∙ ap (λ (l : List ℕ). l ∷ map without_return (texts (drop (i + 1) lines))) (sym e)

pub returns-in_err-session : goal.returns-in_err-session
returns-in_err-session c =
    let p = err_from_is_err_and c.from_residual.result c.from_residual.ensures.1 in
    let i = c.loop-index.index in
    let lines = c.args.lines.now in
    let line = c.without_return.result.now in
    let here : map without_return (texts (drop i lines)) ≡ line ∷ map without_return (texts (drop (i + 1) lines)) = from_here lines i _ line c.loop-index-test.true c.without_return.ensures in
    rw (p.1, p.2)
    (stop_ends (i + 1) c.loop-index.session line (map without_return (texts (drop (i + 1) lines))) c.in_err-session.field-0.0 _ c.in_err-session.ensures.steps
    (λ end h. c.loop-index.invariant.rest end (subst (λ (ls : List (List ℕ)). CarriesOut (i + 1) (option_map session_of c.loop-index.session) ls end) (sym here) h)))
