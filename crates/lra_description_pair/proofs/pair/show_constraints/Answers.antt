-- Goals of `show_constraints`: the cone's constraints, and at which of the rows each is tight.
use Rattle.std.proofs.{Common.◌∙◌, Common.ap, Common.arith, Common.length, Common.suc, Common.sym, Common.List, Common.ℤ, lemmas.List.length-append}
use Rattle.lra_cone.proofs.Stepped.{lines_have_width, rays_have_width}
use Rattle.lra_descriptions.specs.{ShownLists.ShowsConstraints, declared.known.KnownConstraints.KnownConstraints}
use Rattle.lra_description_pair.proofs.KnownPairs.{shows_seen, shows_turned}
use Rattle.lra_description_pair.proofs.pair.show_constraints.Goals as goal

pub known_constraints-requires-clause-lines : goal.known_constraints-requires-clause-lines
known_constraints-requires-clause-lines c = lines_have_width c.args.cone.now (suc c.args.n) c.lines-lines.result.now c.lines-lines.ensures.cone
    (ap suc (sym c.requires.dims)) c.lines-lines.ensures.lines

pub known_constraints-requires-clause-rays : goal.known_constraints-requires-clause-rays
known_constraints-requires-clause-rays c = rays_have_width c.args.cone.now (suc c.args.n) c.rays-rays.result.now c.rays-rays.ensures.cone
    (ap suc (sym c.requires.dims)) c.rays-rays.ensures.rays

pub known_constraints-requires-clause-rows : goal.known_constraints-requires-clause-rows
known_constraints-requires-clause-rows c =
    let seen = ap length c.rays-rays.ensures.rays in
    let many = c.in_ok-columns.ensures.height ∙ c.requires.width ∙ length-append c.args.cone.now.rays c.args.cone.now.lines in
    omega (arith, seen, many)

pub returns-clause-shown : goal.returns-clause-shown
returns-clause-shown c = shows_seen (λ (lines rays : List (List ℤ)) (known : KnownConstraints). ShowsConstraints c.args.n lines rays known.list)
    c.args.cone.now c.lines-lines.result.now c.rays-rays.result.now c.known_constraints.result
    c.lines-lines.ensures.lines c.rays-rays.ensures.rays c.known_constraints.ensures.shown

pub returns-clause-matrix : goal.returns-clause-matrix
returns-clause-matrix c = shows_turned (λ (known : KnownConstraints). known.list.rows) (λ (known : KnownConstraints). known.matrix) c.args.cone.now
    c.args.matrix.now c.in_ok-columns.columns
    c.lines-lines.result.now c.rays-rays.result.now c.known_constraints.result c.lines-lines.ensures.lines c.rays-rays.ensures.rays c.in_ok-columns.ensures
    c.width-width.ensures.equal
    c.known_constraints.ensures.matrix
