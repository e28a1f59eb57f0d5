-- Goals of `substitute_list`: the constraints with the form put in for the coordinate x, without those with which a
-- number passes.
use Rattle.std.proofs.Common.{◌≡◌, ◌≤◌, ◌∙◌, ap, length, refl, subst, suc, sym, ℤ, List}
use Rattle.lra_mapped_systems.proofs.FormedLists.{all_formed}
use Rattle.lra_mapped_systems.proofs.forming.substitute_list.Goals as goal

pub returns-clause-formed : goal.returns-clause-formed
returns-clause-formed c =
    let list = c.args.list.now in
    let at = c.loop-place.place in
    let many : length list.kinds ≡ length list.rows = ap length (sym c.kinds-kinds.ensures.kinds) ∙ c.kinds-kinds.ensures.len in
    let all : length list.rows ≤ at = subst (λ (l : List (List ℤ)). length l ≤ at) c.rows-rows.ensures.rows c.loop-place-test.false in
    all_formed (suc c.args.x) c.args.form.now list c.loop-place.formed.list list.rows list.kinds at refl refl many all c.loop-place.invariant.formed
