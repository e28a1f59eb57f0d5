-- Goals of `constraint_list`: the lines as equalities, then the rays but this one, in order, as inequalities.
use Rattle.std.proofs.Common.{◌≡◌, ◌∙◌, sym, subst, suc, length, List, ℤ, ℕ}
use Rattle.std.specs.{List.All, List.Sorted.IsPermutation}
use Rattle.lra_descriptions.proofs.Parted.{without_widths}
use Rattle.lra_descriptions.proofs.shown.constraint_list.Goals as goal

pub move_constraints-requires : goal.move_constraints-requires
move_constraints-requires c =
    let rows = c.canonical_order.new.rows.items in
    let w : ℕ = suc c.args.n in
    let all : All (λ r. length r ≡ w) rows = without_widths w c.args.left_out.now c.args.rays.now rows c.requires.rays
    (subst (λ (x : List (List ℤ)). IsPermutation x rows) c.in_ok-inequalities.ensures c.in_ok-canonical_order.ensures.same) in
    subst (λ (n : ℕ). All (λ r. length r ≡ suc n) rows) (sym (c.in_ok-push_constraints.ensures.dims ∙ c.new-list.ensures.dims)) all
