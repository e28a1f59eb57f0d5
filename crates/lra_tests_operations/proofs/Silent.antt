-- A tree in which nothing accesses an array.
use Rattle.std.proofs.Common.{◌≡◌, ◌∙◌, ◌+◌, ◌<◌, ◌≤◌, ℕ, zero, suc, Bool, true, false, List, [], ◌∷◌, ◌++◌, length, map, take, get_or, refl, sym, ap, subst, cond, nat_eq, None}
use Rattle.std.proofs.{lemmas.List.map_more, lemmas.List.take_all, lemmas.Option.none-some}
use Rattle.std.specs.{List.AllByRecursion, List.filter, List.flat_map, Prelude.IsTrue, Prelude.nat_lt}
use Rattle.lra_tests_operations.specs.Crates.lra_operations_list.TreeOperations.{op_at_point_view, done_in}
use Rattle.lra_tests_operations.specs.Crates.{lra_operations_list.declared.tree_operations.OpRefAtPoint.OpRefAtPoint, lra_program.Accesses.op_accesses, lra_program.Accesses.op_accesses_any}
use Rattle.lra_tests_operations.specs.Crates.{lra_program.Program.Element, lra_program.Program.Program, lra_program.Sites.Site, lra_resolution_spec.Resolve.resolve, lra_syntax.Trees.FileTree}
use Rattle.lra_operations.specs.{Agree.IsInlinedTree, CheckedOperations.OpAtPoint, CheckedOperations.accessing_ops, Tree.Node}
use Rattle.lra_tests_operations.proofs.Crates.{lra_analysis_spec.OneTree.one_tree, lra_linear_spec.Membership.contains_none, lra_operations_list.Filtered.asking_filtered}
use Rattle.lra_bounds_checks.specs.{Listed.access_view, declared.listing.Access.Access}
use Rattle.lra_report.specs.Listing.{accesses_at}
use Rattle.lra_report_build.specs.AnalysisResults.{AreAccessVerdicts}

-- each of these accesses nothing
abbrev pub AreSilent : List OpAtPoint → Type 0
AreSilent xs = AllByRecursion (λ (a : OpAtPoint). op_accesses a.op ≡ []) xs

silent_behind : (xs : List OpAtPoint) (a : OpAtPoint) → AreSilent xs → op_accesses a.op ≡ [] → AreSilent (xs ++ a ∷ [])
silent_behind [] a h e = (e, tt)
silent_behind (x ∷ xs) a h e = (h.0, silent_behind xs a h.1 e)

-- one more of what is done
pub silent_more : (done : List OpRefAtPoint) (d : OpRefAtPoint) (n : ℕ) → AreSilent (map op_at_point_view (take n done)) → n < length done → d ≡ get_or done n d
    → op_accesses (op_at_point_view d).op ≡ [] → AreSilent (map op_at_point_view (take (n + 1) done))
silent_more done d n silent inside read none =
    let more = map_more op_at_point_view done n d inside
    ∙ ap (λ (x : OpRefAtPoint). map op_at_point_view (take n done) ++ op_at_point_view x ∷ []) (sym read) in
    subst AreSilent (sym more) (silent_behind (map op_at_point_view (take n done)) (op_at_point_view d) silent none)

none_left : (xs : List OpAtPoint) → AreSilent xs → filter (λ (a : OpAtPoint). op_accesses_any a.op) xs ≡ []
none_left [] h = refl
none_left (x ∷ xs) h = rw (h.0, none_left xs h.1) refl

-- nothing of a tree accesses an array if nothing of what is done in it does
pub silent_tree : (g : Node) (done : List OpRefAtPoint) (n : ℕ) → map op_at_point_view done ≡ done_in None g → length done ≤ n →
    AreSilent (map op_at_point_view (take n done))
    → (q : ℕ) → accesses_at g q ≡ []
silent_tree g done n all whole silent q =
    let every : AreSilent (done_in None g) = subst AreSilent (ap (map op_at_point_view) (take_all n done whole) ∙ all) silent in
    ap (λ (xs : List OpAtPoint). flat_map (λ (a : OpAtPoint). cond (nat_eq a.point q) (op_accesses a.op) []) xs)
    (asking_filtered op_accesses_any None g ∙ none_left (done_in None g) every)

-- a list without an element, of which these are the views
pub none_listed : (xs : List Access) (ys : List Element) → length xs ≡ 0 → map access_view xs ≡ ys → ys ≡ []
none_listed [] ys none all = sym all
none_listed (x ∷ xs) ys none all = absurd cc

-- then so it is in each tree of the program
pub silent_trees : (t : FileTree) (P : Program) (g : Node) → IsInlinedTree P g → P ≡ resolve t → ((q : ℕ) → accesses_at g q ≡ []) → (h : Node) →
    IsInlinedTree (resolve t) h
    → (q : ℕ) → accesses_at h q ≡ []
silent_trees t P g graph is none h other q = subst (λ (k : Node). accesses_at k q ≡ [])
    (one_tree (resolve t) g h (subst (λ (Q : Program). IsInlinedTree Q g) is graph) other) (none q)

never_any : (xs : List Element) → xs ≡ [] → IsTrue (nat_lt 0 (length xs)) → ⊥
never_any [] e h = let wrong : false ≡ true = h in cc
never_any (x ∷ xs) e h = cc

-- and nothing is reported about accesses there
pub none_inside : (g : Node) (sites : List Site) → ((q : ℕ) → accesses_at g q ≡ []) → AreAccessVerdicts g sites []
none_inside g sites none = record {
  verdicts = record {
    of_these = λ q js h. absurd (contains_none (q, js) h);
    of_all = λ q a. absurd (never_any (accesses_at g q) (none q) a.2);
    in_order = λ i j v w l x y. absurd (none-some v x);
  };
  places = λ q js h. absurd (contains_none (q, js) h);
}
