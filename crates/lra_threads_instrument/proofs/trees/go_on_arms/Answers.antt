-- Goals of `go_on_arms`: the next arm of those that are left is a label or a tree, or all are instrumented.
use Rattle.std.proofs.Common.{◌∙◌, ap, sym, arith}
use Rattle.lra_operations.specs.Parts.{whole_arm_of}
use Rattle.lra_threads_instrument.specs.declared.stack.Next.TheVariants.{Gives}
use Rattle.lra_operations.specs.declared.tree.Node.TheVariants as at
use Rattle.lra_threads_instrument.proofs.OpenFrames.{arms_end, entry_falls, entry_stands, leads_on, stands, tree_fewer, tree_stands}
use Rattle.lra_threads_instrument.proofs.trees.go_on_arms.Goals as goal

pub returns-in_ok-push-in-Entry : goal.returns-in_ok-push-in-Entry
returns-in_ok-push-in-Entry c n =
    let s = c.args.selection in
    let is = ap whole_arm_of (sym c.in-Entry.is) ∙ c.into_parts.ensures in
    stands n c.args.places.now.items _ _ _
    (entry_stands s.point s.base s.value n s.done c.push.new.self s.left c.pop.new.self c.in-Some.arm c.in-Entry.label c.in-Some.ensures.items is
    c.in_ok-push-in-Entry.ensures.items)
    (entry_falls s.point s.base s.value s.done c.push.new.self s.left c.pop.new.self c.in-Some.arm c.in-Entry.label c.in-Some.ensures.items is)

pub returns-in-Tree : goal.returns-in-Tree
returns-in-Tree c n =
    let s = c.args.selection in
    let is = ap whole_arm_of (sym c.in-Tree.is) ∙ c.into_parts.ensures in
    leads_on c.open_in.result n c.args.places.now.items c.open_in.new.places.items _ _ _ _
    (tree_stands s.point s.base s.value n s.done s.left c.pop.new.self c.in-Some.arm c.in-Tree.tree c.in-Some.ensures.items is)
    (tree_fewer s.point s.base s.value s.done s.left c.pop.new.self c.in-Some.arm c.in-Tree.tree c.in-Some.ensures.items is) (c.open_in.ensures n)

pub returns-in-None : goal.returns-in-None
returns-in-None c n =
    let s = c.args.selection in
    stands n c.args.places.now.items _ _ (Gives (at.Select s.point s.base s.value s.done))
    (arms_end s.point s.base s.value n s.done s.left (sym s.left.ok.0 ∙ c.in-None.ensures.cases.0)) (omega arith)
