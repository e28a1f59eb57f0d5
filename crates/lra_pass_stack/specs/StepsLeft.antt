-- How many steps a pass may still take: so it ends.
use Rattle.std.specs.List.{sum_by}
use Rattle.std.specs.Prelude.{ℕ, suc, ⊤, ◌<◌, ◌+◌, ◌*◌, List}
use Rattle.lra_pass_stack.specs.Crates.lra_domain.Abstraction.{Abstraction}
use Rattle.lra_pass_stack.specs.Crates.{lra_analysis_spec.Plan.Plan, lra_domain.declared.Rank.Rank}
use Rattle.lra_operations.specs.declared.tree.Node.{Node}
use Rattle.lra_pass_stack.specs.declared.stack.Next as next
use Rattle.lra_pass_stack.specs.declared.stack.Next.TheVariants.{Passed, Opens, Again}
use Rattle.lra_pass_stack.specs.declared.stack.PassFrame.TheVariants.{Row, Last, Choice, Branch, Growing, Narrowing}
use Rattle.lra_pass_stack.specs.declared.stack.PassFrame.TheVariants.{Catch, Select}
use Rattle.lra_pass_stack.specs.declared.stack.Step.TheVariants.{Ended, Goes}
use Rattle.lra_pass_stack.specs.declared.stack.PassFrame as place
use Rattle.lra_pass_stack.specs.declared.stack.Step as step
use Rattle.lra_pass_results.specs.{Steps.node_steps, Steps.arms_steps, Steps.row_steps, declared.tree_forms.Loop.Loop}

-- four digits of base b, and before them how many rounds of joining are left: by definition what proofs on ranks call
-- `phased`, which no clause can name
abbrev pub rounds_left : ℕ → ℕ → Rank → ℕ
rounds_left b left r = left * (b * (b * (b * b))) + (((r.first * b + r.second) * b + r.third) * b + r.fourth)

-- no loop is turned more often: while its head grows, and while it is narrowed
abbrev pub most_rounds : ℕ → Plan → ℕ
most_rounds b set = set.narrow + suc set.delay * (b * (b * (b * b)))

module _ {V H : Type 0} (m : Abstraction V H) (b : ℕ) (set : Plan) where
  abbrev pub tree_steps : Node → ℕ
  tree_steps = node_steps (most_rounds b set)

  -- so many rounds of narrowing, or further rounds of a head that grows
  abbrev pub turns_left : Loop → ℕ → ℕ
  turns_left l n = 1 + n * suc (tree_steps l.body.now)

  -- at a place, after the tree that is under way there
  abbrev pub place_left : place.PassFrame V H → ℕ
  place_left (Row r) = 1 + row_steps (most_rounds b set) r.behind.trees.now r.behind.last.now
  place_left (Last x) = 1
  place_left (Choice k) = 2 + tree_steps k.choice.no.now
  place_left (Branch k) = 1
  place_left (Growing g) =
      turns_left g.value.the_loop (set.narrow + rounds_left b g.value.growing.left (m.rank g.value.growing.head))
  place_left (Narrowing n) = turns_left n.value.narrowing.the_loop n.value.narrowing.left
  place_left (Catch q k) = 1
  place_left (Select s) = 1 + arms_steps (most_rounds b set) s.value.behind.now

  abbrev pub next_left : next.Next V H → ℕ
  next_left (Passed r) = 0
  next_left (Opens p tree) = place_left p + tree_steps tree.node.now
  next_left (Again p r) = place_left p.value

  abbrev pub all_left : List (place.PassFrame V H) → next.Next V H → ℕ
  all_left places n = sum_by place_left places + next_left n

  -- what a step leads to takes fewer
  abbrev pub TakesFewer : List (place.PassFrame V H) → step.Step V H → ℕ → Type 0
  TakesFewer places (Ended r) k = ⊤
  TakesFewer places (Goes n) k = all_left places n < k
