-- How many variables live after a least change, and after a tree of operations.
use Rattle.std.specs.Prelude.{ℕ, suc, ◌+◌, ◌-◌, length}
use Rattle.lra_analysis_spec.specs.Crates.lra_program.Step.{Op, append, fill, store_value, store_element, havoc, push}
use Rattle.lra_analysis_spec.specs.Crates.lra_program.Step.{push_for, truncate_to, test}
use Rattle.lra_operations.specs.Tree.{Node, empty, probe, point, act, check, seq, choose, iterate, catch, leave, select}

-- how many variables live after the change of a store with so many
abbrev pub live_after_op : Op → ℕ → ℕ
live_after_op (append t) n = suc n
live_after_op (fill a) n = n
live_after_op (store_value base x e) n = n
live_after_op (store_element base x e) n = n
live_after_op (havoc x) n = n
live_after_op (push base given) n = n + length given
live_after_op (push_for base x given) n = n + length given
live_after_op (truncate_to k) n = n - (n - k)
live_after_op (test base c wanted) n = n

-- so many live after a tree at whose beginning n live
abbrev pub live_after : Node → ℕ → ℕ
live_after empty n = n
live_after (probe here what) n = n
live_after (point q) n = n
live_after (act q op) n = live_after_op op n
live_after (check q base c) n = n
live_after (seq a b) n = live_after b (live_after a n)
live_after (choose q base c a b) n = live_after a n
live_after (iterate q base c a) n = n
live_after (catch q k a) n = live_after a n
live_after (leave m k) n = m
live_after (select q base e arms) n = n
