-- Those of which something is asked are among all that is done in a tree, in their order.
use Rattle.std.proofs.Common.{◌≡◌, ◌∙◌, ℕ, List, ◌++◌, Option, None, Bool, true, filter, refl, sym, ap}
use Rattle.std.proofs.lemmas.List.Elements.{filter-append}
use Rattle.lra_operations_list.specs.Crates.lra_operations.CheckedOperations.{OpAtPoint, op_where, ops_where, ops_where_in_arms, fresh_after}
use Rattle.lra_operations_list.specs.Crates.lra_operations.Tree.{Node, empty, probe, point, act, check, seq, choose, iterate, catch, leave, select, Arms, no_arms, entry, arm}
use Rattle.lra_operations_list.specs.Crates.lra_program.Step.{Op, store_value, test}
use Rattle.lra_operations_list.specs.Crates.{lra_base.declared.number_types.NumberType.NumberType, lra_program.Receivers.nobody}
use Rattle.lra_operations_list.specs.TreeOperations.{done_of, done_in, done_in_arms}

module _ (asks : Op → Bool) where
  abbrev asked : OpAtPoint → Bool
  asked a = asks a.op

  pub one_filtered : (q : ℕ) (fresh : Option NumberType) (op : Op) → op_where asks q fresh op ≡ filter asked (done_of q fresh op)
  one_filtered q fresh op = refl

  both_filtered : (xs ys us vs : List OpAtPoint) → us ≡ filter asked xs → vs ≡ filter asked ys → us ++ vs ≡ filter asked (xs ++ ys)
  both_filtered xs ys us vs e f =
      ap (λ (ws : List OpAtPoint). ws ++ vs) e ∙ ap (λ (ws : List OpAtPoint). filter asked xs ++ ws) f ∙ sym (filter-append asked xs ys)

  mutual
    pub asking_filtered : (fresh : Option NumberType) (g : Node) → ops_where asks fresh g ≡ filter asked (done_in fresh g)
    asking_filtered fresh empty = refl
    asking_filtered fresh (probe here what) = refl
    asking_filtered fresh (point q) = refl
    asking_filtered fresh (act q op) = one_filtered q fresh op
    asking_filtered fresh (check q base c) = one_filtered q None (test base c true)
    asking_filtered fresh (seq a b) =
        both_filtered (done_in fresh a) (done_in (fresh_after fresh a) b) _ _ (asking_filtered fresh a) (asking_filtered (fresh_after fresh a) b)
    asking_filtered fresh (choose q base c a b) =
        both_filtered (done_of q None (test base c true) ++ done_in None a) (done_in None b) _ _
        (both_filtered (done_of q None (test base c true)) (done_in None a) _ _ (one_filtered q None (test base c true)) (asking_filtered None a))
        (asking_filtered None b)
    asking_filtered fresh (iterate q base c a) =
        both_filtered (done_of q None (test base c true)) (done_in None a) _ _ (one_filtered q None (test base c true)) (asking_filtered None a)
    asking_filtered fresh (catch q k a) = asking_filtered None a
    asking_filtered fresh (leave n k) = refl
    asking_filtered fresh (select q base e arms) =
        both_filtered (done_of q None (store_value base nobody e)) (done_in_arms None arms) _ _ (one_filtered q None (store_value base nobody e))
        (arms_filtered None arms)

    arms_filtered : (fresh : Option NumberType) (arms : Arms) → ops_where_in_arms asks fresh arms ≡ filter asked (done_in_arms fresh arms)
    arms_filtered fresh no_arms = refl
    arms_filtered fresh (entry l arms) = arms_filtered fresh arms
    arms_filtered fresh (arm a arms) =
        both_filtered (done_in fresh a) (done_in_arms (fresh_after fresh a) arms) _ _ (asking_filtered fresh a) (arms_filtered (fresh_after fresh a) arms)
