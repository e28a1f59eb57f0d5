-- The goal of `write_disjuncts`: one disjunct more.
use Rattle.std.proofs.{Common.◌∙◌, Common.[], Common.◌∷◌, Common.ap, lemmas.List.map-append}
use Rattle.lra_path_disjuncts.specs.{TableDisjuncts.all_done, TableDisjuncts.lists_done, Tables.moves_at}
use Rattle.lra_path_disjuncts.proofs.SideLists.{side_written}
use Rattle.lra_path_disjuncts.proofs.tables.write_disjuncts.Goals as goal

pub sides-preserved : goal.sides-preserved
sides-preserved c = side_written (moves_at c.args.entries.now c.args.place) c.sides.number c.disjuncts_at-count.result (lists_done c.args.all.now.items)
    (lists_done c.sides.all.items) (lists_done c.push.new.self.items) (all_done c.in_ok-side.side.items) c.requires.few c.disjuncts_at-count.ensures
    c.sides-test.true c.in_ok-side.ensures c.sides.invariant
    (ap lists_done c.in_ok-push.ensures.items ∙ map-append (λ v. all_done v.items) c.sides.all.items (c.in_ok-side.side ∷ []))
