-- Goals of `next_of_row`: flat trees are passed, and the first other one is next.
use Rattle.std.proofs.{Common.rules, Common.◌≡◌, Common.◌∷◌, Common.refl, lemmas.List.nil_from_length}
use Rattle.lra_pass_results.specs.{Flat.flat_view, declared.tree_forms.Row.Row}
use Rattle.lra_pass_stack.specs.StepsLeft.{most_rounds}
use Rattle.lra_pass_results.proofs.AnyInterference.{flat_among}
use Rattle.lra_pass_stack.proofs.RowLeaves.{first_fits, last_falls, first_followed, row_alone, steps_less, steps_within}
use Rattle.lra_pass_stack.proofs.rows.next_of_row.Goals as goal

-- a tree that isn't flat ----------------------------------------------------------------------------------------------

pub returns-in_default-of : goal.returns-in_default-of
returns-in_default-of g c =
    let m = g.D.Domain.abstraction in
    let all = c.leaves.left.now in
    let first : all ≡ c.in-Some.node.now ∷ c.in-Some.behind.now = search rules in
    record {
      leads = λ others set whole memory plan may loop. c.open_first.ensures.leads others set whole memory all plan first
          may (c.leaves.invariant.owes others set whole memory plan may loop);
      falls = λ b set. steps_within _ _ _ (c.open_first.ensures.steps b set all first)
          (c.leaves.invariant.steps (most_rounds b set));
    }

-- a flat one ----------------------------------------------------------------------------------------------------------

pub pass_on-requires-clause-few : goal.pass_on-requires-clause-few
pass_on-requires-clause-few g c =
    let way = c.requires.way in
    (c.leaves.invariant.owes way.0 c.args.the_row.plan.now way.1 way.2 refl way.3 way.4).few

pub pass_on-requires-clause-fits : goal.pass_on-requires-clause-fits
pass_on-requires-clause-fits g c =
    let way = c.requires.way in
    let first : c.leaves.left.now ≡ c.in-Some.node.now ∷ c.in-Some.behind.now = search rules in
    first_fits (g.F.Interfere.interference way.0) g.D.Domain.abstraction c.args.the_row.plan.now c.leaves.left.now
    c.in-Some.behind.now c.in-Some.node.now c.args.the_row.last.now (flat_view c.in-Some-of.flat) way.1 way.2 c.leaves.so_far first c.in-Some-of.ensures.0
    (c.leaves.invariant.owes way.0 c.args.the_row.plan.now way.1 way.2 refl way.3 way.4)

pub leaves-preserved : goal.leaves-preserved
leaves-preserved g c =
    let first : c.leaves.left.now ≡ c.in-Some.node.now ∷ c.in-Some.behind.now = search rules in
    let behind : Row = record {
      plan = c.args.the_row.plan;
      trees = c.in-Some.behind;
      last = c.args.the_row.last;
    } in
    record {
      owes = λ others set whole memory plan may loop.
          let o = g.F.Interfere.interference others in
          first_followed o g.D.Domain.abstraction set behind c.leaves.left.now c.in-Some.node.now
          (flat_view c.in-Some-of.flat) whole memory c.leaves.so_far c.pass_on.new.so_far plan first
          c.in-Some-of.ensures.0 (flat_among o g.D.Domain.abstraction c.args.the_row.plan.now c.in-Some-of.flat
          c.leaves.so_far c.pass_on.new.so_far c.in-Some-of.ensures.1 c.in_ok-pass_on.ensures)
          (c.leaves.invariant.owes others set whole memory plan may loop);
      steps = λ n. steps_less n c.args.the_row.trees.now c.leaves.left.now c.in-Some.behind.now c.in-Some.node.now
          c.args.the_row.last.now first (c.leaves.invariant.steps n);
    }

-- the last ------------------------------------------------------------------------------------------------------------

pub next_of_last-requires-clause-few : goal.next_of_last-requires-clause-few
next_of_last-requires-clause-few g c =
    let way = c.requires.way in
    (c.leaves.invariant.owes way.0 c.args.the_row.plan.now way.1 way.2 refl way.3 way.4).few

pub next_of_last-requires-clause-fits : goal.next_of_last-requires-clause-fits
next_of_last-requires-clause-fits g c =
    let way = c.requires.way in
    let none = nil_from_length c.leaves.left.now c.in_default.ensures.cases in
    (row_alone (g.F.Interfere.interference way.0) g.D.Domain.abstraction c.args.the_row.plan.now c.leaves.left.now
    c.args.the_row.last.now way.1 way.2 c.leaves.so_far none (c.leaves.invariant.owes way.0 c.args.the_row.plan.now way.1 way.2 refl way.3 way.4)).fits

pub returns-clause-leads : goal.returns-clause-leads
returns-clause-leads g c others set whole memory plan may loop =
    let none = nil_from_length c.leaves.left.now c.in_default.ensures.cases in
    c.next_of_last.ensures.leads others set whole memory plan may
    (row_alone (g.F.Interfere.interference others) g.D.Domain.abstraction set c.leaves.left.now c.args.the_row.last.now whole memory
    c.leaves.so_far none (c.leaves.invariant.owes others set whole memory plan may loop))

pub returns-clause-falls : goal.returns-clause-falls
returns-clause-falls g c b set =
    let none = nil_from_length c.leaves.left.now c.in_default.ensures.cases in
    last_falls g.D.Domain.abstraction b set c.next_of_last.result c.args.the_row.trees.now c.leaves.left.now
    c.args.the_row.last.now none (c.leaves.invariant.steps (most_rounds b set)) (c.next_of_last.ensures.falls b set)
