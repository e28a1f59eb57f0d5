-- Goals of `back_source`: what going back over a source finds.
use Rattle.std.proofs.Common.{map}
use Rattle.lra_back_source.specs.Crates.{lra_operations.TreeViews.node_view, lra_operations.TreeViews.site_view, lra_syntax.Views.tree_view}
use Rattle.lra_back_source.specs.{BackReports.IsBackRefusalOf, Refusals.IfRefusal, declared.refusals.BackError.TheVariants.Memory}
use Rattle.lra_back_source.proofs.Answered.{exit_by, refused, small_number, told}
use Rattle.lra_back_source.proofs.back_report.back_source.Goals as goal

pub returns-in_err-backs-clause-refused : goal.returns-in_err-backs-clause-refused
returns-in_err-backs-clause-refused c =
    let front = c.in_ok-front.front in
    exit_by (IfRefusal (IsBackRefusalOf c.args.bytes.now c.args.point)) c.from_residual-in_err-backs.result _ c.from_residual-in_err-backs.ensures.1
    (refused c.args.bytes.now (tree_view front.tree) (node_view front.graph.tree) (map site_view front.graph.sites.items) c.in_ok-front.ensures.tree
    c.in_ok-front.ensures.graph c.args.point _ c.in_err-backs.ensures.failure)

pub returns-in_err-points-clause-refused : goal.returns-in_err-points-clause-refused
returns-in_err-points-clause-refused c =
    exit_by (IfRefusal (IsBackRefusalOf c.args.bytes.now c.args.point)) c.from_residual-in_err-points.result Memory c.from_residual-in_err-points.ensures.1 tt

pub list_states-requires-clause-wide : goal.list_states-requires-clause-wide
list_states-requires-clause-wide c = rw c.deref.ensures.value c.in_ok-backs.ensures.wide

pub flag_of-requires : goal.flag_of-requires
flag_of-requires c = λ q is.
    let front = c.in_ok-front.front in
    small_number front.graph.sites.items (tree_view front.tree) (node_view front.graph.tree) c.in_ok-front.ensures.graph q (c.in_ok-backs.ensures.flag q is)

pub returns-clause-back : goal.returns-clause-back
returns-clause-back c =
    let front = c.in_ok-front.front in
    let backs = c.in_ok-backs.backs in
    told c.args.bytes.now (tree_view front.tree) (node_view front.graph.tree) (map site_view front.graph.sites.items) c.in_ok-front.ensures.tree
    c.in_ok-front.ensures.graph c.args.point front.constants.items backs.values.items backs.flagged _ c.in_ok-front.ensures.constants
    c.in_ok-backs.ensures.found (rw c.deref.ensures.value at c.in_ok-points.ensures) c.number_of.ensures c.flag_of.ensures
