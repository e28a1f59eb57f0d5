-- Goals of `open_parts`: a tree with none in it is instrumented; of any other a place opens.
use Rattle.std.proofs.Common.{◌∙◌, ap, sym, arith, refl}
use Rattle.lra_operations.specs.{Parts.whole_of, Sizes.whole_size, TreeViews.node_view, declared.tree.Node.Node}
use Rattle.lra_operations.specs.declared.tree.Node.TheVariants as at
use Rattle.lra_operations.specs.declared.tree.Parts.TheVariants as parts
use Rattle.lra_threads_instrument.specs.Crates.lra_analysis_spec.Instrumented.{instrumented}
use Rattle.lra_threads_instrument.specs.Instrumented.{around}
use Rattle.lra_threads_instrument.specs.declared.stack.InstrumentFrame.TheVariants.{First, Body, Catch}
use Rattle.lra_threads_instrument.proofs.{OpenFrames.leaf_leads, OpenFrames.parts_lead, OpenFrames.select_leads, PartViews.view_of}
use Rattle.lra_threads_instrument.proofs.trees.open_parts.Goals as goal

pub returns-in-Empty : goal.returns-in-Empty
returns-in-Empty c = leaf_leads c.args.globals c.args.places.now.items parts.Empty c.args.tree at.Empty
    (ap whole_of (sym c.in-Empty.is) ∙ c.into_parts.ensures) (view_of parts.Empty)

pub returns-in-Probe : goal.returns-in-Probe
returns-in-Probe c =
    let p = parts.Probe c.in-Probe.point c.in-Probe.what in
    leaf_leads c.args.globals c.args.places.now.items p c.args.tree (whole_of p) (ap whole_of (sym c.in-Probe.is) ∙ c.into_parts.ensures) (view_of p)

pub returns-in-Check : goal.returns-in-Check
returns-in-Check c =
    let p = parts.Check c.in-Check.point c.in-Check.base c.in-Check.test in
    leaf_leads c.args.globals c.args.places.now.items p c.args.tree (whole_of p) (ap whole_of (sym c.in-Check.is) ∙ c.into_parts.ensures) (view_of p)

pub returns-in-Leave : goal.returns-in-Leave
returns-in-Leave c =
    let p = parts.Leave c.in-Leave.live c.in-Leave.exit in
    leaf_leads c.args.globals c.args.places.now.items p c.args.tree (whole_of p) (ap whole_of (sym c.in-Leave.is) ∙ c.into_parts.ensures) (view_of p)

pub returns-in-Seq : goal.returns-in-Seq
returns-in-Seq c =
    parts_lead c.open_row.result c.args.globals c.args.places.now.items c.open_row.new.places.items (parts.Seq c.in-Seq.trees c.in-Seq.last) c.args.tree _ _
    (ap whole_of (sym c.in-Seq.is) ∙ c.into_parts.ensures) refl (omega arith) (c.open_row.ensures c.args.globals)

pub returns-in-Choose : goal.returns-in-Choose
returns-in-Choose c =
    let n = c.args.globals in
    let place = First c.in-Choose.point c.in-Choose.base c.in-Choose.condition c.in-Choose.no in
    parts_lead c.open_in.result n c.args.places.now.items c.open_in.new.places.items
    (parts.Choose c.in-Choose.point c.in-Choose.base c.in-Choose.condition c.in-Choose.yes c.in-Choose.no) c.args.tree _ _
    (ap whole_of (sym c.in-Choose.is) ∙ c.into_parts.ensures) (ap (λ (x : Node). around n place (instrumented n (node_view x))) c.into_inner.ensures)
    (omega (arith, ap whole_size c.into_inner.ensures)) (c.open_in.ensures n)

pub returns-in-Iterate : goal.returns-in-Iterate
returns-in-Iterate c =
    let n = c.args.globals in
    let place = Body c.in-Iterate.point c.in-Iterate.base c.in-Iterate.condition in
    parts_lead c.open_in-in-Iterate.result n c.args.places.now.items c.open_in-in-Iterate.new.places.items
    (parts.Iterate c.in-Iterate.point c.in-Iterate.base c.in-Iterate.condition c.in-Iterate.body) c.args.tree _ _
    (ap whole_of (sym c.in-Iterate.is) ∙ c.into_parts.ensures)
    (ap (λ (x : Node). around n place (instrumented n (node_view x))) c.into_inner-in-Iterate.ensures)
    (omega (arith, ap whole_size c.into_inner-in-Iterate.ensures)) (c.open_in-in-Iterate.ensures n)

pub returns-in-Catch : goal.returns-in-Catch
returns-in-Catch c =
    let n = c.args.globals in
    let place = Catch c.in-Catch.point c.in-Catch.exit in
    parts_lead c.open_in-in-Catch.result n c.args.places.now.items c.open_in-in-Catch.new.places.items
    (parts.Catch c.in-Catch.point c.in-Catch.exit c.in-Catch.body) c.args.tree _ _
    (ap whole_of (sym c.in-Catch.is) ∙ c.into_parts.ensures) (ap (λ (x : Node). around n place (instrumented n (node_view x))) c.into_inner-in-Catch.ensures)
    (omega (arith, ap whole_size c.into_inner-in-Catch.ensures)) (c.open_in-in-Catch.ensures n)

pub returns-in-Select : goal.returns-in-Select
returns-in-Select c =
    select_leads c.args.globals c.args.places.now.items c.in-Select.point c.in-Select.base c.in-Select.value c.in-Select.arms c.args.tree
    c.select-selection.result
    (ap whole_of (sym c.in-Select.is) ∙ c.into_parts.ensures) (c.select-selection.ensures.whole c.args.globals) c.select-selection.ensures.steps
