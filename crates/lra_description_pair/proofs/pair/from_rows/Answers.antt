-- Goals of `from_rows`: the polyhedron of the constraints, and what was lost.
use Rattle.std.proofs.{Common.List, Common.subst, lemmas.Result.IfOk-weaker}
use Rattle.lra_description_pair.specs.Crates.{lra_linear_spec.Descriptions.LinearRow, lra_systems.LinearSystems.constraints}
use Rattle.lra_description_pair.specs.{KeptRows.IsOfSome, Made.IsMadeOfRows, TriedRows.IsOfTried}
use Rattle.lra_description_pair.proofs.PairLosses.{behind_positivity, none_behind, positive_alone}
use Rattle.lra_description_pair.proofs.pair.from_rows.Goals as goal

pub from_cone-requires-clause-positive : goal.from_cone-requires-clause-positive
from_cone-requires-clause-positive c = positive_alone c.args.rows.now.dims c.dims-n.result c.in_ok-positive_cone.field-0.taken c.dims-n.ensures c.in_ok-positive_cone.ensures.taken

pub returns-clause-becomes : goal.returns-clause-becomes
returns-clause-becomes c =
    let d = c.args.rows.now.dims in
    let same = none_behind d c.dims-n.result c.in_ok-positive_cone.field-0.taken (constraints c.args.rows.now) c.dims-n.ensures c.in_ok-positive_cone.ensures.taken in
    IfOk-weaker c.from_cone.result _ _ (λ r h. subst (λ (l : List LinearRow). IsMadeOfRows d l r.0 r.1.items) same h) c.from_cone.ensures.becomes

pub returns-clause-some : goal.returns-clause-some
returns-clause-some c =
    let d = c.args.rows.now.dims in
    let same = none_behind d c.dims-n.result c.in_ok-positive_cone.field-0.taken (constraints c.args.rows.now) c.dims-n.ensures c.in_ok-positive_cone.ensures.taken in
    IfOk-weaker c.from_cone.result _ _ (λ r h. subst (λ (l : List LinearRow). IsOfSome d l r.0) same h) c.from_cone.ensures.some

pub returns-clause-tried : goal.returns-clause-tried
returns-clause-tried c =
    let d = c.args.rows.now.dims in
    let first = behind_positivity d c.dims-n.result c.in_ok-positive_cone.field-0.taken c.dims-n.ensures c.in_ok-positive_cone.ensures.taken in
    IfOk-weaker c.from_cone.result _ _ (λ r h. subst (λ (l : List LinearRow). IsOfTried d l (constraints c.args.rows.now) r.0 r.1.items) first h) c.from_cone.ensures.tried
