-- Goals of `tables_of`: the entries at their numbers; an assertion is proved if its value is empty.
use Rattle.std.proofs.Common.{◌<◌, arith, ◌∙◌, List, ap, map, subst}
use Rattle.lra_fixpoint.proofs.Filling.{vec_all, vec_next, value_place, failing_place, value_filled, failing_filled, given_filled}
use Rattle.lra_fixpoint.proofs.{Noting.given_noted, Noting.failing_unnoted, Noting.value_unnoted, Tabled.none_tabled}
use Rattle.lra_pass_results.specs.{Outcome.entry_view, declared.outcome.PassEntry.PassEntry}
use Rattle.lra_fixpoint.specs.{Tables.note_view, Tables.notes_in, Tables.AreTabled, declared.tables.Note.Note}
use Rattle.lra_fixpoint.proofs.tables.tables_of.Goals as goal

pub entries-init : goal.entries-init
entries-init g c = (
  none_tabled g.D.Domain.abstraction c.args.count c.in_ok-values.values.items c.in_ok-verdicts.verdicts.items
      c.in_ok-values.ensures c.in_ok-verdicts.ensures,
  ap (λ ns. map note_view ns) c.new-notes.ensures.items,
)

pub fill-requires : goal.fill-requires
fill-requires g c =
    let items = c.args.entries.items in
    let gives = c.into_iter-entry-iterator.ensures.into_iter_gives in
    let next = vec_next items c.into_iter-entry-iterator.result gives.0 (gives.1 ∙ c.args.entries.ok.0) c.entries.yielded c.entries.entry-iterator c.entries.yielded_by c.next.result c.next.new.self
    c.in-Some.entry c.in-Some.is c.next.ensures.steps in
    let inside : c.in-Value.point < c.args.count = value_place c.args.count items c.entries.yielded c.in-Some.entry c.requires next c.in-Value.point c.in-Value.value c.in-Value.is in
    let places = c.entries.invariant.0.places in
    omega (arith, inside, places)

pub entries-preserved-in-Value : goal.entries-preserved-in-Value
entries-preserved-in-Value g c =
    let items = c.args.entries.items in
    let gives = c.into_iter-entry-iterator.ensures.into_iter_gives in
    let next = vec_next items c.into_iter-entry-iterator.result gives.0 (gives.1 ∙ c.args.entries.ok.0) c.entries.yielded c.entries.entry-iterator c.entries.yielded_by c.next.result c.next.new.self
    c.in-Some.entry c.in-Some.is c.next.ensures.steps in (
      rw c.fill.ensures (value_filled c.args.count items c.entries.yielded c.in-Some.entry c.requires next
          g.D.Domain.abstraction c.entries.values.items c.entries.verdicts.items c.entries.invariant.0 c.in-Value.point
          c.in-Value.value c.in-Value.is),
      value_unnoted c.entries.yielded c.in-Some.entry c.entries.notes.items c.entries.invariant.1 c.in-Value.point
          c.in-Value.value c.in-Value.is,
    )

pub fill-requires-in-Failing : goal.fill-requires-in-Failing
fill-requires-in-Failing g c =
    let items = c.args.entries.items in
    let gives = c.into_iter-entry-iterator.ensures.into_iter_gives in
    let next = vec_next items c.into_iter-entry-iterator.result gives.0 (gives.1 ∙ c.args.entries.ok.0) c.entries.yielded c.entries.entry-iterator c.entries.yielded_by c.next.result c.next.new.self
    c.in-Some.entry c.in-Some.is c.next.ensures.steps in
    let inside : c.in-Failing.point < c.args.count = failing_place c.args.count items c.entries.yielded c.in-Some.entry c.requires next c.in-Failing.point c.in-Failing.value c.in-Failing.is in
    let places = c.entries.invariant.0.verdict_places in
    omega (arith, inside, places)

pub entries-preserved-in-Failing : goal.entries-preserved-in-Failing
entries-preserved-in-Failing g c =
    let items = c.args.entries.items in
    let gives = c.into_iter-entry-iterator.ensures.into_iter_gives in
    let next = vec_next items c.into_iter-entry-iterator.result gives.0 (gives.1 ∙ c.args.entries.ok.0) c.entries.yielded c.entries.entry-iterator c.entries.yielded_by c.next.result c.next.new.self
    c.in-Some.entry c.in-Some.is c.next.ensures.steps in (
      rw c.fill-in-Failing.ensures (failing_filled c.args.count items c.entries.yielded c.in-Some.entry c.requires next
          g.D.Domain.abstraction c.entries.values.items c.entries.verdicts.items c.entries.invariant.0 c.in-Failing.point
          c.in-Failing.value c.in-Failing.is c.is_empty.result c.is_empty.ensures.parts),
      failing_unnoted c.entries.yielded c.in-Some.entry c.entries.notes.items c.entries.invariant.1 c.in-Failing.point
          c.in-Failing.value c.in-Failing.is,
    )

pub entries-preserved : goal.entries-preserved
entries-preserved g c =
    let items = c.args.entries.items in
    let gives = c.into_iter-entry-iterator.ensures.into_iter_gives in
    let next = vec_next items c.into_iter-entry-iterator.result gives.0 (gives.1 ∙ c.args.entries.ok.0) c.entries.yielded
    c.entries.entry-iterator c.entries.yielded_by c.next.result c.next.new.self c.in-Some.entry c.in-Some.is c.next.ensures.steps in
    let note : Note _ = record { point = c.in-Recorded.point; variable = c.in-Recorded.variable; value = c.in-Recorded.value } in (
      given_filled c.args.count items c.entries.yielded c.in-Some.entry c.requires next g.D.Domain.abstraction
          c.entries.values.items c.entries.verdicts.items c.entries.invariant.0 c.in-Recorded.point c.in-Recorded.value
          c.in-Recorded.variable c.in-Recorded.is,
      ap (λ ns. map note_view ns) c.in_ok-push-in-Recorded.ensures.items ∙ given_noted c.entries.yielded c.in-Some.entry
          c.entries.notes.items c.entries.invariant.1 note c.in-Recorded.is,
    )

pub returns-clause-tabled : goal.returns-clause-tabled
returns-clause-tabled g c =
    let items = c.args.entries.items in
    let gives = c.into_iter-entry-iterator.ensures.into_iter_gives in
    let all = vec_all items c.into_iter-entry-iterator.result gives.0 (gives.1 ∙ c.args.entries.ok.0) c.entries.yielded
    c.entries.entry-iterator c.entries.yielded_by c.next.result c.next.new.self c.in-None.is c.next.ensures.steps in
    subst (λ (es : List (PassEntry g.row.D.Denot)). AreTabled g.D.Domain.abstraction c.args.count (map entry_view es)
    c.entries.values.items c.entries.verdicts.items) all c.entries.invariant.0

pub returns-clause-noted : goal.returns-clause-noted
returns-clause-noted g c =
    let items = c.args.entries.items in
    let gives = c.into_iter-entry-iterator.ensures.into_iter_gives in
    let all = vec_all items c.into_iter-entry-iterator.result gives.0 (gives.1 ∙ c.args.entries.ok.0) c.entries.yielded
    c.entries.entry-iterator c.entries.yielded_by c.next.result c.next.new.self c.in-None.is c.next.ensures.steps in
    c.entries.invariant.1 ∙ ap (λ (es : List (PassEntry g.row.D.Denot)). notes_in (map entry_view es)) all
