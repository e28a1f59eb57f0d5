-- Goals of `write`: note by note.
use Rattle.std.proofs.Common.{◌∙◌, List, ap, length, map, refl}
use Rattle.lra_threads_analysis.specs.Crates.{lra_box.Content.BoxContent, lra_fixpoint.declared.tables.Note.Note}
use Rattle.lra_threads_fixpoint.specs.Interference.{written_by}
use Rattle.lra_threads_analysis.specs.Found.{write_in}
use Rattle.lra_threads_analysis.proofs.WrittenRows.{none_taken, taken_next, taken_last}
use Rattle.lra_threads_analysis.proofs.graphs.InlinedThreadsThreads.write.Goals as goal

pub notes-init : goal.notes-init
notes-init c =
    none_taken (length c.args.self.now.globals.now) (length c.args.self.now.globals.now) c.deref-note-items.result.now c.in_ok-row.row
    c.in_ok-row.ensures refl

pub notes-preserved : goal.notes-preserved
notes-preserved c =
    taken_next c.notes.note-index c.deref-note-items.result.now c.note-item.result c.notes.row c.take.new.self _ c.notes-test.true
    c.note-item.is c.take.ensures c.notes.invariant

pub returns : goal.returns
returns c =
    taken_last c.notes.note-index c.deref-note-items.result.now c.notes.row _ c.notes-test.false c.notes.invariant
    ∙ ap (λ (ns : List (Note BoxContent)). written_by (length c.args.self.now.globals.now) (map write_in ns)) c.deref-note-items.ensures.value
