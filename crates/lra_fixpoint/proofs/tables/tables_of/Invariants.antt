use Rattle.std.proofs.Common.{◌≡◌, map}
use Rattle.lra_pass_results.specs.Outcome.{entry_view}
use Rattle.lra_fixpoint.specs.Tables.{note_view, notes_in, AreTabled}
use Rattle.lra_fixpoint.proofs.tables.tables_of.Given as goal

abbrev pub invariant-entries : goal.invariant-entries
invariant-entries g l = AreTabled g.D.Domain.abstraction l.count (map entry_view l.yielded) l.values.items l.verdicts.items ×
    (map note_view l.notes.items ≡ notes_in (map entry_view l.yielded))
