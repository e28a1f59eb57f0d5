-- Goals of `push_row`: what is written to one global more.
use Rattle.std.proofs.Common.{◌∙◌, ◌<◌, ◌++◌, ℕ, List, map, string_bytes, sym, ap, ap₂, subst}
use Rattle.std.proofs.lemmas.List.{get_or-map, length-map}
use Rattle.std.specs.Prelude.{Option}
use Rattle.lra_threads_source.specs.Crates.{lra_box.declared.interval.Interval.Interval, lra_threads_fixpoint.Interference.interval_at}
use Rattle.lra_threads_source.specs.{Listed.reported_write, ThreadsView.writes_of}
use Rattle.lra_threads_source.proofs.InTurn.{turn_more}
use Rattle.lra_threads_source.proofs.listing.push_row.Goals as goal

pub globals-preserved : goal.globals-preserved
globals-preserved c = λ k is.
    let names = c.texts-names.result.now in
    let name = c.index-names-global.result in
    let x = c.globals.global in
    let low = subst (λ (n : ℕ). x < n) (sym (length-map names string_bytes)) c.globals-test.true in
    let at = ap string_bytes c.index-names-global.is ∙ sym (get_or-map string_bytes names x name (string_bytes name) c.globals-test.true) in
    turn_more (λ (m : ℕ) (n : List ℕ). reported_write k n (interval_at m c.args.row.now)) x (map string_bytes names) (string_bytes name) _
    (map writes_of c.globals.listed.items) (map writes_of c.push_write.new.listed.items) low at (c.globals.invariant k is)
    (c.in_ok-push_write.ensures k is
    ∙ ap₂ (λ (n : List ℕ) (i : Option Interval). map writes_of c.globals.listed.items ++ reported_write k n i) c.as_str.ensures.value c.interval_of.ensures)
