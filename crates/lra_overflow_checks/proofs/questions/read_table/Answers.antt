-- Goals of `read_table`: what the table's verdicts report, in the order of the points.
use Rattle.std.proofs.{Common.◌≡◌, Common.◌∙◌, Common.◌+◌, Common.◌++◌, Common.◌∷◌, Common.[], Common.length, Common.arith, lemmas.List.length-append}
use Rattle.lra_overflow_checks.proofs.TableSteps.{answers_none, answers_some, flag_none, flag_some}
use Rattle.lra_overflow_checks.proofs.questions.read_table.Goals.{in-Some-place+in_ok-push, in_default}
use Rattle.lra_overflow_checks.proofs.questions.read_table.Goals as goal

pub places-preserved : goal.places-preserved
places-preserved g c =
    let front = c.places.yielded in
    let place = c.in-Some.place in
    let so_far = c.places.invariant in
    let longer = length-append front (place ∷ []) in
    let count : c.places.point + 1 ≡ length (front ++ place ∷ []) = omega (arith, longer, so_far.count) in
    elim c.match-place.branch [
      | in-Some-place+in_ok-push w ↦ record {
        count = count;
        told = rw w.answers-is (answers_some front place c.places.point c.places.answers.items w.push.new.self.items w.in-Some-place.verdict
            w.in-Some-place.is so_far.count so_far.told w.in_ok-push.ensures.items);
        flags = w.behind-is ∙ w.note-behind.ensures
            ∙ flag_some front place c.places.point c.args.flagged c.places.behind w.in-Some-place.verdict w.in-Some-place.is so_far.count so_far.flags;
      }
      | in_default w ↦ record {
        count = count;
        told = rw w.answers-is (answers_none front place c.places.point c.places.answers.items w.in_default.is so_far.told);
        flags = w.behind-is ∙ flag_none front place c.places.point c.args.flagged c.places.behind w.in_default.is so_far.flags;
      }
    ]
