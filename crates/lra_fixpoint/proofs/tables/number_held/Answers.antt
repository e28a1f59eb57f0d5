-- Goals of `number_held`: what the filled places hold, with the places' numbers.
use Rattle.std.proofs.Common.{ap, ◌∙◌, Vec, Global, ℕ, Bool}
use Rattle.lra_fixpoint.proofs.{Filling.place_some, Filling.place_none, tables.number_held.Goals.in-Some+in_ok-push, tables.number_held.Goals.in_default}
use Rattle.lra_fixpoint.proofs.tables.number_held.Goals as goal

pub places-preserved : goal.places-preserved
places-preserved c =
    let table = c.args.table.now in
    elim c.match-place.branch [
      | in-Some+in_ok-push w ↦ ap (λ (v : Vec (ℕ × Bool) Global). v.items) w.numbered-is ∙ w.in_ok-push.ensures.items ∙
          place_some table c.places.number c.places.numbered.items c.places-test.true c.places.invariant w.in-Some.proved w.in-Some.is
      | in_default w ↦ ap (λ (v : Vec (ℕ × Bool) Global). v.items) w.numbered-is ∙ place_none table c.places.number c.places.numbered.items c.places-test.true c.places.invariant w.in_default.is
    ]
