-- Goals of `MemSourceSource::read`.
use Rattle.std.proofs.{Common.◌≡◌, Common.◌-◌, Common.ℕ, Common.List, Common.length, Common.take, Common.drop, Common.sym, Common.ap, Common.◌∙◌, Common.add-zero, lemmas.List.take_rest}
use Rattle.lra_io.proofs.Bytes.{piece_and_rest}
use Rattle.lra_io.proofs.memory_source.MemSourceSource.read.Goals as goal

pub returns-clause-bytes : goal.returns-clause-bytes
returns-clause-bytes c =
    let at : ℕ = c.self.inside.at in
    let bytes : List ℕ = c.deref-2.result.now in
    let copied = c.copy_front-count.ensures in
    let rest : take (length bytes - at) (drop at bytes) ≡ drop at c.self.inside.bytes.items =
    take_rest bytes at ∙ ap (drop at) c.deref-2.ensures.value in (
      rw (← c.self.view_is) (piece_and_rest _ c.copy_front-count.new.into _ _ (copied.front ∙ ap (take c.copy_front-count.result) rest)),
      λ none has_room. rw (none, add-zero) (sym rest ∙ copied.stops none c.self.invariant.1 has_room),
    )
