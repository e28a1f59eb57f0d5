-- Rows with truth values that go with them.
use Rattle.std.specs.{List.All, Prelude.◌≡◌, Prelude.ℤ, Prelude.Bool, Prelude.List, Prelude.map}
use Rattle.lra_canonical.specs.declared.order.Marked.{Marked}

abbrev pub rows_in : List Marked → List (List ℤ)
rows_in marked = map (λ (m : Marked). m.row) marked

abbrev pub bits_in : List Marked → List (List Bool)
bits_in marked = map (λ (m : Marked). m.bits) marked

-- with each row goes what is reported about it
abbrev pub AreToldBy : (List ℤ → List Bool) → List Marked → Type 0
AreToldBy told marked = All (λ (m : Marked). m.bits ≡ told m.row) marked
