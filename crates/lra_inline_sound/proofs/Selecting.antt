-- The labels of a tree's arms are those of its `switch`.
use Rattle.std.proofs.Common.{◌≡◌, ℕ, List, ◌∷◌, refl, ap}
use Rattle.lra_inline_sound.specs.Crates.{lra_program.Program.Cases, lra_program.Program.labels_of, lra_program.Program.Program, lra_program.Sites.Site}
use Rattle.lra_operations.specs.{Inlined.InlineState, Inlined.InlineCases, Inlined.as_no_cases, Inlined.as_labelled, Inlined.as_stated, Tree.Arms, Tree.entries_of}

pub entries_are : {P : Program} {T : List Site} {spot : InlineState} {cs : Cases} {arms : Arms} {q : ℕ} → InlineCases P T spot cs arms q →
    entries_of arms ≡ labels_of cs
entries_are as_no_cases = refl
entries_are (as_labelled {l = l} d) = ap (λ xs. l ∷ xs) (entries_are d)
entries_are (as_stated d e) = entries_are e
