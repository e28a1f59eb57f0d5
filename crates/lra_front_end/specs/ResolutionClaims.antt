-- Which programs are well-formed and have their arrays, and that points have a name for each variable.
use Rattle.std.specs.Prelude.{◌≡◌, ℕ, List, [], length, Some, slice_get}
use Rattle.lra_front_end.specs.Crates.lra_program.Sites.{Site, sites_of}
use Rattle.lra_front_end.specs.Crates.lra_resolution_spec.LiveNames.{globals_named, live_names}
use Rattle.lra_front_end.specs.Crates.lra_syntax.Faults.{Language, IsTree}
use Rattle.lra_front_end.specs.Crates.{lra_program.WellFormed.IsWellFormed, lra_resolution_spec.NameFaults.name_faults}
use Rattle.lra_front_end.specs.Crates.{lra_resolution_spec.Resolve.resolve, lra_resolution_spec.ShownNames.shown_names}
use Rattle.lra_front_end.specs.Crates.{lra_syntax.Labels.labels_of, lra_syntax.Tokens.Lex, lra_syntax.Trees.FileTree}
use Rattle.lra_front_end.specs.Crates.{lra_syntax.declared.tokens.Token.Token}
use Rattle.lra_front_end.specs.{Known.HasArrays, Literals.HasSmallLiterals}

-- the program of a tree whose literals are small and whose names have no faults is well-formed
abbrev pub FaultlessAreWellFormed : Type 0
FaultlessAreWellFormed = (t : FileTree) → HasSmallLiterals t → name_faults t ≡ [] → IsWellFormed (resolve t)

-- the literals of a source's tree are small
abbrev pub LiteralsAreSmall : Language → Type 0
LiteralsAreSmall L = (source : List ℕ) (tokens : List Token) (t : FileTree) → Lex source tokens → IsTree L tokens t →
    HasSmallLiterals t

-- so the program of a source without faults of names is well-formed
abbrev pub ReadAreWellFormed : Language → Type 0
ReadAreWellFormed L = (source : List ℕ) (tokens : List Token) (t : FileTree) → Lex source tokens → IsTree L tokens t →
    name_faults t ≡ [] → IsWellFormed (resolve t)

-- each array that the program of a source without faults of names uses is there
abbrev pub FaultlessHaveArrays : Type 0
FaultlessHaveArrays = (t : FileTree) → name_faults t ≡ [] → HasArrays (resolve t)

-- at each point of a source as many names are printed as variables live there
abbrev pub NamesAreAsMany : Type 0
NamesAreAsMany = (t : FileTree) (q : ℕ) (s : Site) → slice_get (sites_of (resolve t)) q ≡ Some s →
    length (live_names (globals_named t.parts) (labels_of t) s) ≡ s.live

abbrev pub ShownNamesAreAsMany : Type 0
ShownNamesAreAsMany = (t : FileTree) (q : ℕ) (s : Site) → slice_get (sites_of (resolve t)) q ≡ Some s →
    length (shown_names (live_names (globals_named t.parts) (labels_of t) s)) ≡ s.live
