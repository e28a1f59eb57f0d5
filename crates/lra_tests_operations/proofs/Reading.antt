-- The programs of sources that are read are well-formed.
use Rattle.std.proofs.Common.{◌≡◌, ℕ, List, [], sym, subst}
use Rattle.lra_tests_operations.specs.Crates.{lra_program.Program.Program, lra_program.WellFormed.IsWellFormed, lra_resolution_spec.NameFaults.name_faults, lra_resolution_spec.Resolve.resolve}
use Rattle.lra_tests_operations.specs.Crates.{lra_syntax.Faults.IsTree, lra_syntax.Grammar.Spells, lra_syntax.Tokens.Lex, lra_syntax.Trees.FileTree, lra_syntax.declared.tokens.Token.Token}
use Rattle.lra_front_end.specs.Literals.{HasSmallLiterals}
use Rattle.lra_front_end.proofs.{Spelled.spelled_are_small, Whole.well_formed}

pub read_small : (source : List ℕ) (tokens given : List Token) (t : FileTree) → Lex source tokens → given ≡ tokens → IsTree Spells given t → HasSmallLiterals t
read_small source tokens given t lexed same parsed =
    let is : IsTree Spells tokens t = subst (λ (T : List Token). IsTree Spells T t) same parsed in
    spelled_are_small source tokens t is.0 lexed is.1 is.2

pub resolved_well : (t : FileTree) (P : Program) → HasSmallLiterals t → name_faults t ≡ [] → P ≡ resolve t → IsWellFormed P
resolved_well t P small clean is = subst IsWellFormed (sym is) (well_formed t small clean)
