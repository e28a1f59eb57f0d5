-- Words without a fault give a command within its ranges, or their options conflict, and then they give none.
use Rattle.std.proofs.Common.{◌≡◌, ◌∙◌, ◌⊎◌, List, Option, Some, None, codes, inl, inr, refl, subst, sym}
use Rattle.std.specs.Prelude.{IfSome}
use Rattle.clap.specs.Words.{Row, Text}
use Rattle.lra_command_line.specs.ParsedCommand.{Conflicting, Disagrees, IsBesideBest, IsWithinRanges, command_of}
use Rattle.lra_command_line.specs.declared.commands.Command.{Command}

-- what matches of words without a fault give
abbrev pub Gives : Option (Text × List Row) → Type 0
Gives matched = ((c : Command) × (command_of matched ≡ Some c) × IsWithinRanges c) ⊎ Conflicting matched

conflict_gives : (rows : List Row) → IsBesideBest rows ⊎ Disagrees rows → command_of (Some (codes "analyse", rows)) ≡ None
conflict_gives rows (inl (best, any)) = rw (best, any) refl
conflict_gives rows (inr (o, alone, are, apart)) = rw (alone, are, apart) refl

pub no_command : (matched : Option (Text × List Row)) → Conflicting matched → command_of matched ≡ None
no_command None conflict = absurd conflict
no_command (Some (name, rows)) (is, conflict) = subst (λ n. command_of (Some (n, rows)) ≡ None) (sym is) (conflict_gives rows conflict)

pub conflict : (matched : Option (Text × List Row)) → Gives matched → command_of matched ≡ None → Conflicting matched
conflict matched (inl (c, is, within)) none =
    let other : Some c ≡ None = sym is ∙ none in
    cc
conflict matched (inr conflicting) none = conflicting

pub within : (matched : Option (Text × List Row)) (c : Command) → Gives matched → command_of matched ≡ Some c → IsWithinRanges c
within matched c (inl (d, is, ranges)) some = subst (λ o. IfSome o IsWithinRanges) (sym is ∙ some) ranges
within matched c (inr conflicting) some =
    let other : Some c ≡ None = sym some ∙ no_command matched conflicting in
    cc
