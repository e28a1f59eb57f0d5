-- Names in a `switch`: what they mean, and the faults of names at their places. Which slip an example would catch stands
-- beside it.
use Rattle.std.proofs.Common.{◌≡◌, ℕ, pos, negsuc, [], ◌∷◌, None, refl, map}
use Rattle.std.specs.Prelude.{codes}
use Rattle.lra_resolution_spec.specs.Crates.lra_base.declared.case_labels.CaseLabel.TheVariants.{Case, Default}
use Rattle.lra_resolution_spec.specs.Crates.lra_base.declared.refusals.Cause.TheVariants.{UnknownName, Misplaced, DuplicateCase}
use Rattle.lra_resolution_spec.specs.Crates.{lra_base.declared.case_labels.CaseLabel.CaseLabel, lra_base.declared.refusals.Cause.Cause, lra_base.declared.refusals.Refusal.Refusal}
use Rattle.lra_syntax.specs.Labels.{labels_of}
use Rattle.lra_syntax.specs.Trees.{StmtTree, switch, CasesTree, no_cases, labelled, stated, expression, set, nothing, assign, break, continue, while, value, no_items, declaration, statement, FileTree}
use Rattle.lra_resolution_spec.specs.{NameFaults.name_faults, Resolve.resolve}
use Rattle.lra_program.proofs.SwitchExamples as run
use Rattle.lra_syntax.proofs.TreeSamples.{at, name_at, x_at, literal_text, use_of, tested, declared_as, main_of}

abbrev fault : Cause → ℕ → Refusal
fault c column = record { cause = c; place = at column }

abbrev label_at : CaseLabel → ℕ → CasesTree → CasesTree
label_at l column cs = labelled (record { label = l; place = at column }) cs

-- int main(void){ S }
abbrev with_statement : StmtTree → FileTree
with_statement t = main_of (statement t no_items) 99

-- long x; switch(x){} switch(x){ case 5: break; } switch(x){ default: x=1; case -1: ; }
abbrev three_switches : FileTree
three_switches = main_of (declaration (declared_as (x_at 22) None) (statement (switch (at 25) (use_of (x_at 32)) no_cases)
    (statement (switch (at 37) (use_of (x_at 44)) (label_at (Case (pos 5)) 53 (stated (break (at 56)) no_cases)))
    (statement (switch (at 65) (use_of (x_at 72)) (label_at Default 76 (stated (assign (set (x_at 85) (expression (literal_text 1)))) (label_at (Case
    (negsuc 0)) 96 (stated (nothing (at 99)) no_cases)))))
    no_items)))) 103

-- catches labels of a `switch` that are counted as statements
three_switches_mean : (resolve three_switches ≡ record run.three_switches { functions = run.three_switches.main ∷ [] }) × (name_faults three_switches ≡ [])
three_switches_mean = (refl, refl)

-- its points: eight, none for labels, braces or ends
three_switches_places : map (λ l. l.place.column) (labels_of three_switches) ≡ 22 ∷ 25 ∷ 37 ∷ 56 ∷ 65 ∷ 85 ∷ 99 ∷ 103 ∷ []
three_switches_places = refl

-- switch(1){ case 1: ; case - 1: ; case 0x1: ; } : one value, however it is written; another sign is another value
value_twice : name_faults (with_statement (switch (at 17) (literal_text 1) (label_at (Case (pos 1)) 33 (stated (nothing (at 36)) (label_at (Case (negsuc 0)) 45
    (stated (nothing (at 48))
    (label_at (Case (pos 1)) 55 (stated (nothing (at 60)) no_cases)))))))) ≡ fault DuplicateCase 55 ∷ []
value_twice = refl

-- switch(1){ default: ; break; case 2: default: ; } : catches a second `default` that is accepted
default_twice : name_faults (with_statement (switch (at 17) (literal_text 1) (label_at Default 28 (stated (nothing (at 37)) (stated (break (at 39)) (label_at
    (Case (pos 2)) 51 (label_at Default 54 (stated (nothing (at 63)) no_cases)))))))) ≡
    fault DuplicateCase 54 ∷ []
default_twice = refl

-- switch(y){ case 1: ; case 1: ; } : in text order
name_before : name_faults (with_statement (switch (at 17) (use_of (name_at (codes "y") 24)) (label_at (Case (pos 1)) 33 (stated (nothing (at 36)) (label_at
    (Case (pos 1)) 43 (stated (nothing (at 46)) no_cases)))))) ≡
    fault UnknownName 24 ∷ fault DuplicateCase 43 ∷ []
name_before = refl

-- switch(1){ case 1: continue; }, and in while(1)
continue_in_switch : name_faults (with_statement (switch (at 17) (literal_text 1) (label_at (Case (pos 1)) 33 (stated (continue (at 36)) no_cases))))
    ≡ fault Misplaced 36 ∷ []
continue_in_switch = refl

continue_in_loop : name_faults
    (with_statement (while (at 17) (tested (value (literal_text 1))) (switch (at 26) (literal_text 1) (label_at (Case (pos 1)) 42 (stated
    (continue (at 45)) no_cases))))) ≡ []
continue_in_loop = refl

-- switch(1){ case 1: switch(2){ case 1: break; } case 2: ; } : duplicates aren't sought across a nested `switch`
nested : name_faults (with_statement
    (switch (at 17) (literal_text 1) (label_at (Case (pos 1)) 33 (stated (switch (at 36) (literal_text 2) (label_at (Case (pos 1)) 52
    (stated (break (at 55)) no_cases)))
    (label_at (Case (pos 2)) 69 (stated (nothing (at 72)) no_cases)))))) ≡ []
nested = refl

-- switch(1){ case 1: switch(2){ case 2: ; } case 1: ; } : nor lost after one
behind_nested : name_faults
    (with_statement (switch (at 17) (literal_text 1) (label_at (Case (pos 1)) 33 (stated (switch (at 36) (literal_text 2) (label_at (Case
    (pos 2)) 52 (stated (nothing (at 55)) no_cases)))
    (label_at (Case (pos 1)) 64 (stated (nothing (at 67)) no_cases)))))) ≡ fault DuplicateCase 64 ∷ []
behind_nested = refl
