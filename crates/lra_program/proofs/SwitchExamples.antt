-- Runs of small programs with a `switch`. Which slip an example would catch stands beside it.
use Rattle.std.proofs.Common.{◌≡◌, ℕ, pos, negsuc, List, [], ◌∷◌, Some, None, refl, true, false}
use Rattle.lra_base.specs.{CaseLabels.goal_of, Operators.plus, Operators.over, Operators.modulo, Operators.below, declared.case_labels.CaseLabel.TheVariants.Case}
use Rattle.lra_base.specs.{declared.case_labels.CaseLabel.TheVariants.Default, declared.number_types.NumberType.TheVariants.Int, declared.number_types.NumberType.TheVariants.Long}
use Rattle.lra_program.specs.Program.{local, Expr, literal, read, input, binary, compare, value, Declarator, Stmt, nothing, block, assign, for, break, continue, switch, Cases, no_cases, labelled}
use Rattle.lra_program.specs.{Program.stated, Program.no_more, Program.declaration, Program.statement, Program.Program, Step.chosen, Step.Item, Step.cases, Step.end_switch, Step.next_round}
use Rattle.lra_program.specs.{Step.break_target, Step.continue_target, WellFormed.no_jumps, WellFormed.in_loop, WellFormed.IsGoodStmt, WellFormed.AreInTextOrder}
use Rattle.lra_program.proofs.RunExamples.{visited, main_alone, long_variable, one_variable}

abbrev number : ℕ → Expr
number n = literal Int n

abbrev x : Expr
x = read (long_variable (local 0))

-- NAME = n; under the label
abbrev set : ℕ → ℕ → Expr → Stmt
set at place e = assign at (long_variable (local place)) (value e)

abbrev case_of : ℕ → Cases → Cases
case_of n cs = labelled (Case (pos n)) cs

abbrev input_to_x : Declarator
input_to_x = record { label = 1; number_type = Long; rvalue = Some (value input) }

-- which label: that of the value, wherever `default` stands; catches a `default` that wins over a later value
later_value : goal_of (pos 7) (Default ∷ Case (pos 7) ∷ []) ≡ Case (pos 7)
later_value = refl

no_value : goal_of (pos 8) (Default ∷ Case (pos 7) ∷ []) ≡ Default
no_value = refl

-- catches values without their sign
signs_differ : goal_of (pos 1) (Case (negsuc 0) ∷ []) ≡ Default
signs_differ = refl

-- long x=input(), y=0; switch(x){ case 1: y=1; case 2: y=y+2; break; default: y=9; } x=0;
abbrev y : Expr
y = read (long_variable (local 1))

abbrev three_labels : Cases
three_labels = case_of 1 (stated (set 4 1 (number 1)) (case_of 2 (stated (set 5 1 (binary plus y (number 2))) (stated (break 6) (labelled Default (stated
    (set 7 1 (number 9)) no_cases))))))

abbrev pub falling : Program
falling = main_alone (declaration input_to_x (declaration (record { label = 2; number_type = Long; rvalue = Some (value (number 0)) }) (statement
    (switch 3 x three_labels) (statement (set 8 0 (number 0)) no_more)))) 9

-- `case 1` falls through to the statements of `case 2`, and `break` goes after the `switch`
-- catches a fall through that is lost, and a `break` that ends nothing
one_falls : visited falling (pos 0 ∷ pos 1 ∷ pos 0 ∷ []) ≡ ([], 1, []) ∷ ([], 2, pos 1 ∷ []) ∷ ([], 3, pos 1 ∷ pos 0 ∷ []) ∷ ([], 4, pos 1 ∷ pos 0 ∷ [])
    ∷ ([], 5, pos 1 ∷ pos 1 ∷ []) ∷ ([], 6, pos 1 ∷ pos 3 ∷ []) ∷ ([], 8, pos 1 ∷ pos 3 ∷ []) ∷ ([], 9, pos 0 ∷ pos 3 ∷ []) ∷ []
one_falls = refl

-- the statements before its label are passed over
two_enters : visited falling (pos 0 ∷ pos 2 ∷ pos 0 ∷ []) ≡ ([], 1, []) ∷ ([], 2, pos 2 ∷ []) ∷ ([], 3, pos 2 ∷ pos 0 ∷ []) ∷ ([], 5, pos 2 ∷ pos 0 ∷ [])
    ∷ ([], 6, pos 2 ∷ pos 2 ∷ []) ∷ ([], 8, pos 2 ∷ pos 2 ∷ []) ∷ ([], 9, pos 0 ∷ pos 2 ∷ []) ∷ []
two_enters = refl

others_go_to_default : visited falling (pos 0 ∷ pos 3 ∷ pos 0 ∷ [])
    ≡ ([], 1, []) ∷ ([], 2, pos 3 ∷ []) ∷ ([], 3, pos 3 ∷ pos 0 ∷ []) ∷ ([], 7, pos 3 ∷ pos 0 ∷ [])
    ∷ ([], 8, pos 3 ∷ pos 9 ∷ []) ∷ ([], 9, pos 0 ∷ pos 9 ∷ []) ∷ []
others_go_to_default = refl

-- long x; switch(x){} switch(x){ case 5: break; } switch(x){ default: x=1; case -1: ; }
abbrev pub three_switches : Program
three_switches = main_alone (declaration (record { label = 1; number_type = Long; rvalue = None }) (statement (switch 2 x no_cases) (statement (switch 3 x
    (case_of 5 (stated (break 4) no_cases)))
    (statement (switch 5 x (labelled Default (stated (set 6 0 (number 1)) (labelled (Case (negsuc 0)) (stated (nothing 7) no_cases))))) no_more)))) 8

-- 5: `break` is reached, then `default`, from which the run falls into `case -1`
five_breaks : visited three_switches (pos 5 ∷ []) ≡ ([], 1, []) ∷ ([], 2, pos 5 ∷ []) ∷ ([], 3, pos 5 ∷ []) ∷ ([], 4, pos 5 ∷ []) ∷ ([], 5, pos 5 ∷ [])
    ∷ ([], 6, pos 5 ∷ []) ∷ ([], 7, pos 1 ∷ []) ∷ ([], 8, pos 1 ∷ []) ∷ []
five_breaks = refl

-- -1: the second `switch` has neither its value nor a `default`, and the run goes on after it; the third goes to
-- `case -1` and not to `default`, which stands before it
minus_one : visited three_switches (negsuc 0 ∷ []) ≡ ([], 1, []) ∷ ([], 2, negsuc 0 ∷ []) ∷ ([], 3, negsuc 0 ∷ []) ∷ ([], 5, negsuc 0 ∷ [])
    ∷ ([], 7, negsuc 0 ∷ []) ∷ ([], 8, negsuc 0 ∷ []) ∷ []
minus_one = refl

-- switch(input()){ case 3: ; case 4: ; } x=input(); : one draw, whatever label is met; catches a value for each label
abbrev drawn_once : Program
drawn_once = main_alone (declaration input_to_x (statement (switch 2 input (case_of 3 (stated (nothing 3) (case_of 4 (stated (nothing 4) no_cases)))))
    (statement (set 5 0 input) no_more))) 6

drawn_once_run : visited drawn_once (pos 0 ∷ pos 0 ∷ pos 4 ∷ pos 9 ∷ [])
    ≡ ([], 1, []) ∷ ([], 2, pos 0 ∷ []) ∷ ([], 4, pos 0 ∷ []) ∷ ([], 5, pos 0 ∷ []) ∷ ([], 6, pos 9 ∷ []) ∷ []
drawn_once_run = refl

-- switch(1/0){} ; : the value is computed if there is no label, too, and the run ends in it
computed_without_labels : visited (main_alone (statement (switch 1 (binary over (number 1) (number 0)) no_cases) (statement (nothing 2) no_more)) 3) []
    ≡ ([], 1, []) ∷ []
computed_without_labels = refl

-- long i=0; for(; i<3; i=i+1) { switch(i%3){ case 0: continue; case 1: break; default: i=9; } ; }
-- `continue` goes to the step, past the `;`, and `break` to the `;`; catches a `break` that leaves the loop, and a
-- `continue` that leaves the `switch` alone
abbrev pub in_a_loop : Program
in_a_loop = main_alone (declaration (record { label = 1; number_type = Long; rvalue = Some (value (number 0)) }) (statement (for 2 no_more (compare below x
    (number 3)) (block
    (statement (switch 4 (binary modulo x (number 3)) (case_of 0 (stated (continue 5) (case_of 1 (stated (break 6) (labelled Default (stated (set 7 0
    (number 9)) no_cases))))))) (statement (nothing 8) no_more))
    9) (set 3 0 (binary plus x (number 1)))) no_more)) 10

in_a_loop_run : visited in_a_loop (pos 0 ∷ []) ≡ ([], 1, []) ∷ ([], 2, pos 0 ∷ []) ∷ ([], 4, pos 0 ∷ []) ∷ ([], 5, pos 0 ∷ []) ∷ ([], 3, pos 0 ∷ [])
    ∷ ([], 2, pos 1 ∷ []) ∷ ([], 4, pos 1 ∷ []) ∷ ([], 6, pos 1 ∷ []) ∷ ([], 8, pos 1 ∷ []) ∷ ([], 9, pos 1 ∷ []) ∷ ([], 3, pos 1 ∷ [])
    ∷ ([], 2, pos 2 ∷ []) ∷ ([], 4, pos 2 ∷ []) ∷ ([], 7, pos 2 ∷ []) ∷ ([], 8, pos 9 ∷ []) ∷ ([], 9, pos 9 ∷ []) ∷ ([], 3, pos 9 ∷ [])
    ∷ ([], 2, pos 10 ∷ []) ∷ ([], 10, pos 10 ∷ []) ∷ []
in_a_loop_run = refl

-- the first label of a name counts, if a program made by hand has two
first_of_two : chosen (pos 1) (case_of 1 (stated (nothing 1) (case_of 1 (stated (nothing 2) no_cases))))
    ≡ stated (nothing 1) (case_of 1 (stated (nothing 2) no_cases))
first_of_two = refl

-- where jumps go: `break` in a `switch` in a `switch` leaves the inner one, `continue` neither
break_goes : (inner outer : Cases) (step again : Stmt) (k : List Item)
    → break_target (cases inner ∷ end_switch 2 ∷ cases outer ∷ end_switch 1 ∷ next_round step again 1 ∷ k) ≡
    Some (record { length = 2; rest = cases outer ∷ end_switch 1 ∷ next_round step again 1 ∷ k })
break_goes inner outer step again k = refl

continue_goes : (inner outer : Cases) (step again : Stmt) (k : List Item)
    → continue_target (cases inner ∷ end_switch 2 ∷ cases outer ∷ end_switch 1 ∷ next_round step again 1 ∷ k) ≡
    Some (record { step = step; again = again; length = 1; rest = k })
continue_goes inner outer step again k = refl

-- what is well-formed: `break` in a `switch`; `continue` there is not, but in a loop around it
break_in_switch : IsGoodStmt one_variable no_jumps 0 (switch 1 (number 1) (case_of 1 (stated (break 2) no_cases)))
break_in_switch = (refl, (refl, tt))

continue_in_switch : IsGoodStmt one_variable no_jumps 0 (switch 1 (number 1) (case_of 1 (stated (continue 2) no_cases))) → ⊥
continue_in_switch h = let e : false ≡ true = h.1.0 in cc

continue_around : IsGoodStmt one_variable in_loop 0 (switch 1 (number 1) (case_of 1 (stated (continue 2) no_cases)))
continue_around = (refl, (refl, tt))

-- numbers in text order, all of them: catches a statement after a label that has none
in_order : AreInTextOrder (in_a_loop.main ∷ []) × AreInTextOrder (three_switches.main ∷ [])
in_order = (refl, refl)
