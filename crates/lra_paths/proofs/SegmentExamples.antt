-- Segments of small trees, and what they are written out as. Which slip an example would catch stands beside it.
use Rattle.std.proofs.Common.{◌≡◌, ℤ, pos, negsuc, List, [], ◌∷◌, true, false, refl}
use Rattle.lra_paths.specs.Crates.lra_path_segments.Segments.{SegmentStep, does, goes, comes_to, violates, through, enter, exit_suffixes, inside}
use Rattle.lra_paths.specs.Crates.lra_program.Program.{Expr, Cond, literal, read, input, compare, local}
use Rattle.lra_paths.specs.Crates.{lra_base.Operators.below, lra_base.Operators.differs, lra_base.declared.case_labels.CaseLabel.CaseLabel, lra_base.declared.case_labels.CaseLabel.TheVariants.Case}
use Rattle.lra_paths.specs.Crates.{lra_base.declared.case_labels.CaseLabel.TheVariants.Default, lra_base.declared.number_types.NumberType.TheVariants.Long, lra_domain.Actions.Action}
use Rattle.lra_paths.specs.Crates.{lra_domain.Moves.make, lra_domain.Moves.first_then, lra_domain.Moves.join_of, lra_domain.Moves.cases, lra_linear_spec.declared.ConKind.TheVariants.Ge}
use Rattle.lra_paths.specs.Crates.{lra_linear_spec.declared.ConKind.TheVariants.Eq, lra_program.Step.Op, lra_program.Step.truncate_to, lra_program.Step.test}
use Rattle.lra_paths.proofs.Crates.lra_program.RunExamples.{long_variable}
use Rattle.lra_operations.specs.Tree.{broken, continued, normal, Node, empty, point, act, check, seq, choose, iterate, catch, leave, select, no_arms, entry, arm}
use Rattle.lra_paths.specs.Crates.lra_domain.Actions as action
use Rattle.lra_path_disjuncts.specs.Disjuncts.{disjuncts, written}

abbrev x : Expr
x = read (long_variable (local 0))

abbrev is_so : Cond
is_so = compare below x (literal Long 2)

abbrev drop_all : Op
drop_all = truncate_to 0

abbrev drop_more : Op
drop_more = truncate_to 1

-- ; ; : from the one point to the other
abbrev two_points : Node
two_points = seq (point 0) (seq (act 0 drop_all) (point 1))

two_first : enter two_points ≡ record { ops = []; goal = comes_to 0 } ∷ []
two_first = refl

two_next : inside two_points ≡ record { source = 0; to_goal = record { ops = does drop_all ∷ []; goal = comes_to 1 } } ∷ []
two_next = refl

-- a loop: into its body, back to its point, and out of it; catches a segment past the loop's point
abbrev a_loop : Node
a_loop = iterate 0 0 is_so (seq (point 1) (act 1 drop_all))

no_way_past : through a_loop normal ≡ []
no_way_past = refl

loop_next : inside a_loop ≡ record { source = 0; to_goal = record { ops = does (test 0 is_so true) ∷ []; goal = comes_to 1 } }
    ∷ record { source = 1; to_goal = record { ops = does drop_all ∷ []; goal = comes_to 0 } } ∷ []
loop_next = refl

loop_outs : exit_suffixes a_loop normal ≡ record { source = 0; ops = does (test 0 is_so false) ∷ [] } ∷ []
loop_outs = refl

-- `continue` goes to the step, and with it to the loop's point: catches a step that is skipped
abbrev with_step : Node
with_step = iterate 0 0 is_so (seq (catch 0 continued (seq (point 1) (leave 1 continued))) (act 0 drop_more))

step_next : inside with_step ≡ record { source = 0; to_goal = record { ops = does (test 0 is_so true) ∷ []; goal = comes_to 1 } }
    ∷ record { source = 1; to_goal = record { ops = does drop_more ∷ []; goal = comes_to 0 } } ∷ []
step_next = refl

-- `break` goes after the loop, and on
abbrev broken_off : Node
broken_off = seq (catch 0 broken (iterate 0 0 is_so (seq (point 1) (leave 1 broken)))) (point 2)

broken_next : inside broken_off ≡ record { source = 0; to_goal = record { ops = does (test 0 is_so true) ∷ []; goal = comes_to 1 } }
    ∷ record { source = 0; to_goal = record { ops = does (test 0 is_so false) ∷ []; goal = comes_to 2 } }
    ∷ record { source = 1; to_goal = record { ops = []; goal = comes_to 2 } } ∷ []
broken_next = refl

-- an assertion: on if it is true, and a goal of its own if it is false
abbrev asserted : Node
asserted = seq (point 0) (seq (check 0 0 is_so) (point 1))

asserted_next : inside asserted ≡ record { source = 0; to_goal = record { ops = does (test 0 is_so false) ∷ []; goal = violates 0 } }
    ∷ record { source = 0; to_goal = record { ops = does (test 0 is_so true) ∷ []; goal = comes_to 1 } } ∷ []
asserted_next = refl

-- a branch without a point is passed at once, on its own side
branch_through : through (choose 0 0 is_so empty (act 0 drop_all)) normal
    ≡ (does (test 0 is_so true) ∷ []) ∷ (does (test 0 is_so false) ∷ does drop_all ∷ []) ∷ []
branch_through = refl

-- switch(x){ case 1: case 2: x=0; default: ; } : two labels lead to the first statement, after which the last one
-- stands
abbrev its_labels : List CaseLabel
its_labels = Case (pos 1) ∷ Case (pos 2) ∷ Default ∷ []

abbrev a_switch : Node
a_switch = seq (point 1) (catch 1 broken (select 1 0 x
    (entry (Case (pos 1)) (entry (Case (pos 2)) (arm (seq (point 2) (act 2 drop_all)) (entry Default (arm (point 3) no_arms)))))))

abbrev to_label : CaseLabel → SegmentStep
to_label l = goes 0 x its_labels l

-- catches a segment from a label past the statement after it, one for all labels of it, and a fall through that is lost
switch_next : inside a_switch ≡ record { source = 1; to_goal = record { ops = to_label (Case (pos 1)) ∷ []; goal = comes_to 2 } }
    ∷ record { source = 1; to_goal = record { ops = to_label (Case (pos 2)) ∷ []; goal = comes_to 2 } }
    ∷ record { source = 1; to_goal = record { ops = to_label Default ∷ []; goal = comes_to 3 } }
    ∷ record { source = 2; to_goal = record { ops = does drop_all ∷ []; goal = comes_to 3 } } ∷ []
switch_next = refl

-- past all labels there is a segment only if none of them is `default`
past_default : through (select 1 0 x (entry Default (arm (point 3) no_arms))) normal ≡ []
past_default = refl

past_labels : through (select 1 0 x (entry (Case (pos 1)) (arm (point 2) no_arms))) normal ≡ (goes 0 x (Case (pos 1) ∷ []) Default ∷ []) ∷ []
past_labels = refl

-- after the last label nothing stands: its segment goes past the whole, before that of no label
last_label : through (select 1 0 x (entry (Case (pos 1)) no_arms)) normal
    ≡ (goes 0 x (Case (pos 1) ∷ []) (Case (pos 1)) ∷ []) ∷ (goes 0 x (Case (pos 1) ∷ []) Default ∷ []) ∷ []
last_label = refl

-- sides ------------------------------------------------------------------------------------------------------------------

abbrev a : Action
a = action.forget 0

abbrev b : Action
b = action.forget 1

abbrev c : Action
c = action.forget 2

abbrev d : Action
d = action.forget 3

-- of one join after another the later's sides are the outer ones: catches the other order
outer_sides : disjuncts (first_then (join_of (make a) (make b)) (join_of (make c) (make d)))
    ≡ (a ∷ c ∷ []) ∷ (b ∷ c ∷ []) ∷ (a ∷ d ∷ []) ∷ (b ∷ d ∷ []) ∷ []
outer_sides = refl

-- in the cases of the moves those of the earlier are
outer_cases : cases (first_then (join_of (make a) (make b)) (join_of (make c) (make d)))
    ≡ (a ∷ c ∷ []) ∷ (a ∷ d ∷ []) ∷ (b ∷ c ∷ []) ∷ (b ∷ d ∷ []) ∷ []
outer_cases = refl

-- c0 + c1*x >= 0
abbrev at_least_0 : ℤ → ℤ → Action
at_least_0 k z = action.test Ge (record { constant = k; coefficients = z ∷ [] })

-- x != 2: below first, and both sides are there
two_sides : written 1 (does (test 0 (compare differs x (literal Long 2)) true) ∷ [])
    ≡ (at_least_0 (pos 1) (negsuc 0) ∷ []) ∷ (at_least_0 (negsuc 2) (pos 1) ∷ []) ∷ []
two_sides = refl

-- if it isn't so, it is equal
one_side : written 1 (does (test 0 (compare differs x (literal Long 2)) false) ∷ []) ≡
    (action.test Eq (record { constant = negsuc 1; coefficients = pos 1 ∷ [] }) ∷ []) ∷ []
one_side = refl

-- what isn't linear tests nothing
no_test : written 1 (does (test 0 (compare below x input) true) ∷ []) ≡ [] ∷ []
no_test = refl

-- x is the label's value: catches the `!=` of labels that stand before it
label_side : written 1 (to_label (Case (pos 2)) ∷ []) ≡ (action.test Eq (record { constant = negsuc 1; coefficients = pos 1 ∷ [] }) ∷ []) ∷ []
label_side = refl

-- x is neither 1 nor 2, the sides of the last label being the outer ones; the second side, x > 1 and x < 2, and the third, x < 1
-- and x > 2, have no point: catches the other order, and labels that are left out
no_label : written 1 (to_label Default ∷ []) ≡ (at_least_0 (pos 0) (negsuc 0) ∷ at_least_0 (pos 1) (negsuc 0) ∷ [])
    ∷ (at_least_0 (negsuc 1) (pos 1) ∷ at_least_0 (pos 1) (negsuc 0) ∷ []) ∷ (at_least_0 (pos 0) (negsuc 0) ∷ at_least_0 (negsuc 2) (pos 1) ∷ [])
    ∷ (at_least_0 (negsuc 1) (pos 1) ∷ at_least_0 (negsuc 2) (pos 1) ∷ []) ∷ []
no_label = refl
