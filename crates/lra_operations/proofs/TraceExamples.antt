-- Traces of small trees.
use Rattle.std.proofs.Common.{ℕ, suc, ℤ, pos, [], ◌∷◌, false, inl, inr, refl}
use Rattle.lra_operations.specs.Crates.lra_base.Operators.{plus, below}
use Rattle.lra_operations.specs.Crates.lra_base.declared.case_labels.CaseLabel.TheVariants.{Case, Default}
use Rattle.lra_operations.specs.Crates.lra_base.declared.number_types.NumberType.TheVariants.{Int, Long}
use Rattle.lra_program.specs.Program.{Variable, Cond, literal, read, binary, compare, local}
use Rattle.lra_program.specs.{Receivers.variable_at, Step.State, Step.store_value, Traces.visit, Traces.Trace, Traces.NoChange}
use Rattle.lra_operations.specs.Traces.{to_point, to_failure, to_end, stopped, RunsUpTo}
use Rattle.lra_operations.specs.Tree.{broken, Node, point, act, seq, iterate, check, catch, leave, select, Arms, no_arms, entry, arm, normal, ArmsComplete}

abbrev x_is : ℤ → State
x_is z = record { store = z ∷ []; arrays = []; waiting = []; draws = [] }

abbrev starts : State → Trace ℕ
starts s = record { state = s; events = [] }

-- the one variable
abbrev x : Variable
x = record { slot = local 0; number_type = Long }

abbrev x_below : ℕ → Cond
x_below n = compare below (read x) (literal Int n)

-- while(x<2) x=x+1; : the points 0 of the loop and 1 of the assignment
abbrev counting : Node
counting = iterate 0 0 (x_below 2) (seq (point 1) (act 1 (store_value 0 (variable_at 0 Long) (binary plus (read x) (literal Int 1)))))

-- from x = 1: the loop's point, the assignment's, and the loop's again, if the test is false; the latest first
counted : RunsUpTo (λ q. q) NoChange counting (starts (x_is (pos 1))) to_end
    (record { state = x_is (pos 2); events = visit 0 (x_is (pos 2)) ∷ visit 1 (x_is (pos 1)) ∷ visit 0 (x_is (pos 1)) ∷ [] })
counted = (1, _, (_, refl, (_, (_, (refl, refl), (refl, refl)), (_, (refl, refl), (refl, refl)))), (_, (refl, refl), (refl, refl)))

-- it reaches the assignment in the first round, past the loop's point alone
in_the_round : RunsUpTo (λ q. q) NoChange counting (starts (x_is (pos 1))) (stopped (to_point 1))
    (record { state = x_is (pos 1); events = visit 0 (x_is (pos 1)) ∷ [] })
in_the_round = (0, _, refl, inr (_, (_, (refl, refl), (refl, refl)), inl (refl, refl)))

-- the loop's own point isn't met if the run is followed no further than there
to_the_loop : RunsUpTo (λ q. q) NoChange counting (starts (x_is (pos 5))) (stopped (to_point 0)) (starts (x_is (pos 5)))
to_the_loop = (0, _, refl, inl (refl, refl))

-- assert(x<2); a failure meets the assertion's point
abbrev asserted : Node
asserted = seq (point 7) (check 7 0 (x_below 2))

failed : RunsUpTo (λ q. q) NoChange asserted (starts (x_is (pos 5))) (stopped (to_failure 7))
    (record { state = x_is (pos 5); events = visit 7 (x_is (pos 5)) ∷ [] })
failed = inr (_, (refl, refl), (refl, refl, _, refl))

-- ; break; : the jump comes out after the loop, past the point before it
left : RunsUpTo (λ q. q) NoChange (catch 3 broken (seq (point 4) (leave 1 broken))) (starts (x_is (pos 0))) to_end (record { state = x_is (pos 0); events = visit 4 (x_is (pos 0)) ∷ [] })
left = inr (inr (_, (refl, refl), (refl, refl)))

-- points by other names
named : RunsUpTo (λ q. suc q) NoChange (seq (point 4) (point 5)) (starts (x_is (pos 0))) to_end
    (record { state = x_is (pos 0); events = visit 6 (x_is (pos 0)) ∷ visit 5 (x_is (pos 0)) ∷ [] })
named = (_, (refl, refl), (refl, refl))

-- switch(x){ default: ; case 2: ; break; case 3: ; } : the points 1 to 4
abbrev arms : Arms
arms = entry Default (arm (point 1) (entry (Case (pos 2))
    (arm (point 2) (arm (seq (point 3) (leave 1 broken)) (entry (Case (pos 3)) (arm (point 4) no_arms))))))

abbrev switch_of_x : Node
switch_of_x = catch 0 broken (select 0 0 (read x) arms)

-- from x = 2: past the points 2 and 3, and out by `break`; catches `default` that is entered though a value comes after
-- it
entered : RunsUpTo (λ q. q) NoChange switch_of_x (starts (x_is (pos 2))) to_end
    (record { state = x_is (pos 2); events = visit 3 (x_is (pos 2)) ∷ visit 2 (x_is (pos 2)) ∷ [] })
entered = inr (Case (pos 2), _, ((pos 2, refl, refl, refl), refl), inr (_, (refl, refl), inl (inr (_, (refl, refl), (refl, refl)))))

-- from x = 3: past point 4 to the end
last_entered : RunsUpTo (λ q. q) NoChange switch_of_x (starts (x_is (pos 3))) to_end (record { state = x_is (pos 3); events = visit 4 (x_is (pos 3)) ∷ [] })
last_entered = inl (Case (pos 3), _, ((pos 3, refl, refl, refl), refl), (_, (refl, refl), refl))

-- from x = 7: `default`, from which it falls past the label 2; catches arms that end at the next label
fallen : RunsUpTo (λ q. q) NoChange switch_of_x (starts (x_is (pos 7))) (stopped (to_point 3))
    (record { state = x_is (pos 7); events = visit 2 (x_is (pos 7)) ∷ visit 1 (x_is (pos 7)) ∷ [] })
fallen = (λ e. cc, (Default, _, ((pos 7, refl, refl, refl), refl), inr (_, (refl, refl), inr (_, (refl, refl), inl (inl (refl, refl))))))

-- without a label for the value nothing is run
none_entered : ArmsComplete Default false (entry (Case (pos 2)) (arm (leave 1 broken) no_arms)) (x_is (pos 7)) normal (x_is (pos 7))
none_entered = refl
