-- Which of a `switch`'s labels a value goes to, and the segments of arms, which are those of a row of trees.
use Rattle.std.proofs.{Common.◌≡◌, Common.ℤ, Common.List, Common.◌++◌, Common.Bool, Common.true, Common.false, Common.refl, Common.sym, Common.ap, Common.◌∙◌, lemmas.Bool.Decides.Decides-int_eq}
use Rattle.std.specs.{List.list_any, Prelude.cond, Prelude.if◌then◌else◌}
use Rattle.std.proofs.lemmas.Bool.{or_parts}
use Rattle.lra_path_segments.specs.Crates.lra_base.declared.case_labels.CaseLabel.TheVariants.{Case, Default}
use Rattle.lra_path_segments.specs.Crates.{lra_base.CaseLabels.is_same_case, lra_base.CaseLabels.goal_of, lra_base.declared.case_labels.CaseLabel.CaseLabel}
use Rattle.lra_operations.specs.Tree.{Completion, normal, jump, empty, Arms, no_arms, entry, arm, entries_of}
use Rattle.lra_operations.proofs.ArmRows.{arms_row, row_behind}
use Rattle.lra_path_segments.specs.Segments.{each_then, segments_by, then_outs, then_ways, through, through_arms, enter, enter_arms, exit_suffixes, arms_exit_suffixes, inside, inside_arms}

pub alike_are : (l k : CaseLabel) → is_same_case l k ≡ true → l ≡ k
alike_are (Case y) (Case z) e = ap Case ((Decides-int_eq y z).0 e)
alike_are (Case y) Default e = absurd (let no : false ≡ true = e in cc)
alike_are Default (Case z) e = absurd (let no : false ≡ true = e in cc)
alike_are Default Default e = refl

-- if the label to which a value goes is none of them, it goes past all
pub goal_out : (z : ℤ) (labels : List CaseLabel) → list_any (is_same_case (goal_of z labels)) labels ≡ false
    → (goal_of z labels ≡ Default) × (list_any (is_same_case Default) labels ≡ false)
goal_out z labels never = by (list_any (is_same_case (Case z)) labels) refl never
  where
    by : (b : Bool) → list_any (is_same_case (Case z)) labels ≡ b → list_any (is_same_case (if b then Case z else Default)) labels ≡ false
        → ((if b then Case z else Default) ≡ Default) × (list_any (is_same_case Default) labels ≡ false)
    by true i a = absurd (let no : true ≡ false = sym i ∙ a in cc)
    by false i a = (refl, a)

-- rows -------------------------------------------------------------------------------------------------------------------

pub through_row : (arms : Arms) (h : Completion) → through (arms_row arms) h ≡ through_arms arms h
through_row no_arms normal = refl
through_row no_arms (jump j) = refl
through_row (entry l arms) h = through_row arms h
through_row (arm a arms) normal = ap (each_then (through a normal)) (through_row arms normal)
through_row (arm a arms) (jump j) = ap (λ xs. through a (jump j) ++ each_then (through a normal) xs) (through_row arms (jump j))

pub enter_row : (arms : Arms) → enter (arms_row arms) ≡ enter_arms arms
enter_row no_arms = refl
enter_row (entry l arms) = enter_row arms
enter_row (arm a arms) = ap (λ ways. enter a ++ then_ways (through a normal) ways) (enter_row arms)

pub outs_row : (arms : Arms) (h : Completion) → exit_suffixes (arms_row arms) h ≡ arms_exit_suffixes arms h
outs_row no_arms h = refl
outs_row (entry l arms) h = outs_row arms h
outs_row (arm a arms) normal =
    ap (λ xs. then_outs (exit_suffixes a normal) xs ++ exit_suffixes (arms_row arms) normal) (through_row arms normal)
    ∙ ap (λ xs. then_outs (exit_suffixes a normal) (through_arms arms normal) ++ xs) (outs_row arms normal)
outs_row (arm a arms) (jump j) =
    ap (λ xs. exit_suffixes a (jump j) ++ then_outs (exit_suffixes a normal) xs ++ exit_suffixes (arms_row arms) (jump j)) (through_row arms (jump j))
    ∙ ap (λ xs. exit_suffixes a (jump j) ++ then_outs (exit_suffixes a normal) (through_arms arms (jump j)) ++ xs) (outs_row arms (jump j))

pub inside_row : (arms : Arms) → inside (arms_row arms) ≡ inside_arms arms
inside_row no_arms = refl
inside_row (entry l arms) = inside_row arms
inside_row (arm a arms) =
    ap (λ ways. inside a ++ segments_by (exit_suffixes a normal) ways ++ inside (arms_row arms)) (enter_row arms)
    ∙ ap (λ xs. inside a ++ segments_by (exit_suffixes a normal) (enter_arms arms) ++ xs) (inside_row arms)

-- after a label that isn't there nothing stands
pub none_behind : (l : CaseLabel) (arms : Arms) → list_any (is_same_case l) (entries_of arms) ≡ false → row_behind l arms ≡ empty
none_behind l no_arms never = refl
none_behind l (entry k arms) never =
    let (here, later) = or_parts (is_same_case l k) (list_any (is_same_case l) (entries_of arms)) never in
    ap (λ b. cond b (arms_row arms) (row_behind l arms)) here ∙ none_behind l arms later
none_behind l (arm a arms) never = none_behind l arms never
