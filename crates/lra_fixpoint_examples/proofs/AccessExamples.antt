-- Which accesses of arrays are judged to be inside in whole programs, over boxes: by the values at their points.
use Rattle.std.proofs.Common.{◌≡◌, ℕ, pos, negsuc, List, [], ◌∷◌, None, Some, Bool, true, false, refl, inl, inr, lit<}
use Rattle.lra_fixpoint_examples.specs.Crates.lra_base.Operators.{above, at_least, below}
use Rattle.lra_fixpoint_examples.specs.Crates.lra_base.declared.number_types.NumberType.TheVariants.{Int, Long}
use Rattle.lra_fixpoint_examples.specs.Crates.lra_operations.Tree.{Node, empty, point, act, seq, choose}
use Rattle.lra_fixpoint_examples.specs.Crates.lra_program.Program.{local, Expr, literal, read, input, element, Element, Cond, compare, both_of, either_of}
use Rattle.lra_fixpoint_examples.specs.Crates.lra_program.Step.{Op, append, store_value, store_element}
use Rattle.lra_fixpoint_examples.specs.Crates.{lra_base.declared.number_types.NumberType.NumberType, lra_base.declared.refusals.Place.Place, lra_domain.declared.Exactness.TheVariants.Exact}
use Rattle.lra_fixpoint_examples.specs.Crates.{lra_operations.CheckedOperations.accessing_ops, lra_program.Receivers.variable_at}
use Rattle.lra_fixpoint_examples.specs.Crates.lra_program.Step as step
use Rattle.lra_box.specs.{Abstraction.box_abstraction, Bounds.full_interval, Content.BoxContent, declared.interval.Interval.Interval}
use Rattle.lra_analysis_spec.specs.Accesses.{AccessJudged, InsideAtPoint, JudgesAccesses, OpInside}
use Rattle.lra_fixpoint_examples.proofs.{Judged.judged, LoopExamples.boxes, LoopExamples.one, LoopExamples.none, LoopExamples.between, LoopExamples.at_least as from}

abbrev at : ℕ → Place
at column = record { line = 1; column = column }

-- nothing of a value of one variable
abbrev nothing : BoxContent
nothing = record { dims = 1; bounds = None }

some_value : (x : Interval) → box_abstraction.parts (one x) ≡ [] → ⊥
some_value x e = cc

-- the one variable, in an array of so many
abbrev variable : NumberType → Expr
variable t = read (record { slot = local 0; number_type = t })

abbrev access : ℕ → NumberType → ℕ → Expr → Element
access many t column index = record { array = record { declared = at 7; length = many; number_type = t }; place = at column; index = index }

abbrev read_at : Element → Expr
read_at x = element x.array x.place x.index

-- int a[3]; int main(void){ int i=input(); if(i>=0 && i<3 && a[i]>a[a[0]]) ; } ------------------------------------------------

abbrev i : Expr
i = variable Int

abbrev left : Element
left = access 3 Int 60 i

abbrev inner : Element
inner = access 3 Int 67 (literal Int 0)

abbrev outer : Element
outer = access 3 Int 65 (read_at inner)

abbrev compared : Cond
compared = both_of (compare at_least i (literal Int 0)) (both_of (compare below i (literal Int 3)) (compare above (read_at left) (read_at outer)))

abbrev comparing_tree : Node
comparing_tree = seq (seq (seq (point 0) (seq (act 0 (append Int)) (act 0 (store_value 0 (variable_at 0 Int) input))))
    (seq (seq (point 1) (choose 1 0 compared (point 2) empty)) empty)) (point 3)

abbrev ints : BoxContent
ints = one (record { low = Some (negsuc 2147483647); high = Some (pos 2147483647) })

abbrev comparing_values : List BoxContent
comparing_values = none ∷ ints ∷ one (between 0 2) ∷ ints ∷ []

left_inside : AccessJudged box_abstraction boxes (one (between 0 2)) 0 left true Exact
left_inside = (
  nothing,
  nothing,
  Exact,
  Exact,
  (refl, record { table = refl; extremes = tt }),
  (refl, record { table = refl; extremes = tt }),
  (λ h. inr (refl, refl), λ h. refl),
  refl,
)

inner_inside : AccessJudged box_abstraction boxes (one (between 0 2)) 0 inner true Exact
inner_inside = (
  nothing,
  nothing,
  Exact,
  Exact,
  (refl, record { table = refl; extremes = tt }),
  (refl, record { table = refl; extremes = tt }),
  (λ h. inr (refl, refl), λ h. refl),
  refl,
)

-- what an element holds isn't followed
outer_unknown : AccessJudged box_abstraction boxes (one (between 0 2)) 0 outer false Exact
outer_unknown = ((λ h. cc, λ k. elim k [ inl nowhere ↦ absurd (some_value (between 0 2) nowhere) | inr never ↦ absurd never ]), refl)

abbrev compared_told : List (Place × Bool)
compared_told = (at 60, true) ∷ (at 67, true) ∷ (at 65, false) ∷ []

-- left of right, inner before outer, by what stands left of `&&`
compared_inside : InsideAtPoint box_abstraction boxes comparing_values (record { point = 1; fresh = None; op = step.test 0 compared true }) compared_told Exact
compared_inside = (
  ints,
  ints,
  Exact,
  Exact,
  refl,
  (refl, refl),
  (
    [],
    compared_told,
    one (record { low = Some (pos 0); high = Some (pos 2147483647) }),
    Exact,
    Exact,
    Exact,
    (refl, refl),
    (refl, record { table = refl; extremes = tt }),
    (
      [],
      compared_told,
      one (between 0 2),
      Exact,
      Exact,
      Exact,
      (refl, refl),
      (refl, record { table = refl; extremes = tt }),
      (
        true,
        (at 67, true) ∷ (at 65, false) ∷ [],
        Exact,
        Exact,
        left_inside,
        (true, (at 65, false) ∷ [], Exact, Exact, inner_inside, (false, [], Exact, Exact, outer_unknown, (refl, refl), refl, refl), refl, refl),
        refl,
        refl,
      ),
      refl,
      refl,
    ),
    refl,
    refl,
  ),
  refl,
)

comparing_inside : JudgesAccesses box_abstraction boxes comparing_tree comparing_values None ((1, compared_told) ∷ []) None
comparing_inside = judged (OpInside box_abstraction boxes) (accessing_ops None comparing_tree) comparing_values
    ((record { point = 1; fresh = None; op = step.test 0 compared true }, compared_told) ∷ []) refl (compared_inside, tt) (tt, tt)

-- int main(void){ long a[4], i=input(); if(i<0 || i>=4 || a[i]>0) ; a[i]=a[3]; } ----------------------------------------------

abbrev l : Expr
l = variable Long

abbrev tried : Element
tried = access 4 Long 57 l

abbrev outside_or : Cond
outside_or = either_of (compare below l (literal Int 0)) (either_of (compare at_least l (literal Int 4)) (compare above (read_at tried) (literal Int 0)))

abbrev target : Element
target = access 4 Long 67 l

abbrev last : Element
last = access 4 Long 72 (literal Int 3)

abbrev writes : Op
writes = store_element 0 target (read_at last)

abbrev trying_tree : Node
trying_tree = seq (seq (seq (point 0) (seq (act 0 (append Long)) (act 0 (store_value 0 (variable_at 0 Long) input))))
    (seq (seq (point 1) (choose 1 0 outside_or (point 2) empty)) (seq (seq (point 3) (act 3 writes)) empty))) (point 4)

abbrev any : BoxContent
any = one full_interval

abbrev trying_values : List BoxContent
trying_values = none ∷ any ∷ any ∷ any ∷ any ∷ []

tried_inside : AccessJudged box_abstraction boxes (one (between 0 3)) 0 tried true Exact
tried_inside = (
  nothing,
  nothing,
  Exact,
  Exact,
  (refl, record { table = refl; extremes = tt }),
  (refl, record { table = refl; extremes = tt }),
  (λ h. inr (refl, refl), λ h. refl),
  refl,
)

-- right of `||` by what the left sides leave if they are false: catches one that is judged by the point's value
tried_told : InsideAtPoint box_abstraction boxes trying_values (record { point = 1; fresh = None; op = step.test 0 outside_or true }) ((at 57, true) ∷ []) Exact
tried_told = (
  any,
  any,
  Exact,
  Exact,
  refl,
  (refl, refl),
  (
    [],
    (at 57, true) ∷ [],
    one (from 0),
    Exact,
    Exact,
    Exact,
    (refl, refl),
    (refl, record { table = refl; extremes = tt }),
    (
      [],
      (at 57, true) ∷ [],
      one (between 0 3),
      Exact,
      Exact,
      Exact,
      (refl, refl),
      (refl, record { table = refl; extremes = tt }),
      (true, [], Exact, Exact, tried_inside, (refl, refl), refl, refl),
      refl,
      refl,
    ),
    refl,
    refl,
  ),
  refl,
)

-- each test leaves a part of it
target_unknown : AccessJudged box_abstraction boxes any 0 target false Exact
target_unknown = (
  one (record { low = None; high = Some (negsuc 0) }),
  one (from 4),
  Exact,
  Exact,
  (refl, record { table = refl; extremes = tt }),
  (refl, record { table = refl; extremes = tt }),
  (λ h. cc, λ k. elim k [ inl nowhere ↦ absurd (some_value full_interval nowhere) | inr both ↦ absurd (some_value (from 4) both.1) ]),
  refl,
)

last_inside : AccessJudged box_abstraction boxes any 0 last true Exact
last_inside = (
  nothing,
  nothing,
  Exact,
  Exact,
  (refl, record { table = refl; extremes = tt }),
  (refl, record { table = refl; extremes = tt }),
  (λ h. inr (refl, refl), λ h. refl),
  refl,
)

-- the element that gets a value comes before what it gets
written_told : InsideAtPoint box_abstraction boxes trying_values (record { point = 3; fresh = None; op = writes }) ((at 67, false) ∷ (at 72, true) ∷ []) Exact
written_told = (
  any,
  any,
  Exact,
  Exact,
  refl,
  (refl, refl),
  (false, (at 72, true) ∷ [], Exact, Exact, target_unknown, (true, [], Exact, Exact, last_inside, (refl, refl), refl, refl), refl, refl),
  refl,
)

trying_inside : JudgesAccesses box_abstraction boxes trying_tree trying_values None
    ((1, (at 57, true) ∷ []) ∷ (3, (at 67, false) ∷ (at 72, true) ∷ []) ∷ []) None
trying_inside = judged (OpInside box_abstraction boxes) (accessing_ops None trying_tree) trying_values
    ((record { point = 1; fresh = None; op = step.test 0 outside_or true }, (at 57, true) ∷ [])
    ∷ (record { point = 3; fresh = None; op = writes }, (at 67, false) ∷ (at 72, true) ∷ []) ∷ [])
    refl (tried_told, (written_told, tt)) ((lit< tt, tt), (tt, tt))
