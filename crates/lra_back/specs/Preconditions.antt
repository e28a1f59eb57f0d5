-- Going back from the head of a path's target: over its changes from the last one, to what was so at its source.
use Rattle.std.specs.Prelude.{◌≡◌, ℕ, suc, List, [], ◌∷◌, Option, None, Some}
use Rattle.lra_domain.specs.declared.Exactness.{Exactness}
use Rattle.lra_domain.specs.{Abstraction.worse, Actions.Action, declared.Exactness.TheVariants.Exact}
use Rattle.lra_back.specs.Crates.lra_analysis_spec.Pass.{JoinsRunning, RunsFrom}
use Rattle.lra_back.specs.Operations.{BackwardOperations, PreOfAction}

-- from the value after the changes to the one before them: over the last of them first
abbrev pub PreAlong : {V H : Type 0} → BackwardOperations V H → List Action → V → Exactness → V → Type 0
PreAlong ops [] v e w = (w ≡ v) × (e ≡ Exact)
PreAlong {V} ops (step ∷ steps) v e w =
    (u : V) × (c d : Exactness) × PreAlong ops steps v c u × PreOfAction ops step u d w × (e ≡ worse c d)

-- the value of a path's target's head, gone over, and met with the forward value at the path's source
abbrev pub PreOfPath : {V H : Type 0} → BackwardOperations V H → V → H → List Action → Exactness → V → Type 0
PreOfPath {V} ops forward target path e w =
    (v u : V) × (c d i : Exactness) × ops.forward.valued target c v × PreAlong ops path v d u ×
    ops.meet u forward i w × (e ≡ worse (worse c d) i)

-- what these paths bring back, joined one by one to what came before, if something did
abbrev pub PreOfPaths : {V H : Type 0} → BackwardOperations V H → V → H → List (List Action) → Option V → Exactness →
    Option V → Type 0
PreOfPaths ops forward target [] so e all = (all ≡ so) × (e ≡ Exact)
PreOfPaths {V} ops forward target (path ∷ paths) so e all =
    (u w : V) × (c d i : Exactness) × PreOfPath ops forward target path c u × JoinsRunning ops.forward so u d w ×
    PreOfPaths ops forward target paths (Some w) i all × (e ≡ worse (worse c d) i)

-- so from all points, whose heads these are, the first of which has this number: `paths` leads to each
abbrev pub PreOfAllPoints : {V H : Type 0} → BackwardOperations V H → (ℕ → List (List Action)) → V → ℕ → List H →
    Option V →
    Exactness → Option V → Type 0
PreOfAllPoints ops paths forward q [] so e all = (all ≡ so) × (e ≡ Exact)
PreOfAllPoints {V} ops paths forward q (target ∷ targets) so e all =
    (some : Option V) × (c d : Exactness) × PreOfPaths ops forward target (paths q) so c some ×
    PreOfAllPoints ops paths forward (suc q) targets some d all × (e ≡ worse c d)

-- and last the seed, if there is one
abbrev pub JoinsSeed : {V H : Type 0} → BackwardOperations V H → Option V → Option V → Exactness → Option V → Type 0
JoinsSeed ops None so e all = (all ≡ so) × (e ≡ Exact)
JoinsSeed {V} ops (Some seed) so e all = (w : V) × JoinsRunning ops.forward so seed e w × (all ≡ Some w)

-- The next value of a point, over the heads as they are: what its paths bring back, by the numbers of their targets,
-- and last the seed; if there is none of both, it is an empty value of one part.
abbrev pub IsNext : {V H : Type 0} → BackwardOperations V H → (ℕ → List (List Action)) → V → Option V → List H →
    Exactness →
    V → Type 0
IsNext {V} ops paths forward seed heads e w =
    (so all : Option V) × (c d : Exactness) × PreOfAllPoints ops paths forward 0 heads None c so ×
    JoinsSeed ops seed so d all × RunsFrom ops.forward (ops.forward.dims forward) 1 all w × (e ≡ worse c d)
