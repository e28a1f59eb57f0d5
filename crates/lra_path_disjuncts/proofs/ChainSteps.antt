-- Steps of the proofs on chains, from the last operand back.
use Rattle.std.proofs.Common.{◌≡◌, ◌<◌, ℕ, ◌+◌, Bool, true, false, List, [], ◌∷◌, ◌++◌, length, map, refl, sym, ap, ◌∙◌, subst, arith, append_assoc}
use Rattle.std.specs.Prelude as outcome
use Rattle.std.specs.Prelude.{IfOk}
use Rattle.lra_program.specs.{Program.Cond, ProgramViews.cond_view}
use Rattle.lra_program.specs.declared.program.Cond as declared_cond
use Rattle.lra_linearize.proofs.CondSizes.{cond_size, row_size, chain_size}
use Rattle.lra_path_disjuncts.specs.Crates.lra_analysis_spec.MovesOf.{guard}
use Rattle.lra_path_disjuncts.specs.Conditions.{AreIn, HasBoth, JoinsAlways, Prepends, chain_of, joined_conditions}
use Rattle.lra_path_disjuncts.specs.{Tables.Grows, declared.conditions.Both.Both, declared.tables.MovesEntry.MovesEntry}
use Rattle.lra_path_disjuncts.proofs.TableSteps.{within}

-- places ---------------------------------------------------------------------------------------------------------------

pub both_in : (es : List MovesEntry) (live base : ℕ) (c : Cond) (b : Both) → HasBoth es live base c b → AreIn es b
both_in es live base c b (so, not) = (within es b.so (guard live base true c) so, within es b.not (guard live base false c) not)

pub both_on : (es fs : List MovesEntry) (live base : ℕ) (c : Cond) (b : Both) → Grows es fs → HasBoth es live base c b → HasBoth fs live base c b
both_on es fs live base c b grows (so, not) = (grows b.so (guard live base true c) so, grows b.not (guard live base false c) not)

-- the operand stands there first, and then both are joined
pub puts_in_front : {E : Type 0} (r : outcome.Result Both E) (es fs gs : List MovesEntry) (live base : ℕ) (any : Bool) (c : Cond) (one later : Both)
    → Grows es fs → HasBoth fs live base c one → IfOk r (λ b. JoinsAlways fs gs any one later b) → IfOk r (λ b. Prepends es gs live base any c later b)
puts_in_front (outcome.Ok b) es fs gs live base any c one later grows has joins = λ d there.
    joins live base c d has (both_on es fs live base d later grows there)
puts_in_front (outcome.Err e) es fs gs live base any c one later grows has joins = tt

-- chains ---------------------------------------------------------------------------------------------------------------

chain_one : (any : Bool) (c : Cond) → chain_of any c [] ≡ c
chain_one true c = refl
chain_one false c = refl

chain_more : (any : Bool) (c d : Cond) (ds : List Cond) → joined_conditions any c (chain_of any d ds) ≡ chain_of any c (d ∷ ds)
chain_more true c d ds = refl
chain_more false c d ds = refl

-- the operands after those that are left stand there, as one chain
abbrev pub IsJoinedBack : List MovesEntry → ℕ → ℕ → Bool → List declared_cond.Cond → List declared_cond.Cond → Both → Type 0
IsJoinedBack es live base any whole left b = (c : declared_cond.Cond) × (cs : List declared_cond.Cond) × (whole ≡ left ++ c ∷ cs) ×
    HasBoth es live base (chain_of any (cond_view c) (map cond_view cs)) b

module _ (live base : ℕ) (any : Bool) (whole : List declared_cond.Cond) where
  pub joined_last : (es : List MovesEntry) (left : List declared_cond.Cond) (c : declared_cond.Cond) (b : Both) → whole ≡ left ++ c ∷ []
      → HasBoth es live base (cond_view c) b → IsJoinedBack es live base any whole left b
  joined_last es left c b is has = (c, [], is, subst (λ d. HasBoth es live base d b) (sym (chain_one any (cond_view c))) has)

  pub joined_in : (es : List MovesEntry) (left : List declared_cond.Cond) (b : Both) → IsJoinedBack es live base any whole left b → AreIn es b
  joined_in es left b (c, cs, is, has) = both_in es live base (chain_of any (cond_view c) (map cond_view cs)) b has

  pub joined_next : (es fs : List MovesEntry) (left before : List declared_cond.Cond) (next : declared_cond.Cond) (later b : Both) → left ≡ before ++ next ∷ []
      → IsJoinedBack es live base any whole left later → Prepends es fs live base any (cond_view next) later b → IsJoinedBack fs live base any whole before b
  joined_next es fs left before next later b same (c, cs, is, has) puts = (
    next,
    c ∷ cs,
    is ∙ ap (λ ds. ds ++ c ∷ cs) same ∙ append_assoc before (next ∷ []) (c ∷ cs),
    subst (λ d. HasBoth fs live base d b) (chain_more any (cond_view next) (cond_view c) (map cond_view cs))
        (puts (chain_of any (cond_view c) (map cond_view cs)) has),
  )

  pub joined_all : {E : Type 0} (r : outcome.Result Both E) (es fs : List MovesEntry) (left : List declared_cond.Cond) (first : declared_cond.Cond)
      (later : Both)
      → length left ≡ 0 → IsJoinedBack es live base any whole left later → IfOk r (λ b. Prepends es fs live base any (cond_view first) later b)
      → IfOk r (λ b. HasBoth fs live base (chain_of any (cond_view first) (map cond_view whole)) b)
  joined_all (outcome.Ok b) es fs [] first later none (c, cs, is, has) puts =
      subst (λ ds. HasBoth fs live base (chain_of any (cond_view first) (map cond_view ds)) b) (sym is)
      (subst (λ d. HasBoth fs live base d b) (chain_more any (cond_view first) (cond_view c) (map cond_view cs))
      (puts (chain_of any (cond_view c) (map cond_view cs)) has))
  joined_all (outcome.Err e) es fs [] first later none so_far puts = tt
  joined_all r es fs (d ∷ ds) first later none so_far puts = absurd (omega (arith, none))

-- each operand is smaller than the chain -------------------------------------------------------------------------------

smaller_in : (before : List declared_cond.Cond) (c : declared_cond.Cond) (cs : List declared_cond.Cond)
    → cond_size c < 1 + row_size (map cond_size (before ++ c ∷ cs))
smaller_in [] c cs = omega arith
smaller_in (d ∷ ds) c cs =
    let inner = smaller_in ds c cs in
    omega (arith, inner)

pub size_at : (first : declared_cond.Cond) (whole before : List declared_cond.Cond) (c : declared_cond.Cond) (cs : List declared_cond.Cond)
    → whole ≡ before ++ c ∷ cs → cond_size c < chain_size first whole
size_at first whole before c cs is =
    let inner = smaller_in before c cs in
    let same = ap (λ ds. row_size (map cond_size ds)) is in
    omega (arith, inner, same)

pub size_next : (es : List MovesEntry) (live base : ℕ) (any : Bool) (first : declared_cond.Cond) (whole left before : List declared_cond.Cond)
    (next : declared_cond.Cond) (b : Both) → left ≡ before ++ next ∷ [] → IsJoinedBack es live base any whole left b → cond_size next < chain_size first whole
size_next es live base any first whole left before next b same (c, cs, is, has) =
    size_at first whole before next (c ∷ cs) (is ∙ ap (λ ds. ds ++ c ∷ cs) same ∙ append_assoc before (next ∷ []) (c ∷ cs))
