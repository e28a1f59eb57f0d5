-- What the loops of a pass keep.
use Rattle.std.proofs.Common.{◌≡◌, ◌≢◌, ℕ, zero, suc, ◌-◌, ◌^◌, ◌<◌, List, [], ◌∷◌, ◌++◌, Option, None, take, drop, refl, sym, ap, subst, ◌∙◌, arith}
use Rattle.std.specs.Prelude.{slice_index_or}
use Rattle.lra_fixpoint.specs.Crates.lra_analysis_spec.Operations.{Operations, lossy_operations}
use Rattle.lra_fixpoint.specs.Crates.lra_analysis_spec.Pass.{AreJoined, PassResult, noted, first_of_call, PassUnder, LoopRoundFrom, AscendingIteration, DescendingIteration}
use Rattle.lra_fixpoint.specs.Crates.lra_analysis_spec.Plan.{Plan, Widening, standard, limited, by_thresholds, mode_at}
use Rattle.lra_fixpoint.specs.Crates.{lra_analysis_spec.Thresholds.loop_thresholds, lra_analysis_spec.UnderInterference.absorbed, lra_domain.Abstraction.Abstraction, lra_domain.Abstraction.Values}
use Rattle.lra_fixpoint.specs.Crates.{lra_domain.Abstraction.Grew, lra_domain.Interference.Interference, lra_domain.Parts.CapsWithin, lra_domain.Rank.RankFits, lra_domain.Rank.RankBelow}
use Rattle.lra_fixpoint.specs.Crates.{lra_domain.declared.Exactness.Exactness, lra_domain.declared.Mode.TheVariants.Join, lra_domain.declared.Rank.Rank, lra_program.Program.Cond}
use Rattle.lra_fixpoint.proofs.Crates.lra_domain.RankNumbers.{phased, phased_joins, phased_falls}
use Rattle.lra_operations.specs.Tree as graph
use Rattle.lra_pass_results.specs.Outcome.{headed, outcome_view, AllHave, AreKept, HasGrown, IsKept, IsLoopRound, JumpsFit, NarrowsTo}
use Rattle.lra_pass_results.specs.{Heads.IsValued, Heads.GrowsBy, LoopCache.StaysKept, declared.heads.Growing.Growing, declared.loop_cache.LoopCache.LoopCache, declared.outcome.LoopRound.LoopRound}
use Rattle.lra_pass_stack.specs.Stack.{GrowLoop, HeadLoop, NarrowLoop}

module _ {V H : Type 0} (o : Interference V) (m : Abstraction V H) (set : Plan) (q base : ℕ) (c : Cond) (a : graph.Node) where
  -- a head begins
  pub grow_starts : (first : V) (f : Option ℕ) (head : H) (memory : LoopCache V) →
      (lossy_operations m).started first (loop_thresholds set.widening (m.dims first) base c a) head → RankFits (m.rank head)
      → GrowLoop o m set q base c a first f set.delay f head None memory memory
  grow_starts first f head memory begins fits = record {
    dims = begins.1;
    fits = fits;
    kept = tt;
    stays = λ loops has all. all;
    grows = λ later v r h. (head, later, begins, h);
  }

  -- it grows by what its round left
  pub grow_next : (first : V) (f : Option ℕ) (left left' : ℕ) (so_far : Option ℕ) (head next : H) (v : V)
      (e d : Exactness) (s : PassResult V) (before turn : Option (LoopRound V)) (old memory new : LoopCache V)
      → GrowLoop o m set q base c a first f left so_far head before old memory
      → Values m head e v → m.dims v ≡ m.head_dims head → CapsWithin (m.head_capped head) (m.capped v)
      → LoopRoundFrom V H (lossy_operations m) q base c (PassUnder V H (lossy_operations m) (absorbed o m) set a) (noted q e so_far) v (headed q v s)
      → Grew m head s.normal (mode_at set.widening left) d next → m.dims s.normal ≡ m.head_dims head →
      m.head_dims next ≡ m.head_dims head
      → CapsWithin (λ k. m.head_capped head k × m.capped s.normal k) (m.head_capped next) → RankFits (m.rank next)
      → left' ≡ left - 1 → AreKept o m set a (noted q d s.flag) turn → StaysKept o m set a f old (noted q d s.flag) new
      → GrowLoop o m set q base c a first f left' (noted q d s.flag) next turn old new
  grow_next first f left left' so_far head next v e d s before turn old memory new loop values dims caps round grew
      behind same more fits is kept stays = record {
        dims = same ∙ loop.dims;
        fits = fits;
        kept = kept;
        stays = stays;
        grows = λ later w r h. loop.grows (next ∷ later) w r (
          v,
          headed q v s,
          d,
          (e, (values, dims, caps), round),
          (grew, behind, same, more),
          subst (λ (n : ℕ). AscendingIteration V H (lossy_operations m) q base c (PassUnder V H (lossy_operations m) (absorbed o m) set a) set.widening n
              (noted q d s.flag) next later w r) is h,
        );
      }

  -- the same of a head with its value
  pub head_starts : (first : V) (f : Option ℕ) (growing : Growing V H) (memory : LoopCache V) →
      (lossy_operations m).started first (loop_thresholds set.widening (m.dims first) base c a) growing.head → RankFits (m.rank growing.head)
      → IsValued m q f growing.head growing.value growing.flag → growing.left ≡ set.delay
      → HeadLoop o m set q base c a first f growing None memory memory
  head_starts first f growing memory begins fits valued left = record {
    so_far = f;
    valued = valued;
    loop = subst (λ (n : ℕ). GrowLoop o m set q base c a first f n f growing.head None memory memory) (sym left)
        (grow_starts first f growing.head memory begins fits);
  }

  module _ (first : V) (f : Option ℕ) (growing : Growing V H) (turn : Option (LoopRound V)) (old memory : LoopCache V)
      (loop : HeadLoop o m set q base c a first f growing turn old memory) where
    pub head_wide : m.dims growing.value ≡ m.dims first
    head_wide = loop.valued.1.1 ∙ loop.loop.dims

    module _ (s : PassResult V) (round : LoopRoundFrom V H (lossy_operations m) q base c (PassUnder V H (lossy_operations m) (absorbed o m) set a) growing.flag
        growing.value (headed q growing.value s)) where
      head_round : LoopRoundFrom V H (lossy_operations m) q base c (PassUnder V H (lossy_operations m) (absorbed o m) set a)
          (noted q loop.valued.0 loop.so_far) growing.value (headed q growing.value s)
      head_round = subst (λ (x : Option ℕ). LoopRoundFrom V H (lossy_operations m) q base c (PassUnder V H (lossy_operations m) (absorbed o m) set a) x
          growing.value (headed q growing.value s)) loop.valued.2 round

      pub head_stable : (lossy_operations m).stays growing.head s.normal (mode_at set.widening growing.left)
          → HasGrown o m set q base c a first f growing.value (headed q growing.value s)
      head_stable stays = loop.loop.grows [] growing.value (headed q growing.value s)
          ((loop.valued.0, loop.valued.1, head_round), stays)

      pub head_next : (d : Exactness) (next : Growing V H) (last : Option (LoopRound V)) (new : LoopCache V)
          → GrowsBy m set.widening q d growing s next → AreKept o m set a (noted q d s.flag) last
          → StaysKept o m set a f old (noted q d s.flag) new → HeadLoop o m set q base c a first f next last old new
      head_next d next last new by kept stays =
          let value = loop.valued.1 in
          let grown = by.grown in
          record {
            so_far = noted q d s.flag;
            valued = by.valued;
            loop = grow_next first f growing.left next.left loop.so_far growing.head next.head growing.value
                loop.valued.0 d s turn last old memory new loop.loop value.0 value.1 value.2 head_round grown.0 grown.1
                grown.2 grown.3 by.fits by.left kept stays;
          }

  -- a narrowing begins
  pub narrow_starts : (first : V) (f : Option ℕ) (u : V) (turn : LoopRound V) (memory : LoopCache V) → m.dims u ≡ m.dims first →
      IsLoopRound o m set q base c a f u turn
      → NarrowLoop o m set q base c a first u (outcome_view turn.outcome) set.narrow u turn.entered (outcome_view turn.outcome) memory memory
  narrow_starts first f u turn memory dims turned = record {
    dims = dims;
    behind = turned.dims ∙ dims;
    jumps = subst (λ (n : ℕ). JumpsFit m a n (outcome_view turn.outcome)) dims turned.jumps;
    kept = turned.kept;
    stays = λ loops has all. all;
    narrows = λ v r h. h;
  }

  -- one round of narrowing more
  pub narrow_next : (first start : V) (begun : PassResult V) (left k : ℕ) (top next entered on : V) (last turned : PassResult V)
      (e : Exactness) (so_far : Option ℕ) (old memory new : LoopCache V)
      → NarrowLoop o m set q base c a first start begun left top entered last old memory → left ≡ suc k →
      (lossy_operations m).joined first last.normal e next → so_far ≡ noted q e last.flag
      → LoopRoundFrom V H (lossy_operations m) q base c (PassUnder V H (lossy_operations m) (absorbed o m) set a) so_far next (headed q next turned)
      → m.dims turned.normal ≡ m.dims next → JumpsFit m a (m.dims next) turned → IsKept o m set a turned.flag on turned
      → StaysKept o m set a begun.flag old turned.flag new →
      NarrowLoop o m set q base c a first start begun k next on turned old new
  narrow_next first start begun left k top next entered on last turned e so_far old memory new loop is joined flagged
      round behind jumps kept stays = record {
        dims = joined.2;
        behind = behind ∙ joined.2;
        jumps = subst (λ (n : ℕ). JumpsFit m a n turned) joined.2 jumps;
        kept = kept;
        stays = stays;
        narrows = λ v r h. loop.narrows v r (subst (λ (n : ℕ). DescendingIteration V H (lossy_operations m) q base c
            (PassUnder V H (lossy_operations m) (absorbed o m) set a) n first top (headed q top last) v r) (sym is) (
              next,
              headed q next turned,
              e,
              joined,
              subst (λ (x : Option ℕ). LoopRoundFrom V H (lossy_operations m) q base c
                  (PassUnder V H (lossy_operations m) (absorbed o m) set a) x next (headed q next turned)) flagged round,
              h,
            ));
      }

  -- no round is left
  pub narrow_ends : (first start : V) (begun : PassResult V) (left : ℕ) (top entered : V) (last : PassResult V)
      (old memory : LoopCache V) (loop : NarrowLoop o m set q base c a first start begun left top entered last old memory)
      → left ≡ 0 → NarrowsTo o m set q base c a first start (headed q start begun) top (headed q top last)
  narrow_ends first start begun left top entered last old memory loop is =
      loop.narrows top (headed q top last)
      (subst (λ (n : ℕ). DescendingIteration V H (lossy_operations m) q base c (PassUnder V H (lossy_operations m) (absorbed o m) set a) n first top
      (headed q top last) top (headed q top last)) (sym is) (refl, refl))

not_join : (widening : Widening) → mode_at widening 0 ≡ Join → ⊥
not_join standard e = cc
not_join limited e = cc
not_join (by_thresholds constants) e = cc

-- a round less of joining, or a lower rank
pub grow_falls : (widening : Widening) (left left' : ℕ) (r r' : Rank) → RankFits r' → left' ≡ left - 1 →
    (mode_at widening left ≢ Join → RankBelow r' r) → phased (2 ^ 64) left' r' < phased (2 ^ 64) left r
grow_falls widening zero left' r r' fits is below = phased_falls zero left' r r' fits is (below (not_join widening))
grow_falls widening (suc k) left' r r' fits is below = phased_joins (suc k) left' r r' fits (omega arith)

have_append : {V H : Type 0} (m : Abstraction V H) (k : ℕ) (vs : List V) (n : V) → AllHave m k vs → m.dims n ≡ k →
    AllHave m k (vs ++ n ∷ [])
have_append m k [] n h is = (is, tt)
have_append m k (v ∷ vs) n h is = (h.0, have_append m k vs n h.1 is)

-- what comes out after a call has as many dimensions as its end
pub returns_have : {V H : Type 0} (m : Abstraction V H) (rs ys xs : List V) (n x : V) → ys ≡ rs ++ n ∷ [] →
    x ≡ slice_index_or ys 0 x → xs ≡ take 0 ys ++ drop 1 ys → AllHave m (m.dims n) rs
    → (m.dims x ≡ m.dims n) × AllHave m (m.dims x) xs
returns_have {V} m [] ys xs n x is first others have =
    let one : x ≡ n = subst (λ (zs : List V). x ≡ slice_index_or zs 0 x) is first in
    let none : xs ≡ [] = subst (λ (zs : List V). xs ≡ take 0 zs ++ drop 1 zs) is others in
    (ap m.dims one, subst (λ (zs : List V). AllHave m (m.dims x) zs) (sym none) tt)
returns_have {V} m (v ∷ vs) ys xs n x is first others have =
    let one : x ≡ v = subst (λ (zs : List V). x ≡ slice_index_or zs 0 x) is first in
    let more : xs ≡ vs ++ n ∷ [] = subst (λ (zs : List V). xs ≡ take 0 zs ++ drop 1 zs) is others in
    let same : m.dims x ≡ m.dims n = ap m.dims one ∙ have.0 in (
      same,
      subst (λ (k : ℕ). AllHave m k xs) (sym same)
          (subst (λ (zs : List V). AllHave m (m.dims n) zs) (sym more) (have_append m (m.dims n) vs n have.1 refl)),
    )

-- the first of what comes out after a call, and the others: what returned, and then its end
pub returns_joined : {V H : Type 0} (ops : Operations V H) (rs ys xs : List V) (n x w : V) (e : Exactness) →
    ys ≡ rs ++ n ∷ [] → x ≡ slice_index_or ys 0 x → xs ≡ take 0 ys ++ drop 1 ys
    → AreJoined ops x xs e w → AreJoined ops (first_of_call rs n).0 (first_of_call rs n).1 e w
returns_joined {V} ops [] ys xs n x w e is first others joined =
    let one : x ≡ n = subst (λ (zs : List V). x ≡ slice_index_or zs 0 x) is first in
    let none : xs ≡ [] = subst (λ (zs : List V). xs ≡ take 0 zs ++ drop 1 zs) is others in
    subst (λ (y : V). AreJoined ops y [] e w) one (subst (λ (zs : List V). AreJoined ops x zs e w) none joined)
returns_joined {V} ops (v ∷ vs) ys xs n x w e is first others joined =
    let one : x ≡ v = subst (λ (zs : List V). x ≡ slice_index_or zs 0 x) is first in
    let more : xs ≡ vs ++ n ∷ [] = subst (λ (zs : List V). xs ≡ take 0 zs ++ drop 1 zs) is others in
    subst (λ (y : V). AreJoined ops y (vs ++ n ∷ []) e w) one
    (subst (λ (zs : List V). AreJoined ops x zs e w) more joined)
