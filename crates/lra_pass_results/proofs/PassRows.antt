-- Trees that are passed one after the other, along a sequence of them: what was found so far, with whatever the rest
-- finds after it, is what a pass of the whole finds.
use Rattle.std.proofs.Common.{◌≡◌, ℕ, suc, ◌+◌, List, [], ◌∷◌, map, Option, refl, sym, ap, subst, ◌∙◌, arith}
use Rattle.std.proofs.{lemmas.List.append_assoc, lemmas.List.Sums.sum_by-cons}
use Rattle.std.specs.List.{sum_by}
use Rattle.lra_pass_results.specs.Crates.lra_analysis_spec.Pass.{PassEntry, PassResult, in_turn}
use Rattle.lra_pass_results.specs.Crates.{lra_analysis_spec.Live.live_after, lra_analysis_spec.Plan.Plan, lra_domain.Abstraction.Abstraction, lra_domain.Interference.Interference}
use Rattle.lra_operations.specs.{TreeViews.node_view, TreeViews.row, declared.tree.Node.Node}
use Rattle.lra_operations.specs.Tree as graph
use Rattle.lra_pass_results.specs.{Outcome.JumpsFit, Outcome.IsPassed, Steps.node_steps, Steps.row_steps}
use Rattle.lra_pass_results.proofs.PassSteps.{seq_fits}

pub same_lists : {V : Type 0} (v : V) (f : Option ℕ) (xs xs' : List (PassEntry V)) (bs bs' cs cs' rs rs' : List V) → xs ≡ xs' →
    bs ≡ bs' → cs ≡ cs' → rs ≡ rs'
    → ◌≡◌ {A = PassResult V} (record { entries = xs; normal = v; breaks = bs; continues = cs; returns = rs; flag = f })
    (record { entries = xs'; normal = v; breaks = bs'; continues = cs'; returns = rs'; flag = f })
same_lists {V} v f xs xs' bs bs' cs cs' rs rs' one two three four =
    ap (λ (zs : List (PassEntry V)). record {
      entries = zs;
      normal = v;
      breaks = bs;
      continues = cs;
      returns = rs;
      flag = f;
    }) one
    ∙ ap (λ (zs : List V). record { entries = xs'; normal = v; breaks = zs; continues = cs; returns = rs; flag = f })
    two
    ∙ ap (λ (zs : List V). record { entries = xs'; normal = v; breaks = bs'; continues = zs; returns = rs; flag = f })
    three
    ∙ ap (λ (zs : List V). record { entries = xs'; normal = v; breaks = bs'; continues = cs'; returns = zs; flag = f })
    four

-- three in turn, from either side
pub turns : {V : Type 0} (x y t : PassResult V) (v w u : V) (f g h : Option ℕ) →
    in_turn x (in_turn y t v f) u h ≡ in_turn (in_turn x y w g) t u h
turns x y t v w u f g h = same_lists u h _ _ _ _ _ _ _ _ (sym (append_assoc x.entries y.entries t.entries))
    (sym (append_assoc x.breaks y.breaks t.breaks))
    (sym (append_assoc x.continues y.continues t.continues)) (sym (append_assoc x.returns y.returns t.returns))

-- the first, and those after it
pub row_first : (gs gs' : List Node) (x last : Node) → gs ≡ x ∷ gs' →
    row (map node_view gs) (node_view last) ≡ graph.seq (node_view x) (row (map node_view gs') (node_view last))
row_first gs gs' x last is = ap (λ (z : List Node). row (map node_view z) (node_view last)) is

pub row_last : (gs : List Node) (last : Node) → gs ≡ [] → row (map node_view gs) (node_view last) ≡ node_view last
row_last gs last none = ap (λ (z : List Node). row (map node_view z) (node_view last)) none

-- what they take
pub steps_first : (n : ℕ) (gs gs' : List Node) (x last : Node) → gs ≡ x ∷ gs' →
    row_steps n gs last ≡ suc (node_steps n x) + row_steps n gs' last
steps_first n gs gs' x last is =
    let same : sum_by (λ g. suc (node_steps n g)) gs ≡ suc (node_steps n x) + sum_by (λ g. suc (node_steps n g)) gs' =
    ap (λ (z : List Node). sum_by (λ g. suc (node_steps n g)) z) is ∙ sum_by-cons (λ g. suc (node_steps n g)) x gs' in
    omega (arith, same)

pub steps_last : (n : ℕ) (gs : List Node) (last : Node) → gs ≡ [] → row_steps n gs last ≡ suc (node_steps n last)
steps_last n gs last is =
    let none : sum_by (λ g. suc (node_steps n g)) gs ≡ 0 =
    ap (λ (z : List Node). sum_by (λ g. suc (node_steps n g)) z) is in
    omega (arith, none)

module _ {V H : Type 0} (o : Interference V) (m : Abstraction V H) (set : Plan) where
  pub seq_passed : (a b : graph.Node) (f : Option ℕ) (v : V) (s t : PassResult V) → IsPassed o m set a f v s →
      IsPassed o m set b s.flag s.normal t
      → IsPassed o m set (graph.seq a b) f v (in_turn s t t.normal t.flag)
  seq_passed a b f v s t one two = record {
    pass = (s, t, one.pass, two.pass, refl);
    dims = two.dims ∙ ap (live_after b) one.dims;
    jumps = seq_fits m a b (m.dims v) s t _ t.normal t.flag refl one.jumps
        (subst (λ (n : ℕ). JumpsFit m b n t) one.dims two.jumps);
  }
