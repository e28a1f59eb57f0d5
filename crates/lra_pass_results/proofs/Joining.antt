-- Values that are joined one by one.
use Rattle.std.proofs.Common.{◌≡◌, ℕ, ◌<◌, ◌≤◌, ◌+◌, List, [], ◌∷◌, length, drop, get_or, suc, add-one, drop-cons, refl, sym, ap, subst, ◌∙◌}
use Rattle.std.proofs.lemmas.List.{drop_all}
use Rattle.lra_pass_results.specs.Crates.{lra_analysis_spec.Operations.lossy_operations, lra_analysis_spec.Pass.AreJoined, lra_domain.Abstraction.Abstraction, lra_domain.Abstraction.worse}
use Rattle.lra_pass_results.specs.Crates.{lra_domain.declared.Exactness.Exactness, lra_domain.declared.Exactness.TheVariants.Exact, lra_domain.declared.Exactness.TheVariants.Flagged}
use Rattle.lra_pass_results.proofs.Crates.lra_domain.WorseLaws.{worse_behind}
use Rattle.lra_pass_results.specs.Outcome.{AllHave}

-- however those that are left are joined to what is joined so far, all are
pub record JoinLoop {V H : Type 0} (m : Abstraction V H) (first : V) (all rest : List V) (so_far : Exactness) (now : V)
    : Type 0 where
  pub dims : m.dims now ≡ m.dims first
  pub have : AllHave m (m.dims first) rest
  pub joins : (e : Exactness) (w : V) → AreJoined (lossy_operations m) now rest e w →
      AreJoined (lossy_operations m) first all (worse so_far e) w

-- the next, and those after it
item_at : {X : Type 0} (xs : List X) (i : ℕ) (x : X) → i < length xs → x ≡ get_or xs i x → drop i xs ≡ x ∷ drop (i + 1) xs
item_at {X} xs i x below at = drop-cons xs i x below ∙ ap (λ (y : X). y ∷ drop (suc i) xs) (sym at) ∙ rw add-one refl

worse_exact : (e : Exactness) → worse e Exact ≡ e
worse_exact Exact = refl
worse_exact Flagged = refl

module _ {V H : Type 0} (m : Abstraction V H) where
  pub join_starts : (first : V) (all : List V) → AllHave m (m.dims first) all → JoinLoop m first all all Exact first
  join_starts first all have = record { dims = refl; have = have; joins = λ e w joined. joined }

  join_step : (first now new u : V) (all rest : List V) (so_far one : Exactness) →
      JoinLoop m first all (u ∷ rest) so_far now → (lossy_operations m).joined now u one new → m.dims new ≡ m.dims now →
      JoinLoop m first all rest (worse so_far one) new
  join_step first now new u all rest so_far one loop joined dims = record {
    dims = dims ∙ loop.dims;
    have = loop.have.1;
    joins = λ e w more. subst (λ (x : Exactness). AreJoined (lossy_operations m) first all x w) (worse_behind so_far one e)
        (loop.joins (worse one e) w (new, one, e, joined, more, refl));
  }

  module _ (first now : V) (all : List V) (i : ℕ) (so_far : Exactness)
      (loop : JoinLoop m first all (drop i all) so_far now) where
    -- the next has as many dimensions
    pub join_wide : (u : V) → i < length all → u ≡ get_or all i u → m.dims now ≡ m.dims u
    join_wide u below at =
        let have : AllHave m (m.dims first) (u ∷ drop (i + 1) all) =
        subst (λ (xs : List V). AllHave m (m.dims first) xs) (item_at all i u below at) loop.have in
        loop.dims ∙ sym have.0

    pub join_next : (u new : V) (one after : Exactness) → i < length all → u ≡ get_or all i u →
        (lossy_operations m).joined now u one new → m.dims new ≡ m.dims now → after ≡ worse so_far one →
        JoinLoop m first all (drop (i + 1) all) after new
    join_next u new one after below at joined dims is =
        subst (λ (x : Exactness). JoinLoop m first all (drop (i + 1) all) x new) (sym is)
        (join_step first now new u all (drop (i + 1) all) so_far one
        (subst (λ (xs : List V). JoinLoop m first all xs so_far now) (item_at all i u below at) loop) joined dims)

    pub join_ends : length all ≤ i → AreJoined (lossy_operations m) first all so_far now
    join_ends beyond =
        let done : JoinLoop m first all [] so_far now =
        subst (λ (xs : List V). JoinLoop m first all xs so_far now) (drop_all i all beyond) loop in
        subst (λ (x : Exactness). AreJoined (lossy_operations m) first all x now) (worse_exact so_far)
        (done.joins Exact now (refl, refl))
