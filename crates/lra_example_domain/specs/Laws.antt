-- The laws of gauges.
use Rattle.std.proofs.Common.{◌≡◌, ℕ, zero, suc, max, ◌<◌, ◌≤◌, ℤ, List, [], length, refl, sym, subst, ◌∙◌, arith}
use Rattle.std.proofs.Common.{Option, None, pos, replicate}
use Rattle.std.proofs.{Math.Nat.max-le, lemmas.List.length-replicate}
use Rattle.lra_domain.specs.{Actions.Within, Bounds.IsBetween, Laws.Laws, Laws.BaseLaws}
use Rattle.lra_example_domain.specs.Crates.lra_linear_forms.Form.{form_value}
use Rattle.lra_example_domain.specs.Abstraction.{ExampleGamma, Under, IsExample, example_parts, example_abstraction}
use Rattle.lra_example_domain.specs.{Bounds.unbounded, declared.example.ExampleDomain.ExampleDomain}

under_has : (a b : ExampleDomain) → Under a b → Within (ExampleGamma a) (ExampleGamma b)
under_has a b u s h = let more = u.1 in let some = h.1 in (h.0 ∙ u.0, omega arith)

whole_has : (n : ℕ) (v : ExampleDomain) → IsExample n unbounded v → (s : List ℤ) → length s ≡ n → ExampleGamma v s
whole_has n v is s long = let all = is.1 in (long ∙ sym is.0, omega arith)

none_has : (n : ℕ) (v : ExampleDomain) → IsExample n 0 v → (s : List ℤ) → ¬ ExampleGamma v s
none_has n v is s h = let none = is.1 in let some = h.1 in omega arith

partless_has : (n bound : ℕ) → example_parts n bound ≡ [] → ¬ (0 < bound)
partless_has n zero e h = omega arith
partless_has n (suc bound) e h = cc

one_gauge_part : (n bound : ℕ) → length (example_parts n bound) ≤ 1
one_gauge_part n zero = omega arith
one_gauge_part n (suc bound) = omega arith

few_parts : (v : ExampleDomain) (c : ℕ) → 1 ≤ c → length (example_parts v.dims v.bound) ≤ c
few_parts v c some = let one = one_gauge_part v.dims v.bound in omega arith

the_gauge : (n bound : ℕ) (v : ExampleDomain) → IsExample n bound v → v ≡ record { dims = n; bound = bound }
the_gauge n bound v is = rw (← is.0, ← is.1) refl

same_gauge : (n bound : ℕ) (v w : ExampleDomain) → IsExample n bound v → IsExample n bound w → v ≡ w
same_gauge n bound v w is so = the_gauge n bound v is ∙ sym (the_gauge n bound w so)

partless_under : (n k a b : ℕ) → a ≤ b → example_parts k b ≡ [] → example_parts n a ≡ []
partless_under n k zero b u e = refl
partless_under n k (suc a) zero u e = absurd (omega arith)
partless_under n k (suc a) (suc b) u e = cc

nothing_told : (z : ℤ) (l h : Option ℤ) → (l ≡ None) × (h ≡ None) → IsBetween l h z
nothing_told z l h is =
    subst (λ (x : Option ℤ). IsBetween x h z) (sym is.0)
    (subst (λ (x : Option ℤ). IsBetween None x z) (sym is.1) (tt, tt))

pub example_laws : Laws example_abstraction
example_laws = record {
  sized = λ v s fine h. h.0;
  head_sized = λ h s fine own. own.0;
  top_dims = λ n cap v is. is.0;
  top_stores = λ n cap v fine is s long. whole_has n v is s long;
  bottom_dims = λ n cap v is. is.0;
  bottom_stores = λ n cap v fine is s h. none_has n v is s h;
  capped_parts = λ v c some. few_parts v c some;
  top_capped = λ n cap v some is. some;
  bottom_capped = λ n cap v some is. some;
  partless = λ v fine e s h. partless_has v.dims v.bound e h.1;
  bounded_stores = λ v f l h s fine wide is has. nothing_told (form_value f s) l h is;
  one_bounded = λ v f l h j k fine is so. (is.0 ∙ sym so.0, is.1 ∙ sym so.1);
  bounded_partless = λ v f l h fine e is. is;
  leq_stores = λ a b fine too u. under_has a b u;
  head_leq_stores = λ a b fine too u. under_has a b u;
  kept_stores = λ step v w fine too k. k;
  old_stores = λ old next new fine too k. k.0;
  next_stores = λ old next new fine too k. k.1;
  stays_stores = λ h v mode fine too u. under_has v h u;
  answers_yes = λ h v mode u. u;
  answers_no = λ h v mode u. u;
  given_up_stores = λ old mode new fine too is s long. whole_has old.dims new is s long;
  given_up_valued = λ old mode new fine too is. (new, refl);
  given_up_value = λ old mode new v fine too is e.
      (1, subst (λ (g : ExampleDomain). IsExample old.dims unbounded g) (sym e) is);
}

-- what has all stores has its own one
none_left : (n : ℕ) (v : ExampleDomain) → IsExample n unbounded v → example_parts v.dims v.bound ≡ [] → ⊥
none_left n v is e = partless_has v.dims v.bound e
    (whole_has n v is (replicate n (pos 0)) (length-replicate n (pos 0))).1

under_refl : (a : ExampleDomain) → Under a a
under_refl a = (refl, omega arith)

under_trans : (a b c : ExampleDomain) → Under a b → Under b c → Under a c
under_trans a b c u v = let one = u.1 in let two = v.1 in (u.0 ∙ v.0, omega arith)

joined_under : (a b j c : ExampleDomain) → example_abstraction.joined a b j → Under a c → Under b c → Under j c
joined_under a b j c is u v = (is.0 ∙ u.0, subst (λ (n : ℕ). n ≤ c.bound) (sym is.1) (max-le u.1 v.1))

same_under : (a b : ExampleDomain) → a ≡ b → Under a b
same_under a b e = subst (λ (c : ExampleDomain). Under a c) e (under_refl a)

pub example_base : BaseLaws example_abstraction
example_base = record {
  one_part = λ v. one_gauge_part v.dims v.bound;
  one_top = λ n c d v w is so. same_gauge n unbounded v w is so;
  one_joined = λ a b v w is so. same_gauge a.dims (max a.bound b.bound) v w is so;
  one_started = λ v given g h e f. e ∙ sym f;
  one_valued = λ h v w e f. e ∙ sym f;
  leq_reflexive = under_refl;
  leq_transitive = under_trans;
  included_leq = λ a b. (λ u. u, λ u. u);
  partless_leq = λ a b u e. partless_under a.dims b.dims a.bound b.bound u.1 e;
  joined_covered = joined_under;
  stays_covered = λ h a b mode u v. under_trans a b h u v;
  stays_joined = λ h a b j mode is u v. joined_under a b j h is u v;
  stays_value = λ h v mode e. same_under v h e;
  stays_started = λ h v given mode e. same_under v h (sym e);
  started_formed = λ h v given e fine. tt;
  universal_filled = λ n cap v is e. none_left n v is e;
  started_stores = λ h v given e. under_has h v (same_under h v e);
  rank_first = λ h. refl;
}
