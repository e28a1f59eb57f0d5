-- Points with their calls written out, in the order of their numbers.
use Rattle.std.proofs.Common.{◌≡◌, ℕ, List, [], ◌∷◌, true, false, refl}
use Rattle.std.specs.Prelude.{map}
use Rattle.lra_syntax.specs.Labels.{labels_of}
use Rattle.lra_resolution_spec.specs.Resolve.{resolve}
use Rattle.lra_program.specs.Sites.{Site, sites_of}
use Rattle.lra_syntax.proofs.TreeSamples.{at, called_twice, call_in_step}

abbrev pub site : List ℕ → ℕ → ℕ → Site
site path at live = record { path = path; label = at; live = live; asserts = false }

-- long inc(long x){ x=x+1; return x; } int main(void){ long x=inc(1); x=inc(x); assert(x==3); }
-- catches a declarator whose own variable doesn't live in its call, and a callee's points after all of the caller's
called_twice_sites : sites_of (resolve called_twice) ≡
    site [] 4 0 ∷ site (4 ∷ []) 1 2 ∷ site (4 ∷ []) 2 2 ∷ site (4 ∷ []) 3 2
    ∷ site [] 5 1 ∷ site (5 ∷ []) 1 2 ∷ site (5 ∷ []) 2 2 ∷ site (5 ∷ []) 3 2
    ∷ record { path = []; label = 6; live = 1; asserts = true } ∷ site [] 7 1 ∷ []
called_twice_sites = refl

-- long k(long d){ return d+1; } long h(long a){ for(long i=0;i<a;i=k(i)) ; return k(a); } int main(void){ long m=h(2); }
-- the places of its labels
call_in_step_places : map (λ l. l.place.column) (labels_of call_in_step) ≡ 17 ∷ 29 ∷ 47 ∷ 56 ∷ 64 ∷ 72 ∷ 74 ∷ 87 ∷ 110 ∷ 118 ∷ []
call_in_step_places = refl

-- catches a `for` after its declarator, a step after the body, and a callee's points that stand once for both calls or
-- after all of the caller's
call_in_step_sites : sites_of (resolve call_in_step) ≡
    site [] 9 0 ∷ site (9 ∷ []) 3 3 ∷ site (9 ∷ []) 4 2 ∷ site (9 ∷ []) 5 3 ∷ site (5 ∷ 9 ∷ []) 1 4 ∷ site (5 ∷ 9 ∷ []) 2 4
    ∷ site (9 ∷ []) 6 3 ∷ site (9 ∷ []) 7 2 ∷ site (7 ∷ 9 ∷ []) 1 3 ∷ site (7 ∷ 9 ∷ []) 2 3 ∷ site (9 ∷ []) 8 2 ∷ site [] 10 1 ∷ []
call_in_step_sites = refl
