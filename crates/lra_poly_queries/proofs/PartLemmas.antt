-- A polyhedron for each list of constraints, one by one; what they say of stores.
use Rattle.std.proofs.Common.{◌≡◌, ℕ, suc, ◌<◌, ◌+◌, List, [], ◌∷◌, ◌++◌, length, take, get_or, ap, sym, ◌∙◌, subst, inl, inr, arith, ℤ, pos}
use Rattle.std.proofs.lemmas.List.Elements.{All-cons, All-nil, Contains-append_left, Contains-append_right}
use Rattle.std.proofs.{lemmas.Int.ints, lemmas.List.take_more}
use Rattle.std.specs.List.{All}
use Rattle.lra_domain.specs.Parts.{SomePartHolds}
use Rattle.lra_poly_queries.specs.Crates.{lra_linear_spec.Descriptions.Con, lra_linear_spec.OperationStrain.FromRowsStrains, lra_linear_spec.Points.IsPoint, lra_linear_spec.Polyhedra.IsPolyhedronOf}
use Rattle.lra_poly_queries.specs.Crates.{lra_linear_spec.Polyhedra.Polyhedron, lra_linear_spec.Strain.Loss, lra_linear_spec.declared.ConKind.ConKind}
use Rattle.lra_poly_queries.proofs.Crates.lra_linear_spec.Membership.{contains_head}
use Rattle.lra_poly.specs.{Outcomes.IfExact, Outcomes.IsOfRows, Outcomes.first_of, declared.outcome.Outcome.Outcome, declared.outcome.Outcome.TheVariants.Exact}
use Rattle.lra_poly.proofs.PolyLemmas.{if_exact}
use Rattle.lra_systems.specs.LinearSystems.{LinearSystem, constraints}
use Rattle.lra_poly_queries.specs.Parted.{AreAround, AreMadeOf, ArePolyhedraOf, SomeHas, SomePartStrains}
use Rattle.lra_poly_queries.proofs.RelatedSets.{two_exact, two_flagged}

-- ---- one more
around_more : (parts : List (LinearSystem ConKind)) (made : List Polyhedron) (part : LinearSystem ConKind) (p : Polyhedron) →
    AreAround parts made → AreAround (part ∷ []) (p ∷ []) → AreAround (parts ++ part ∷ []) (made ++ p ∷ [])
around_more [] [] part p all one = one
around_more [] (q ∷ made) part p all one = absurd all
around_more (r ∷ parts) [] part p all one = absurd all
around_more (r ∷ parts) (q ∷ made) part p all one = (all.0, around_more parts made part p all.1 one)

exact_more : (parts : List (LinearSystem ConKind)) (made : List Polyhedron) (part : LinearSystem ConKind) (p : Polyhedron) →
    ArePolyhedraOf parts made → IsPolyhedronOf part.dims (Con (constraints part)) p →
    ArePolyhedraOf (parts ++ part ∷ []) (made ++ p ∷ [])
exact_more [] [] part p all one = (one, tt)
exact_more [] (q ∷ made) part p all one = absurd all
exact_more (r ∷ parts) [] part p all one = absurd all
exact_more (r ∷ parts) (q ∷ made) part p all one = (all.0, exact_more parts made part p all.1 one)

strains_more : (parts : List (LinearSystem ConKind)) (part : LinearSystem ConKind) (loss : Loss) → SomePartStrains parts loss →
    SomePartStrains (parts ++ part ∷ []) loss
strains_more parts part loss s = record {
  part = s.part;
  has_part = Contains-append_left parts (part ∷ []) s.part s.has_part;
  strains = s.strains;
}

strains_last : (parts : List (LinearSystem ConKind)) (part : LinearSystem ConKind) (loss : Loss) →
    FromRowsStrains part.dims (constraints part) loss → SomePartStrains (parts ++ part ∷ []) loss
strains_last parts part loss s = record {
  part = part;
  has_part = Contains-append_right parts (part ∷ []) part (contains_head part []);
  strains = s;
}

made_more : (parts : List (LinearSystem ConKind)) (made : List Polyhedron) (part : LinearSystem ConKind) (p : Polyhedron)
    (o told : Outcome) → AreMadeOf parts made o → IsOfRows part.dims (constraints part) p told →
    AreMadeOf (parts ++ part ∷ []) (made ++ p ∷ []) (first_of o told)
made_more parts made part p o told s b = record {
  around = around_more parts made part p s.around ((b.dims, b.within), tt);
  exact = two_exact (ArePolyhedraOf parts made) (IsPolyhedronOf part.dims (Con (constraints part)) p)
      (ArePolyhedraOf (parts ++ part ∷ []) (made ++ p ∷ [])) (exact_more parts made part p) o told s.exact b.exact;
  flagged = two_flagged (ArePolyhedraOf parts made) (SomePartStrains parts)
      (FromRowsStrains part.dims (constraints part)) (SomePartStrains (parts ++ part ∷ []))
      (strains_more parts part) (λ loss is. strains_last parts part loss) o told s.exact s.flagged b.flagged;
}

pub made_first : (made : List Polyhedron) → made ≡ [] → AreMadeOf [] made Exact
made_first made e = subst (λ (l : List Polyhedron). AreMadeOf [] l Exact) (sym e)
    (record { around = tt; exact = tt; flagged = tt })

pub one_made : (front more : List (LinearSystem ConKind)) (made new : List Polyhedron) (part : LinearSystem ConKind)
    (p : Polyhedron) (o told all : Outcome) → more ≡ front ++ part ∷ [] → new ≡ made ++ p ∷ [] → all ≡ first_of o told →
    AreMadeOf front made o → IsOfRows part.dims (constraints part) p told → AreMadeOf more new all
one_made front more made new part p o told all em en ea s b =
    subst (AreMadeOf more new) (sym ea)
    (subst (λ (l : List Polyhedron). AreMadeOf more l (first_of o told)) (sym en)
    (subst (λ (l : List (LinearSystem ConKind)). AreMadeOf l (made ++ p ∷ []) (first_of o told)) (sym em)
    (made_more front made part p o told s b)))

pub part_more : (parts : List (LinearSystem ConKind)) (i : ℕ) (part : LinearSystem ConKind) → i < length parts →
    part ≡ get_or parts i part → take (i + 1) parts ≡ take i parts ++ part ∷ []
part_more parts i part h e =
    take_more parts i part h ∙ ap (λ (l : LinearSystem ConKind). take i parts ++ l ∷ []) (sym e)

-- ---- of one number of dimensions
pub dims_of : (n : ℕ) (parts : List (LinearSystem ConKind)) (made : List Polyhedron) → AreAround parts made →
    All (λ part. part.dims ≡ n) parts → All (λ p. p.dims ≡ n) made
dims_of n [] [] a all = All-nil (λ p. p.dims ≡ n)
dims_of n [] (p ∷ made) a all = absurd a
dims_of n (part ∷ parts) [] a all = absurd a
dims_of n (part ∷ parts) (p ∷ made) a all = All-cons (λ q. q.dims ≡ n) p made (a.0.0 ∙ all 0 part (omega arith))
    (dims_of n parts made a.1 (λ k d l. all (suc k) d (omega (arith, l))))

-- ---- stores
store : (n m : ℕ) (s : List ℤ) → length s ≡ n → m ≡ n → IsPoint m (pos 1 ∷ s)
store n m s w e = record { width = ap suc (w ∙ sym e); divisor = omega (arith, ints) }

pub some_has : (n : ℕ) (parts : List (LinearSystem ConKind)) (made : List Polyhedron) (s : List ℤ) →
    All (λ part. part.dims ≡ n) parts → length s ≡ n → AreAround parts made → SomePartHolds parts s → SomeHas made s
some_has n [] made s all w a h = absurd h
some_has n (part ∷ parts) [] s all w a h = absurd a
some_has n (part ∷ parts) (p ∷ made) s all w a (inl here) =
    inl (a.0.1 (pos 1 ∷ s) (store n part.dims s w (all 0 part (omega arith))) here)
some_has n (part ∷ parts) (p ∷ made) s all w a (inr later) =
    inr (some_has n parts made s (λ k d l. all (suc k) d (omega (arith, l))) w a.1 later)

some_holds : (n : ℕ) (parts : List (LinearSystem ConKind)) (made : List Polyhedron) (s : List ℤ) →
    All (λ part. part.dims ≡ n) parts → length s ≡ n → ArePolyhedraOf parts made → SomeHas made s →
    SomePartHolds parts s
some_holds n parts [] s all w a h = absurd h
some_holds n [] (p ∷ made) s all w a h = absurd a
some_holds n (part ∷ parts) (p ∷ made) s all w a (inl here) =
    inl (a.0.points.1 (pos 1 ∷ s) (store n part.dims s w (all 0 part (omega arith))) here)
some_holds n (part ∷ parts) (p ∷ made) s all w a (inr later) =
    inr (some_holds n parts made s (λ k d l. all (suc k) d (omega (arith, l))) w a.1 later)

-- ---- as the code states it
pub made_of : (parts own : List (LinearSystem ConKind)) (made : List Polyhedron) (o : Outcome) → parts ≡ own →
    AreMadeOf parts made o → AreMadeOf own made o
made_of parts own made o e = subst (λ (l : List (LinearSystem ConKind)). AreMadeOf l made o) e

pub stores_back : (n : ℕ) (parts own : List (LinearSystem ConKind)) (made : List Polyhedron) (o : Outcome) → parts ≡ own →
    All (λ part. part.dims ≡ n) parts → AreMadeOf parts made o →
    IfExact ((s : List ℤ) → length s ≡ n → SomeHas made s → SomePartHolds own s) o
stores_back n parts own made o e all s =
    subst (λ (l : List (LinearSystem ConKind)). IfExact ((t : List ℤ) → length t ≡ n → SomeHas made t → SomePartHolds l t) o) e
    (if_exact (ArePolyhedraOf parts made) ((t : List ℤ) → length t ≡ n → SomeHas made t → SomePartHolds parts t) o
    (λ exact t w h. some_holds n parts made t all w exact h) s.exact)
