-- Lists of changes, made one after the other.
use Rattle.std.proofs.Common.{◌≡◌, List, ◌∷◌, ℤ, subst, sym}
use Rattle.lra_domain.specs.Abstraction.{Abstraction, TransfersTo, worse}
use Rattle.lra_domain.specs.{Changes.TransfersAllTo, Changes.action_of, Changes.actions_of, Gammas.InGamma, Laws.Laws, Moves.LeadsAll, declared.Exactness.Exactness, declared.changes.Change.Change}

pub all_kept : {V H : Type 0} (m : Abstraction V H) → Laws m → (all : List Change) (first : Change) (later : List Change) (old between new : V) (a : Exactness)
    → all ≡ first ∷ later → TransfersTo m (action_of first) old a between
    → ((s t : List ℤ) → InGamma m between s → LeadsAll (actions_of later) s t → InGamma m new t)
    → (s t : List ℤ) → InGamma m old s → LeadsAll (actions_of all) s t → InGamma m new t
all_kept m laws all first later old between new a cut one more =
    subst (λ (cs : List Change). (s t : List ℤ) → InGamma m old s → LeadsAll (actions_of cs) s t → InGamma m new t) (sym cut)
    (λ s t h led. more led.0 t (one.formed, laws.kept_stores (action_of first) old between h.0 one.formed one.keeps s led.0 h.1 led.1) led.2)

pub all_meet : {V H : Type 0} (m : Abstraction V H) (all : List Change) (first : Change) (later : List Change) (old between new : V) (b c a : Exactness)
    → all ≡ first ∷ later → TransfersTo m (action_of first) old b between → TransfersAllTo m (actions_of later) between c new → a ≡ worse b c
    → TransfersAllTo m (actions_of all) old a new
all_meet m all first later old between new b c a cut one more is =
    subst (λ (cs : List Change). TransfersAllTo m (actions_of cs) old a new) (sym cut) (between, b, c, one, more, is)
