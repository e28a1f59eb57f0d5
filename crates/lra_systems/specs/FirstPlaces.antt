-- The first member of a list that is other than those before it.
use Rattle.std.specs.{List.All, Prelude.◌≡◌, Prelude.ℕ, Prelude.List, Prelude.◌∷◌, Prelude.◌++◌, Prelude.length}

-- the member at the place, counted from 0, is as stated, and each before it is otherwise
pub record FirstAt {A : Type 0} (Before Here : A → Type 0) (list : List A) (place : ℕ) : Type 0 where
  pub earlier : List A
  pub member : A
  pub later : List A
  pub is : list ≡ earlier ++ member ∷ later
  pub at : length earlier ≡ place
  pub before : All Before earlier
  pub here : Here member
