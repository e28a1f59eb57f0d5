-- Lists of which something is found for each, and written.
use Rattle.std.specs.{List.AllZip, Prelude.◌≡◌, Prelude.◌++◌, Prelude.ℕ, Prelude.List, Prelude.[], Prelude.◌∷◌}

-- this is so of one of the list, and to each before it there is one of the second
pub record Stops {A B : Type 0} (Is : A → B → Type 0) (Bad : A → Type 0) (xs : List A) (x : A) : Type 0 where
  pub before : List A
  pub behind : List A
  pub is : xs ≡ before ++ x ∷ behind
  pub found : List B
  pub are : AllZip Is before found
  pub bad : Bad x

-- text of each, and what was found of it
abbrev pub each_text : {A B : Type 0} → (A → B → List ℕ) → List A → List B → List ℕ
each_text show [] ys = []
each_text show (x ∷ xs) [] = []
each_text show (x ∷ xs) (y ∷ ys) = show x y ++ each_text show xs ys

-- what has been found of each has come after a text
pub record AddsEach {A B : Type 0} (Is : A → B → Type 0) (show : A → B → List ℕ) (xs : List A) (old new : List ℕ)
    : Type 0 where
  pub found : List B
  pub are : AllZip Is xs found
  pub text : new ≡ old ++ each_text show xs found

-- from here on what is left of the list is still to be written
pub record IsLeft {A B : Type 0} (Is : A → B → Type 0) (Bad : A → Type 0) (show : A → B → List ℕ) (rest all : List A)
    (now start : List ℕ) : Type 0 where
  pub adds : (end : List ℕ) → AddsEach Is show rest now end → AddsEach Is show all start end
  pub stops : (x : A) → Stops Is Bad rest x → Stops Is Bad all x
