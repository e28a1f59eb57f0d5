-- What forgetting, embedding and removal keep.
use Rattle.std.proofs.Common.{◌≡◌, ℕ, zero, suc, ◌+◌, ◌-◌, ◌≤◌, ℤ, List, [], ◌∷◌, ◌++◌, length, take, replicate, Option, None, Some, refl, ap, ◌∙◌, arith, length-append}
use Rattle.std.proofs.Math.ListN.{length-set}
use Rattle.std.specs.Prelude.{slice_set}
use Rattle.lra_box.specs.{Bounds.InBounds, Bounds.full_interval, Content.BoundsFit, Content.BoundsAreValid, Covering.in_open, Tables.has_bounds, Tables.on_bounds, declared.interval.Interval.Interval}
use Rattle.lra_box.proofs.{BoxLemmas.in_length, SoundLemmas.set_sound, SoundLemmas.open_sound, SoundLemmas.take_sound, SoundLemmas.append_sound, SoundLemmas.open_all_sound}

pub set_fit : (n x : ℕ) (i : Interval) (b : Option (List Interval)) → BoundsFit n b → BoundsFit n (on_bounds (λ is. slice_set is x i) b)
set_fit n x i None f = tt
set_fit n x i (Some is) f = length-set {A = Interval} is x i ∙ f

pub forgotten_sound : (x : ℕ) (b : Option (List Interval)) → BoundsAreValid b → BoundsAreValid (on_bounds (λ is. slice_set is x full_interval) b)
forgotten_sound x None h = tt
forgotten_sound x (Some is) h = set_sound is x full_interval h open_sound

pub length_copies : (n : ℕ) → length (replicate n full_interval) ≡ n
length_copies zero = refl
length_copies (suc n) = omega (arith, length_copies n)

pub embedded_fit : (n k : ℕ) (b : Option (List Interval)) → BoundsFit n b → BoundsFit (n + k) (on_bounds (λ is. is ++ replicate k full_interval) b)
embedded_fit n k None f = tt
embedded_fit n k (Some is) f = let l = length-append is (replicate k full_interval) in let c = length_copies k in omega arith

pub embedded_sound : (k : ℕ) (b : Option (List Interval)) → BoundsAreValid b → BoundsAreValid (on_bounds (λ is. is ++ replicate k full_interval) b)
embedded_sound k None h = tt
embedded_sound k (Some is) h = append_sound is (replicate k full_interval) h (open_all_sound k)

in_append : (is js : List Interval) (s t : List ℤ) → InBounds is s → InBounds js t → InBounds (is ++ js) (s ++ t)
in_append [] js [] t h k = k
in_append [] js (x ∷ xs) t h k = absurd h
in_append (i ∷ is) js [] t h k = absurd h
in_append (i ∷ is) js (x ∷ xs) t h k = (h.0, in_append is js xs t h.1 k)

pub has_embedded : (k : ℕ) (b : Option (List Interval)) (s added : List ℤ) → length added ≡ k → has_bounds b s → has_bounds (on_bounds (λ is. is ++ replicate k full_interval) b) (s ++ added)
has_embedded k None s added e h = h
has_embedded k (Some is) s added e h = in_append is (replicate k full_interval) s added h (in_open added k e)

length_taken : (m : ℕ) (is : List Interval) → m ≤ length is → length (take m is) ≡ m
length_taken zero is h = refl
length_taken (suc m) [] h = absurd (omega arith)
length_taken (suc m) (i ∷ is) h = omega (arith, length_taken m is (omega arith))

pub taken_fit : (n m : ℕ) (b : Option (List Interval)) → m ≤ n → BoundsFit n b → BoundsFit m (on_bounds (λ is. take m is) b)
taken_fit n m None l f = tt
taken_fit n m (Some is) l f = length_taken m is (omega arith)

pub taken_sound : (m : ℕ) (b : Option (List Interval)) → BoundsAreValid b → BoundsAreValid (on_bounds (λ is. take m is) b)
taken_sound m None h = tt
taken_sound m (Some is) h = take_sound m is h

in_take : (m : ℕ) (is : List Interval) (s : List ℤ) → InBounds is s → InBounds (take m is) (take m s)
in_take zero is s h = tt
in_take (suc m) [] [] h = tt
in_take (suc m) [] (x ∷ xs) h = absurd h
in_take (suc m) (i ∷ is) [] h = absurd h
in_take (suc m) (i ∷ is) (x ∷ xs) h = (h.0, in_take m is xs h.1)

-- the length of a store is the number of dimensions
pub has_length : (n : ℕ) (b : Option (List Interval)) (s : List ℤ) → BoundsFit n b → has_bounds b s → length s ≡ n
has_length n None s f h = absurd h
has_length n (Some is) s f h = in_length is s h ∙ f

pub taken_length : (n k : ℕ) (s : List ℤ) → length s ≡ n → length (take (length s - k) s) ≡ n - k
taken_length n k s e = cut (length s - k) s (omega arith) ∙ ap (λ (j : ℕ). j - k) e
  where
    cut : (j : ℕ) (t : List ℤ) → j ≤ length t → length (take j t) ≡ j
    cut zero t h = refl
    cut (suc j) [] h = absurd (omega arith)
    cut (suc j) (x ∷ t) h = omega (arith, cut j t (omega arith))

pub has_taken : (n k : ℕ) (b : Option (List Interval)) (s : List ℤ) → BoundsFit n b → has_bounds b s → has_bounds (on_bounds (λ is. take (n - k) is) b) (take (length s - k) s)
has_taken n k b s f h = rw (has_length n b s f h) (taken b h)
  where
    taken : (b : Option (List Interval)) → has_bounds b s → has_bounds (on_bounds (λ is. take (n - k) is) b) (take (n - k) s)
    taken None h = h
    taken (Some is) h = in_take (n - k) is s h
