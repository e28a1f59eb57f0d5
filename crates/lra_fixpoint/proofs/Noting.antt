-- Notes are what variables got, in the order in which it is found.
use Rattle.std.proofs.Common.{◌≡◌, ℕ, List, [], ◌∷◌, ◌++◌, map, inl, inr, sym, ap, refl, ◌∙◌, subst}
use Rattle.std.proofs.lemmas.List.{append-nil, map-append}
use Rattle.std.specs.{List.Contains, Prelude.◌↔◌}
use Rattle.lra_fixpoint.proofs.Crates.lra_linear_spec.Membership.{contains_none, contains_head, contains_tail, contains_cases}
use Rattle.lra_fixpoint.specs.Crates.lra_analysis_spec.Pass.{PassEntry, value, failing, recorded}
use Rattle.lra_pass_results.specs.declared.outcome.PassEntry as entry
use Rattle.lra_pass_results.specs.{Outcome.entry_view, declared.outcome.PassEntry.TheVariants.Value, declared.outcome.PassEntry.TheVariants.Failing, declared.outcome.PassEntry.TheVariants.Recorded}
use Rattle.lra_fixpoint.specs.{Tables.note_view, Tables.notes_in, declared.tables.Note.Note}

module _ {V : Type 0} where
  notes_append : (xs ys : List (PassEntry V)) → notes_in (xs ++ ys) ≡ notes_in xs ++ notes_in ys
  notes_append [] ys = refl
  notes_append (value q v ∷ xs) ys = notes_append xs ys
  notes_append (failing q v ∷ xs) ys = notes_append xs ys
  notes_append (recorded q place v ∷ xs) ys = ap (λ (ns : List (ℕ × ℕ × V)). (q, place, v) ∷ ns) (notes_append xs ys)

  -- one entry more
  module _ (front : List (entry.PassEntry V)) (x : entry.PassEntry V) (notes : List (Note V))
      (so_far : map (note_view {V = V}) notes ≡ notes_in (map (entry_view {V = V}) front)) where
    notes_more : (more : List (ℕ × ℕ × V)) → notes_in (entry_view x ∷ []) ≡ more →
        map (note_view {V = V}) notes ++ more ≡ notes_in (map (entry_view {V = V}) (front ++ x ∷ []))
    notes_more more is =
        ap (λ (ns : List (ℕ × ℕ × V)). map (note_view {V = V}) notes ++ ns) (sym is)
        ∙ ap (λ (ns : List (ℕ × ℕ × V)). ns ++ notes_in (entry_view x ∷ [])) so_far
        ∙ sym (notes_append (map (entry_view {V = V}) front) (entry_view x ∷ []))
        ∙ ap (notes_in {V = V}) (sym (map-append (entry_view {V = V}) front (x ∷ [])))

    pub value_unnoted : (p : ℕ) (v : V) → x ≡ Value p v →
        map (note_view {V = V}) notes ≡ notes_in (map (entry_view {V = V}) (front ++ x ∷ []))
    value_unnoted p v is = sym (append-nil (map (note_view {V = V}) notes))
        ∙ notes_more [] (ap (λ (y : entry.PassEntry V). notes_in (entry_view y ∷ [])) is)

    pub failing_unnoted : (p : ℕ) (v : V) → x ≡ Failing p v →
        map (note_view {V = V}) notes ≡ notes_in (map (entry_view {V = V}) (front ++ x ∷ []))
    failing_unnoted p v is = sym (append-nil (map (note_view {V = V}) notes))
        ∙ notes_more [] (ap (λ (y : entry.PassEntry V). notes_in (entry_view y ∷ [])) is)

    pub given_noted : (n : Note V) → x ≡ Recorded n.point n.variable n.value →
        map (note_view {V = V}) (notes ++ n ∷ []) ≡ notes_in (map (entry_view {V = V}) (front ++ x ∷ []))
    given_noted n is = map-append (note_view {V = V}) notes (n ∷ [])
        ∙ notes_more (note_view n ∷ []) (ap (λ (y : entry.PassEntry V). notes_in (entry_view y ∷ [])) is)

  value_differs : (p q place : ℕ) (u v : V) → (let a : PassEntry V = value p u in a) ≡ recorded q place v → ⊥
  value_differs p q place u v e = cc

  failing_differs : (p q place : ℕ) (u v : V) → (let a : PassEntry V = failing p u in a) ≡ recorded q place v → ⊥
  failing_differs p q place u v e = cc

  module _ (q place : ℕ) (v : V) where
    entry_there : (xs : List (PassEntry V)) → Contains (notes_in xs) (q, place, v) → Contains xs (recorded q place v)
    entry_there [] h = absurd (contains_none (q, place, v) h)
    entry_there (value p u ∷ xs) h = contains_tail (value p u) (recorded q place v) xs (entry_there xs h)
    entry_there (failing p u ∷ xs) h = contains_tail (failing p u) (recorded q place v) xs (entry_there xs h)
    entry_there (recorded p x u ∷ xs) h = elim (contains_cases (p, x, u) (q, place, v) (notes_in xs) h) [
      | inl e ↦ subst (λ (n : ℕ × ℕ × V). Contains (recorded p x u ∷ xs) (recorded n.0 n.1 n.2)) e (contains_head (recorded p x u) xs)
      | inr i ↦ contains_tail (recorded p x u) (recorded q place v) xs (entry_there xs i)
    ]

    note_there : (xs : List (PassEntry V)) → Contains xs (recorded q place v) → Contains (notes_in xs) (q, place, v)
    note_there [] h = absurd (contains_none (recorded q place v) h)
    note_there (value p u ∷ xs) h = elim (contains_cases (value p u) (recorded q place v) xs h) [
      | inl e ↦ absurd (value_differs p q place u v e)
      | inr i ↦ note_there xs i
    ]
    note_there (failing p u ∷ xs) h = elim (contains_cases (failing p u) (recorded q place v) xs h) [
      | inl e ↦ absurd (failing_differs p q place u v e)
      | inr i ↦ note_there xs i
    ]
    note_there (recorded p x u ∷ xs) h = elim (contains_cases (recorded p x u) (recorded q place v) xs h) [
      | inl e ↦ subst (λ (y : PassEntry V). Contains (notes_in (y ∷ xs)) (q, place, v)) (sym e) (contains_head (q, place, v) (notes_in xs))
      | inr i ↦ contains_tail (p, x, u) (q, place, v) (notes_in xs) (note_there xs i)
    ]

  -- a note is there for each such entry, and for no other
  pub all_noted : (xs : List (PassEntry V)) (notes : List (ℕ × ℕ × V)) → notes ≡ notes_in xs → (q place : ℕ) (v : V) →
      Contains notes (q, place, v) ↔ Contains xs (recorded q place v)
  all_noted xs notes is q place v = (
    λ h. entry_there q place v xs (subst (λ (ns : List (ℕ × ℕ × V)). Contains ns (q, place, v)) is h),
    λ h. subst (λ (ns : List (ℕ × ℕ × V)). Contains ns (q, place, v)) (sym is) (note_there q place v xs h),
  )
