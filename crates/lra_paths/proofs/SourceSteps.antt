-- Paths to one goal, segment by segment.
use Rattle.std.proofs.Common.{◌≡◌, ◌≤◌, ◌<◌, ℕ, suc, ◌+◌, List, [], ◌∷◌, ◌++◌, length, take, sym, ap, ◌∙◌, arith, append-nil, get_or, length-append, Bool, true, false, cond, subst, refl, inl, inr}
use Rattle.std.proofs.{Common.◌⊎◌, Math.Seq.take-suc, lemmas.Bool.cases_lt, lemmas.Bool.eqb-true, lemmas.Grind.flat_map-append, lemmas.List.take_all, lemmas.List.Folds.length-flat_map-take}
use Rattle.lra_paths.specs.Crates.lra_path_segments.Segments.{Goal, comes_to, violates}
use Rattle.lra_paths.specs.Crates.{lra_domain.Actions.Action, lra_path_segments.TreeSegmentViews.goal_view}
use Rattle.lra_path_disjuncts.specs.{Disjuncts.disjuncts, Disjuncts.greatest_paths, Tables.capped, Tables.moves_at, declared.tables.MovesEntry.MovesEntry}
use Rattle.lra_paths.specs.{Paths.same_goal, Sources.AreFewFor, Sources.AreFewTo, Sources.to_goal, Sources.to_goal_by, declared.sources.SourceSegment.SourceSegment}
use Rattle.lra_path_disjuncts.proofs.TableSteps.{capped_few, capped_many, capped_plus}

module _ (es : List MovesEntry) (goal : Goal) (ways : List SourceSegment) (i : ℕ) (d : SourceSegment) (inside : i < length ways) where
  pub few_at : (n : ℕ) → length (to_goal es ways goal) ≤ n → length (to_goal_by es goal (get_or ways i d)) ≤ n
  few_at n few = let least = length-flat_map-take (to_goal_by es goal) ways i d inside in omega (arith, few, least)

  pub goal_next : (old new : List (List Action)) → old ≡ to_goal es (take i ways) goal → new ≡ old ++ to_goal_by es goal (get_or ways i d)
      → new ≡ to_goal es (take (i + 1) ways) goal
  goal_next old new before e =
      e ∙ ap (λ w. w ++ to_goal_by es goal (get_or ways i d)) before
      ∙ ap (λ w. to_goal es (take i ways) goal ++ w) (sym (append-nil (to_goal_by es goal (get_or ways i d))))
      ∙ sym (flat_map-append (to_goal_by es goal) (take i ways) (get_or ways i d ∷ []))
      ∙ ap (λ ws. to_goal es ws goal) (sym (take-suc ways i d inside))
      ∙ ap (λ k. to_goal es (take k ways) goal) (let next : suc i ≡ i + 1 = omega arith in next)

  pub count_next : (count part next : ℕ) → count ≡ capped (length (to_goal es (take i ways) goal))
      → part ≡ capped (length (to_goal_by es goal (get_or ways i d))) → next ≡ capped (count + part)
      → next ≡ capped (length (to_goal es (take (i + 1) ways) goal))
  count_next count part next one two both =
      let before = to_goal es (take i ways) goal in
      let last = to_goal_by es goal (get_or ways i d) in
      both ∙ ap (λ n. capped (n + part)) one ∙ ap (λ n. capped (capped (length before) + n)) two ∙ capped_plus (length before) (length last)
      ∙ ap capped (sym (length-append before last)) ∙ ap (λ w. capped (length w)) (goal_next before (before ++ last) refl refl)

-- many and few, by counts ------------------------------------------------------------------------------------------------

pub over : (n count : ℕ) → count ≡ capped n → 1024 < count → greatest_paths < n
over n count is more = elim (cases_lt n 1025) [
  | inl few ↦ let same = capped_few n few in omega (arith, is, same, more)
  | inr many ↦ many
]

pub under : (n count : ℕ) → count ≡ capped n → count ≤ 1024 → n ≤ greatest_paths
under n count is less = elim (cases_lt n 1025) [
  | inl few ↦ omega (arith, few)
  | inr many ↦ let same = capped_many n many in absurd (omega (arith, is, same, less))
]

pub alike : (a b : Goal) → same_goal a b ≡ true → a ≡ b
alike (comes_to p) (comes_to q) same = ap comes_to (eqb-true p q same)
alike (comes_to p) (violates q) same = absurd (let no : false ≡ true = same in cc)
alike (violates p) (comes_to q) same = absurd (let no : false ≡ true = same in cc)
alike (violates p) (violates q) same = ap violates (eqb-true p q same)

module _ (es : List MovesEntry) (all : List SourceSegment) where
  few_or : (w : SourceSegment) (ws : List SourceSegment) (goal : Goal) (b : Bool) → same_goal (goal_view w.goal) goal ≡ b
      → length (to_goal es all (goal_view w.goal)) ≤ greatest_paths → (to_goal es ws goal ≡ []) ⊎ (length (to_goal es all goal) ≤ greatest_paths)
      → (to_goal es (w ∷ ws) goal ≡ []) ⊎ (length (to_goal es all goal) ≤ greatest_paths)
  few_or w ws goal true is here rest = inr (subst (λ g. length (to_goal es all g) ≤ greatest_paths) (alike (goal_view w.goal) goal is) here)
  few_or w ws goal false is here (inl none) = inl (ap (λ b. cond b (disjuncts (moves_at es w.place)) [] ++ to_goal es ws goal) is ∙ none)
  few_or w ws goal false is here (inr few) = inr few

  none_or : (ws : List SourceSegment) (goal : Goal) → AreFewFor es all ws → (to_goal es ws goal ≡ []) ⊎ (length (to_goal es all goal) ≤ greatest_paths)
  none_or [] goal are = inl refl
  none_or (w ∷ ws) goal (here, are) = few_or w ws goal (same_goal (goal_view w.goal) goal) refl here (none_or ws goal are)

  pub few_to_all : AreFewFor es all all → AreFewTo es all
  few_to_all are goal = elim (none_or all goal are) [
    | inl none ↦ let long = ap length none in omega (arith, long)
    | inr few ↦ few
  ]

  few_last : (ws : List SourceSegment) (w : SourceSegment) → AreFewFor es all ws → length (to_goal es all (goal_view w.goal)) ≤ greatest_paths →
      AreFewFor es all (ws ++ w ∷ [])
  few_last [] w are few = (few, tt)
  few_last (x ∷ ws) w (here, are) few = (here, few_last ws w are few)

  pub few_next : (ws : List SourceSegment) (i : ℕ) (d : SourceSegment) → i < length ws → AreFewFor es all (take i ws)
      → length (to_goal es all (goal_view (get_or ws i d).goal)) ≤ greatest_paths → AreFewFor es all (take (i + 1) ws)
  few_next ws i d inside are few =
      let next : suc i ≡ i + 1 = omega arith in
      subst (AreFewFor es all) (sym (take-suc ws i d inside) ∙ ap (λ n. take n ws) next) (few_last (take i ws) (get_or ws i d) are few)

  pub few_at_end : (ws : List SourceSegment) (i : ℕ) → length ws ≤ i → ws ≡ all → AreFewFor es all (take i ws) → AreFewTo es all
  few_at_end ws i past is are = few_to_all (subst (AreFewFor es all) (take_all i ws past ∙ is) are)
