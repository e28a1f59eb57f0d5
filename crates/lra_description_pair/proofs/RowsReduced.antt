-- Rows that are reduced one after the other, where they stand.
use Rattle.std.proofs.Common.{◌≡◌, ℕ, suc, ◌+◌, ◌<◌, ◌≤◌, List, [], ◌∷◌, ◌++◌, length, get_or, set, take, refl, sym, ◌∙◌, subst, arith, ℤ}
use Rattle.std.proofs.lemmas.List.{get_or_default, get_or-set_other, length-set, take_all}
use Rattle.std.proofs.{Math.Seq.take-append_seam, Math.Seq.take-suc-set, lemmas.List.Elements.All-contains}
use Rattle.lra_description_pair.specs.Crates.{lra_canonical.Echelons.HaveWidth, lra_canonical.Reduced.IsReducedBy, lra_canonical.Reduced.IsReductionExcess, lra_row.declared.error.RowError.RowError}
use Rattle.lra_description_pair.specs.OwnLists.{AreReducedBy, AnyReductionExcess}
use Rattle.lra_description_pair.proofs.OwnRows.{reduced_more, some_excess, width_more}

-- the first so many of the rows are reduced, the others as they were
pub record ArePartlyReduced (w : ℕ) (form rows : List (List ℤ)) (i : ℕ) (now : List (List ℤ)) : Type 0 where
  pub count : length now ≡ length rows
  pub reduced : AreReducedBy form (take i rows) (take i now)
  pub widths : HaveWidth w (take i now)
  pub behind : (j : ℕ) → i ≤ j → get_or now j [] ≡ get_or rows j []

pub partly_none : (w : ℕ) (form rows now : List (List ℤ)) → now ≡ rows → ArePartlyReduced w form rows 0 now
partly_none w form rows now e = subst (ArePartlyReduced w form rows 0) (sym e) (record { count = refl; reduced = tt; widths = λ k d h. absurd (omega (arith, h)); behind = λ j l. refl })

module _ (w : ℕ) (form rows now : List (List ℤ)) (i : ℕ) (d : List ℤ) (within : i < length now) (partly : ArePartlyReduced w form rows i now) where
  inside : i < length rows
  inside = omega (arith, within, partly.count)

  -- the next row
  there : get_or now i d ≡ get_or rows i d
  there = get_or_default now i d [] within ∙ partly.behind i (omega arith) ∙ get_or_default rows i [] d inside

  at : get_or now i d ≡ get_or rows i (get_or now i d)
  at = there ∙ get_or_default rows i d (get_or now i d) inside

  taken : (t : List ℤ) → take (i + 1) (set now i t) ≡ take i now ++ t ∷ []
  taken t =
      let next : suc i ≡ i + 1 = omega arith in
      subst (λ (n : ℕ). take n (set now i t) ≡ take i now ++ t ∷ []) next (take-suc-set now i t within)

  pub next_width : HaveWidth w rows → length (get_or now i d) ≡ w
  next_width widths = All-contains (λ r. length r ≡ w) rows (get_or now i d) widths (i, inside, sym at)

  pub next_excess : (e : RowError) → IsReductionExcess form (get_or now i d) e → AnyReductionExcess form rows e
  next_excess e x = some_excess form rows i (get_or now i d) (get_or now i d) e inside at refl x

  pub next_reduced : (t : List ℤ) → HaveWidth w rows → IsReducedBy form (get_or now i d) t → ArePartlyReduced w form rows (i + 1) (set now i t)
  next_reduced t widths x = record {
    count = length-set now i t ∙ partly.count;
    reduced = reduced_more form rows i (get_or now i d) t (take i now) (take (i + 1) (set now i t)) inside at (taken t) x partly.reduced;
    widths = width_more w form rows i (get_or now i d) t (take i now) (take (i + 1) (set now i t)) inside at (taken t) widths x partly.widths;
    behind = λ j l. get_or-set_other now i j t [] (λ q. omega (arith, l, q)) ∙ partly.behind j (omega (arith, l));
  }

pub rows_reduced : (w : ℕ) (form rows now : List (List ℤ)) (i : ℕ) → length now ≤ i → ArePartlyReduced w form rows i now → AreReducedBy form rows now
rows_reduced w form rows now i h p =
    subst (λ (l : List (List ℤ)). AreReducedBy form l now) (take_all i rows (omega (arith, h, p.count))) (subst (AreReducedBy form (take i rows)) (take_all i now h) p.reduced)

pub rows_widths : (w : ℕ) (form rows now : List (List ℤ)) (i : ℕ) → length now ≤ i → ArePartlyReduced w form rows i now → HaveWidth w now
rows_widths w form rows now i h p = subst (HaveWidth w) (take_all i now h) p.widths

-- of the room of the list as many places are read as before
pub taken_back : {A : Type 0} (n : ℕ) (xs behind : List A) → length xs ≡ n → take n (xs ++ behind) ≡ xs
taken_back n xs behind e = subst (λ (k : ℕ). take k (xs ++ behind) ≡ xs) e (take-append_seam xs behind)
