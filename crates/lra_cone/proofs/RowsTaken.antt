-- Rows added one by one: what is reported about the losses stays so as further rows come.
use Rattle.std.proofs.Common.{◌≡◌, ℕ, suc, ◌<◌, ◌+◌, List, [], ◌∷◌, ◌++◌, length, get_or, take, refl, ap, sym, ◌∙◌, subst, ℤ, Bool, inl, inr}
use Rattle.std.proofs.lemmas.List.{append_assoc, append-nil}
use Rattle.std.proofs.lemmas.List.Elements.{Contains-append_cases, Contains-append_left, Contains-append_right}
use Rattle.std.specs.List.{Contains}
use Rattle.lra_cone.specs.Crates.lra_linear_spec.Strain.{Loss, Strains, IsStrained}
use Rattle.lra_cone.specs.Crates.{lra_linear_spec.Cones.AreDual, lra_linear_spec.Cones.all_rows, lra_linear_spec.Descriptions.LinearRow, lra_linear_spec.Descriptions.system_of}
use Rattle.lra_cone.specs.Crates.{lra_linear_spec.declared.Cause.Cause, lra_linear_spec.declared.Cause.TheVariants.Excess, lra_linear_spec.declared.Cause.TheVariants.TooMany}
use Rattle.lra_systems.specs.LinearSystems.{rows_by_kind}
use Rattle.lra_double_description.specs.{Strains.cause_of, declared.strained.Strained.Strained}
use Rattle.lra_double_description.specs.declared.strained.ConeError.TheVariants as of_cone
use Rattle.lra_cone.specs.{Cones.ConeContent, Cones.IsCone, Conversions.AreTried, Conversions.IsConversion, Losses.IfLost, Strains.IsConeError}
use Rattle.lra_cone.proofs.StrainLemmas.{ConeStrains, strain_cause}
use Rattle.lra_systems.proofs.LinearRows.{given_pushed}

-- a strain of a list is one of each longer list
pub strains_longer : (w : ℕ) (all more : List LinearRow) (loss : Loss) → Strains w all loss → Strains w (all ++ more) loss
strains_longer w all more loss s = record {
  rest = s.rest ++ more;
  begins = ap (λ (x : List LinearRow). x ++ more) s.begins ∙ append_assoc loss.chosen s.rest more;
  next = elim s.next [ inl x ↦ inl (x.0 ++ more, ap (λ (y : List LinearRow). y ++ more) x.1) | inr x ↦ inr x ];
  lines = s.lines;
  rays = s.rays;
  dual = s.dual;
  canonical = s.canonical;
  strained = s.strained;
}

lost_longer : (w : ℕ) (all more : List LinearRow) (losses : List Loss) → IfLost (Strains w all) losses → IfLost (Strains w (all ++ more)) losses
lost_longer w all more [] s = tt
lost_longer w all more (loss ∷ later) s = strains_longer w all more loss s

-- a cone exceeds a limit as a list does
strained_of : (w : ℕ) (chosen : List LinearRow) (further : LinearRow) (lines rays : List (List ℤ)) (cause : Cause) → ConeStrains w further.equal further.row lines rays cause →
    IsStrained w chosen further lines rays cause
strained_of w chosen further lines rays (Excess e) (inl x) = inl x
strained_of w chosen further lines rays (Excess e) (inr x) = inr (inl x)
strained_of w chosen further lines rays (TooMany count) x = inl x

-- ---- rows that were tried, and one more
tried_taken : (w : ℕ) (taken all kept : List LinearRow) (losses : List Loss) (g : LinearRow) → AreTried w taken all kept losses →
    AreTried w taken (all ++ g ∷ []) (kept ++ g ∷ []) losses
tried_taken w taken [] kept losses g (ek, el) = inl ([], ap (λ (l : List LinearRow). l ++ g ∷ []) ek, (refl, el))
tried_taken w taken (a ∷ all) kept losses g (inl (more, e, t)) =
    inl (more ++ g ∷ [], ap (λ (l : List LinearRow). l ++ g ∷ []) e, tried_taken w (taken ++ a ∷ []) all more losses g t)
tried_taken w taken (a ∷ all) kept losses g (inr (loss, others, e, c, f, s, t)) =
    inr (loss, others, e, c, f, s, tried_taken w taken all kept others g t)

tried_left : (w : ℕ) (taken all kept : List LinearRow) (losses : List Loss) (g : LinearRow) (loss : Loss) → loss.chosen ≡ taken ++ kept → loss.further ≡ g →
    Strains w ((taken ++ kept) ++ g ∷ []) loss → AreTried w taken all kept losses → AreTried w taken (all ++ g ∷ []) kept (losses ++ loss ∷ [])
tried_left w taken [] kept losses g loss c f s (ek, el) =
    let same : taken ++ kept ≡ taken = ap (λ (l : List LinearRow). taken ++ l) ek ∙ append-nil taken in
    inr (loss, [], ap (λ (l : List Loss). l ++ loss ∷ []) el, c ∙ same, f, subst (λ (l : List LinearRow). Strains w (l ++ g ∷ []) loss) same s, (ek, refl))
tried_left w taken (a ∷ all) kept losses g loss c f s (inl (more, e, t)) =
    let same : taken ++ kept ≡ (taken ++ a ∷ []) ++ more = ap (λ (l : List LinearRow). taken ++ l) e ∙ sym (append_assoc taken (a ∷ []) more) in
    inl (more, e, tried_left w (taken ++ a ∷ []) all more losses g loss (c ∙ same) f (subst (λ (l : List LinearRow). Strains w (l ++ g ∷ []) loss) same s) t)
tried_left w taken (a ∷ all) kept losses g loss c f s (inr (l, others, e, d, x, y, t)) =
    inr (l, others ++ loss ∷ [], ap (λ (ls : List Loss). ls ++ loss ∷ []) e, d, x, y, tried_left w taken all kept others g loss c f s t)

-- ---- at the start no row is left out
pub conversion_start : (s : ConeContent) (kept : List LinearRow) (losses : List Loss) → kept ≡ [] → losses ≡ [] → IsConversion s.taken [] kept s losses
conversion_start s kept losses ek el = record {
  taken = sym (ap (λ (l : List LinearRow). s.taken ++ l) ek ∙ append-nil s.taken);
  among = λ g k. subst (λ (l : List LinearRow). Contains l g) ek k;
  whole = λ _. ek;
  strain = subst (IfLost (Strains (suc s.dims) (s.taken ++ []))) (sym el) tt;
  tried = (ek, el);
}

-- ---- the row is added
pub conversion_more : (first all kept : List LinearRow) (old new : ConeContent) (losses : List Loss) (after : List LinearRow) (g : LinearRow) → new.dims ≡ old.dims → new.taken ≡ old.taken ++ g ∷ [] →
    after ≡ kept ++ g ∷ [] → IsConversion first all kept old losses →
    IsConversion first (all ++ g ∷ []) after new losses
conversion_more first all kept old new losses after g d t e c = record {
  taken = t ∙ ap (λ (l : List LinearRow). l ++ g ∷ []) c.taken ∙ append_assoc first kept (g ∷ []) ∙ ap (λ (l : List LinearRow). first ++ l) (sym e);
  among = λ x k. elim (Contains-append_cases kept (g ∷ []) x (subst (λ (l : List LinearRow). Contains l x) e k)) [
    | inl i ↦ Contains-append_left all (g ∷ []) x (c.among x i)
    | inr i ↦ Contains-append_right all (g ∷ []) x i
  ];
  whole = λ none. e ∙ ap (λ (l : List LinearRow). l ++ g ∷ []) (c.whole none);
  strain = subst (λ (n : ℕ). IfLost (Strains (suc n) (first ++ (all ++ g ∷ []))) losses) (sym d) (longer_behind (suc old.dims) first all g losses c.strain);
  tried = subst (λ (n : ℕ). AreTried (suc n) first (all ++ g ∷ []) after losses) (sym d)
      (subst (λ (l : List LinearRow). AreTried (suc old.dims) first (all ++ g ∷ []) l losses) (sym e)
      (tried_taken (suc old.dims) first all kept losses g c.tried));
}
  where
    longer_behind : (w : ℕ) (first all : List LinearRow) (g : LinearRow) (losses : List Loss) → IfLost (Strains w (first ++ all)) losses → IfLost (Strains w (first ++ (all ++ g ∷ []))) losses
    longer_behind w first all g losses s = subst (λ (l : List LinearRow). IfLost (Strains w l) losses) (append_assoc first all (g ∷ [])) (lost_longer w (first ++ all) (g ∷ []) losses s)

-- ---- the row is left out
not_empty : {A : Type 0} (xs : List A) (x : A) → xs ++ x ∷ [] ≡ [] → ⊥
not_empty [] x e = cc
not_empty (y ∷ xs) x e = cc

first_lost : (all : List LinearRow) (s : ConeContent) (loss : Loss) → IsCone s → s.taken ≡ all → loss.chosen ≡ s.taken →
    ConeStrains (suc s.dims) loss.further.equal loss.further.row s.lines s.rays loss.cause → Strains (suc s.dims) (all ++ loss.further ∷ []) loss
first_lost all s loss k same e strained = record {
  rest = loss.further ∷ [];
  begins = ap (λ (l : List LinearRow). l ++ loss.further ∷ []) (sym (e ∙ same));
  next = inl ([], refl);
  lines = s.lines;
  rays = s.rays;
  dual = subst (λ (l : List LinearRow). AreDual (suc s.dims) (system_of l) (all_rows s.lines s.rays)) (sym e) k.dual;
  canonical = k.canonical;
  strained = strained_of (suc s.dims) loss.chosen loss.further s.lines s.rays loss.cause strained;
}

lost_end : (first all kept : List LinearRow) (s : ConeContent) (losses : List Loss) (loss : Loss) → IsCone s → IsConversion first all kept s losses → loss.chosen ≡ s.taken →
    ConeStrains (suc s.dims) loss.further.equal loss.further.row s.lines s.rays loss.cause → IfLost (Strains (suc s.dims) ((first ++ all) ++ loss.further ∷ [])) (losses ++ loss ∷ [])
lost_end first all kept s [] loss k c e strained =
    first_lost (first ++ all) s loss k (c.taken ∙ ap (λ (l : List LinearRow). first ++ l) (c.whole refl)) e strained
lost_end first all kept s (earlier ∷ later) loss k c e strained = strains_longer (suc s.dims) (first ++ all) (loss.further ∷ []) earlier c.strain

-- as the code states it: after a row that was left out the cone is as it was
pub conversion_left_out : (first all kept : List LinearRow) (old new : ConeContent) (losses after : List Loss) (loss : Loss) (g : LinearRow) (strained : Strained) (cause : Cause)
    (taken : List LinearRow) → IsCone new →
    new ≡ old → taken ≡ new.taken →
    loss ≡ record { chosen = taken; further = g; cause = cause } → cause ≡ cause_of strained → after ≡ losses ++ loss ∷ [] → IsConeError old g.equal g.row (of_cone.Strained strained) →
    IsConversion first all kept old losses → IsConversion first (all ++ g ∷ []) kept new after
conversion_left_out first all kept old new losses after loss g strained cause taken k same et el ec ea error c =
    let here : IsConversion first all kept new losses = subst (λ (s : ConeContent). IsConversion first all kept s losses) (sym same) c in
    let strains : ConeStrains (suc new.dims) g.equal g.row new.lines new.rays cause =
    subst (ConeStrains (suc new.dims) g.equal g.row new.lines new.rays) (sym ec) (strain_cause new g.equal g.row strained
    (subst (λ (s : ConeContent). IsConeError s g.equal g.row (of_cone.Strained strained)) (sym same) error)) in
    let told : IfLost (Strains (suc new.dims) ((first ++ all) ++ loss.further ∷ [])) (losses ++ loss ∷ []) =
    lost_end first all kept new losses loss k here (ap (λ (l : Loss). l.chosen) el ∙ et)
    (subst (λ (l : Loss). ConeStrains (suc new.dims) l.further.equal l.further.row new.lines new.rays l.cause) (sym el) strains) in
    subst (IsConversion first (all ++ g ∷ []) kept new) (sym ea) (record {
      taken = here.taken;
      among = λ x i. Contains-append_left all (g ∷ []) x (here.among x i);
      whole = λ none. absurd (not_empty losses loss none);
      strain = subst (λ (l : List LinearRow). IfLost (Strains (suc new.dims) l) (losses ++ loss ∷ [])) (append_assoc first all (g ∷ []))
          (subst (λ (f : LinearRow). IfLost (Strains (suc new.dims) ((first ++ all) ++ f ∷ [])) (losses ++ loss ∷ [])) (ap (λ (l : Loss). l.further) el) told);
      tried = tried_left (suc new.dims) first all kept losses g loss (ap (λ (l : Loss). l.chosen) el ∙ et ∙ here.taken) (ap (λ (l : Loss). l.further) el)
          (subst (λ (f : LinearRow). Strains (suc new.dims) ((first ++ kept) ++ f ∷ []) loss) (ap (λ (l : Loss). l.further) el)
          (first_lost (first ++ kept) new loss k here.taken (ap (λ (l : Loss). l.chosen) el ∙ et)
          (subst (λ (l : Loss). ConeStrains (suc new.dims) l.further.equal l.further.row new.lines new.rays l.cause) (sym el) strains))) here.tried;
    })

-- ---- row by row
pub taken_next : {K : Type 0} (equal : K → Bool) (first kept : List LinearRow) (rows : List (List ℤ)) (kinds : List K) (i : ℕ) (own : List (List ℤ)) → rows ≡ own → length kinds ≡ length own →
    i < length rows →
    (r : List ℤ) (d : K) (new : ConeContent) (losses : List Loss) → r ≡ get_or rows i r → IsConversion first
    (rows_by_kind equal (take i rows) (take i kinds) ++ record { row = r; equal = equal (get_or kinds i d) } ∷ []) kept new losses →
    IsConversion first (rows_by_kind equal (take (i + 1) rows) (take (i + 1) kinds)) kept new losses
taken_next equal first kept rows kinds i own eo n h r d new losses er c =
    let g : LinearRow = record { row = r; equal = equal (get_or kinds i d) } in
    let before = rows_by_kind equal (take i rows) (take i kinds) in
    subst (λ (l : List LinearRow). IsConversion first l kept new losses) (given_pushed equal rows kinds i own eo n h before (before ++ g ∷ []) g r d er refl refl refl) c
