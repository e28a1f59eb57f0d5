-- Lemmas on the loops that say of each part whether it goes, and leave out those that go.
use Rattle.std.proofs.Common.{◌≡◌, ℕ, suc, ◌+◌, ◌-◌, ◌<◌, List, [], ◌∷◌, ◌++◌, length, take, refl, ap, sym, subst, ◌∙◌, arith, append_assoc, append-nil, length-append}
use Rattle.std.proofs.{Math.Seq.take-append_seam, lemmas.List.Edits.remove-append_right}
use Rattle.std.specs.List.{remove}
use Rattle.lra_domain.specs.{Abstraction.Abstraction, declared.Included.Included, declared.Included.TheVariants.Yes, declared.Included.TheVariants.No, declared.Included.TheVariants.Wide}
use Rattle.lra_powerset.proofs.PartLists.{each_left, each_right}
use Rattle.lra_powerset.specs.{Outcomes.AnswersWhether, Outcomes.AnswerDropped, Outcomes.HaveDims, Outcomes.kept, Reduction.IsDropped, Reduction.DropStrains}

-- what was reported about the parts before the rest, and what will be reported of the rest, is reported of all
pub record TellLoop {V H : Type 0} (m : Abstraction V H) (parts rest : List V) (told : List Included) : Type 0 where
  pub before : List V
  pub all : parts ≡ before ++ rest
  pub long : length told ≡ length before
  pub more : (is : List Included) → AnswerDropped m before rest is → AnswerDropped m [] parts (told ++ is)

pub tell_starts : {V H : Type 0} (m : Abstraction V H) (parts : List V) → TellLoop m parts parts []
tell_starts m parts = record { before = []; all = refl; long = refl; more = λ is t. t }

pub tell_front : {V H : Type 0} (m : Abstraction V H) (parts rest : List V) (told : List Included) (t : TellLoop m parts rest told)
    → take (length told) parts ≡ t.before
tell_front m parts rest told t = rw (t.all, t.long) (take-append_seam t.before rest)

pub tell_next : {V H : Type 0} (m : Abstraction V H) (parts rest behind : List V) (p : V) (told : List Included) (i : Included)
    → (t : TellLoop m parts rest told) → rest ≡ p ∷ behind → AnswersWhether (IsDropped m t.before p behind) (DropStrains m t.before p behind) i
    → TellLoop m parts behind (told ++ i ∷ [])
tell_next {V} m parts rest behind p told i t e one = record {
  before = t.before ++ p ∷ [];
  all = t.all ∙ ap (λ (xs : List V). t.before ++ xs) e ∙ sym (append_assoc t.before (p ∷ []) behind);
  long = let had = t.long in omega (arith, had, length-append told (i ∷ []), length-append t.before (p ∷ []));
  more = λ is told_more. subst (λ (js : List Included). AnswerDropped m [] parts js) (sym (append_assoc told (i ∷ []) is))
      (t.more (i ∷ is) (subst (λ (xs : List V). AnswerDropped m t.before xs (i ∷ is)) (sym e) (one, told_more)));
}

pub tell_ends : {V H : Type 0} (m : Abstraction V H) (parts rest : List V) (told : List Included) → TellLoop m parts rest told
    → rest ≡ [] → AnswerDropped m [] parts told
tell_ends {V} m parts rest told t e = subst (λ (js : List Included). AnswerDropped m [] parts js) (append-nil told)
    (t.more [] (subst (λ (xs : List V). AnswerDropped m t.before xs []) (sym e) tt))

-- the dimensions of what stands before, at and after a part
pub cut_dims : {V H : Type 0} (m : Abstraction V H) (n : ℕ) (parts rest behind : List V) (p : V) (told : List Included)
    → (t : TellLoop m parts rest told) → rest ≡ p ∷ behind → HaveDims m n parts
    → HaveDims m (m.dims p) t.before × HaveDims m (m.dims p) behind
cut_dims {V} m n parts rest behind p told t e dims =
    let all : HaveDims m n (t.before ++ p ∷ behind) = subst (λ (xs : List V). HaveDims m n xs)
    (t.all ∙ ap (λ (xs : List V). t.before ++ xs) e) dims in
    let later = each_right (λ q. m.dims q ≡ n) t.before (p ∷ behind) all in
    let same : n ≡ m.dims p = sym later.0 in
    subst (λ (k : ℕ). HaveDims m k t.before × HaveDims m k behind) same
    (each_left (λ q. m.dims q ≡ n) t.before (p ∷ behind) all, later.1)

-- what stays so far, and what stays of the rest, is what stays of all
pub record LeaveLoop {V : Type 0} (parts : List V) (told : List Included) (now : List V) (rest : List Included) (at : ℕ)
    : Type 0 where
  pub front : List V
  pub back : List V
  pub all : now ≡ front ++ back
  pub long : length front ≡ at
  pub same : length back ≡ length rest
  pub left : front ++ kept back rest ≡ kept parts told

pub leave_starts : {V : Type 0} (parts : List V) (told : List Included) → length told ≡ length parts
    → LeaveLoop parts told parts told 0
leave_starts parts told e = record { front = []; back = parts; all = refl; long = refl; same = sym e; left = refl }

cut_back : {V : Type 0} (back : List V) (i : Included) (more : List Included) → length back ≡ length (i ∷ more)
    → (p : V) × (later : List V) × (back ≡ p ∷ later) × (length later ≡ length more)
cut_back [] i more e = let wrong : ⊥ = omega (arith, e) in absurd wrong
cut_back (p ∷ later) i more e = (p, later, refl, omega (arith, e))

pub leave_at : {V : Type 0} (parts : List V) (told : List Included) (now : List V) (rest more : List Included) (i : Included)
    (at : ℕ) → LeaveLoop parts told now rest at → rest ≡ i ∷ more → at < length now
leave_at {V} parts told now rest more i at l e =
    let cut = cut_back l.back i more (l.same ∙ ap length e) in
    let size : length now ≡ length (l.front ++ cut.0 ∷ cut.1) =
    ap length (l.all ∙ ap (λ (xs : List V). l.front ++ xs) cut.2) in
    let had = l.long in
    omega (arith, size, had, length-append l.front (cut.0 ∷ cut.1))

pub leave_gone : {V : Type 0} (parts : List V) (told : List Included) (now : List V) (rest more : List Included) (at : ℕ)
    → LeaveLoop parts told now rest at → rest ≡ Yes ∷ more → LeaveLoop parts told (remove now at) more at
leave_gone {V} parts told now rest more at l e =
    let cut = cut_back l.back Yes more (l.same ∙ ap length e) in
    let whole : now ≡ l.front ++ cut.0 ∷ cut.1 = l.all ∙ ap (λ (xs : List V). l.front ++ xs) cut.2 in
    let had = l.long in
    let gone : remove now at ≡ l.front ++ remove (cut.0 ∷ cut.1) (at - at) =
    ap (λ (xs : List V). remove xs at) whole ∙ remove-append_right l.front (cut.0 ∷ cut.1) at at had (omega arith) in
    let none : at - at ≡ 0 = omega arith in
    record {
      front = l.front;
      back = cut.1;
      all = gone ∙ ap (λ (k : ℕ). l.front ++ remove (cut.0 ∷ cut.1) k) none;
      long = had;
      same = cut.3;
      left = subst (λ (is : List Included). l.front ++ kept (cut.0 ∷ cut.1) is ≡ kept parts told) e
          (subst (λ (xs : List V). l.front ++ kept xs rest ≡ kept parts told) cut.2 l.left);
    }

kept_stays : {V : Type 0} (p : V) (ps : List V) (i : Included) (is : List Included) → ¬ (i ≡ Yes)
    → kept (p ∷ ps) (i ∷ is) ≡ p ∷ kept ps is
kept_stays p ps Yes is n = absurd (n refl)
kept_stays p ps No is n = refl
kept_stays p ps Wide is n = refl

pub leave_stays : {V : Type 0} (parts : List V) (told : List Included) (now : List V) (rest more : List Included) (i : Included)
    (at : ℕ) → LeaveLoop parts told now rest at → rest ≡ i ∷ more → ¬ (i ≡ Yes) → LeaveLoop parts told now more (at + 1)
leave_stays {V} parts told now rest more i at l e n =
    let cut = cut_back l.back i more (l.same ∙ ap length e) in
    let whole : now ≡ l.front ++ cut.0 ∷ cut.1 = l.all ∙ ap (λ (xs : List V). l.front ++ xs) cut.2 in
    let had = l.long in
    let left : l.front ++ kept (cut.0 ∷ cut.1) (i ∷ more) ≡ kept parts told =
    subst (λ (is : List Included). l.front ++ kept (cut.0 ∷ cut.1) is ≡ kept parts told) e
    (subst (λ (xs : List V). l.front ++ kept xs rest ≡ kept parts told) cut.2 l.left) in
    record {
      front = l.front ++ cut.0 ∷ [];
      back = cut.1;
      all = whole ∙ sym (append_assoc l.front (cut.0 ∷ []) cut.1);
      long = omega (arith, had, length-append l.front (cut.0 ∷ []));
      same = cut.3;
      left = append_assoc l.front (cut.0 ∷ []) (kept cut.1 more)
          ∙ ap (λ (xs : List V). l.front ++ xs) (sym (kept_stays cut.0 cut.1 i more n)) ∙ left;
    }

pub leave_ends : {V : Type 0} (parts : List V) (told : List Included) (now : List V) (rest : List Included) (at : ℕ)
    → LeaveLoop parts told now rest at → rest ≡ [] → now ≡ kept parts told
leave_ends {V} parts told now rest at l e = none l.front l.back l.all (l.same ∙ ap length e)
    (subst (λ (is : List Included). l.front ++ kept l.back is ≡ kept parts told) e l.left)
  where
    none : {V : Type 0} (front back : List V) {now all : List V} → now ≡ front ++ back → length back ≡ 0
        → front ++ kept back [] ≡ all → now ≡ all
    none front [] e l k = e ∙ k
    none front (p ∷ back) e l k = let wrong : ⊥ = omega (arith, l) in absurd wrong

pub told_long : {V H : Type 0} (m : Abstraction V H) (before ps : List V) (is : List Included) → AnswerDropped m before ps is
    → length is ≡ length ps
told_long m before [] [] told = refl
told_long m before [] (i ∷ is) told = absurd told
told_long m before (p ∷ ps) [] told = absurd told
told_long m before (p ∷ ps) (i ∷ is) told = ap suc (told_long m (before ++ p ∷ []) ps is told.1)

-- the steps of the loop that leaves parts out
pub ruleset leaving = (leave_stays, leave_gone, leave_ends)
