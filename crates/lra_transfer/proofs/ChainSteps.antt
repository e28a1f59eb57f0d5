-- Chains of conditions along their operands: what of a chain is done so far.
use Rattle.std.proofs.Common.{◌≡◌, ℕ, zero, suc, ◌+◌, ◌<◌, ◌≤◌, List, [], ◌∷◌, ◌++◌, Bool, true, false, length, map, take, drop, get_or, refl, sym, ap, subst, ◌∙◌, arith}
use Rattle.std.proofs.{lemmas.List.map_more, lemmas.List.take_all, lemmas.List.drop_more, lemmas.List.drop_all, lemmas.Result.IfOk-weaker}
use Rattle.std.specs.Prelude.{not, IfOk}
use Rattle.std.specs.Prelude as handed
use Rattle.lra_transfer.specs.Crates.lra_analysis_spec.Operations.{lossy_operations}
use Rattle.lra_transfer.specs.Crates.{lra_analysis_spec.Moves.Takes, lra_analysis_spec.MovesOf.guard, lra_domain.Abstraction.Abstraction, lra_domain.declared.Exactness.Exactness}
use Rattle.lra_program.specs.declared.program.Cond as declared_cond
use Rattle.lra_program.specs.{Program.Cond, ProgramViews.all_of, ProgramViews.any_of, ProgramViews.cond_view}
use Rattle.lra_transfer.proofs.Crates.lra_analysis_spec.Takes.{then_takes}
use Rattle.lra_linearize.specs.Conditions.{in_turn_of, either_of}
use Rattle.lra_linearize.proofs.CondSizes.{cond_size, chain_size, size_in}
use Rattle.lra_transfer.specs.Splits.{TakesTo, SplitsBy, AreJoinedTo, AreJoinedBack, AllKeptHave, IsEitherSoFar}
use Rattle.lra_transfer.specs.{declared.splits.ConditionSplit.ConditionSplit, declared.splits.Kept.Kept}
use Rattle.lra_transfer.proofs.SideSteps.{chain_all, chain_any, either_step}

-- what is joined from the right ---------------------------------------------------------------------------------------

module _ {V H : Type 0} (m : Abstraction V H) where
  -- the last of them is joined first
  pub back_more : (xs : List (Kept V)) (x k j r : Kept V) → AreJoinedTo m x k j → AreJoinedBack m xs j r → AreJoinedBack m (xs ++ x ∷ []) k r
  back_more [] x k j r one is = (k, refl, subst (AreJoinedTo m x k) (sym is) one)
  back_more (y ∷ ys) x k j r one (b, behind, last) = (b, back_more ys x k j b one behind, last)

  pub back_less : (xs : List (Kept V)) (x k r : Kept V) → AreJoinedBack m (xs ++ x ∷ []) k r → (j : Kept V) × AreJoinedTo m x k j × AreJoinedBack m xs j r
  back_less [] x k r (b, is, one) = (r, subst (λ (y : Kept V). AreJoinedTo m x y r) is one, refl)
  back_less (y ∷ ys) x k r (b, behind, last) = let (j, one, before) = back_less ys x k b behind in (j, one, (b, before, last))

  pub back_dims : (n : ℕ) (xs : List (Kept V)) (k r : Kept V) → AllKeptHave m n xs → m.dims k.value ≡ n → AreJoinedBack m xs k r → m.dims r.value ≡ n
  back_dims n [] k r have same is = ap (λ (x : Kept V). m.dims x.value) is ∙ same
  back_dims n (y ∷ ys) k r have same (b, behind, last) = last.same_dims ∙ have.0

  pub have_more : (n : ℕ) (xs : List (Kept V)) (x : Kept V) → AllKeptHave m n xs → m.dims x.value ≡ n → AllKeptHave m n (xs ++ x ∷ [])
  have_more n [] x have same = (same, tt)
  have_more n (y ∷ ys) x have same = (have.0, have_more n ys x have.1 same)

  pub have_less : (n : ℕ) (xs : List (Kept V)) (x : Kept V) → AllKeptHave m n (xs ++ x ∷ []) → AllKeptHave m n xs × (m.dims x.value ≡ n)
  have_less n [] x have = (tt, have.0)
  have_less n (y ∷ ys) x have = let (rest, last) = have_less n ys x have.1 in ((have.0, rest), last)

  -- what is left to join, and what is joined so far
  pub record IsJoinedSoFar (before left : List (Kept V)) (last joined : Kept V) : Type 0 where
    pub have : AllKeptHave m (m.dims joined.value) left
    pub whole : (r : Kept V) → AreJoinedBack m left joined r → AreJoinedBack m before last r

  pub joined_fits : (before left rest : List (Kept V)) (one last joined : Kept V) → left ≡ rest ++ one ∷ [] → IsJoinedSoFar before left last joined → m.dims one.value ≡ m.dims joined.value
  joined_fits before left rest one last joined is so_far = (have_less (m.dims joined.value) rest one (subst (AllKeptHave m (m.dims joined.value)) is so_far.have)).1

  pub joined_more : (before left rest : List (Kept V)) (one last joined next : Kept V) → left ≡ rest ++ one ∷ [] → AreJoinedTo m one joined next → IsJoinedSoFar before left last joined
      → IsJoinedSoFar before rest last next
  joined_more before left rest one last joined next is join so_far =
      let (have, same) = have_less (m.dims joined.value) rest one (subst (AllKeptHave m (m.dims joined.value)) is so_far.have) in
      record {
        have = subst (λ (n : ℕ). AllKeptHave m n rest) (sym (join.same_dims ∙ same)) have;
        whole = λ r back. so_far.whole r (subst (λ (xs : List (Kept V)). AreJoinedBack m xs joined r) (sym is) (back_more rest one joined next r join back));
      }

-- both sides ------------------------------------------------------------------------------------------------------------

module _ {V H : Type 0} (m : Abstraction V H) (base : ℕ) where
  -- what a chain leaves if all of it is as wanted, and if it isn't
  abbrev pub Divides : Bool → Cond → List Cond → Kept V → Kept V → Kept V → Type 0
  Divides true c cs from taken left = SplitsBy m base true (all_of c cs) from (record { on = taken; off = left })
  Divides false c cs from taken left = SplitsBy m base true (any_of c cs) from (record { on = left; off = taken })

  divides_more : (wanted : Bool) (c d : Cond) (ds : List Cond) (from taken left last right joined : Kept V) → Divides wanted c [] from taken left → Divides wanted d ds taken last right
      → AreJoinedTo m left right joined → Divides wanted c (d ∷ ds) from last joined
  divides_more true c d ds from taken left last right joined one others join = chain_all m base c d ds from _ _ joined one others join
  divides_more false c d ds from taken left last right joined one others join = chain_any m base c d ds from _ _ joined one others join

  taken_dims : (wanted : Bool) (c : Cond) (cs : List Cond) (from taken left : Kept V) → Divides wanted c cs from taken left → m.dims taken.value ≡ m.dims from.value
  taken_dims true c cs from taken left one = one.on_dims
  taken_dims false c cs from taken left one = one.off_dims

  left_dims : (wanted : Bool) (c : Cond) (cs : List Cond) (from taken left : Kept V) → Divides wanted c cs from taken left → m.dims left.value ≡ m.dims from.value
  left_dims true c cs from taken left one = one.off_dims
  left_dims false c cs from taken left one = one.on_dims

  -- the operand that was divided last, and what is left to do after it
  pub record IsDividedSoFar (wanted : Bool) (c : Cond) (cs : List Cond) (from : Kept V) (before : List (Kept V)) (taken left : Kept V) (ds : List Cond) : Type 0 where
    pub here : Cond
    pub start : Kept V
    pub divides : Divides wanted here [] start taken left
    pub whole : (last right joined : Kept V) → Divides wanted here ds start last right → AreJoinedBack m before right joined → Divides wanted c cs from last joined
    pub same : m.dims start.value ≡ m.dims from.value
    pub have : AllKeptHave m (m.dims from.value) before

  pub divided_first : (wanted : Bool) (c : Cond) (cs : List Cond) (from : Kept V) (before : List (Kept V)) (taken left : Kept V) → before ≡ [] → Divides wanted c [] from taken left
      → IsDividedSoFar wanted c cs from before taken left cs
  divided_first wanted c cs from before taken left is one =
      let none : IsDividedSoFar wanted c cs from [] taken left cs = record {
        here = c;
        start = from;
        divides = one;
        whole = λ last right joined rest same. subst (Divides wanted c cs from last) (sym same) rest;
        same = refl;
        have = tt;
      } in
      subst (λ (xs : List (Kept V)). IsDividedSoFar wanted c cs from xs taken left cs) (sym is) none

  divided_more : (wanted : Bool) (c : Cond) (cs : List Cond) (from : Kept V) (before : List (Kept V)) (taken left : Kept V) (d : Cond) (ds : List Cond) (next off : Kept V)
      → IsDividedSoFar wanted c cs from before taken left (d ∷ ds) → Divides wanted d [] taken next off → IsDividedSoFar wanted c cs from (before ++ left ∷ []) next off ds
  divided_more wanted c cs from before taken left d ds next off so_far one = record {
    here = d;
    start = taken;
    divides = one;
    whole = λ last right joined rest back.
        let (j, join, more) = back_less m before left right joined back in
        so_far.whole last j joined (divides_more wanted so_far.here d ds so_far.start taken left last right j so_far.divides rest join) more;
    same = taken_dims wanted so_far.here [] so_far.start taken left so_far.divides ∙ so_far.same;
    have = have_more m (m.dims from.value) before left so_far.have (left_dims wanted so_far.here [] so_far.start taken left so_far.divides ∙ so_far.same);
  }

  -- by places of the code's operands
  pub divided_on : (wanted : Bool) (c : Cond) (xs : List declared_cond.Cond) (i : ℕ) (x : declared_cond.Cond) (from : Kept V) (before after : List (Kept V)) (taken left next off : Kept V)
      → i < length xs → x ≡ get_or xs i x → after ≡ before ++ left ∷ [] → IsDividedSoFar wanted c (map cond_view xs) from before taken left (map cond_view (drop i xs))
      → Divides wanted (cond_view x) [] taken next off → IsDividedSoFar wanted c (map cond_view xs) from after next off (map cond_view (drop (i + 1) xs))
  divided_on wanted c xs i x from before after taken left next off h is more so_far one =
      let there : drop i xs ≡ x ∷ drop (i + 1) xs = drop_more xs i x h ∙ ap (λ (y : declared_cond.Cond). y ∷ drop (i + 1) xs) (sym is) in
      let step = divided_more wanted c (map cond_view xs) from before taken left (cond_view x) (map cond_view (drop (i + 1) xs)) next off
      (subst (λ (ys : List declared_cond.Cond). IsDividedSoFar wanted c (map cond_view xs) from before taken left (map cond_view ys)) there so_far) one in
      subst (λ (ks : List (Kept V)). IsDividedSoFar wanted c (map cond_view xs) from ks next off (map cond_view (drop (i + 1) xs))) (sym more) step

  divided_all : (wanted : Bool) (c : Cond) (xs : List declared_cond.Cond) (i : ℕ) (from : Kept V) (before : List (Kept V)) (taken left joined : Kept V)
      → length xs ≤ i → IsDividedSoFar wanted c (map cond_view xs) from before taken left (map cond_view (drop i xs))
      → AreJoinedBack m before left joined → Divides wanted c (map cond_view xs) from taken joined
  divided_all wanted c xs i from before taken left joined h so_far back =
      let end = subst (λ (ys : List declared_cond.Cond). IsDividedSoFar wanted c (map cond_view xs) from before taken left (map cond_view ys)) (drop_all i xs h) so_far in
      end.whole taken left joined end.divides back

  -- which is what a chain leaves
  pub all_divided : {E : Type 0} (R : handed.Result (ConditionSplit V) E) (c : Cond) (xs : List declared_cond.Cond) (i : ℕ) (from : Kept V) (before : List (Kept V)) (sides : ConditionSplit V)
      → length xs ≤ i → IsDividedSoFar true c (map cond_view xs) from before sides.on sides.off (map cond_view (drop i xs)) → IfOk R (λ s. s.on ≡ sides.on)
      → IfOk R (λ s. AreJoinedBack m before sides.off s.off) → IfOk R (λ s. SplitsBy m base true (all_of c (map cond_view xs)) from s)
  all_divided (handed.Ok s) c xs i from before sides h so_far same back =
      subst (λ (k : Kept V). SplitsBy m base true (all_of c (map cond_view xs)) from (record { on = k; off = s.off })) (sym same)
      (divided_all true c xs i from before sides.on sides.off s.off h so_far back)
  all_divided (handed.Err e) c xs i from before sides h so_far same back = tt

  pub any_divided : {E : Type 0} (R : handed.Result (ConditionSplit V) E) (c : Cond) (xs : List declared_cond.Cond) (i : ℕ) (from : Kept V) (before : List (Kept V)) (sides : ConditionSplit V)
      → length xs ≤ i → IsDividedSoFar false c (map cond_view xs) from before sides.off sides.on (map cond_view (drop i xs)) → IfOk R (λ s. AreJoinedBack m before sides.on s.on)
      → IfOk R (λ s. s.off ≡ sides.off) → IfOk R (λ s. SplitsBy m base true (any_of c (map cond_view xs)) from s)
  any_divided (handed.Ok s) c xs i from before sides h so_far back same =
      subst (λ (k : Kept V). SplitsBy m base true (any_of c (map cond_view xs)) from (record { on = s.on; off = k })) (sym same)
      (divided_all false c xs i from before sides.off sides.on s.on h so_far back)
  any_divided (handed.Err e) c xs i from before sides h so_far back same = tt

  pub taken_have : (wanted : Bool) (c : Cond) (cs : List Cond) (from : Kept V) (before : List (Kept V)) (taken left : Kept V) (ds : List Cond)
      → IsDividedSoFar wanted c cs from before taken left ds → m.dims taken.value ≡ m.dims from.value
  taken_have wanted c cs from before taken left ds so_far = taken_dims wanted so_far.here [] so_far.start taken left so_far.divides ∙ so_far.same

  -- one side --------------------------------------------------------------------------------------------------------------

  -- one more after the others
  turn_more : (live : ℕ) (wanted : Bool) (c : Cond) (cs : List Cond) (d : Cond) (v : V) (e : Exactness) (x : V) (a : Exactness) (w : V) (b : Exactness)
      → Takes (lossy_operations m) (in_turn_of live base wanted c cs) v e x a → Takes (lossy_operations m) (guard live base wanted d) x a w b
      → Takes (lossy_operations m) (in_turn_of live base wanted c (cs ++ d ∷ [])) v e w b
  turn_more live wanted c [] d v e x a w b one two =
      (then_takes (lossy_operations m) v e w b (guard live base wanted c) (guard live base wanted d)).0 (x, a, one, two)
  turn_more live wanted c (k ∷ ks) d v e x a w b all two =
      let (y, s, one, rest) = (then_takes (lossy_operations m) v e x a (guard live base wanted c) (in_turn_of live base wanted k ks)).1 all in
      (then_takes (lossy_operations m) v e w b (guard live base wanted c) (in_turn_of live base wanted k (ks ++ d ∷ []))).0 (y, s, one, turn_more live wanted k ks d y s x a w b rest two)

  -- so many of the operands leave this of the value
  pub record IsInTurnSoFar (wanted : Bool) (c : Cond) (cs : List Cond) (v : V) (e : Exactness) (w : V) (a : Exactness) : Type 0 where
    pub takes : Takes (lossy_operations m) (in_turn_of (m.dims v) base wanted c cs) v e w a
    pub same : m.dims w ≡ m.dims v

  pub turned_on : (wanted : Bool) (c : Cond) (xs : List declared_cond.Cond) (i : ℕ) (x : declared_cond.Cond) (v : V) (e : Exactness) (y : V) (a : Exactness) (w : V) (b : Exactness)
      → i < length xs → x ≡ get_or xs i x → IsInTurnSoFar wanted c (map cond_view (take i xs)) v e y a → Takes (lossy_operations m) (guard (m.dims y) base wanted (cond_view x)) y a w b
      → m.dims w ≡ m.dims y → IsInTurnSoFar wanted c (map cond_view (take (i + 1) xs)) v e w b
  turned_on wanted c xs i x v e y a w b h is so_far one same =
      let here : map cond_view (take (i + 1) xs) ≡ map cond_view (take i xs) ++ cond_view x ∷ [] =
      map_more cond_view xs i x h ∙ ap (λ (d : declared_cond.Cond). map cond_view (take i xs) ++ cond_view d ∷ []) (sym is) in
      let last = subst (λ (n : ℕ). Takes (lossy_operations m) (guard n base wanted (cond_view x)) y a w b) so_far.same one in
      record {
        takes = subst (λ (ds : List Cond). Takes (lossy_operations m) (in_turn_of (m.dims v) base wanted c ds) v e w b) (sym here)
            (turn_more (m.dims v) wanted c (map cond_view (take i xs)) (cond_view x) v e y a w b so_far.takes last);
        same = same ∙ so_far.same;
      }

  pub turned_all : (wanted : Bool) (c : Cond) (xs : List declared_cond.Cond) (i : ℕ) (v : V) (e : Exactness) (w : V) (a : Exactness) → length xs ≤ i
      → IsInTurnSoFar wanted c (map cond_view (take i xs)) v e w a → Takes (lossy_operations m) (in_turn_of (m.dims v) base wanted c (map cond_view xs)) v e w a
  turned_all wanted c xs i v e w a h so_far =
      subst (λ (ys : List declared_cond.Cond). Takes (lossy_operations m) (in_turn_of (m.dims v) base wanted c (map cond_view ys)) v e w a) (take_all i xs h) so_far.takes

  pub either_first : (wanted : Bool) (c : Cond) (cs : List Cond) (from : Kept V) (lefts : List (Kept V)) → lefts ≡ [] → IsEitherSoFar m base wanted c cs from lefts from c cs
  either_first wanted c cs from lefts is =
      let none : IsEitherSoFar m base wanted c cs from [] from c cs = record {
        whole = λ right joined all same.
            subst (λ (r : Kept V). TakesTo m (either_of (m.dims from.value) base wanted c cs) from r) (sym same) all;
        have = tt;
        same = refl;
      } in
      subst (λ (ks : List (Kept V)). IsEitherSoFar m base wanted c cs from ks from c cs) (sym is) none

  either_more : (wanted : Bool) (c : Cond) (cs : List Cond) (from : Kept V) (lefts : List (Kept V)) (off : Kept V) (d next : Cond) (ds : List Cond) (s : ConditionSplit V)
      → IsEitherSoFar m base wanted c cs from lefts off d (next ∷ ds) → SplitsBy m base wanted d off s
      → IsEitherSoFar m base wanted c cs from (lefts ++ s.on ∷ []) s.off next ds
  either_more wanted c cs from lefts off d next ds s so_far split = record {
    whole = λ right joined rest back.
        let (j, join, more) = back_less m lefts s.on right joined back in so_far.whole j joined
        (either_step m base wanted d (either_of (m.dims off.value) base wanted next ds) off s.on s.off right j (m.dims off.value) split.on split.off
        (subst (λ (k : ℕ). TakesTo m (either_of k base wanted next ds) s.off right) split.off_dims rest) join) more;
    have = have_more m (m.dims from.value) lefts s.on so_far.have (split.on_dims ∙ so_far.same);
    same = split.off_dims ∙ so_far.same;
  }

  -- by places of the code's operands
  pub either_on : (wanted : Bool) (c : Cond) (cs : List Cond) (from : Kept V) (lefts after : List (Kept V)) (off : Kept V) (d : Cond) (xs : List declared_cond.Cond) (i : ℕ) (x : declared_cond.Cond)
      (s : ConditionSplit V) → i < length xs → x ≡ get_or xs i x → after ≡ lefts ++ s.on ∷ [] → IsEitherSoFar m base wanted c cs from lefts off d (map cond_view (drop i xs))
      → SplitsBy m base wanted d off s → IsEitherSoFar m base wanted c cs from after s.off (cond_view x) (map cond_view (drop (i + 1) xs))
  either_on wanted c cs from lefts after off d xs i x s h is more so_far split =
      let there : drop i xs ≡ x ∷ drop (i + 1) xs = drop_more xs i x h ∙ ap (λ (y : declared_cond.Cond). y ∷ drop (i + 1) xs) (sym is) in
      let step = either_more wanted c cs from lefts off d (cond_view x) (map cond_view (drop (i + 1) xs)) s
      (subst (λ (ys : List declared_cond.Cond). IsEitherSoFar m base wanted c cs from lefts off d (map cond_view ys)) there so_far) split in
      subst (λ (ks : List (Kept V)). IsEitherSoFar m base wanted c cs from ks s.off (cond_view x) (map cond_view (drop (i + 1) xs))) (sym more) step

  pub either_end : (wanted : Bool) (c : Cond) (cs : List Cond) (from : Kept V) (lefts : List (Kept V)) (off : Kept V) (d : Cond) (xs : List declared_cond.Cond) (i : ℕ) → length xs ≤ i
      → IsEitherSoFar m base wanted c cs from lefts off d (map cond_view (drop i xs)) → IsEitherSoFar m base wanted c cs from lefts off d []
  either_end wanted c cs from lefts off d xs i h so_far =
      subst (λ (ys : List declared_cond.Cond). IsEitherSoFar m base wanted c cs from lefts off d (map cond_view ys)) (drop_all i xs h) so_far

  -- with what the last operand leaves
  pub either_all : {E : Type 0} (R : handed.Result Exactness E) (wanted : Bool) (c : Cond) (cs : List Cond) (from start : Kept V) (lefts : List (Kept V)) (off : Kept V) (d : Cond) (right : Kept V)
      (w : V) → start ≡ from → IsEitherSoFar m base wanted c cs start lefts off d []
      → Takes (lossy_operations m) (guard (m.dims off.value) base wanted d) off.value off.exactness right.value right.exactness
      → IfOk R (λ e. AreJoinedBack m lefts right (record { value = w; exactness = e }))
      → IfOk R (λ e. Takes (lossy_operations m) (either_of (m.dims from.value) base wanted c cs) from.value from.exactness w e)
  either_all R wanted c cs from start lefts off d right w is so_far last joined =
      let there = subst (λ (k : Kept V). IsEitherSoFar m base wanted c cs k lefts off d []) is so_far in
      IfOk-weaker R (λ e. AreJoinedBack m lefts right (record { value = w; exactness = e }))
      (λ e. Takes (lossy_operations m) (either_of (m.dims from.value) base wanted c cs) from.value from.exactness w e)
      (λ e back. there.whole right (record { value = w; exactness = e }) last back) joined

-- each operand is smaller than the chain ------------------------------------------------------------------------------------

pub at_next : (c : declared_cond.Cond) (cs : List declared_cond.Cond) (i : ℕ) (x : declared_cond.Cond) → x ≡ get_or cs i x → x ≡ get_or (c ∷ cs) (i + 1) x
at_next c cs i x is = let one : suc i ≡ i + 1 = omega arith in subst (λ (n : ℕ). x ≡ get_or (c ∷ cs) n x) one is

pub size_among : (c : declared_cond.Cond) (cs : List declared_cond.Cond) (i : ℕ) (x : declared_cond.Cond) → i ≤ length cs → x ≡ get_or (c ∷ cs) i x → cond_size x < chain_size c cs
size_among c cs zero x h is = let same = ap cond_size is in omega (arith, same)
size_among c cs (suc i) x h is = size_in c cs i x h is
