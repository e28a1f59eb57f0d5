-- Each definition of sets of parts allows one thing, if those of their parts do.
use Rattle.std.proofs.Common.{◌≡◌, ◌∙◌, ℕ, zero, suc, List, [], ◌∷◌, ◌++◌, length, inl, inr, refl, sym, ap, subst}
use Rattle.std.proofs.Common.{arith}
use Rattle.lra_powerset.specs.Crates.{lra_linear_spec.declared.ConKind.ConKind, lra_systems.LinearSystems.LinearSystem}
use Rattle.lra_domain.specs.Laws.{BaseLaws, SingleLaws}
use Rattle.lra_domain.specs.declared.Mode.TheVariants.{Join, Widen, Limited, Tightest}
use Rattle.lra_domain.specs.{Abstraction.Abstraction, Actions.Action, declared.Mode.Mode}
use Rattle.lra_powerset.specs.Content.{HeadForm, SetHead, SetContent, nonempty_parts, many, one, whole}
use Rattle.lra_powerset.specs.Heads.{FormGrown, FormStarts, FormValued, GrowsBy, HeadGrown, HeadStarts, HeadValued}
use Rattle.lra_powerset.specs.Heads.{JoinsWith, Widens}
use Rattle.lra_powerset.specs.Joins.{JoinsOn, LastTwoJoin, Merges, CollapsesTo}
use Rattle.lra_powerset.specs.Values.{SetTransferred, SetJoined, SetTop}
use Rattle.lra_powerset.specs.{Abstraction.set_abstraction, Lists.PartByPart, Reduction.ReducesAfter}

-- lists -------------------------------------------------------------------------------------------

none_behind : {V : Type 0} (xs : List V) (x : V) → ¬ (xs ++ x ∷ [] ≡ [])
none_behind [] x e = cc
none_behind (y ∷ xs) x e = cc

head_same : {V : Type 0} (x y : V) (xs ys : List V) → x ∷ xs ≡ y ∷ ys → (x ≡ y) × (xs ≡ ys)
head_same x y xs ys e = (cc, cc)

pub same_ends : {V : Type 0} (xs ys : List V) (x y : V) → xs ++ x ∷ [] ≡ ys ++ y ∷ [] → (xs ≡ ys) × (x ≡ y)
same_ends [] [] x y e = (refl, (head_same x y [] [] e).0)
same_ends [] (b ∷ ys) x y e = absurd (none_behind ys y (sym (head_same x b [] (ys ++ y ∷ []) e).1))
same_ends (a ∷ xs) [] x y e = absurd (none_behind xs x (head_same a y (xs ++ x ∷ []) [] e).1)
same_ends {V} (a ∷ xs) (b ∷ ys) x y e =
    let parts = head_same a b (xs ++ x ∷ []) (ys ++ y ∷ []) e in
    let rest = same_ends xs ys x y parts.1 in
    (ap (λ (z : V). z ∷ xs) parts.0 ∙ ap (λ (zs : List V). b ∷ zs) rest.0, rest.1)

one_changed : {V : Type 0} (R : V → V → Type 0) → ((p v w : V) → R p v → R p w → v ≡ w) → (ps vs ws : List V)
    → PartByPart R ps vs → PartByPart R ps ws → vs ≡ ws
one_changed R single [] [] [] f g = refl
one_changed R single [] (v ∷ vs) ws f g = absurd f
one_changed R single [] [] (w ∷ ws) f g = absurd g
one_changed R single (p ∷ ps) [] ws f g = absurd f
one_changed R single (p ∷ ps) (v ∷ vs) [] f g = absurd g
one_changed R single (p ∷ ps) (v ∷ vs) (w ∷ ws) f g =
    let first = single p v w f.0 g.0 in
    let rest = one_changed R single ps vs ws f.1 g.1 in rw (first, rest) refl

-- reductions and joins ----------------------------------------------------------------------------

pub leaves_same : {V H : Type 0} (m : Abstraction V H) (before ps xs ys : List V) → ReducesAfter m before ps xs
    → ReducesAfter m before ps ys → xs ≡ ys
leaves_same m before [] xs ys a b = a ∙ sym b
leaves_same m before (p ∷ ps) xs ys (inl a) (inl b) = leaves_same m (before ++ p ∷ []) ps xs ys a.1 b.1
leaves_same m before (p ∷ ps) xs ys (inl a) (inr (s, stays, d, more)) = absurd (stays a.0)
leaves_same m before (p ∷ ps) xs ys (inr (r, stays, e, rest)) (inl b) = absurd (stays b.0)
leaves_same {V} m before (p ∷ ps) xs ys (inr (r, stays, e, rest)) (inr (s, stays_too, d, more)) =
    e ∙ ap (λ (zs : List V). p ∷ zs) (leaves_same m (before ++ p ∷ []) ps r s rest more) ∙ sym d

one_joined_on : {V H : Type 0} (m : Abstraction V H) → SingleLaws m → (a : V) (ps : List V) (j k : V) → JoinsOn m a ps j
    → JoinsOn m a ps k
    → j ≡ k
one_joined_on m l a [] j k f g = f ∙ sym g
one_joined_on {V} m l a (p ∷ ps) j k f g = one_joined_on m l f.0 ps j k f.2
    (subst (λ (b : V). JoinsOn m b ps k) (l.one_joined a p g.0 f.0 g.1 f.1) g.2)

one_merged : {V H : Type 0} (m : Abstraction V H) → SingleLaws m → (ps : List V) (j k : V) → Merges m ps j →
    Merges m ps k
    → j ≡ k
one_merged m l [] j k f g = absurd f
one_merged m l (p ∷ ps) j k f g = one_joined_on m l p ps j k f g

-- the last two have one join
pub join_same : {V H : Type 0} (m : Abstraction V H)
    → ((a b v w : V) → m.joined a b v → m.joined a b w → v ≡ w) → (ps xs ys : List V) → LastTwoJoin m ps xs
    → LastTwoJoin m ps ys → xs ≡ ys
join_same {V} m single ps xs ys a b =
    let outer = same_ends (a.front ++ a.one ∷ []) (b.front ++ b.one ∷ []) a.two b.two (sym a.old ∙ b.old) in
    let inner = same_ends a.front b.front a.one b.one outer.0 in
    let joined : m.joined a.one a.two b.both = subst (λ (x : V). m.joined x a.two b.both) (sym inner.1)
    (subst (λ (y : V). m.joined b.one y b.both) (sym outer.1) b.joined) in
    let both : a.both ≡ b.both = single a.one a.two a.both b.both a.joined joined in
    a.new ∙ ap (λ (zs : List V). zs ++ a.both ∷ []) inner.0 ∙ ap (λ (z : V). b.front ++ z ∷ []) both ∙ sym b.new

-- after however many joins
one_settled : {V H : Type 0} (m : Abstraction V H) → SingleLaws m → (cap i j : ℕ) (ps vs ws : List V)
    → CollapsesTo m cap i ps vs
    → CollapsesTo m cap j ps ws → vs ≡ ws
one_settled m l cap zero zero ps vs ws f g = leaves_same m [] ps vs ws f.0 g.0
one_settled m l cap zero (suc j) ps vs ws f g =
    let same = ap length (leaves_same m [] ps vs g.0 f.0 g.2) in
    let few = f.1 in
    let more = g.3 in
    let wrong : ⊥ = omega (arith, same, few, more) in absurd wrong
one_settled m l cap (suc i) zero ps vs ws f g =
    let same = ap length (leaves_same m [] ps ws f.0 g.0 f.2) in
    let few = g.1 in
    let more = f.3 in
    let wrong : ⊥ = omega (arith, same, few, more) in absurd wrong
one_settled {V} m l cap (suc i) (suc j) ps vs ws f g =
    let reduced = leaves_same m [] ps g.0 f.0 g.2 f.2 in
    let next = join_same m l.one_joined f.0 g.1 f.1 (subst (λ (xs : List V). LastTwoJoin m xs g.1) reduced g.4) f.4 in
    one_settled m l cap i j f.1 vs ws f.5 (subst (λ (xs : List V). CollapsesTo m cap j xs ws) next g.5)

-- heads -------------------------------------------------------------------------------------------

one_form_started : {V H : Type 0} (m : Abstraction V H) → SingleLaws m
    → (given : LinearSystem ConKind) (ps : List V) (f g : HeadForm V H)
    → FormStarts m given ps f → FormStarts m given ps g → f ≡ g
one_form_started m l given [] f g a b = a ∙ sym b
one_form_started m l given (p ∷ []) f g a b = a.2 ∙ ap one (l.one_started p given a.0 b.0 a.1 b.1) ∙ sym b.2
one_form_started m l given (p ∷ q ∷ ps) f g a b = a ∙ sym b

one_form_valued : {V H : Type 0} (m : Abstraction V H) → SingleLaws m → (f : HeadForm V H) (vs ws : List V)
    → FormValued m f vs → FormValued m f ws
    → vs ≡ ws
one_form_valued m l (many ps) vs ws a b = a ∙ sym b
one_form_valued {V} m l (one h) vs ws a b =
    a.2 ∙ ap (λ (p : V). nonempty_parts m (p ∷ [])) (l.one_valued h a.0 b.0 a.1 b.1) ∙ sym b.2
one_form_valued m l (whole p) vs ws a b = a ∙ sym b

one_grown_by : {V H : Type 0} (m : Abstraction V H) → SingleLaws m → (g : H) (k : V) (mode : Mode) (h i : H)
    → GrowsBy m g k mode h
    → GrowsBy m g k mode i → h ≡ i
one_grown_by m l g k mode h i (inl a) (inl b) = a.1 ∙ sym b.1
one_grown_by m l g k mode h i (inl a) (inr b) = absurd (b.0 a.0)
one_grown_by m l g k mode h i (inr a) (inl b) = absurd (a.0 b.0)
one_grown_by m l g k mode h i (inr a) (inr b) = l.one_grown g k mode h i a.1 b.1

one_widened : {V H : Type 0} (m : Abstraction V H) → SingleLaws m
    → (given : LinearSystem ConKind) (old : HeadForm V H) (qs : List V) (mode : Mode)
    (f g : HeadForm V H) → Widens m given old qs mode f → Widens m given old qs mode g → f ≡ g
one_widened {V} m l given (many []) qs mode f g a b =
    let merged = one_merged m l qs b.0 a.0 b.2 a.2 in
    let started = l.one_started a.0 given a.1 b.1 a.3 (subst (λ (k : V). m.started k given b.1) merged b.3) in
    a.4 ∙ ap one started ∙ sym b.4
one_widened {V} {H} m l given (many (p ∷ ps)) qs mode f g a b =
    let joined = one_joined_on m l p ps b.0 a.0 b.4 a.4 in
    let started = l.one_started a.0 given b.2 a.2 (subst (λ (j : V). m.started j given b.2) joined b.5) a.5 in
    let merged = one_merged m l qs b.1 a.1 b.6 a.6 in
    let grows = subst (λ (k : V). GrowsBy m a.2 k mode b.3) merged
    (subst (λ (h : H). GrowsBy m h b.1 mode b.3) started b.7) in
    a.8 ∙ ap one (one_grown_by m l a.2 a.1 mode a.3 b.3 a.7 grows) ∙ sym b.8
one_widened {V} m l given (one h) qs mode f g a b =
    let merged = one_merged m l qs b.0 a.0 b.2 a.2 in
    let grown = l.one_grown h a.0 mode a.1 b.1 a.3 (subst (λ (k : V). m.grown h k mode b.1) merged b.3) in
    a.4 ∙ ap one grown ∙ sym b.4
one_widened m l given (whole p) qs mode f g a b = a ∙ sym b

one_joined_with : {V H : Type 0} (m : Abstraction V H) → SingleLaws m
    → (cap : ℕ) (given : LinearSystem ConKind) (old : HeadForm V H) (qs : List V)
    (f g : HeadForm V H) → JoinsWith m cap given old qs f → JoinsWith m cap given old qs g → f ≡ g
one_joined_with {V} m l cap given old qs f g a b =
    let valued = one_form_valued m l old b.0 a.0 b.3 a.3 in
    let settled = one_settled m l cap b.2 a.2 (a.0 ++ qs) b.1 a.1
    (subst (λ (ps : List V). CollapsesTo m cap b.2 (ps ++ qs) b.1) valued b.4) a.4 in
    one_form_started m l given a.1 f g a.5 (subst (λ (rs : List V). FormStarts m given rs g) settled b.5)

one_form_grown : {V H : Type 0} (m : Abstraction V H) → SingleLaws m
    → (old : SetHead V H) (qs : List V) (mode : Mode) (f g : HeadForm V H)
    → FormGrown m old qs mode f → FormGrown m old qs mode g → f ≡ g
one_form_grown m l old qs Join f g a b = one_joined_with m l old.cap old.thresholds old.form qs f g a b
one_form_grown m l old qs Widen f g a b = one_widened m l old.thresholds old.form qs Widen f g a b
one_form_grown m l old qs Limited f g a b = one_widened m l old.thresholds old.form qs Limited f g a b
one_form_grown m l old qs Tightest f g a b = one_widened m l old.thresholds old.form qs Tightest f g a b

-- sets --------------------------------------------------------------------------------------------

same_set : {V : Type 0} (v w : SetContent V) → v.dims ≡ w.dims → v.cap ≡ w.cap → v.parts ≡ w.parts → v ≡ w
same_set v w e f g = rw (e, f, g) refl

same_head : {V H : Type 0} (h i : SetHead V H) → h.dims ≡ i.dims → h.cap ≡ i.cap → h.thresholds ≡ i.thresholds →
    h.form ≡ i.form
    → h ≡ i
same_head h i e f g k = rw (e, f, g, k) refl

one_set_universal : {V H : Type 0} (m : Abstraction V H) → BaseLaws m → (n cap : ℕ) (v w : SetContent V)
    → SetTop m n cap v
    → SetTop m n cap w → v ≡ w
one_set_universal {V} m pl n cap v w a b = same_set v w (a.dims ∙ sym b.dims) (a.cap_is ∙ sym b.cap_is)
    (a.alone ∙ ap (λ (p : V). p ∷ []) (pl.one_top n a.whole.0 b.whole.0 a.part b.part a.whole.1 b.whole.1)
    ∙ sym b.alone)

one_set_done : {V H : Type 0} (m : Abstraction V H) → SingleLaws m → (step : Action) (old v w : SetContent V)
    → SetTransferred m step old v
    → SetTransferred m step old w → v ≡ w
one_set_done {V} m l step old v w a b =
    let changed = one_changed (m.transferred step) (λ p x y c d. l.one_transferred step p x y c d) old.parts b.changed
    a.changed
    b.done a.done in
    same_set v w (a.dims ∙ sym b.dims) (a.cap ∙ sym b.cap)
    (one_settled m l old.cap a.joins b.joins (nonempty_parts m a.changed) v.parts w.parts a.settled
    (subst (λ (ps : List V). CollapsesTo m old.cap b.joins (nonempty_parts m ps) w.parts) changed b.settled))

one_set_joined : {V H : Type 0} (m : Abstraction V H) → SingleLaws m → (p q v w : SetContent V) → SetJoined m p q v
    → SetJoined m p q w → v ≡ w
one_set_joined m l p q v w a b = same_set v w (a.dims ∙ sym b.dims) (a.cap ∙ sym b.cap)
    (one_settled m l p.cap a.joins b.joins (p.parts ++ q.parts) v.parts w.parts a.settled b.settled)

one_set_started : {V H : Type 0} (m : Abstraction V H) → SingleLaws m
    → (v : SetContent V) (given : LinearSystem ConKind) (g h : SetHead V H)
    → HeadStarts m v given g → HeadStarts m v given h → g ≡ h
one_set_started m l v given g h a b = same_head g h (a.dims ∙ sym b.dims) (a.cap ∙ sym b.cap) (a.rows ∙ sym b.rows)
    (one_form_started m l given v.parts g.form h.form a.form b.form)

one_set_grown : {V H : Type 0} (m : Abstraction V H) → SingleLaws m
    → (old : SetHead V H) (next : SetContent V) (mode : Mode) (g h : SetHead V H)
    → HeadGrown m old next mode g → HeadGrown m old next mode h → g ≡ h
one_set_grown m l old next mode g h a b = same_head g h (a.dims ∙ sym b.dims) (a.cap ∙ sym b.cap) (a.rows ∙ sym b.rows)
    (one_form_grown m l old next.parts mode g.form h.form a.form b.form)

one_set_valued : {V H : Type 0} (m : Abstraction V H) → SingleLaws m → (h : SetHead V H) (v w : SetContent V) →
    HeadValued m h v
    → HeadValued m h w
    → v ≡ w
one_set_valued m l h v w a b = same_set v w (a.dims ∙ sym b.dims) (a.cap ∙ sym b.cap)
    (one_form_valued m l h.form v.parts w.parts a.form b.form)

pub set_single : {V H : Type 0} (m : Abstraction V H) → SingleLaws m → BaseLaws m → SingleLaws (set_abstraction m)
set_single m l pl = record {
  one_top = one_set_universal m pl;
  one_bottom = λ n cap v w e f. e ∙ sym f;
  one_transferred = one_set_done m l;
  one_joined = one_set_joined m l;
  one_started = one_set_started m l;
  one_grown = one_set_grown m l;
  one_valued = one_set_valued m l;
}
