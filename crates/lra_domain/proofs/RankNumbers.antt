-- A rank as one number, so that a falling rank is a measure.
use Rattle.std.proofs.{Common.◌≡◌, Common.ℕ, Common.◌+◌, Common.◌*◌, Common.◌<◌, Common.◌^◌, Common.inl, Common.inr, Common.arith, lemmas.Nat.mul-add-lt}
use Rattle.lra_domain.specs.{Rank.RankBelow, Rank.RankFits, declared.Rank.Rank}

-- four digits of base b
abbrev pub digits : ℕ → Rank → ℕ
digits b r = ((r.first * b + r.second) * b + r.third) * b + r.fourth

-- a smaller head beats any last digit
step_head : (b h h' l l' : ℕ) → l' < b → h' < h → h' * b + l' < h * b + l
step_head b h h' l l' fits below =
    let p : h' * b + l' < b * h = mul-add-lt h' b l' h below fits in
    omega arith

pub digits_below : (b : ℕ) (r s : Rank) → r.second < b → r.third < b → r.fourth < b → RankBelow r s → digits b r < digits b s
digits_below b r s f2 f3 f4 (inl p) =
    step_head b _ _ _ _ f4 (step_head b _ _ _ _ f3 (step_head b _ _ _ _ f2 p))
digits_below b r s f2 f3 f4 (inr (inl p)) =
    let head : r.first * b + r.second < s.first * b + s.second = rw p.0 (omega arith) in
    step_head b _ _ _ _ f4 (step_head b _ _ _ _ f3 head)
digits_below b r s f2 f3 f4 (inr (inr (inl p))) =
    let head : (r.first * b + r.second) * b + r.third < (s.first * b + s.second) * b + s.third = rw (p.0, p.1) (omega arith) in
    step_head b _ _ _ _ f4 head
digits_below b r s f2 f3 f4 (inr (inr (inr p))) = rw (p.0, p.1, p.2) (omega arith)

digits_fit : (b : ℕ) (r : Rank) → r.first < b → r.second < b → r.third < b → r.fourth < b → digits b r < b * (b * (b * b))
digits_fit b r f1 f2 f3 f4 =
    mul-add-lt _ b _ _ (mul-add-lt _ b _ _ (mul-add-lt _ b _ _ f1 f2) f3) f4

-- how many rounds of joining are left, and the rank after them
abbrev pub phased : ℕ → ℕ → Rank → ℕ
phased b left r = left * (b * (b * (b * b))) + digits b r

fits_below : (n : ℕ) → n < 2 ^ 62 → n < 2 ^ 64
fits_below n h = omega arith

-- a round of joining less
pub phased_joins : (left left' : ℕ) (r r' : Rank) → RankFits r' → left' < left → phased (2 ^ 64) left' r' < phased (2 ^ 64) left r
phased_joins left left' r r' f h =
    step_head _ left left' _ _ (digits_fit (2 ^ 64) r' (fits_below _ f.fits_first) (fits_below _ f.fits_second) (fits_below _ f.fits_third) (fits_below _ f.fits_fourth)) h

-- the rank fell
pub phased_falls : (left left' : ℕ) (r r' : Rank) → RankFits r' → left' ≡ left → RankBelow r' r → phased (2 ^ 64) left' r' < phased (2 ^ 64) left r
phased_falls left left' r r' f e h =
    let fell : digits (2 ^ 64) r' < digits (2 ^ 64) r = digits_below (2 ^ 64) r' r (fits_below _ f.fits_second) (fits_below _ f.fits_third) (fits_below _ f.fits_fourth) h in
    rw e (omega arith)
