-- Four numbers, compared from the left.
use Rattle.std.specs.Prelude.{◌≡◌, ◌<◌, ◌^◌, ◌⊎◌}
use Rattle.lra_domain.specs.declared.Rank.{Rank}

-- a is below b
abbrev pub RankBelow : Rank → Rank → Type 0
RankBelow a b =
    (a.first < b.first)
    ⊎ ((a.first ≡ b.first) × (a.second < b.second))
    ⊎ ((a.first ≡ b.first) × (a.second ≡ b.second) × (a.third < b.third))
    ⊎ ((a.first ≡ b.first) × (a.second ≡ b.second) × (a.third ≡ b.third) × (a.fourth < b.fourth))

-- each number is far below 2^64, so that two ranks can be added
pub record RankFits (a : Rank) : Type 0 where
  pub fits_first : a.first < 2 ^ 62
  pub fits_second : a.second < 2 ^ 62
  pub fits_third : a.third < 2 ^ 62
  pub fits_fourth : a.fourth < 2 ^ 62
