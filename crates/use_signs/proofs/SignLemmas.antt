-- What the calls of signs must guarantee, and their ranks.
use Rattle.std.proofs.Common.{◌≡◌, ◌≤◌, ◌^◌, ℕ, ℤ, Bool, List, length, ◌↔◌}
use Rattle.std.specs.Prelude.{IsTrue}
use Rattle.guzhtarel.specs.EntryDomains.{EntriesContent, lies_in, of_entries}
use Rattle.guzhtarel.specs.{Domains.Abstraction.TransfersTo, Domains.Abstraction.Joins, Domains.Abstraction.Values, Domains.Actions.Action, Domains.Actions.ActionFits, Domains.Actions.Within}
use Rattle.guzhtarel.specs.{Domains.ExactDomains.abstraction_of, Domains.Exactness.TheVariants.Exact, Domains.Laws.PartsAreExact, Domains.Rank.RankFits}
use Rattle.guzhtarel.proofs.Calls.ExactCalls as calls
use Rattle.guzhtarel.proofs.EntryDomains as entries
use Rattle.use_signs.specs.{Laws.sign_facts, Laws.signs_facts, Signs.sign}

pub changed : (step : Action) (old new : EntriesContent Bool) → ActionFits step (length old.entries) → new ≡ (of_entries sign).transfer step old
    → TransfersTo (abstraction_of (of_entries sign)) step old Exact new
changed = calls.meets (of_entries sign) signs_facts

pub joined : (a b new : EntriesContent Bool) → length a.entries ≡ length b.entries → new ≡ (of_entries sign).joined a b → Joins (abstraction_of (of_entries sign)) a b Exact new
joined = calls.joins (of_entries sign) signs_facts

pub valued : (head new : EntriesContent Bool) → new ≡ head → Values (abstraction_of (of_entries sign)) head Exact new
valued = calls.valued (of_entries sign) signs_facts

pub whole : (n : ℕ) (v : EntriesContent Bool) → v ≡ (of_entries sign).top n → (s : List ℤ) → (of_entries sign).gamma v s ↔ (length s ≡ n)
whole = calls.whole_has (of_entries sign) signs_facts

pub covers : (a b : EntriesContent Bool) → IsTrue (lies_in sign a b) → Within ((of_entries sign).gamma a) ((of_entries sign).gamma b)
covers = signs_facts.leq_stores

pub rank_fits : (v : EntriesContent Bool) → length v.entries ≤ 2 ^ 30 → RankFits ((abstraction_of (of_entries sign)).rank v)
rank_fits = entries.rank_fits sign sign_facts

pub parts_tell : (v : EntriesContent Bool) → PartsAreExact (abstraction_of (of_entries sign)) v
parts_tell = entries.parts_tell sign sign_facts
